use Rattle.std.proofs.Common.{sym, ap, ◌∙◌}
use Rattle.std.specs.FinMap.{get}
use Rattle.coin_cache.specs.Entries.{entries_of}
use Rattle.coin_cache.proofs.Lookups.{entry_at, entry_none}
use Rattle.coin_cache.proofs.Views.{sound_is, not_found, is_found}
use Rattle.coin_cache.proofs.cache.Cache.find.Goals as goal

pub returns-clause-sound : goal.returns-clause-sound
returns-clause-sound c = sound_is c.self.inside c.self.invariant c.args.self.now c.self.view_is

pub returns-clause-none : goal.returns-clause-none
returns-clause-none c = λ e. let h = c.self.invariant in not_found c.self.inside h c.args.self.now c.self.view_is c.args.key.now (sym (c.find.ensures h.found h.index) ∙ e)

pub returns-clause-some : goal.returns-clause-some
returns-clause-some c =
    λ s e. let h = c.self.invariant in let x = is_found c.self.inside h c.args.self.now c.self.view_is c.args.key.now s (sym (c.find.ensures h.found h.index) ∙ e) in
    (x.0, x.1, x.2, ap (get (entries_of c.args.self.now)) (sym x.2) ∙ entry_at c.args.self.now (sound_is c.self.inside h c.args.self.now c.self.view_is) s x.0 x.1)

pub returns-clause-absent : goal.returns-clause-absent
returns-clause-absent c =
    λ e. let h = c.self.invariant in entry_none c.args.self.now c.args.key.now (not_found c.self.inside h c.args.self.now c.self.view_is c.args.key.now (sym (c.find.ensures h.found h.index) ∙ e))
