use Rattle.std.proofs.Common.{None, sym, ap, ◌∙◌}
use Rattle.slot_pool.specs.Slots.{first_or}
use Rattle.coin_cache.proofs.Views.{changes_are, sound_is}
use Rattle.coin_cache.proofs.cache.Cache.first_change.Goals as goal

pub returns-clause-first : goal.returns-clause-first
returns-clause-first c = c.first.ensures ∙ c.self.invariant.list.first ∙ ap (first_or None) (sym (changes_are c.self.inside c.self.invariant c.args.self.now c.self.view_is))

pub returns-clause-sound : goal.returns-clause-sound
returns-clause-sound c = sound_is c.self.inside c.self.invariant c.args.self.now c.self.view_is
