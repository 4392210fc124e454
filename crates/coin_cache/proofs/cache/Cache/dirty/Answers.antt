use Rattle.std.proofs.Common.{length, sym, ap, ◌∙◌}
use Rattle.coin_cache.proofs.Views.{changes_are}
use Rattle.coin_cache.proofs.cache.Cache.dirty.Goals as goal

pub returns : goal.returns
returns c = c.self.invariant.changes ∙ ap length (sym (changes_are c.self.inside c.self.invariant c.args.self.now c.self.view_is))
