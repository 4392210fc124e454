use Rattle.std.proofs.Common.{sym, ap, ◌∙◌}
use Rattle.std.specs.FinMap.{len}
use Rattle.coin_cache.proofs.Views.{slots_are}
use Rattle.coin_cache.proofs.cache.Cache.entries.Goals as goal

pub returns : goal.returns
returns c = c.self.invariant.count ∙ sym (ap len (slots_are c.self.inside c.self.invariant c.args.self.now c.self.view_is))
