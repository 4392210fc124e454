use Rattle.std.specs.Prelude.{refl}
use Rattle.coin_views.proofs.block_view.BlockViewCoinEdit.spend.Goals as goal

pub returns-clause-behind : goal.returns-clause-behind
returns-clause-behind g c keys named = let e = c.spend.ensures in (refl, refl, e.parent, e.grows keys named, e.behind keys named)
