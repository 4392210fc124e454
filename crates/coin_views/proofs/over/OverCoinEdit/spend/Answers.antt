use Rattle.std.specs.Prelude.{refl}
use Rattle.coin_views.proofs.over.OverCoinEdit.spend.Goals as goal

pub returns-clause-behind : goal.returns-clause-behind
returns-clause-behind g c keys named =
    let e = c.spend.ensures in (refl, refl, e.parent, record { adds = e.entries keys named; salt = e.one.salt }, e.behind keys named)
