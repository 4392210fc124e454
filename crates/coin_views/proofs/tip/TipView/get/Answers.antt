use Rattle.std.specs.Prelude.{refl}
use Rattle.coin_views.proofs.tip.TipView.get.Goals as goal

pub returns-clause-behind : goal.returns-clause-behind
returns-clause-behind g c keys named =
    let e = c.get.ensures in (refl, refl, e.parent, e.stands, record { grows = record { adds = e.entries keys named; salt = e.one.salt }; changes = e.changes }, e.behind keys named)
