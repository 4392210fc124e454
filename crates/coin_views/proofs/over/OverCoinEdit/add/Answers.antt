use Rattle.std.specs.Prelude.{refl}
use Rattle.coin_views.proofs.over.OverCoinEdit.add.Goals as goal

pub invariant_of-self : goal.invariant_of-self
invariant_of-self g c = record { stands = c.add.ensures.stands (g.V.View.coins c.args.self.now.under.now) c.requires.free c.args.self.now.stands }

pub returns-clause-behind : goal.returns-clause-behind
returns-clause-behind g c keys named =
    let e = c.add.ensures in (refl, refl, refl, record { adds = e.entries keys named; salt = e.one.salt }, g.met.V.View.behind_none keys c.args.self.now.under.now)
