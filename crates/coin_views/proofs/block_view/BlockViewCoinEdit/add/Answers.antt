use Rattle.std.specs.Prelude.{refl}
use Rattle.coin_views.proofs.block_view.BlockViewCoinEdit.add.Goals as goal

pub invariant_of-self : goal.invariant_of-self
invariant_of-self g c = record { stands = c.add.ensures.over_tip (g.V.View.coins c.args.self.now.under.now) c.requires.free c.args.self.now.stands }

pub returns-clause-coins : goal.returns-clause-coins
returns-clause-coins g c = c.add.ensures.coins (g.V.View.coins c.args.self.now.under.now)

pub returns-clause-behind : goal.returns-clause-behind
returns-clause-behind g c keys named =
    let under = c.args.self.now.under.now in (refl, refl, refl, c.add.ensures.grows keys (g.V.View.coins under) named, g.met.V.View.behind_none keys under)
