use Rattle.std.specs.Prelude.{refl}
use Rattle.coin_cache.specs.Entries.{counts_over, means}
use Rattle.coin_views.proofs.Growth.{fetches_none}
use Rattle.coin_views.proofs.layers.Layers.add.Goals as goal

pub returns-clause-coins : goal.returns-clause-coins
returns-clause-coins c told = c.add.ensures.coins (means c.args.self.now.tip told)

pub returns-clause-over_tip : goal.returns-clause-over_tip
returns-clause-over_tip c told free stand = c.add.ensures.stands (means c.args.self.now.tip told) free stand

pub returns-clause-grows : goal.returns-clause-grows
returns-clause-grows c keys told named =
    record { tip = fetches_none keys c.args.self.now.tip; block = record { adds = c.add.ensures.entries keys named; salt = c.add.ensures.one.salt }; means = refl; stands = λ h. h }

pub returns-clause-cause : goal.returns-clause-cause
returns-clause-cause c counts = c.add.ensures.cause (counts_over c.args.self.now.tip counts)
