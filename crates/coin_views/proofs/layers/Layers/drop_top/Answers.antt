use Rattle.coin_cache.specs.Entries.{means}
use Rattle.coin_views.proofs.layers.Layers.drop_top.Goals as goal

pub returns-clause-coins : goal.returns-clause-coins
returns-clause-coins c told =
    let e = c.clear.ensures.coins (means c.args.self.now.tip told) in (e.0, λ stands. record { over_parent = stands; over_tip = e.1 })

pub returns-clause-over_tip : goal.returns-clause-over_tip
returns-clause-over_tip c told = (c.clear.ensures.coins (means c.args.self.now.tip told)).1
