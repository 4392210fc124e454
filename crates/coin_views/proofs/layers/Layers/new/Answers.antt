use Rattle.std.proofs.Common.{◌∙◌, ap, sym, subst}
use Rattle.coin_cache.specs.Entries.{StandsOver, means}
use Rattle.coin_views.proofs.layers.Layers.new.Goals as goal

pub returns-clause-coins : goal.returns-clause-coins
returns-clause-coins c told =
    let tip = c.new.ensures.coins told in let block = c.new-2.ensures.coins told in
    (ap (means c.new-2.result) tip.0 ∙ block.0, record { over_parent = tip.1; over_tip = subst (StandsOver c.new-2.result) (sym tip.0) block.1 })
