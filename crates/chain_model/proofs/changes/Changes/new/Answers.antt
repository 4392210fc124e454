use Rattle.std.specs.Prelude.{IfSome}
use Rattle.base_types.specs.Coins.{CoinFits}
use Rattle.chain_model.proofs.Fitting.{new_fits}
use Rattle.chain_model.proofs.changes.Changes.new.Goals as goal

pub invariant_of-result : goal.invariant_of-result
invariant_of-result c = new_fits (λ change. IfSome change CoinFits) c.new.result c.new.ensures.empty
