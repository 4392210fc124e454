use Rattle.base_types.specs.Coins.{CoinFits}
use Rattle.chain_model.proofs.Fitting.{new_fits}
use Rattle.chain_model.proofs.plain.Plain.new.Goals as goal

pub invariant_of-result : goal.invariant_of-result
invariant_of-result c = new_fits CoinFits c.new.result c.new.ensures.empty
