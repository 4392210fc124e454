use Rattle.std.proofs.Common.{ap, ◌∙◌}
use Rattle.std.specs.FinMap.{remove}
use Rattle.base_types.specs.Keys.{outpoint_cmp}
use Rattle.base_types.proofs.KeyOrders.{outpoint_cmp_total, outpoint_cmp-IsAntisymmetric}
use Rattle.base_types.specs.Coins.{Coins, CoinFits}
use Rattle.chain_model.proofs.Entries.{taken_entry}
use Rattle.chain_model.proofs.Fitting.{take_fits}
use Rattle.chain_model.proofs.plain.Plain.take.Goals as goal

pub invariant_of-self : goal.invariant_of-self
invariant_of-self c = take_fits CoinFits c.self.inside.coins c.remove.new.self c.args.key.now c.remove.ensures.updates c.self.invariant

pub returns : goal.returns
returns c =
    taken_entry outpoint_cmp outpoint_cmp_total outpoint_cmp-IsAntisymmetric c.self.inside.coins c.remove.new.self c.args.key.now c.remove.ensures.updates
    ∙ ap (λ (coins : Coins). remove coins c.args.key.now) c.self.view_is
