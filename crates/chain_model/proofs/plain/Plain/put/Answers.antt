use Rattle.std.proofs.Common.{ap, ◌∙◌}
use Rattle.std.specs.FinMap.{insert}
use Rattle.base_types.specs.Keys.{outpoint_cmp}
use Rattle.base_types.proofs.KeyOrders.{outpoint_cmp_total, outpoint_cmp-IsAntisymmetric}
use Rattle.base_types.specs.Coins.{Coins, CoinFits}
use Rattle.chain_model.proofs.Entries.{put_entry}
use Rattle.chain_model.proofs.Fitting.{put_fits}
use Rattle.chain_model.proofs.plain.Plain.put.Goals as goal

pub invariant_of-self-2 : goal.invariant_of-self-2
invariant_of-self-2 c = put_fits CoinFits c.self.inside.coins c.insert.new.self c.args.key c.args.coin c.in_ok-insert.ensures.updates c.requires c.self.invariant

pub returns-clause-ok : goal.returns-clause-ok
returns-clause-ok c =
    put_entry outpoint_cmp outpoint_cmp_total outpoint_cmp-IsAntisymmetric c.self.inside.coins c.insert.new.self c.args.key c.args.coin c.in_ok-insert.ensures.updates
    ∙ ap (λ (coins : Coins). insert coins c.args.key c.args.coin) c.self.view_is
