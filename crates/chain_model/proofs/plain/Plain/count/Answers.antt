use Rattle.std.proofs.Common.{ap, sym, ◌∙◌}
use Rattle.std.specs.FinMap.{len}
use Rattle.base_types.specs.Keys.{outpoint_cmp}
use Rattle.base_types.proofs.KeyOrders.{outpoint_cmp_total}
use Rattle.base_types.specs.Coins.{Coins}
use Rattle.chain_model.proofs.Entries.{count_in_order}
use Rattle.chain_model.proofs.plain.Plain.count.Goals as goal

pub returns : goal.returns
returns c =
    c.len.ensures.len
    ∙ sym (count_in_order outpoint_cmp outpoint_cmp_total c.self.inside.coins.entries c.len.ensures.ordered)
    ∙ ap (λ (coins : Coins). len coins) c.self.view_is
