use Rattle.std.proofs.Common.{List, ap, sym, ◌∙◌}
use Rattle.std.specs.FinMap as finite
use Rattle.std.specs.Map.{keys_of}
use Rattle.base_types.specs.Keys.{outpoint_cmp}
use Rattle.base_types.proofs.KeyOrders.{outpoint_cmp_total}
use Rattle.base_types.specs.Coins.{Coins}
use Rattle.base_types.specs.declared.hash.OutPoint.{OutPoint}
use Rattle.base_types.specs.declared.coin.Coin.{Coin}
use Rattle.chain_model.proofs.Entries.{entries_in_order}
use Rattle.chain_model.proofs.plain.Plain.outpoints.Goals as goal

pub returns : goal.returns
returns c =
    c.from.ensures
    ∙ c.in_ok-keys_of.ensures.keys
    ∙ ap (λ (es : List (OutPoint × Coin)). keys_of es) (sym (entries_in_order outpoint_cmp outpoint_cmp_total c.self.inside.coins.entries c.keys_of.ensures.ordered))
    ∙ ap (λ (coins : Coins). finite.keys coins) c.self.view_is
