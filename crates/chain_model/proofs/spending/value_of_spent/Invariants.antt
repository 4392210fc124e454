use Rattle.std.proofs.Common.{◌≡◌, ◌≤◌, ◌+◌, drop}
use Rattle.base_types.specs.Parameters.{max_money}
use Rattle.chain_model.specs.Coins.{value_of_coins}
use Rattle.chain_model.specs.Apply.{coins_broken}
use Rattle.chain_model.proofs.spending.value_of_spent.Given as goal

abbrev pub invariant-loop-coin : goal.invariant-loop-coin
invariant-loop-coin l = record {
  so_far : coins_broken l.height l.total (drop l.coin-index l.coins) ≡ coins_broken l.height 0 l.coins;
  total : l.total + value_of_coins (drop l.coin-index l.coins) ≡ value_of_coins l.coins;
  in_range : l.total ≤ max_money;
}
