-- Coins: what isn't spent, by outpoint.
use Rattle.std.specs.Prelude.{ℕ, ◌+◌, ◌*◌, ◌^◌, ◌<◌, ◌≤◌, length, if◌then◌else◌}
use Rattle.std.specs.FinMap.{FinMap}
use Rattle.base_types.specs.Keys.{outpoint_cmp}
use Rattle.base_types.specs.Parameters.{max_money, max_script_size}
use Rattle.base_types.specs.declared.coin.Coin.{Coin}

abbrev pub Coins : Type 0
Coins = FinMap outpoint_cmp Coin

-- twice the height, and one more for a coinbase
abbrev pub height_code : Coin → ℕ
height_code coin = 2 * coin.height + (if coin.coinbase then 1 else 0)

-- the ranges of a coin, within which it has a text
pub record CoinFits (coin : Coin) : Type 0 where
  pub value : coin.value ≤ max_money
  pub script : length coin.script ≤ max_script_size
  pub height : coin.height < 2 ^ 31
