-- The fees of a block's transactions.
use Rattle.std.specs.Prelude.{ℕ, ◌+◌, List}
use Rattle.std.specs.declared.result.Result.{Result}
use Rattle.base_types.specs.declared.coin.Coin.{Coin}
use Rattle.base_types.specs.declared.refused.CoinRefused.{CoinRefused}
use Rattle.block_codec.specs.declared.block.Tx.{Tx}
use Rattle.chain_model.specs.Apply.{Position, unless, spending_broken, fee}

-- the fees with those of a transaction that spends these coins, or the first rule that it breaks
abbrev pub fees_by : Position → ℕ → Tx → List Coin → Result ℕ CoinRefused
fees_by position fees tx coins = unless (spending_broken position fees tx coins) (fees + fee tx coins)
