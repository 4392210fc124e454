-- Transactions that can't be applied to coins.
use Rattle.std.specs.Prelude.{Bool, ◌||◌, nat_lt}
use Rattle.std.specs.List.{list_any}
use Rattle.base_types.specs.Parameters.{max_money}
use Rattle.base_types.specs.declared.coin.TxOut.{TxOut}
use Rattle.block_codec.specs.declared.block.Tx.{Tx}
use Rattle.chain_model.specs.BodyRules.{has_twin_inputs}
use Rattle.chain_model.specs.Coins.{output_value}

-- an output's value is above all money
abbrev pub is_too_high : TxOut → Bool
is_too_high output = nat_lt max_money (output_value output)

abbrev pub is_unpayable : Tx → Bool
is_unpayable tx = list_any is_too_high tx.outputs || has_twin_inputs tx.inputs
