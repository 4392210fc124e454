-- What the transactions of a block do to coins.
use Rattle.std.specs.Prelude.{ℕ, suc, ℤ, pos, negsuc, Bool, not, ◌||◌, List, [], ◌∷◌, length, filter, fold, sum_by, nat_lt, nat_eq}
use Rattle.std.specs.declared.option.Option.{Option}
use Rattle.std.specs.declared.option.Option.TheVariants.{Some, None}
use Rattle.std.specs.List.{starts_with}
use Rattle.std.specs.FinMap.{get, insert, remove}
use Rattle.base_types.specs.Coins.{Coins}
use Rattle.base_types.specs.Parameters.{max_script_size}
use Rattle.base_types.specs.declared.hash.Hash32.{Hash32}
use Rattle.base_types.specs.declared.hash.OutPoint.{OutPoint}
use Rattle.base_types.specs.declared.coin.Coin.{Coin}
use Rattle.base_types.specs.declared.coin.TxOut.{TxOut}
use Rattle.block_codec.specs.declared.block.TxIn.{TxIn}
use Rattle.block_codec.specs.declared.block.Tx.{Tx}
use Rattle.block_codec.specs.Text.{txid_of, is_coinbase}

-- an output can be spent, unless its script begins with OP_RETURN or is too long
abbrev pub is_spendable : TxOut → Bool
is_spendable output = not (starts_with nat_eq output.script (0x6a ∷ []) || nat_lt max_script_size (length output.script))

-- satoshis; a block whose body meets the rules has no value below 0
abbrev pub satoshis : ℤ → ℕ
satoshis (pos n) = n
satoshis (negsuc n) = 0

abbrev pub output_value : TxOut → ℕ
output_value output = satoshis output.value

-- outputs with their outpoints, from this number on
abbrev pub numbered : Hash32 → ℕ → List TxOut → List (OutPoint × TxOut)
numbered txid index [] = []
numbered txid index (output ∷ outputs) = (record { txid = txid; index = index }, output) ∷ numbered txid (suc index) outputs

abbrev pub outputs_of : Tx → List (OutPoint × TxOut)
outputs_of tx = numbered (txid_of tx) 0 tx.outputs

-- the outputs that a transaction leaves to be spent
abbrev pub spendable_of : Tx → List (OutPoint × TxOut)
spendable_of tx = filter (λ named. is_spendable named.1) (outputs_of tx)

-- the coin that a transaction's output is, in a block at a height
abbrev pub coin_of : ℕ → Tx → TxOut → Coin
coin_of at tx output = record { value = output_value output; script = output.script; height = at; coinbase = is_coinbase tx }

-- the coins without those that the inputs name
abbrev pub without : List TxIn → Coins → Coins
without inputs coins = fold (λ left input. remove left input.prev) coins inputs

-- the coins with those that a transaction's spendable outputs are; an outpoint that has a coin gets the new one
abbrev pub with_outputs : ℕ → Tx → Coins → Coins
with_outputs at tx coins = fold (λ all named. insert all named.0 (coin_of at tx named.1)) coins (spendable_of tx)

-- the coins without those at the outpoints of a transaction's spendable outputs
abbrev pub without_outputs : Tx → Coins → Coins
without_outputs tx coins = fold (λ left named. remove left named.0) coins (spendable_of tx)

-- a coin and others, if all are there
abbrev pub and_coins : Option Coin → Option (List Coin) → Option (List Coin)
and_coins None coins = None
and_coins (Some coin) None = None
and_coins (Some coin) (Some coins) = Some (coin ∷ coins)

-- the coins that inputs spend; none where one isn't there
abbrev pub spent_by : Coins → List TxIn → Option (List Coin)
spent_by coins [] = Some []
spent_by coins (input ∷ inputs) = and_coins (get coins input.prev) (spent_by coins inputs)

abbrev pub value_of_coins : List Coin → ℕ
value_of_coins coins = sum_by (λ coin. coin.value) coins

abbrev pub value_of_outputs : List TxOut → ℕ
value_of_outputs outputs = sum_by output_value outputs
