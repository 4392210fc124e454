-- Taking a block back, as settings on any coins.
use Rattle.std.specs.Prelude.{ℕ, ◌+◌, ◌*◌, List, [], ◌∷◌, length, sum_by}
use Rattle.std.specs.FinMap.{insert}
use Rattle.base_types.specs.Coins.{Coins}
use Rattle.base_types.specs.declared.coin.Coin.{Coin}
use Rattle.block_codec.specs.declared.block.Tx.{Tx}
use Rattle.block_codec.specs.declared.block.TxIn.{TxIn}
use Rattle.chain_model.specs.Coins.{spendable_of, without_outputs}

-- the coins with those that inputs spent, from the last input to the first
unfoldable pub given_back : List TxIn → List Coin → Coins → Coins
given_back [] spent coins = coins
given_back (input ∷ inputs) [] coins = coins
given_back (input ∷ inputs) (coin ∷ spent) coins = insert (given_back inputs spent coins) input.prev coin

-- a transaction's outputs leave, and the coins that its inputs spent are there again
abbrev pub taken_back : Tx → List Coin → Coins → Coins
taken_back tx spent coins = given_back tx.inputs spent (without_outputs tx coins)

-- the same of transactions, from the last to the first
unfoldable pub all_taken_back : List Tx → List (List Coin) → Coins → Coins
all_taken_back [] undo coins = coins
all_taken_back (tx ∷ txs) [] coins = coins
all_taken_back (tx ∷ txs) (spent ∷ undo) coins = taken_back tx spent (all_taken_back txs undo coins)

-- the coins without a block, the first of whose transactions is the coinbase
abbrev pub rolled_back : List Tx → List (List Coin) → Coins → Coins
rolled_back [] undo coins = coins
rolled_back (coinbase ∷ txs) undo coins = without_outputs coinbase (all_taken_back txs undo coins)

-- each output that can be spent is taken once, and each input's outpoint is asked for once and put once
abbrev pub calls_to_take_back : Tx → ℕ
calls_to_take_back tx = length (spendable_of tx) + 2 * length tx.inputs

abbrev pub calls_back : List Tx → ℕ
calls_back [] = 0
calls_back (coinbase ∷ txs) = sum_by calls_to_take_back txs + length (spendable_of coinbase)
