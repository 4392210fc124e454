-- Applying a block to coins, by whole transactions.
use Rattle.std.specs.Prelude.{ℕ, ◌+◌, ◌-◌, ◌*◌, ◌/◌, ◌%◌, ◌^◌, Bool, false, not, ◌&&◌, ◌||◌, ◌==◌, List, [], ◌∷◌, nat_lt, nat_le, cond, unwrap_or}
use Rattle.std.specs.declared.option.Option.{Option}
use Rattle.std.specs.declared.option.Option.TheVariants.{Some, None}
use Rattle.std.specs.declared.result.Result.{Result}
use Rattle.std.specs.declared.result.Result.TheVariants.{Ok, Err}
use Rattle.std.specs.Option.{option_map_or}
use Rattle.std.specs.List.{list_any}
use Rattle.std.specs.FinMap.{contains_key}
use Rattle.base_types.specs.Reading.{◌>>=◌}
use Rattle.base_types.specs.Coins.{Coins}
use Rattle.base_types.specs.declared.hash.Hash32.{Hash32}
use Rattle.base_types.specs.declared.coin.Coin.{Coin}
use Rattle.base_types.specs.declared.refused.CoinRefused.{CoinRefused}
use Rattle.base_types.specs.declared.refused.CoinRefused.TheVariants.{Bip30, MissingInput, Immature, ValueRange, InBelowOut, SequenceLock, CoinbaseAmount}
use Rattle.block_codec.specs.declared.block.TxIn.{TxIn}
use Rattle.block_codec.specs.declared.block.Tx.{Tx}
use Rattle.block_codec.specs.declared.block.Block.{Block}
use Rattle.chain_model.specs.Rules.{first_broken, first_some}
use Rattle.chain_model.specs.Tree.{Tree, height, ancestor, median_time}
use Rattle.chain_model.specs.Coins.{outputs_of, without, with_outputs, spent_by, value_of_coins, value_of_outputs}
use Rattle.base_types.specs.Parameters.{max_money, subsidy, coinbase_maturity}

-- an error where some rule is broken
abbrev pub unless : {A : Type 0} → Option CoinRefused → A → Result A CoinRefused
unless None a = Ok a
unless (Some rule) a = Err rule

-- where a block stands: below a parent in a tree, at a height
pub record Position : Type 0 where
  pub tree : Tree
  pub parent : Hash32
  pub at : ℕ

-- ---- relative lock times (BIP 68)

-- the median time of the block at a height on the chain of a block
abbrev pub median_at : Tree → Hash32 → ℕ → ℕ
median_at tree parent at = option_map_or (median_time tree.headers) (ancestor tree.headers parent at) 0

-- the lock counts in units of 512 seconds, and not in blocks: bit 22
abbrev pub counts_time : ℕ → Bool
counts_time sequence = (sequence / 2 ^ 22) % 2 == 1

-- an input's lock has passed in a block at a position
abbrev pub lock_passed : Position → ℕ → Coin → Bool
lock_passed position sequence coin =
    cond (counts_time sequence)
    (nat_le coin.height position.at && nat_le (median_at position.tree position.parent (coin.height - 1) + 512 * (sequence % 65536)) (median_time position.tree.headers position.parent))
    (nat_le (coin.height + sequence % 65536) position.at)

-- bit 31 frees an input
abbrev pub is_free : ℕ → Bool
is_free sequence = nat_le (2 ^ 31) sequence

-- some input's lock hasn't passed; each input stands beside the coin that it spends
abbrev pub has_lock : Position → List TxIn → List Coin → Bool
has_lock position [] coins = false
has_lock position (input ∷ inputs) [] = false
has_lock position (input ∷ inputs) (coin ∷ coins) =
    (not (is_free input.sequence) && not (lock_passed position input.sequence coin)) || has_lock position inputs coins

-- from the height of the rule on, transactions of version 2 or above are locked
abbrev pub is_locked : Position → Tx → List Coin → Bool
is_locked position tx coins = nat_le position.tree.rules.csv position.at && nat_le 2 tx.version && has_lock position tx.inputs coins

-- ---- one transaction

-- a coinbase's coin is spent too early
abbrev pub is_immature : ℕ → Coin → Bool
is_immature at coin = coin.coinbase && nat_lt at (coin.height + coinbase_maturity)

-- coin by coin, with the sum of the values so far
unfoldable pub coins_broken : ℕ → ℕ → List Coin → Option CoinRefused
coins_broken at before [] = None
coins_broken at before (coin ∷ coins) = first_some (
    first_broken ((is_immature at coin, Immature) ∷ (nat_lt max_money (before + coin.value), ValueRange) ∷ []) ∷
    coins_broken at (before + coin.value) coins ∷
    [])

-- what a transaction pays for itself, given the coins that it spends
abbrev pub fee : Tx → List Coin → ℕ
fee tx coins = value_of_coins coins - value_of_outputs tx.outputs

-- the first rule that a transaction breaks which spends these coins, where so much was paid in fees before it
abbrev pub spending_broken : Position → ℕ → Tx → List Coin → Option CoinRefused
spending_broken position fees tx coins = first_some (
    coins_broken position.at 0 coins ∷
    first_broken (
    (nat_lt (value_of_coins coins) (value_of_outputs tx.outputs), InBelowOut) ∷
    (nat_lt max_money (fees + fee tx coins), ValueRange) ∷
    (is_locked position tx coins, SequenceLock) ∷
    []) ∷
    [])

-- the coins and the fees so far
pub record Paid : Type 0 where
  pub coins : Coins
  pub fees : ℕ

-- inputs leave the coins, and spendable outputs enter them
abbrev pub spent_and_made : ℕ → Tx → Coins → Coins
spent_and_made at tx coins = with_outputs at tx (without tx.inputs coins)

abbrev pub paid_by : Position → Tx → Paid → Option (List Coin) → Result Paid CoinRefused
paid_by position tx paid None = Err MissingInput
paid_by position tx paid (Some coins) =
    unless (spending_broken position paid.fees tx coins) (record { coins = spent_and_made position.at tx paid.coins; fees = paid.fees + fee tx coins })

-- the coins and fees after a transaction that isn't a coinbase, or the first rule that it breaks
abbrev pub after_tx : Position → Paid → Tx → Result Paid CoinRefused
after_tx position paid tx = paid_by position tx paid (spent_by paid.coins tx.inputs)

-- the same for one transaction after the other
unfoldable pub after_txs : Position → Paid → List Tx → Result Paid CoinRefused
after_txs position paid [] = Ok paid
after_txs position paid (tx ∷ txs) = after_tx position paid tx >>= λ next. after_txs position next txs

-- ---- a block

-- some output of the block has its outpoint in the coins (BIP 30)
abbrev pub overwrites : Coins → List Tx → Bool
overwrites coins txs = list_any (λ tx. list_any (λ named. contains_key coins named.0) (outputs_of tx)) txs

-- the coinbase pays no more than the fees and the subsidy
abbrev pub rewarded : ℕ → Tx → Paid → Result Coins CoinRefused
rewarded at coinbase paid = cond (nat_lt (paid.fees + subsidy at) (value_of_outputs coinbase.outputs)) (Err CoinbaseAmount) (Ok paid.coins)

-- the coins after the transactions of a block, the first of which is the coinbase, or the first rule that they break
abbrev pub after_all : Position → Coins → List Tx → Result Coins CoinRefused
after_all position coins [] = Ok coins
after_all position coins (coinbase ∷ txs) =
    after_txs position (record { coins = with_outputs position.at coinbase coins; fees = 0 }) txs >>= rewarded position.at coinbase

abbrev pub position_below : Tree → Hash32 → Position
position_below tree parent = record { tree = tree; parent = parent; at = height tree.headers parent + 1 }

-- the coins after a block whose header stands in the tree and whose body meets its rules, or the first rule that it breaks
abbrev pub outcome : Tree → Coins → Block → Result Coins CoinRefused
outcome tree coins block =
    cond (overwrites coins block.txs) (Err Bip30)
    (after_all (position_below tree block.header.prev) coins block.txs)

-- the coins after one block after the other, or the first rule that one breaks
unfoldable pub replayed : Tree → Coins → List Block → Result Coins CoinRefused
replayed tree coins [] = Ok coins
replayed tree coins (block ∷ blocks) = outcome tree coins block >>= λ next. replayed tree next blocks

-- ---- undo data

-- the coins that each of these transactions spends, as they go through them one after the other
unfoldable pub spent_in : ℕ → Coins → List Tx → List (List Coin)
spent_in at coins [] = []
spent_in at coins (tx ∷ txs) = unwrap_or (spent_by coins tx.inputs) [] ∷ spent_in at (spent_and_made at tx coins) txs

abbrev pub undo_of_txs : ℕ → Coins → List Tx → List (List Coin)
undo_of_txs at coins [] = []
undo_of_txs at coins (coinbase ∷ txs) = spent_in at (with_outputs at coinbase coins) txs

-- per transaction but the coinbase, the coins that its inputs spend, those made earlier in the block included
abbrev pub undo_of : Tree → Coins → Block → List (List Coin)
undo_of tree coins block = undo_of_txs (height tree.headers block.header.prev + 1) coins block.txs
