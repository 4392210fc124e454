-- What holds of every block that is applied to coins, and of blocks one after the other.
use Rattle.std.specs.Prelude.{◌≡◌, ◌≤◌, ℕ, ◌+◌, false, List, ◌∷◌, ◌++◌, map}
use Rattle.std.specs.declared.result.Result.TheVariants.{Ok, Err}
use Rattle.std.specs.List.{list_any, flat_map}
use Rattle.std.specs.FinMap.{get, values}
use Rattle.base_types.specs.Reading.{◌>>=◌}
use Rattle.base_types.specs.Coins.{Coins}
use Rattle.base_types.specs.declared.hash.Hash32.{Hash32}
use Rattle.base_types.specs.declared.hash.OutPoint.{OutPoint}
use Rattle.base_types.specs.declared.refused.CoinRefused.{CoinRefused}
use Rattle.block_codec.specs.declared.block.Tx.{Tx}
use Rattle.block_codec.specs.declared.block.Block.{Block}
use Rattle.block_codec.specs.Text.{hash_of_header}
use Rattle.chain_model.specs.Tree.{Tree}
use Rattle.chain_model.specs.BodyRules.{same_outpoint, others_of}
use Rattle.chain_model.specs.Coins.{spendable_of, value_of_coins}
use Rattle.base_types.specs.Parameters.{subsidy}
use Rattle.chain_model.specs.Apply.{outcome, replayed}

-- the outpoints that a transaction's inputs name
abbrev pub inputs_named : Tx → List OutPoint
inputs_named tx = map (λ input. input.prev) tx.inputs

-- the outpoints of the outputs that it leaves to be spent
abbrev pub outputs_named : Tx → List OutPoint
outputs_named tx = map (λ named. named.0) (spendable_of tx)

-- the outpoints that a block names: the inputs of its transactions but the coinbase, and its spendable outputs
abbrev pub named_by : Block → List OutPoint
named_by block = flat_map inputs_named (others_of block.txs) ++ flat_map outputs_named block.txs

-- an outpoint that the block doesn't name keeps its coin
abbrev pub Untouched : Block → Coins → Coins → Type 0
Untouched block old new = (key : OutPoint) → list_any (same_outpoint key) (named_by block) ≡ false → get new key ≡ get old key

-- the satoshis of all coins
abbrev pub value_of_all : Coins → ℕ
value_of_all coins = value_of_coins (values coins)

-- the coins are worth no more than before, but for the subsidy of a height
abbrev pub MakesAtMostTheSubsidy : ℕ → Coins → Coins → Type 0
MakesAtMostTheSubsidy at old new = value_of_all new ≤ value_of_all old + subsidy at

-- the lowest of the blocks that breaks a rule has this hash, and breaks this rule
pub record BreaksAt (tree : Tree) (start : Coins) (blocks : List Block) (hash : Hash32) (rule : CoinRefused) : Type 0 where
  pub before : List Block
  pub block : Block
  pub after : List Block
  pub middle : Coins
  pub split : blocks ≡ before ++ block ∷ after
  pub so_far : replayed tree start before ≡ Ok middle
  pub breaks : outcome tree middle block ≡ Err rule
  pub named : hash ≡ hash_of_header block.header

-- to replay two lists one after the other is to replay their join
abbrev pub Joins : Tree → Coins → List Block → Type 0
Joins tree start blocks = (first second : List Block) → blocks ≡ first ++ second → replayed tree start blocks ≡ (replayed tree start first >>= λ middle. replayed tree middle second)
