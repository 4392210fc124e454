-- Which block a chainstate moves to: all candidates are compared by their replays.
use Rattle.std.specs.Prelude.{ℕ, Bool, false, ◌&&◌, ◌||◌, ◌==◌, List, [], ◌∷◌, map, filter, fold, min, nat_lt, nat_le, is_some, cond, unwrap_or}
use Rattle.std.specs.declared.option.Option.{Option}
use Rattle.std.specs.declared.option.Option.TheVariants.{Some, None}
use Rattle.std.specs.declared.result.Result.{Result}
use Rattle.std.specs.declared.result.Result.TheVariants.{Ok, Err}
use Rattle.std.specs.Option.{option_and_then, option_map_or}
use Rattle.std.specs.Result.{result_ok}
use Rattle.std.specs.Ordering.{is_lt}
use Rattle.std.specs.List.{find, list_any}
use Rattle.std.specs.FinMap.{FinMap, get, entries}
use Rattle.base_types.specs.Coins.{Coins}
use Rattle.base_types.specs.Keys.{hash_cmp}
use Rattle.base_types.specs.declared.hash.Hash32.{Hash32}
use Rattle.base_types.specs.declared.refused.CoinRefused.{CoinRefused}
use Rattle.block_codec.specs.declared.block.Block.{Block}
use Rattle.block_codec.specs.Text.{same_hash}
use Rattle.chain_model.specs.Tree.{Tree, Headers, chain, height, path, fork}
use Rattle.chain_model.specs.Apply.{outcome, replayed}

-- stored blocks by the hashes of their headers
abbrev pub Bodies : Type 0
Bodies = FinMap hash_cmp Block

-- what a chainstate chooses among: a tree and its stored bodies, the block and the coins that it started with, its tip,
-- and which blocks may ever be its tip
pub record Choice : Type 0 where
  pub tree : Tree
  pub bodies : Bodies
  pub start : Hash32
  pub start_coins : Coins
  pub tip : Hash32
  pub is_candidate : Hash32 → Bool

-- ---- complete and valid blocks

abbrev pub and_block : Option Block → Option (List Block) → Option (List Block)
and_block None blocks = None
and_block (Some block) None = None
and_block (Some block) (Some blocks) = Some (block ∷ blocks)

-- the stored blocks of these hashes, if all are stored
abbrev pub blocks_of : Bodies → List Hash32 → Option (List Block)
blocks_of bodies [] = Some []
blocks_of bodies (hash ∷ hashes) = and_block (get bodies hash) (blocks_of bodies hashes)

-- a block is an ancestor of another, or it
abbrev pub is_at_or_below : Headers → Hash32 → Hash32 → Bool
is_at_or_below headers low high = list_any (same_hash low) (chain headers high)

-- the blocks after the start up to a block that is at or above it, if all are stored
abbrev pub blocks_to : Choice → Hash32 → Option (List Block)
blocks_to choice hash = cond (is_at_or_below choice.tree.headers choice.start hash) (blocks_of choice.bodies (path choice.tree.headers choice.start hash)) None

abbrev pub is_complete : Choice → Hash32 → Bool
is_complete choice hash = is_some (blocks_to choice hash)

-- the coins of replaying the blocks from the start to a complete block, if no rule is broken
abbrev pub coins_at : Choice → Hash32 → Option Coins
coins_at choice hash = option_and_then (λ blocks. result_ok (replayed choice.tree choice.start_coins blocks)) (blocks_to choice hash)

abbrev pub is_valid : Choice → Hash32 → Bool
is_valid choice hash = is_some (coins_at choice hash)

-- ---- the order of candidates

-- higher blocks come first, and among equal heights the smaller hash
abbrev pub comes_before : Headers → Hash32 → Hash32 → Bool
comes_before headers a b = nat_lt (height headers b) (height headers a) || ((height headers a == height headers b) && is_lt (hash_cmp a b))

-- a block among blocks in their order
unfoldable pub placed : Headers → Hash32 → List Hash32 → List Hash32
placed headers hash [] = hash ∷ []
placed headers hash (other ∷ others) = cond (comes_before headers hash other) (hash ∷ other ∷ others) (other ∷ placed headers hash others)

unfoldable pub ranked : Headers → List Hash32 → List Hash32
ranked headers [] = []
ranked headers (hash ∷ hashes) = placed headers hash (ranked headers hashes)

-- a complete candidate that is higher than the tip
abbrev pub is_higher : Choice → Hash32 → Bool
is_higher choice hash = choice.is_candidate hash && nat_lt (height choice.tree.headers choice.tip) (height choice.tree.headers hash) && is_complete choice hash

abbrev pub candidates : Choice → List Hash32
candidates choice = ranked choice.tree.headers (filter (is_higher choice) (map (λ entry. entry.0) (entries choice.tree.headers)))

-- the highest valid candidate above the tip, among equal heights that with the smallest hash; else the tip
abbrev pub best : Choice → Hash32
best choice = unwrap_or (find (is_valid choice) (candidates choice)) choice.tip

-- ---- what is tried on the way there

-- a block that a rule refuses
pub record RefusedAt : Type 0 where
  pub hash : Hash32
  pub why : CoinRefused

-- the block refuses, or the next one may
abbrev pub refused_or : Hash32 → Result Coins CoinRefused → (Coins → Option RefusedAt) → Option RefusedAt
refused_or hash (Ok coins) next = next coins
refused_or hash (Err why) next = Some (record { hash = hash; why = why })

-- the lowest block that breaks a rule, with the rule; the hashes stand beside the blocks
unfoldable pub lowest_refused : Tree → Coins → List Hash32 → List Block → Option RefusedAt
lowest_refused tree coins [] blocks = None
lowest_refused tree coins (hash ∷ hashes) [] = None
lowest_refused tree coins (hash ∷ hashes) (block ∷ blocks) = refused_or hash (outcome tree coins block) (λ next. lowest_refused tree next hashes blocks)

abbrev pub refused_below : Choice → Hash32 → Option RefusedAt
refused_below choice hash = option_and_then (λ blocks. lowest_refused choice.tree choice.start_coins (path choice.tree.headers choice.start hash) blocks) (blocks_to choice hash)

-- candidates that were tried, and the blocks that were refused with them
pub record Tried : Type 0 where
  pub blocks : List Hash32
  pub refusals : List RefusedAt

abbrev pub no_trial : Tried
no_trial = record { blocks = []; refusals = [] }

-- a candidate is tried: a valid one is the last, another adds a refused block
abbrev pub and_tried : Hash32 → Option RefusedAt → (Hash32 → Tried) → Tried
and_tried hash None others = record { blocks = hash ∷ []; refusals = [] }
and_tried hash (Some refused) others = record { blocks = hash ∷ (others refused.hash).blocks; refusals = refused ∷ (others refused.hash).refusals }

-- candidates in their order; one with a refused block on its path is passed over
unfoldable pub tried_of : Choice → List Hash32 → List Hash32 → Tried
tried_of choice refused [] = no_trial
tried_of choice refused (hash ∷ hashes) =
    cond (list_any (λ block. is_at_or_below choice.tree.headers block hash) refused) (tried_of choice refused hashes)
    (and_tried hash (refused_below choice hash) (λ more. tried_of choice (more ∷ refused) hashes))

-- what a move tries, where these blocks were refused before it
abbrev pub tried : Choice → List Hash32 → List Hash32
tried choice refused = (tried_of choice refused (candidates choice)).blocks

-- the blocks that a move adds to the refused ones
abbrev pub refusals : Choice → List Hash32 → List RefusedAt
refusals choice refused = (tried_of choice refused (candidates choice)).refusals

-- ---- the way of a move

-- the height of the fork of the tip with a block
abbrev pub fork_height : Choice → Hash32 → ℕ
fork_height choice hash = option_map_or (height choice.tree.headers) (fork choice.tree.headers choice.tip hash) 0

-- the height of the lowest fork of the tip with blocks
abbrev pub lowest_fork : Choice → List Hash32 → ℕ
lowest_fork choice hashes = fold (λ least hash. min least (fork_height choice hash)) (height choice.tree.headers choice.tip) hashes

-- a block lies on the way to these blocks: it is the old tip, or one of them, or an ancestor of one, and not below the lowest
-- fork; where there are none, the way is empty
abbrev pub is_on_way_to : Choice → List Hash32 → Hash32 → Bool
is_on_way_to choice [] hash = false
is_on_way_to choice (trial ∷ trials) hash =
    list_any (is_at_or_below choice.tree.headers hash) (choice.tip ∷ trial ∷ trials)
    && nat_le (lowest_fork choice (trial ∷ trials)) (height choice.tree.headers hash)

-- a block lies on the way of a move, which goes to the blocks that it tries
abbrev pub is_on_way : Choice → List Hash32 → Hash32 → Bool
is_on_way choice refused hash = is_on_way_to choice (tried choice refused) hash
