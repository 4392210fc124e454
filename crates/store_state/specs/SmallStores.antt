-- Small stores: genesis with a header, with a block, and with two blocks above it.
use Rattle.std.proofs.Common.{◌≡◌, ℕ, true, List, [], ◌∷◌, None, Ok}
use Rattle.std.specs.List.{AllByRecursion}
use Rattle.std.specs.FinMap.{empty, insert}
use Rattle.base_types.specs.Coins.{Coins}
use Rattle.base_types.specs.declared.hash.Hash32.{Hash32}
use Rattle.base_types.specs.declared.program.Rules.{Rules}
use Rattle.block_codec.specs.declared.block.Block.{Block}
use Rattle.block_codec.specs.declared.block.Header.{Header}
use Rattle.block_codec.specs.Fitting.{BlockFits}
use Rattle.block_codec.specs.Text.{hash_of_header}
use Rattle.block_store.specs.Bodies.{body_text}
use Rattle.chain_model.specs.Apply.{outcome}
use Rattle.chain_model.specs.BodyRules.{body_broken, place_below}
use Rattle.chain_model.specs.Choice.{Choice}
use Rattle.chain_model.specs.HeaderRules.{first_tree, with_header}
use Rattle.chain_model.specs.Tree.{Tree}
use Rattle.block_codec.specs.Genesis.{genesis_hash}
use Rattle.coin_store.specs.declared.marker.Marker.TheVariants.{At}
use Rattle.coin_store.specs.Batches.{Row, RowFits}
use Rattle.coin_store.specs.Places.{coins_after_rows}
use Rattle.store_state.specs.State.{StoreState, StoredBody, chainstate_of}
use Rattle.store_state.specs.SmallImages.{batch_at}
use Rattle.chain_model.specs.SmallTrees.{IsChild}
use Rattle.store_state.specs.Roles.{Alone}

-- ---- no block

-- genesis, with a header above it
abbrev pub store_of_header : Rules → Header → StoreState
store_of_header given header = record { tree = with_header (first_tree given) header; bodies = []; active = chainstate_of genesis_hash empty []; role = Alone }

-- a store at genesis with these rows
abbrev pub store_with_rows : Rules → List Row → StoreState
store_with_rows given rows = record { tree = first_tree given; bodies = []; active = chainstate_of genesis_hash empty (batch_at genesis_hash rows ∷ []); role = Alone }

-- ---- one block

-- a child of genesis whose body breaks no rule there, the coins after it, and rows that give these coins
pub record FirstBlock (limit : ℕ) (given : Rules) : Type 0 where
  pub block : Block
  pub coins : Coins
  pub rows : List Row
  pub fits : BlockFits block
  pub child : IsChild limit (first_tree given) genesis_hash block.header
  pub meets : body_broken (place_below (with_header (first_tree given) block.header) block.header.prev) block ≡ None
  pub applies : outcome (with_header (first_tree given) block.header) empty block ≡ Ok coins
  pub rows_fit : AllByRecursion RowFits rows
  pub rows_give : coins_after_rows empty rows ≡ coins

module _ (limit : ℕ) (given : Rules) (first : FirstBlock limit given) where
  abbrev pub hash_of : Hash32
  hash_of = hash_of_header first.block.header

  abbrev pub tree_of : Tree
  tree_of = with_header (first_tree given) first.block.header

  -- the payload of the body, and what is read of it
  abbrev pub body_payload : List ℕ
  body_payload = body_text hash_of first.block

  abbrev pub body_stored : StoredBody
  body_stored = record { hash = hash_of; payload = body_payload }

  -- the store of this block: its header, its body, and its coins at its hash
  abbrev pub store_of_block : StoreState
  store_of_block = record {
    tree = tree_of;
    bodies = body_stored ∷ [];
    active = record { start = genesis_hash; start_coins = empty; marker = At hash_of; coins = first.coins };
    role = Alone;
  }

-- ---- two blocks

-- a child of genesis, and a child of that
pub record TwoBlocks (limit : ℕ) (given : Rules) : Type 0 where
  pub first : Block
  pub second : Block
  pub first_child : IsChild limit (first_tree given) genesis_hash first.header
  pub second_child : IsChild limit (with_header (first_tree given) first.header) (hash_of_header first.header) second.header

module _ (limit : ℕ) (given : Rules) (blocks : TwoBlocks limit given) where
  abbrev pub first_hash : Hash32
  first_hash = hash_of_header blocks.first.header

  abbrev pub second_hash : Hash32
  second_hash = hash_of_header blocks.second.header

  abbrev pub tree_of_two : Tree
  tree_of_two = with_header (with_header (first_tree given) blocks.first.header) blocks.second.header

  -- what a chainstate at genesis chooses among, where both are stored
  abbrev pub choice_of_two : Coins → Choice
  choice_of_two start = record {
    tree = tree_of_two;
    bodies = insert (insert empty first_hash blocks.first) second_hash blocks.second;
    start = genesis_hash;
    start_coins = start;
    tip = genesis_hash;
    is_candidate = λ hash. true;
  }
