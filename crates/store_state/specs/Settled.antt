-- Settled images: what they stand for is the replay of their blocks.
use Rattle.std.specs.Prelude.{◌≡◌, ◌≢◌, ℕ, Some, None, All, AllPairs, true}
use Rattle.std.specs.FinMap.{get}
use Rattle.disk_model.specs.Disk.{Image}
use Rattle.base_types.specs.declared.program.Rules.{Rules}
use Rattle.block_codec.specs.declared.block.Block.{Block}
use Rattle.chain_model.specs.Tree.{Tree}
use Rattle.block_codec.specs.Genesis.{genesis_hash}
use Rattle.chain_model.specs.BodyRules.{body_broken, place_below}
use Rattle.chain_model.specs.Choice.{is_valid, coins_at}
use Rattle.coin_store.specs.declared.marker.Marker.{Marker}
use Rattle.coin_store.specs.declared.marker.Marker.TheVariants.{At, Between}
use Rattle.block_store.specs.Bodies.{body_of}
use Rattle.store_state.specs.State.{StoreState, StoredBody, Chainstate, state_of, choice_of, tips_of}

-- a stored body is a block other than genesis whose header stands in the tree under its hash, and it breaks no rule of bodies
pub record IsBody (tree : Tree) (body : StoredBody) : Type 0 where
  pub block : Block
  pub is : body_of body.payload ≡ Some block
  pub header : get tree.headers body.hash ≡ Some block.header
  pub above : body.hash ≢ genesis_hash
  pub meets : body_broken (place_below tree block.header.prev) block ≡ None

-- the rows are the replay to the marker's tip
abbrev pub IsReplay : StoreState → Chainstate → Marker → Type 0
IsReplay state chainstate (At tip) = coins_at (choice_of state chainstate) tip ≡ Some chainstate.coins
IsReplay state chainstate (Between new_tip old_tip) = ⊥

pub record IsSettled (state : StoreState) : Type 0 where
  pub bodies : All (IsBody state.tree) state.bodies
  -- no hash has two records
  pub distinct : AllPairs (λ a b. a.hash ≢ b.hash) state.bodies
  -- each tip that the marker names is complete and valid
  pub tips : All (λ tip. is_valid (choice_of state state.active) tip ≡ true) (tips_of state.active.marker)
  pub rows : IsReplay state state.active state.active.marker

pub record Settled (limit : ℕ) (given : Rules) (image : Image) : Type 0 where
  pub state : StoreState
  pub stands_for : state_of limit given image ≡ Some state
  pub settled : IsSettled state
