-- A body that is taken.
use Rattle.std.specs.Prelude.{◌≡◌, ◌≢◌, ℕ, false, List, [], map, None, Option, Some}
use Rattle.std.specs.FinMap.{get, contains_key, insert}
use Rattle.disk_model.specs.Disk.{Image}
use Rattle.block_codec.specs.Genesis.{genesis_hash}
use Rattle.block_codec.specs.Text.{hash_of_header}
use Rattle.block_codec.specs.declared.block.Block.{Block}
use Rattle.chain_model.specs.BodyRules.{body_broken, place_below}
use Rattle.chainstates.specs.Offers.{Stands}
use Rattle.chainstates.specs.declared.session.Session.{Session}
use Rattle.machine.specs.Moves.{forward, move_with}
use Rattle.machine.specs.State.{BodyStored, State}
use Rattle.reorg.specs.Advancing.{refusal_reply}
use Rattle.reorg.specs.declared.refusals.RefusedBlock.{RefusedBlock}
use Rattle.store_state.specs.Settled.{IsSettled}
use Rattle.store_state.specs.State.{StoreState}
use Rattle.store_writes.specs.Written.{Writes, body_as_stored, with_stored}

-- a block whose body may be stored: its header is the tree's under its hash, it breaks no rule of bodies, and its body isn't
-- stored yet; genesis's counts as stored
pub record IsNew (state : State) (block : Block) : Type 0 where
  pub known : get state.tree.headers (hash_of_header block.header) ≡ Some block.header
  pub above : hash_of_header block.header ≢ genesis_hash
  pub meets : body_broken (place_below state.tree block.header.prev) block ≡ None
  pub fresh : contains_key state.bodies (hash_of_header block.header) ≡ false

-- with the block's body
abbrev pub with_block : State → Block → State
with_block state block = record state { bodies = insert state.bodies (hash_of_header block.header) block }

abbrev pub store_with : Block → StoreState → StoreState
store_with block store = with_stored (body_as_stored (hash_of_header block.header) block) store

-- the body is stored, and waits to be connected
pub record HasStored (limit : ℕ) (past left : ℕ → Image → Type 0) (entered ended : ℕ) (before now : Option Image) (session : Session) (state : State) (store : StoreState) (block : Block) : Type 0 where
  pub writes : Writes limit past left entered ended before now [] (BodyStored (hash_of_header block.header) block) store (store_with block store)
  pub settled : IsSettled (store_with block store)
  pub stands : Stands limit now (left ended) session (with_block state block) (store_with block store)

-- the body is stored, and the chainstate moved on
pub record HasMoved (limit : ℕ) (past left : ℕ → Image → Type 0) (entered ended : ℕ) (before now : Option Image) (session : Session) (state : State) (store : StoreState) (block : Block) (refusals : List RefusedBlock) : Type 0 where
  pub writes : Writes limit past left entered ended before now [] (BodyStored (hash_of_header block.header) block) store (store_with block store)
  pub settled : IsSettled (store_with block store)
  pub replies : map refusal_reply refusals ≡ (forward (with_block state block)).replies
  pub stands : Stands limit now (left ended) session (move_with (with_block state block) []).state (store_with block store)
