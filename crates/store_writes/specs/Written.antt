-- What storing a piece of a store promises, as a call with one event.
use Rattle.std.specs.Prelude.{⊤, ◌≡◌, ℕ, ◌+◌, ◌*◌, ◌≤◌, List, [], ◌∷◌, ◌++◌, Option, Some}
use Rattle.disk_model.specs.Disk.{Image, Rose}
use Rattle.base_types.specs.declared.fault.StoreFault.{StoreFault}
use Rattle.base_types.specs.declared.fault.StoreFault.TheVariants.{NoMemory, DiskFailed, Damaged, Full, CacheFull}
use Rattle.base_types.specs.declared.flushes.Flushed.{Flushed}
use Rattle.base_types.specs.declared.hash.Hash32.{Hash32}
use Rattle.batch_log.specs.OpenLog.{IsOver, OpenLog, SameFile}
use Rattle.block_codec.specs.declared.block.Block.{Block}
use Rattle.block_store.specs.Bodies.{body_text}
use Rattle.block_store.specs.OpenStore.{OpenStore}
use Rattle.coin_store.specs.Batches.{Row}
use Rattle.coin_store.specs.Places.{coins_after_rows}
use Rattle.coin_store.specs.declared.marker.Marker.TheVariants.{At}
use Rattle.chain_model.specs.Tree.{Tree}
use Rattle.machine.specs.Calls.{Call, IsCall, IsWhole}
use Rattle.machine.specs.State.{Event}
use Rattle.store_state.specs.State.{StoreState, StoredBody, first_rules}

abbrev pub events_call : ℕ → ℕ → Image → Image → List Flushed → List Event → Call
events_call entered ended contents after flushes events = record { entered = entered; ended = ended; contents = contents; after = after; flushes = flushes; events = events }

abbrev pub event_call : ℕ → ℕ → Image → Image → List Flushed → Event → Call
event_call entered ended contents after flushes event = events_call entered ended contents after flushes (event ∷ [])

-- all these events are in each image, and the disk tells one of them
pub record WritesAll (limit : ℕ) (past left : ℕ → Image → Type 0) (entered ended : ℕ) (before now : Option Image) (flushes : List Flushed) (events : List Event) (from on : StoreState) : Type 0 where
  pub contents : Image
  pub was : before ≡ Some contents
  pub after : Image
  pub told : now ≡ Some after
  pub whole : IsWhole limit first_rules past left (events_call entered ended contents after flushes events) from on

-- a first part of these events may be in an image
pub record WritesSome (limit : ℕ) (past left : ℕ → Image → Type 0) (entered ended : ℕ) (before now : Option Image) (flushes : List Flushed) (events : List Event) (from : StoreState) : Type 0 where
  pub contents : Image
  pub was : before ≡ Some contents
  pub after : Image
  pub told : now ≡ Some after
  pub meets : IsCall limit first_rules past left (events_call entered ended contents after flushes events) from

-- the event is in each image
abbrev pub Writes : ℕ → (ℕ → Image → Type 0) → (ℕ → Image → Type 0) → ℕ → ℕ → Option Image → Option Image → List Flushed → Event → StoreState → StoreState → Type 0
Writes limit past left entered ended before now flushes event from on = WritesAll limit past left entered ended before now flushes (event ∷ []) from on

-- the event may be in an image or not
abbrev pub WritesPart : ℕ → (ℕ → Image → Type 0) → (ℕ → Image → Type 0) → ℕ → ℕ → Option Image → Option Image → List Flushed → Event → StoreState → Type 0
WritesPart limit past left entered ended before now flushes event from = WritesSome limit past left entered ended before now flushes (event ∷ []) from

-- ---- the store with a piece more

abbrev pub with_tree : Tree → StoreState → StoreState
with_tree tree store = record store { tree = tree }

-- a block as its body is stored
abbrev pub body_as_stored : Hash32 → Block → StoredBody
body_as_stored hash block = record { hash = hash; payload = body_text hash block }

abbrev pub with_stored : StoredBody → StoreState → StoreState
with_stored body store = record store { bodies = store.bodies ++ body ∷ [] }

-- rows and a marker `At` a tip
abbrev pub flushed_to : Hash32 → List Row → StoreState → StoreState
flushed_to tip rows store = record store { active = record store.active { marker = At tip; coins = coins_after_rows store.active.coins rows } }

-- the same files with the same limits
pub record SameFiles (old new : OpenStore) : Type 0 where
  pub headers : SameFile old.headers new.headers
  pub bodies : SameFile old.bodies new.bodies

-- ---- why headers may not be stored

-- `Full` where a payload of some of them would let their file grow beyond its limit
abbrev pub HeadersCause : OpenLog → ℕ → ℕ → StoreFault → Type 0
HeadersCause log before now NoMemory = ⊤
HeadersCause log before now DiskFailed = Rose before now
HeadersCause log before now (Full file) = (file ≡ log.file) × ((count : ℕ) × (1 ≤ count) × (count ≤ 1000) × IsOver log (5 + 80 * count))
HeadersCause log before now (Damaged file at) = ⊥
HeadersCause log before now CacheFull = ⊥

-- ---- why a flush may not be made

abbrev pub FlushCause : ℕ → ℕ → StoreFault → Type 0
FlushCause before now NoMemory = ⊤
FlushCause before now DiskFailed = Rose before now
FlushCause before now (Damaged file at) = ⊥
FlushCause before now (Full file) = ⊥
FlushCause before now CacheFull = ⊥
