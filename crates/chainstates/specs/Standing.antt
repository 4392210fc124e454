-- Where an open store stands.
use Rattle.std.specs.Prelude.{⊤, ◌≡◌, ℕ, [], Option, Some}
use Rattle.std.specs.FinMap.{get}
use Rattle.disk_model.specs.Disk.{Image, Rose}
use Rattle.base_types.specs.declared.coin.Coin.{Coin}
use Rattle.base_types.specs.declared.fault.StoreFault.{StoreFault}
use Rattle.base_types.specs.declared.fault.StoreFault.TheVariants.{NoMemory, DiskFailed, Damaged, Full, CacheFull}
use Rattle.base_types.specs.declared.hash.OutPoint.{OutPoint}
use Rattle.base_types.specs.declared.program.Limits.{Limits}
use Rattle.base_types.specs.declared.program.Salt.{Salt}
use Rattle.chain_state.specs.Standing.{IsStanding}
use Rattle.chainstates.specs.declared.session.Session.{Session}
use Rattle.coin_store.specs.Store.{last_marker}
use Rattle.machine.specs.Answers.{found_of}
use Rattle.machine.specs.Calls.{IsOpening, IsOpen}
use Rattle.machine.specs.declared.report.Found.{Found}
use Rattle.machine.specs.State.{State, active_coins, begins}
use Rattle.machine.specs.Steps.{asked}
use Rattle.store_state.specs.State.{StoreState, header_file, body_file, coin_file, first_rules}

-- what an open session found: the last marker of its file of coins, and its tip
abbrev pub found_in : Session → Found
found_in session = record {
  marker = last_marker session.active.store.start session.active.store.markers.items;
  tip = session.active.tip;
}

-- the store was opened: the machine begins with what the contents stand for, and that is what was found
pub record OpensSession (limit : ℕ) (past left : ℕ → Image → Type 0) (entered ended : ℕ) (contents : Image) (now : Option Image) (session : Session) : Type 0 where
  pub after : Image
  pub told : now ≡ Some after
  pub store : StoreState
  pub opening : IsOpening limit first_rules past left (record { entered = entered; ended = ended; contents = contents; after = after; flushes = []; events = [] }) store store
  pub is_open : IsOpen limit first_rules (left ended) after store
  pub stands : IsStanding limit now (left ended) session.shared session.active (begins store) store
  pub found : found_in session ≡ found_of store.active

-- what the store was opened with
pub record IsSetTo (limits : Limits) (salt : Salt) (session : Session) : Type 0 where
  pub headers : session.shared.tree.limit ≡ limits.headers
  pub header_bytes : session.shared.blocks.headers.limit ≡ limits.file_bytes
  pub body_bytes : session.shared.blocks.bodies.limit ≡ limits.file_bytes
  pub coin_bytes : session.active.store.log.limit ≡ limits.file_bytes
  pub spread : session.active.store.index.salt ≡ salt

-- what it was opened with stays
pub record KeepsSettings (old new : Session) : Type 0 where
  pub headers : new.shared.tree.limit ≡ old.shared.tree.limit
  pub header_bytes : new.shared.blocks.headers.limit ≡ old.shared.blocks.headers.limit
  pub body_bytes : new.shared.blocks.bodies.limit ≡ old.shared.blocks.bodies.limit
  pub coin_bytes : new.active.store.log.limit ≡ old.active.store.log.limit
  pub spread : new.active.store.index.salt ≡ old.active.store.index.salt

-- its files are those of a store
pub record HasStoreFiles (session : Session) : Type 0 where
  pub headers : session.shared.blocks.headers.file ≡ header_file
  pub bodies : session.shared.blocks.bodies.file ≡ body_file
  pub coins : session.active.store.log.file ≡ coin_file

-- and they stay those that were opened
pub record KeepsFiles (old new : Session) : Type 0 where
  pub headers : new.shared.blocks.headers.file ≡ old.shared.blocks.headers.file
  pub bodies : new.shared.blocks.bodies.file ≡ old.shared.blocks.bodies.file
  pub coins : new.active.store.log.file ≡ old.active.store.log.file

-- an outpoint was asked for at the tip
pub record HasAnswered (limit : ℕ) (contents : Option Image) (images : Image → Type 0) (session : Session) (state : State) (store : StoreState) (key : OutPoint) (answer : Option Coin) : Type 0 where
  pub coin : answer ≡ get (active_coins state) key
  pub stands : IsStanding limit contents images session.shared session.active (asked state key).state store

-- why a coin may not be read: its row is broken
abbrev pub CoinFails : ℕ → ℕ → StoreFault → Type 0
CoinFails before now NoMemory = ⊤
CoinFails before now DiskFailed = Rose before now
CoinFails before now (Damaged file at) = file ≡ coin_file
CoinFails before now (Full file) = ⊥
CoinFails before now CacheFull = ⊥
