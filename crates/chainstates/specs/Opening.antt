-- What opening a store finds.
use Rattle.std.specs.Prelude.{⊤, ◌≡◌, ◌⊎◌, ℕ, List, [], Option, None, Ok, Err}
use Rattle.std.specs.FinMap.{empty}
use Rattle.disk_model.specs.Disk.{Image, Rose}
use Rattle.batch_log.specs.Records.{log}
use Rattle.base_types.specs.declared.fault.StoreFault.{StoreFault}
use Rattle.base_types.specs.declared.fault.StoreFault.TheVariants.{NoMemory, DiskFailed, Damaged, Full, CacheFull}
use Rattle.block_codec.specs.Genesis.{genesis_hash}
use Rattle.block_store.specs.OpenStore as blocks
use Rattle.block_store.specs.OpenStore.{OpenStore, Payloads}
use Rattle.coin_store.specs.Batches.{Batch}
use Rattle.batch_log.specs.Reading.{WhereDamaged}
use Rattle.coin_store.specs.Store as coins
use Rattle.coin_store.specs.Store.{DamagedAs, texts}
use Rattle.coin_store.specs.declared.kind.Kind.TheVariants.{Coins}
use Rattle.coin_store.specs.declared.marker.Marker.TheVariants.{At}
use Rattle.coin_store.specs.declared.store.CoinStore.{CoinStore}
use Rattle.chain_model.specs.Tree.{Tree}
use Rattle.store_state.specs.Breaks.{IsBroken}
use Rattle.store_state.specs.Roles.{Alone}
use Rattle.store_state.specs.State.{◌>>=◌, Read, StoreState, StoredBody, chainstate_of, header_file, body_file, coin_file, first_key, first_rules}
use Rattle.chainstates.specs.Reading.{tree_in, bodies_in, batches_in, IsRefused}

-- three logs stand for the same payloads as before
pub record SameLogs (old new : Image) : Type 0 where
  pub headers : log (new header_file) ≡ log (old header_file)
  pub bodies : log (new body_file) ≡ log (old body_file)
  pub coins : log (new coin_file) ≡ log (old coin_file)

-- the file of coins is open: the log that was there, as it knows it
pub record HasOpenedCoins (before : Image) (contents : Option Image) (images : Image → Type 0) (open_coins : CoinStore) : Type 0 where
  pub batches : List Batch
  pub rows : log (before coin_file) ≡ Ok (texts first_key batches)
  pub coin_rows : coins.Holds contents images open_coins [] batches
  pub file : open_coins.log.file ≡ coin_file
  pub mask : open_coins.mask ≡ first_key
  pub no_base : open_coins.base ≡ None
  pub start : open_coins.start ≡ At genesis_hash

-- and so are those of headers and bodies
pub record HasOpened (before : Image) (contents : Option Image) (images : Image → Type 0) (open_blocks : OpenStore) (open_coins : CoinStore) : Type 0 where
  pub payloads : Payloads
  pub headers : log (before header_file) ≡ Ok payloads.headers
  pub bodies : log (before body_file) ≡ Ok payloads.bodies
  pub block_files : blocks.Holds contents images open_blocks payloads
  pub rows : HasOpenedCoins before contents images open_coins

-- a store of these headers, bodies and batches of coins
abbrev pub store_of : Tree → List StoredBody → List Batch → StoreState
store_of tree bodies batches = record { tree = tree; bodies = bodies; active = chainstate_of genesis_hash empty batches; role = Alone }

-- what these payloads and batches stand for
abbrev pub store_in : ℕ → Payloads → List Batch → Read StoreState
store_in limit payloads batches =
    tree_in limit payloads.headers >>= λ tree.
    bodies_in tree payloads.bodies >>= λ bodies.
    batches_in tree bodies (texts first_key batches) >>= λ all.
    Ok (store_of tree bodies all)

-- where damage is answered, a header of that record is refused, or the reading of what the logs stand for stops there
abbrev pub StopsIn : ℕ → Payloads → List Batch → StoreFault → Type 0
StopsIn limit payloads batches fault = WhereDamaged
    (λ file at. ((file ≡ header_file) × IsRefused limit payloads.headers at) ⊎ (store_in limit payloads batches ≡ Err (record { file = file; at = at })))
    fault

-- where damage is answered, it is of a file of coins of these bytes
abbrev pub IsCoinDamage : List ℕ → StoreFault → Type 0
IsCoinDamage bytes fault = WhereDamaged (λ file at. (file ≡ coin_file) × DamagedAs Coins first_key bytes at) fault

-- where damage is answered, that place of the image is broken
abbrev pub BreaksIn : ℕ → Image → StoreFault → Type 0
BreaksIn limit image fault = WhereDamaged (λ file at. IsBroken limit first_rules image (record { file = file; at = at })) fault

-- why a store may not be opened
abbrev pub OpenFault : ℕ → ℕ → StoreFault → Type 0
OpenFault before now NoMemory = ⊤
OpenFault before now DiskFailed = Rose before now
OpenFault before now (Damaged file at) = (file ≡ header_file) ⊎ (file ≡ body_file) ⊎ (file ≡ coin_file)
OpenFault before now (Full file) = ⊥
OpenFault before now CacheFull = ⊥
