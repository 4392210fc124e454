-- What an open store of coins says of its files.
use Rattle.std.specs.Prelude.{⊤, ◌≡◌, ◌≢◌, ◌⊎◌, ℕ, ◌+◌, List, [], ◌∷◌, ◌++◌, length, map, Option, Some, None, Ok, Err}
use Rattle.std.specs.FinMap.{get}
use Rattle.std.specs.List.{AllByRecursion}
use Rattle.disk_model.specs.Disk.{Image, Rose}
use Rattle.base_types.specs.declared.fault.StoreFault.{StoreFault}
use Rattle.base_types.specs.declared.fault.StoreFault.TheVariants.{NoMemory, DiskFailed, Damaged, Full, CacheFull}
use Rattle.base_types.specs.declared.hash.Hash32.{Hash32}
use Rattle.base_types.specs.declared.hash.OutPoint.{OutPoint}
use Rattle.base_types.specs.declared.program.Salt.{Salt}
use Rattle.batch_log.specs.OpenLog.{Stands}
use Rattle.batch_log.specs.Records.{records, log, HoldsLog}
use Rattle.coin_store.specs.declared.kind.Kind.{Kind}
use Rattle.coin_store.specs.declared.kind.Kind.TheVariants.{Base, Coins}
use Rattle.coin_store.specs.declared.marker.Marker.{Marker}
use Rattle.coin_store.specs.declared.marker.Marker.TheVariants.{At}
use Rattle.coin_store.specs.declared.store.CoinStore.{CoinStore}
use Rattle.coin_store.specs.declared.store.Marked.{Marked}
use Rattle.coin_store.specs.Base.{BaseFits, base_of, base_texts, base_places as places_in_base, IsBase}
use Rattle.coin_store.specs.Batches.{Row, Batch, rows_text, batch_text, BatchFits}
use Rattle.batch_log.specs.Reading.{WhereDamaged}
use Rattle.coin_store.specs.Places.{places_after, live}
use Rattle.coin_store.specs.Reading.{batch_of}

-- the markers of batches, with the gates of their records, the first at this offset
abbrev pub marks : List ℕ → ℕ → List Batch → List Marked
marks mask gate [] = []
marks mask gate (batch ∷ batches) = record { marker = batch.marker; at = gate } ∷ marks mask (gate + (5 + length (batch_text mask batch))) batches

-- the marker of the last batch, or the start where there is none
abbrev pub marker_after : Marker → List Batch → Marker
marker_after start [] = start
marker_after start (batch ∷ batches) = marker_after batch.marker batches

-- the last of these markers, or the start where there is none
abbrev pub last_marker : Marker → List Marked → Marker
last_marker start [] = start
last_marker start (marked ∷ others) = last_marker marked.marker others

-- a marker and the offset of its gate
abbrev pub as_pair : Marked → Marker × ℕ
as_pair marked = (marked.marker, marked.at)

abbrev pub texts : List ℕ → List Batch → List (List ℕ)
texts mask batches = map (batch_text mask) batches

-- the store has the markers of these batches, where the next would stand, the places of the base's coins, and these with
-- those of the batches
pub record Knows (store : CoinStore) (base : List (List Row)) (batches : List Batch) : Type 0 where
  pub base_fits : AllByRecursion BaseFits base
  pub base_none : store.base ≡ None → base ≡ []
  pub fits : AllByRecursion BatchFits batches
  pub markers : store.markers.items ≡ marks store.mask 0 batches
  pub base_places : store.base_index.places ≡ places_in_base store.base store.mask base
  pub end : store.log.end ≡ length (records (texts store.mask batches))
  pub places : (q : OutPoint) → live (get store.index.places q) ≡ get (places_after store.log.file store.mask 0 (places_in_base store.base store.mask base) batches) q

-- and they are those of its two files as these read and after each crash
pub record Holds (contents : Option Image) (left : Image → Type 0) (store : CoinStore) (base : List (List Row)) (batches : List Batch) : Type 0 where
  pub knows : Knows store base batches
  pub stands : Stands contents left store.log (texts store.mask batches)
  pub base_stands : (file : ℕ) → store.base ≡ Some file → HoldsLog contents left file (base_texts store.mask base)
  pub apart : store.base ≢ Some store.log.file

-- a store is opened: it has the rows of the base and the batches that the logs of its two files had
pub record OpensAs (coin_file : ℕ) (base_file : Option ℕ) (mask : List ℕ) (before : Image) (contents : Option Image) (left : Image → Type 0) (store : CoinStore) : Type 0 where
  pub base : List (List Row)
  pub batches : List Batch
  pub base_log : IsBase mask base_file before base
  pub coin_log : log (before coin_file) ≡ Ok (texts mask batches)
  pub holds : base_file ≢ Some coin_file → Holds contents left store base batches

-- what the store was opened with
pub record IsOpened (file : ℕ) (base : Option ℕ) (limit : ℕ) (mask : List ℕ) (start : Hash32) (salt : Salt) (store : CoinStore) : Type 0 where
  pub file_is : store.log.file ≡ file
  pub base_is : store.base ≡ base
  pub limit_is : store.log.limit ≡ limit
  pub mask_is : store.mask ≡ mask
  pub start_is : store.start ≡ At start
  pub salt_is : store.index.salt ≡ salt

-- the first payload that can't be read has its gate there; those before it are the texts of what was read
pub record FirstBroken {P : Type 0} (text : P → List ℕ) (Fits : P → Type 0) (read : List ℕ → Option P) (payloads : List (List ℕ)) (at : ℕ) : Type 0 where
  pub before : List P
  pub payload : List ℕ
  pub others : List (List ℕ)
  pub fits : AllByRecursion Fits before
  pub is : payloads ≡ map text before ++ payload ∷ others
  pub broken : read payload ≡ None
  pub gate : at ≡ length (records (map text before))

abbrev pub FirstBrokenAs : Kind → List ℕ → List (List ℕ) → ℕ → Type 0
FirstBrokenAs Base mask payloads at = FirstBroken (rows_text mask) BaseFits (base_of mask) payloads at
FirstBrokenAs Coins mask payloads at = FirstBroken (batch_text mask) BatchFits (batch_of mask) payloads at

-- the log is damaged at that gate, or its first payload that isn't of this kind begins there
abbrev pub DamagedAs : Kind → List ℕ → List ℕ → ℕ → Type 0
DamagedAs kind mask bytes at = (log bytes ≡ Err at) ⊎ ((payloads : List (List ℕ)) × (log bytes ≡ Ok payloads) × FirstBrokenAs kind mask payloads at)

-- where damage is answered, it is that of the base file, or that of the coin file where the base file has none
abbrev pub DamageIn : List ℕ → Option ℕ → ℕ → Image → StoreFault → Type 0
DamageIn mask base_file coin_file m fault = WhereDamaged
    (λ file at. ((base_file ≡ Some file) × DamagedAs Base mask (m file) at)
    ⊎ ((file ≡ coin_file) × ((base : List (List Row)) × IsBase mask base_file m base) × DamagedAs Coins mask (m coin_file) at))
    fault

-- why a record may not be read
abbrev pub RecordCause : ℕ → ℕ → ℕ → ℕ → StoreFault → Type 0
RecordCause file at before now NoMemory = ⊤
RecordCause file at before now DiskFailed = Rose before now
RecordCause file at before now (Damaged f gate) = (f ≡ file) × (gate ≡ at)
RecordCause file at before now (Full f) = ⊥
RecordCause file at before now CacheFull = ⊥
