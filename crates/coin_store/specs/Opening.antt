-- What is read of the logs of a store as it is opened.
use Rattle.std.specs.Prelude.{◌≡◌, ℕ, List, [], ◌∷◌, Option, Some, None}
use Rattle.std.specs.List.{AllByRecursion}
use Rattle.disk_model.specs.Disk.{Image}
use Rattle.base_types.specs.declared.fault.StoreFault.{StoreFault}
use Rattle.coin_store.specs.declared.kind.Kind.{Kind}
use Rattle.coin_store.specs.declared.kind.Kind.TheVariants.{Base, Coins}
use Rattle.coin_store.specs.declared.marker.Marker.{Marker}
use Rattle.coin_store.specs.declared.store.Marked.{Marked}
use Rattle.coin_store.specs.Base.{BaseFits, base_texts, places_after_base}
use Rattle.coin_store.specs.Batches.{Row, Batch, BatchFits}
use Rattle.batch_log.specs.Reading.{WhereDamaged}
use Rattle.coin_store.specs.Places.{CoinPlaces, places_after}
use Rattle.coin_store.specs.Store.{marks, texts, FirstBrokenAs, DamagedAs}

-- the payloads are batches of these markers, and the places are those after them
pub record HasBatches (file : ℕ) (mask : List ℕ) (payloads : List (List ℕ)) (old new : CoinPlaces) (markers : List Marked) : Type 0 where
  pub batches : List Batch
  pub fits : AllByRecursion BatchFits batches
  pub is : payloads ≡ texts mask batches
  pub marked : markers ≡ marks mask 0 batches
  pub places : new ≡ places_after file mask 0 old batches

-- the payloads are a base, and the places are those after it
pub record HasBase (file : ℕ) (mask : List ℕ) (payloads : List (List ℕ)) (old new : CoinPlaces) : Type 0 where
  pub base : List (List Row)
  pub fits : AllByRecursion BaseFits base
  pub is : payloads ≡ base_texts mask base
  pub places : new ≡ places_after_base file mask 0 old base

-- what is read of payloads of this kind, and their markers
abbrev pub HasPayloads : Kind → ℕ → List ℕ → List (List ℕ) → CoinPlaces → CoinPlaces → List Marked → Type 0
HasPayloads Base file mask payloads old new markers = HasBase file mask payloads old new
HasPayloads Coins file mask payloads old new markers = HasBatches file mask payloads old new markers

-- a marker with the offset of its gate, if there is one
abbrev pub marked_at : Option Marker → ℕ → List Marked
marked_at None at = []
marked_at (Some marker) at = record { marker = marker; at = at } ∷ []

-- where damage is answered, the first of the payloads that isn't of this kind has that gate
abbrev pub IsDamagedAt : Kind → List ℕ → List (List ℕ) → StoreFault → Type 0
IsDamagedAt kind mask payloads fault = WhereDamaged (λ file at. FirstBrokenAs kind mask payloads at) fault

-- where damage is answered, it is of these bytes
abbrev pub LogDamage : Kind → List ℕ → List ℕ → StoreFault → Type 0
LogDamage kind mask bytes fault = WhereDamaged (λ file at. DamagedAs kind mask bytes at) fault

-- where damage is answered, it is of the base file
abbrev pub BaseDamage : List ℕ → Option ℕ → Image → StoreFault → Type 0
BaseDamage mask base_file m fault = WhereDamaged (λ file at. (base_file ≡ Some file) × DamagedAs Base mask (m file) at) fault
