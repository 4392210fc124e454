-- What the readers of batches return.
use Rattle.std.specs.Prelude.{◌≡◌, ℕ, ◌+◌, Bool, List, ◌++◌, length, drop, Option, Some, None, IsSomeAnd}
use Rattle.std.specs.List.{list_all, AllByRecursion}
use Rattle.std.specs.Result.{result_ok}
use Rattle.base_types.specs.Reading.{bytes_at}
use Rattle.base_types.specs.declared.coin.Coin.{Coin}
use Rattle.base_types.specs.declared.hash.Hash32.{Hash32}
use Rattle.coin_store.specs.declared.kind.Kind.{Kind}
use Rattle.coin_store.specs.declared.kind.Kind.TheVariants.{Base, Coins}
use Rattle.coin_store.specs.declared.marker.Marker.{Marker}
use Rattle.coin_store.specs.declared.row.RowHead.{RowHead}
use Rattle.coin_store.specs.Base.{has_coin, BaseFits, base_of}
use Rattle.coin_store.specs.Batches.{Row, Batch, ValueFits, RowFits, rows_text, value_text, head_text, batch_text, BatchFits}
use Rattle.coin_store.specs.Places.{CoinPlaces, put, place_of, places_after_rows, places_after_batch}
use Rattle.coin_store.specs.Reading.{marker_of, batch_of}

abbrev pub IsHash : List ℕ → List ℕ → Option Hash32 → Type 0
IsHash old new None = result_ok (bytes_at 32 old) ≡ None
IsHash old new (Some hash) = result_ok (bytes_at 32 old) ≡ Some (hash.bytes, new)

abbrev pub IsMarker : List ℕ → List ℕ → Option Marker → Type 0
IsMarker old new None = marker_of old ≡ None
IsMarker old new (Some marker) = marker_of old ≡ Some (marker, new)

-- the places with that of the row's coin
abbrev pub NotesRow : ℕ → ℕ → ℕ → RowHead → CoinPlaces → CoinPlaces → Type 0
NotesRow file gate offset row old new =
    (coin : Option Coin) → ValueFits coin → row.len ≡ length (value_text coin) → row.from ≡ length (head_text row.key row.len)
    → new ≡ put old row.key (place_of file gate offset (record { key = row.key; coin = coin }))

-- the payload is a batch of this marker, and the places are those after it
pub record HasBatch (file gate : ℕ) (mask payload : List ℕ) (old new : CoinPlaces) (marker : Marker) : Type 0 where
  pub batch : Batch
  pub is : payload ≡ batch_text mask batch
  pub fits : BatchFits batch
  pub marked : batch.marker ≡ marker
  pub places : new ≡ places_after_batch file mask gate old batch

-- the payload is rows, each with a coin, and the places are those after them
pub record HasBaseRows (file gate : ℕ) (mask payload : List ℕ) (old new : CoinPlaces) : Type 0 where
  pub rows : List Row
  pub is : payload ≡ rows_text mask rows
  pub fits : BaseFits rows
  pub places : new ≡ places_after_rows file mask gate 0 old rows

-- what is read of a payload of this kind, and its marker, if it has one
abbrev pub HasPayload : Kind → ℕ → ℕ → List ℕ → List ℕ → CoinPlaces → CoinPlaces → Option Marker → Type 0
HasPayload Base file gate mask payload old new marker = HasBaseRows file gate mask payload old new × (marker ≡ None)
HasPayload Coins file gate mask payload old new marker = IsSomeAnd marker (HasBatch file gate mask payload old new)

-- the bytes are no payload of this kind
abbrev pub IsNoPayload : Kind → List ℕ → List ℕ → Type 0
IsNoPayload Base mask payload = base_of mask payload ≡ None
IsNoPayload Coins mask payload = batch_of mask payload ≡ None

-- the bytes, which stand at an offset of the payload, are rows, the places are those after them, and `coins` tells whether
-- each has a coin
pub record HasRows (file gate offset : ℕ) (mask bytes : List ℕ) (old new : CoinPlaces) (coins : Bool) : Type 0 where
  pub rows : List Row
  pub is : bytes ≡ rows_text mask rows
  pub fit : AllByRecursion RowFits rows
  pub places : new ≡ places_after_rows file mask gate offset old rows
  pub each : coins ≡ list_all has_coin rows

-- the bytes from one offset of the payload to another are such rows
pub record IsReadTo (file gate : ℕ) (mask payload : List ℕ) (start at : ℕ) (old new : CoinPlaces) (coins : Bool) : Type 0 where
  pub rows : List Row
  pub fit : AllByRecursion RowFits rows
  pub parts : drop start payload ≡ rows_text mask rows ++ drop at payload
  pub reach : at ≡ start + length (rows_text mask rows)
  pub places : new ≡ places_after_rows file mask gate start old rows
  pub each : coins ≡ list_all has_coin rows
