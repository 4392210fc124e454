-- Where the coins of batches lie in the file of their log, and what stands there.
use Rattle.std.specs.Prelude.{ℕ, ◌+◌, List, [], ◌∷◌, length, take, drop, Option, Some, None, option_map, nat_lt, ◌==◌, if◌then◌else◌}
use Rattle.std.specs.FinMap.{FinMap, empty, insert, remove, entries}
use Rattle.base_types.specs.Coins.{Coins}
use Rattle.base_types.specs.Keys.{outpoint_cmp}
use Rattle.base_types.specs.declared.coin.Coin.{Coin}
use Rattle.base_types.specs.declared.hash.OutPoint.{OutPoint}
use Rattle.base_types.specs.Obfuscation.{obfuscated}
use Rattle.coin_store.specs.Batches.{Row, Batch, value_text, head_text, row_text, marker_text, batch_text}
use Rattle.coin_store.specs.Reading.{◌>>=◌, value_of}
use Rattle.coin_store.specs.declared.places.CoinPlace.{CoinPlace}

-- a map in which a key has this value, or none
abbrev pub put : {V : Type 0} → FinMap outpoint_cmp V → OutPoint → Option V → FinMap outpoint_cmp V
put map key (Some value) = insert map key value
put map key None = remove map key

-- ---- coins

-- a later row overrules an earlier one
abbrev pub coins_after_rows : Coins → List Row → Coins
coins_after_rows coins [] = coins
coins_after_rows coins (row ∷ rows) = coins_after_rows (put coins row.key row.coin) rows

abbrev pub coins_after : Coins → List Batch → Coins
coins_after coins [] = coins
coins_after coins (batch ∷ batches) = coins_after (coins_after_rows coins batch.rows) batches

-- ---- their places

abbrev pub CoinPlaces : Type 0
CoinPlaces = FinMap outpoint_cmp CoinPlace

-- the place of a row's coin, if it has one; the row stands at an offset of the payload whose gate is at another of the file
abbrev pub place_of : ℕ → ℕ → ℕ → Row → Option CoinPlace
place_of file gate offset row =
    option_map
    (λ coin. record {
      file = file;
      gate = gate;
      at = gate + 5 + offset + length (head_text row.key (length (value_text row.coin)));
      len = length (value_text row.coin);
    })
    row.coin

abbrev pub places_after_rows : ℕ → List ℕ → ℕ → ℕ → CoinPlaces → List Row → CoinPlaces
places_after_rows file mask gate offset places [] = places
places_after_rows file mask gate offset places (row ∷ rows) =
    places_after_rows file mask gate (offset + length (row_text mask row)) (put places row.key (place_of file gate offset row)) rows

abbrev pub places_after_batch : ℕ → List ℕ → ℕ → CoinPlaces → Batch → CoinPlaces
places_after_batch file mask gate places batch = places_after_rows file mask gate (length (marker_text batch.marker)) places batch.rows

-- the places after batches, the first of which has its gate there
abbrev pub places_after : ℕ → List ℕ → ℕ → CoinPlaces → List Batch → CoinPlaces
places_after file mask gate places [] = places
places_after file mask gate places (batch ∷ batches) =
    places_after file mask (gate + (5 + length (batch_text mask batch))) (places_after_batch file mask gate places batch) batches

-- room that was made for a place has no bytes
abbrev pub live : Option CoinPlace → Option CoinPlace
live None = None
live (Some place) = if place.len == 0 then None else Some place

-- ---- what stands at a place

-- the bytes at a place
abbrev pub bytes_there : (ℕ → List ℕ) → CoinPlace → List ℕ
bytes_there image place = take place.len (drop place.at (image place.file))

-- the coin that the bytes at a place mean, if they are all there and mean one
abbrev pub coin_there : List ℕ → (ℕ → List ℕ) → CoinPlace → Option Coin
coin_there mask image place =
    if nat_lt (length (bytes_there image place)) place.len then None else
    value_of (obfuscated mask 0 (bytes_there image place)) >>= λ coin. coin

abbrev pub coins_of : List ℕ → (ℕ → List ℕ) → List (OutPoint × CoinPlace) → Coins
coins_of mask image [] = empty
coins_of mask image (entry ∷ rest) = put (coins_of mask image rest) entry.0 (coin_there mask image entry.1)

-- the coins that the bytes at the places mean
abbrev pub coins_at_places : List ℕ → (ℕ → List ℕ) → CoinPlaces → Coins
coins_at_places mask image places = coins_of mask image (entries places)
