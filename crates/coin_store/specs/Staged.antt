-- The rows of a payload that is to come, and the room in the index for the places of their coins.
use Rattle.std.specs.Prelude.{◌≡◌, ℕ, ◌+◌, ◌-◌, ◌^◌, ◌<◌, ◌≤◌, IsSome, List, [], ◌∷◌, length}
use Rattle.std.specs.FinMap.{get, insert}
use Rattle.base_types.specs.declared.hash.OutPoint.{OutPoint}
use Rattle.coin_store.specs.Batches.{Row, value_text, head_text, row_text}
use Rattle.coin_store.specs.Places.{CoinPlaces, live}
use Rattle.coin_store.specs.declared.staging.StagedRow.{StagedRow}

-- the bytes before the staged rows: 4 for the length of their payload in its record, and 65, in which the text of each
-- marker fits
abbrev pub front_len : ℕ
front_len = 69

-- there is an entry for an outpoint, with a place or with room for one
abbrev pub HasEntry : CoinPlaces → OutPoint → Type 0
HasEntry index key = IsSome (get index key)

-- two indexes have the same places
abbrev pub SameLive : CoinPlaces → CoinPlaces → Type 0
SameLive old new = (q : OutPoint) → live (get new q) ≡ live (get old q)

-- the places of an index are these
abbrev pub Agrees : CoinPlaces → CoinPlaces → Type 0
Agrees index places = (q : OutPoint) → live (get index q) ≡ get places q

-- no entry was lost
abbrev pub KeepsEntries : CoinPlaces → CoinPlaces → Type 0
KeepsEntries old new = (q : OutPoint) → HasEntry old q → HasEntry new q

-- the outpoints of rows, the first of which begins at this offset, and where the bytes of their coins stand
abbrev pub coins_in_rows : List ℕ → ℕ → List Row → List StagedRow
coins_in_rows mask offset [] = []
coins_in_rows mask offset (row ∷ rows) =
    record {
      key = row.key;
      at = offset + length (head_text row.key (length (value_text row.coin)));
      len = length (value_text row.coin);
    }
    ∷ coins_in_rows mask (offset + length (row_text mask row)) rows

-- the places with those of these rows, which stand in the payload of that gate from a byte of the staged ones on
abbrev pub places_noted : ℕ → ℕ → ℕ → CoinPlaces → List StagedRow → CoinPlaces
places_noted file gate from places [] = places
places_noted file gate from places (row ∷ rows) =
    places_noted file gate from (insert places row.key (record { file = file; gate = gate; at = gate + 5 + (row.at - from); len = row.len })) rows

-- the coin of a row stands in that record, whose payload begins at a byte of the staged ones
abbrev pub StandsFrom : ℕ → ℕ → StagedRow → Type 0
StandsFrom gate from row = (from ≤ row.at) × (gate + (5 + (row.at - from)) < 2 ^ 64) × (row.len < 2 ^ 32)
