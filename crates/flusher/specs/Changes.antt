-- The rows of a flush: one for each entry that changed.
use Rattle.std.specs.Prelude.{ℕ, ◌+◌, List, [], ◌∷◌, length, map, All, Option, Some, None}
use Rattle.std.specs.FinMap.{FinMap, get}
use Rattle.std.specs.List.Sorted.{IsPermutation}
use Rattle.std.specs.Ordering.{nat_cmp}
use Rattle.slot_pool.specs.Slots.{IsIn}
use Rattle.base_types.specs.declared.hash.OutPoint.{OutPoint}
use Rattle.coin_cache.specs.Contents.{Contents, Entry}
use Rattle.coin_cache.specs.Entries.{IsSound}
use Rattle.coin_store.specs.Batches.{Row, rows_text}
use Rattle.coin_store.specs.Staging.{IsStaged}
use Rattle.coin_store.specs.declared.store.CoinStore.{CoinStore}
use Rattle.flusher.specs.declared.changes.Named.{Named}

abbrev pub slot_of : Named → ℕ
slot_of named = named.slot

-- these slots have changed entries
abbrev pub AreFlagged : Contents → List ℕ → Type 0
AreFlagged cache slots = All (λ slot. IsIn slot cache.changes) slots

abbrev pub row_of : Entry → Row
row_of entry = record { key = entry.key; coin = entry.coin }

abbrev pub row_before : Option Entry → List Row → List Row
row_before None rows = rows
row_before (Some entry) rows = row_of entry ∷ rows

-- a row for the entry in each of these slots
abbrev pub rows_in : FinMap nat_cmp Entry → List ℕ → List Row
rows_in slots [] = []
rows_in slots (slot ∷ others) = row_before (get slots slot) (rows_in slots others)

abbrev pub keys_of : List Row → List OutPoint
keys_of rows = map (λ row. row.key) rows

-- the length of a payload of these rows `At` a tip
abbrev pub payload_length : List ℕ → List Row → ℕ
payload_length mask rows = 33 + length (rows_text mask rows)

-- there is room for one payload of these rows, and the first of them are staged
abbrev pub IsStagedFor : List ℕ → CoinStore → List Row → List Row → Type 0
IsStagedFor mask coins rows staged = IsStaged coins (keys_of rows) (payload_length mask rows) (1 + length (keys_of rows)) (5 + payload_length mask rows) staged

-- a row for each changed entry is staged, and there is room for their payload
pub record HasStaged (cache : Contents) (mask : List ℕ) (coins : CoinStore) : Type 0 where
  pub slots : List ℕ
  pub sound : IsSound cache
  pub moved : IsPermutation cache.changes slots
  pub staged : IsStagedFor mask coins (rows_in cache.slots slots) (rows_in cache.slots slots)
