-- What a store keeps for the payloads that are to come.
use Rattle.std.specs.Prelude.{◌≡◌, ℕ, ◌+◌, ◌^◌, ◌<◌, ◌≤◌, All, Contains, List, ◌++◌, length, drop, vec_len, vec_capacity}
use Rattle.std.specs.List.{AllByRecursion}
use Rattle.base_types.specs.declared.hash.OutPoint.{OutPoint}
use Rattle.batch_log.specs.OpenLog.{Unchanged, HasRoomInPlace}
use Rattle.coin_store.specs.declared.marker.Marker.{Marker}
use Rattle.coin_store.specs.declared.store.CoinStore.{CoinStore}
use Rattle.coin_store.specs.Batches.{Row, rows_text, marker_text, batch_text, RowFits}
use Rattle.coin_store.specs.OpenIndex.{HasFewVacant}
use Rattle.coin_store.specs.Staged.{HasEntry, SameLive, front_len, coins_in_rows}

-- There is room for so many payloads, each of at most `payload` bytes, that let the file grow by at most `total` bytes
-- together and whose rows name only these outpoints. These rows are staged for the first of them, behind the room for
-- what stands before them in its record. But for these outpoints, at most half of the index's entries have no coin.
pub record IsStaged (store : CoinStore) (keys : List OutPoint) (payload payloads total : ℕ) (rows : List Row) : Type 0 where
  pub entries : All (HasEntry store.index.places) keys
  pub few_vacant : HasFewVacant store.index keys
  pub named : AllByRecursion (λ row. Contains keys row.key) rows
  pub fit : AllByRecursion RowFits rows
  pub front : front_len ≤ length store.staged.bytes.items
  pub text : drop front_len store.staged.bytes.items ≡ rows_text store.mask rows
  pub coins : store.staged.rows.items ≡ coins_in_rows store.mask front_len rows
  pub bytes : front_len + payload ≤ store.staged.room
  pub short : payload < 2 ^ 32
  pub marked : vec_len store.markers + payloads ≤ vec_capacity store.markers
  pub room : HasRoomInPlace store.log payloads total

-- the payload of this marker and the staged rows
abbrev pub staged_text : CoinStore → Marker → List ℕ
staged_text store marker = marker_text marker ++ drop front_len store.staged.bytes.items

-- the payload of this marker and the staged rows fits in the prepared bytes and in the room that is left
pub record IsReady (store : CoinStore) (marker : Marker) : Type 0 where
  pub keys : List OutPoint
  pub payload : ℕ
  pub payloads : ℕ
  pub total : ℕ
  pub rows : List Row
  pub staged : IsStaged store keys payload (1 + payloads) (5 + length (batch_text store.mask (record { marker = marker; rows = rows })) + total) rows
  pub fits : length (batch_text store.mask (record { marker = marker; rows = rows })) ≤ payload

-- the same files and limit, the same covering, the same start and the same salt
pub record SameStore (old new : CoinStore) : Type 0 where
  pub file : new.log.file ≡ old.log.file
  pub base : new.base ≡ old.base
  pub limit : new.log.limit ≡ old.log.limit
  pub mask : new.mask ≡ old.mask
  pub start : new.start ≡ old.start
  pub salt : new.index.salt ≡ old.index.salt

-- and the same markers and places: no batch was added, and no room was lost
pub record SameRows (old new : CoinStore) : Type 0 where
  pub log : Unchanged old.log new.log
  pub base : new.base ≡ old.base
  pub mask : new.mask ≡ old.mask
  pub start : new.start ≡ old.start
  pub salt : new.index.salt ≡ old.index.salt
  pub base_index : new.base_index ≡ old.base_index
  pub markers : new.markers.items ≡ old.markers.items
  pub places : SameLive old.index.places new.index.places
