-- What contracts see of an open log, and what it says of its file.
use Rattle.std.specs.Prelude.{◌≡◌, ◌⊎◌, ⊤, ℕ, ◌+◌, ◌<◌, ◌≤◌, ◌^◌, min, All, List, [], ◌∷◌, length, Option}
use Rattle.disk_model.specs.Disk.{Image, Rose}
use Rattle.base_types.specs.declared.fault.StoreFault.{StoreFault}
use Rattle.base_types.specs.declared.fault.StoreFault.TheVariants.{NoMemory, DiskFailed, Damaged, Full, CacheFull}
use Rattle.batch_log.specs.Records.{records, HoldsLog}
use Rattle.batch_log.specs.declared.places.Place.{Place}

-- the file, its limit, where the payloads lie and the closed gate after them; then what takes no memory: so many more
-- payloads, and so many bytes behind the gate of one
pub record OpenLog : Type 0 where
  pub file : ℕ
  pub limit : ℕ
  pub places : List Place
  pub end : ℕ
  pub spare : ℕ
  pub buffer : ℕ

-- where the payloads lie, the first at this offset
abbrev pub places_of : ℕ → List (List ℕ) → List Place
places_of at [] = []
places_of at (payload ∷ payloads) = record { at = at; len = length payload } ∷ places_of (at + (5 + length payload)) payloads

-- each record ends at that offset or before it
abbrev pub AllBefore : ℕ → List Place → Type 0
AllBefore end places = All (λ (p : Place). p.at + (5 + p.len) ≤ end) places

-- the log knows these payloads, whatever its file has
pub record Knows (log : OpenLog) (payloads : List (List ℕ)) : Type 0 where
  pub end : log.end ≡ length (records payloads)
  pub places : log.places ≡ places_of 0 payloads

-- the log knows these payloads, and they are its file's as it reads and after each crash
pub record Stands (contents : Option Image) (left : Image → Type 0) (log : OpenLog) (payloads : List (List ℕ)) : Type 0 where
  pub holds : HoldsLog contents left log.file payloads
  pub end : log.end ≡ length (records payloads)
  pub places : log.places ≡ places_of 0 payloads

-- the same file with the same limit
pub record SameFile (old new : OpenLog) : Type 0 where
  pub file : new.file ≡ old.file
  pub limit : new.limit ≡ old.limit

-- no payload was added, and no room was lost
pub record Unchanged (old new : OpenLog) : Type 0 where
  pub file : new.file ≡ old.file
  pub limit : new.limit ≡ old.limit
  pub places : new.places ≡ old.places
  pub end : new.end ≡ old.end
  pub spare : old.spare ≤ new.spare
  pub buffer : old.buffer ≤ new.buffer

-- with a closing gate after so many bytes more, the file would be longer than its limit
abbrev pub IsOver : OpenLog → ℕ → Type 0
IsOver log growth = log.limit < log.end + growth + 1

-- so many payloads whose records have so many bytes together fit into the file; framed by the caller, they take no memory
pub record HasRoomInPlace (log : OpenLog) (payloads total : ℕ) : Type 0 where
  pub listed : payloads ≤ log.spare
  pub fits : log.end + total + 1 ≤ log.limit

-- so many payloads whose records have so many bytes together fit into the file, and take no memory
pub record HasRoom (log : OpenLog) (payloads total : ℕ) : Type 0 where
  pub listed : payloads ≤ log.spare
  pub buffered : min total (2 ^ 32 + 4) ≤ log.buffer
  pub fits : log.end + total + 1 ≤ log.limit

-- why a payload of n bytes may not be added
abbrev pub AppendCause : OpenLog → ℕ → ℕ → ℕ → StoreFault → Type 0
AppendCause log n before now NoMemory = ⊤
AppendCause log n before now DiskFailed = Rose before now
AppendCause log n before now (Full file) = (file ≡ log.file) × (IsOver log (5 + n) ⊎ (2 ^ 32 ≤ n))
AppendCause log n before now (Damaged file at) = ⊥
AppendCause log n before now CacheFull = ⊥

-- why there may be no room for so many bytes more
abbrev pub RoomCause : OpenLog → ℕ → StoreFault → Type 0
RoomCause log total NoMemory = ⊤
RoomCause log total (Full file) = (file ≡ log.file) × IsOver log total
RoomCause log total DiskFailed = ⊥
RoomCause log total (Damaged file at) = ⊥
RoomCause log total CacheFull = ⊥
