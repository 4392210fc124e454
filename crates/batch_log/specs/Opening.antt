-- What is read of a log as it is opened.
use Rattle.std.specs.Prelude.{◌≡◌, ◌≢◌, ⊤, ℕ, ◌<◌, ◌≤◌, List, ◌∷◌, length, take, Err}
use Rattle.std.specs.Int.{to_le_bytes, w32}
use Rattle.disk_model.specs.Disk.{Rose}
use Rattle.base_types.specs.declared.fault.StoreFault.{StoreFault}
use Rattle.base_types.specs.declared.fault.StoreFault.TheVariants.{NoMemory, DiskFailed, Damaged, Full, CacheFull}
use Rattle.batch_log.specs.Records.{length_at, log, records, AllFit, EndsClosed}
use Rattle.batch_log.specs.OpenLog.{places_of}
use Rattle.batch_log.specs.declared.places.Place.{Place}
use Rattle.batch_log.specs.declared.gates.Head.{Head}
use Rattle.batch_log.specs.declared.gates.Head.TheVariants.{Closed, Open, Short}

-- what stands at a gate
abbrev pub IsHead : List ℕ → Head → Type 0
IsHead bytes Closed = (gate : ℕ) × (rest : List ℕ) × (gate ≢ 1) × (bytes ≡ gate ∷ rest)
IsHead bytes (Open n) = (rest : List ℕ) × (bytes ≡ 1 ∷ rest) × (4 ≤ length rest) × (n ≡ length_at rest) × (to_le_bytes w32 n ≡ take 4 rest)
IsHead bytes Short = (rest : List ℕ) × (bytes ≡ 1 ∷ rest) × (length rest < 4)

-- the records before a gate are those of these places
pub record IsReadTo (bytes : List ℕ) (seen : List Place) (offset : ℕ) : Type 0 where
  pub payloads : List (List ℕ)
  pub fit : AllFit payloads
  pub places : seen ≡ places_of 0 payloads
  pub at : offset ≡ length (records payloads)
  pub front : take offset bytes ≡ records payloads
  pub within : offset < length bytes

-- what the places and the end say of the bytes
pub record IsWholly (bytes : List ℕ) (seen : List Place) (offset : ℕ) : Type 0 where
  pub payloads : List (List ℕ)
  pub closed : EndsClosed payloads bytes
  pub places : seen ≡ places_of 0 payloads
  pub end : offset ≡ length (records payloads)

-- why a log may not be opened
abbrev pub OpenCause : ℕ → ℕ → ℕ → StoreFault → Type 0
OpenCause file before now NoMemory = ⊤
OpenCause file before now DiskFailed = Rose before now
OpenCause file before now (Damaged f at) = f ≡ file
OpenCause file before now (Full f) = ⊥
OpenCause file before now CacheFull = ⊥

-- where damage is answered, it is of these bytes
abbrev pub DamageIn : List ℕ → StoreFault → Type 0
DamageIn bytes (Damaged f at) = log bytes ≡ Err at
DamageIn bytes NoMemory = ⊤
DamageIn bytes DiskFailed = ⊤
DamageIn bytes (Full f) = ⊤
DamageIn bytes CacheFull = ⊤
