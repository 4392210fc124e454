-- What is read of the two files, and why it may fail.
use Rattle.std.specs.Prelude.{◌≡◌, ◌≢◌, ⊤, ℕ, ◌+◌, ◌-◌, ◌≤◌, ◌==◌, List, length, take, drop, Option, Some, None, if◌then◌else◌}
use Rattle.std.specs.Option.{option_and_then}
use Rattle.std.specs.Result.{result_ok}
use Rattle.disk_model.specs.Disk.{Rose}
use Rattle.base_types.specs.declared.fault.StoreFault.{StoreFault}
use Rattle.base_types.specs.declared.fault.StoreFault.TheVariants.{NoMemory, DiskFailed, Damaged, Full, CacheFull}
use Rattle.batch_log.specs.Reading.{ReadCause}
use Rattle.batch_log.specs.declared.places.Place.{Place}
use Rattle.block_codec.specs.declared.block.Block.{Block}
use Rattle.block_codec.specs.Reading.{block_of}

-- the bytes of a payload from this one on, as far as the file has them
abbrev pub part_of : Place → ℕ → List ℕ → List ℕ
part_of place from bytes = take (place.len - from) (drop (place.at + 5 + from) bytes)

-- the same, where all of them are there
abbrev pub whole_part : Place → ℕ → List ℕ → Option (List ℕ)
whole_part place from bytes = if length (part_of place from bytes) == place.len - from then Some (part_of place from bytes) else None

-- the block that stands behind the hash
abbrev pub block_there : Place → List ℕ → Option Block
block_there place bytes = option_and_then (λ text. result_ok (block_of text)) (whole_part place 32 bytes)

-- why a record may not be read
abbrev pub FetchCause : ℕ → ℕ → ℕ → ℕ → StoreFault → Type 0
FetchCause file gate before now NoMemory = ⊤
FetchCause file gate before now fault = ReadCause file gate before now fault

-- the same of some record of the file
abbrev pub FetchFault : ℕ → ℕ → ℕ → StoreFault → Type 0
FetchFault file before now NoMemory = ⊤
FetchFault file before now DiskFailed = Rose before now
FetchFault file before now (Damaged f gate) = f ≡ file
FetchFault file before now (Full f) = ⊥
FetchFault file before now CacheFull = ⊥

-- at most so many bytes of the two files were read, and none of others, where the disk tells it
abbrev pub ReadBoth : ℕ → ℕ → Option (ℕ → ℕ) → Option (ℕ → ℕ) → Type 0
ReadBoth headers bodies None None = ⊤
ReadBoth headers bodies (Some before) (Some now) = (now 1 ≤ before 1 + headers) × (now 2 ≤ before 2 + bodies) × ((f : ℕ) → f ≢ 1 → f ≢ 2 → now f ≡ before f)
ReadBoth headers bodies None (Some now) = ⊥
ReadBoth headers bodies (Some before) None = ⊥

-- nothing but want of memory and a failure of the disk
abbrev pub NoDamage : StoreFault → Type 0
NoDamage NoMemory = ⊤
NoDamage DiskFailed = ⊤
NoDamage (Damaged file at) = ⊥
NoDamage (Full file) = ⊥
NoDamage CacheFull = ⊥
