-- What calls read of a file, and why one may fail.
use Rattle.std.specs.Prelude.{◌≡◌, ◌≢◌, ⊤, ℕ, ◌+◌, ◌≤◌, Option, Some, None}
use Rattle.disk_model.specs.Disk.{Rose}
use Rattle.base_types.specs.declared.fault.StoreFault.{StoreFault}
use Rattle.base_types.specs.declared.fault.StoreFault.TheVariants.{NoMemory, DiskFailed, Damaged, Full, CacheFull}

-- at most so many bytes of this file were read, and none of others, where the disk tells it
abbrev pub ReadAtMost : ℕ → ℕ → Option (ℕ → ℕ) → Option (ℕ → ℕ) → Type 0
ReadAtMost file most None None = ⊤
ReadAtMost file most (Some before) (Some now) = (now file ≤ before file + most) × ((f : ℕ) → f ≢ file → now f ≡ before f)
ReadAtMost file most None (Some now) = ⊥
ReadAtMost file most (Some before) None = ⊥

-- why a part of a payload may not be read
abbrev pub ReadCause : ℕ → ℕ → ℕ → ℕ → StoreFault → Type 0
ReadCause file at before now DiskFailed = Rose before now
ReadCause file at before now (Damaged f gate) = (f ≡ file) × (gate ≡ at)
ReadCause file at before now NoMemory = ⊥
ReadCause file at before now (Full f) = ⊥
ReadCause file at before now CacheFull = ⊥

-- a fact of the file and the gate, where damage is answered
abbrev pub WhereDamaged : (ℕ → ℕ → Type 0) → StoreFault → Type 0
WhereDamaged P (Damaged file at) = P file at
WhereDamaged P NoMemory = ⊤
WhereDamaged P DiskFailed = ⊤
WhereDamaged P (Full file) = ⊤
WhereDamaged P CacheFull = ⊤

-- and one that names neither
abbrev pub OnDamaged : StoreFault → Type 0 → Type 0
OnDamaged fault P = WhereDamaged (λ file at. P) fault
