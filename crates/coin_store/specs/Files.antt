-- What opening does to the files of a store, and what it reads of them.
use Rattle.std.specs.Prelude.{⊤, ◌≡◌, ◌⊎◌, ℕ, ◌+◌, ◌≤◌, ◌==◌, Bool, false, List, length, nat_le, if◌then◌else◌, Option, Some, None}
use Rattle.disk_model.specs.Disk.{Image, Rose, BothTold}
use Rattle.base_types.specs.declared.fault.StoreFault.{StoreFault}
use Rattle.base_types.specs.declared.fault.StoreFault.TheVariants.{NoMemory, DiskFailed, Damaged, Full, CacheFull}

-- one of the files of a store: the base file, if there is one, or the coin file
abbrev pub IsOneOf : Option ℕ → ℕ → ℕ → Type 0
IsOneOf base_file coin_file f = (base_file ≡ Some f) ⊎ (f ≡ coin_file)

abbrev pub IsBaseFile : Option ℕ → ℕ → Type 0
IsBaseFile base_file f = base_file ≡ Some f

-- one of these files, which has at most one byte
abbrev pub IsTiny : (ℕ → Type 0) → Image → ℕ → Type 0
IsTiny IsFile image f = IsFile f × (length (image f) ≤ 1)

-- each file takes this step, and all but these stay
pub record InFiles (IsFile : ℕ → Type 0) (Step : List ℕ → List ℕ → Type 0) (old new : Image) : Type 0 where
  pub each : (f : ℕ) → Step (old f) (new f)
  pub others : (f : ℕ) → (IsFile f → ⊥) → new f ≡ old f

-- contents are told as before, and but for these files they read the same
abbrev pub OthersKeptBut : (ℕ → Type 0) → Option Image → Option Image → Type 0
OthersKeptBut IsFile old new = BothTold (λ m n. (f : ℕ) → (IsFile f → ⊥) → n f ≡ m f) old new

-- why the files may not be opened
abbrev pub FilesCause : (ℕ → Type 0) → ℕ → ℕ → StoreFault → Type 0
FilesCause IsFile before now NoMemory = ⊤
FilesCause IsFile before now DiskFailed = Rose before now
FilesCause IsFile before now (Damaged file at) = IsFile file
FilesCause IsFile before now (Full file) = ⊥
FilesCause IsFile before now CacheFull = ⊥

-- ---- what is read

-- of a log: five bytes more than it has, or five of one that has at most one byte
abbrev pub log_reads : List ℕ → ℕ
log_reads bytes = if nat_le (length bytes) 1 then 5 else length bytes + 5

abbrev pub is_base_file : Option ℕ → ℕ → Bool
is_base_file None f = false
is_base_file (Some file) f = f == file

-- of a file that may be the base file
abbrev pub base_reads : Option ℕ → Image → ℕ → ℕ
base_reads base_file m f = if is_base_file base_file f then log_reads (m f) else 0

-- and may be the coin file
abbrev pub store_reads : Option ℕ → ℕ → Image → ℕ → ℕ
store_reads base_file coin_file m f = base_reads base_file m f + (if f == coin_file then log_reads (m f) else 0)

-- of each file at most so many bytes were read, and none where this is 0, where the disk tells it
abbrev pub ReadWithin : (ℕ → ℕ) → Option (ℕ → ℕ) → Option (ℕ → ℕ) → Type 0
ReadWithin most None None = ⊤
ReadWithin most (Some before) (Some now) = (f : ℕ) → (now f ≤ before f + most f) × (most f ≡ 0 → now f ≡ before f)
ReadWithin most None (Some now) = ⊥
ReadWithin most (Some before) None = ⊥
