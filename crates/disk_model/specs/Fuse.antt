-- The clock of a disk behind a fuse.
use Rattle.std.specs.Prelude.{ℕ, ◌+◌, ◌^◌, ◌-◌, min, max}
use Rattle.disk_model.specs.Disk.{Image}

-- the fuse's own clock is added to the disk's; the sum stands at the last value of u64
abbrev pub fuse_time : ℕ → ℕ → ℕ
fuse_time inner own = max inner (min (inner + own) (2 ^ 64 - 1))

-- what a crash since t leaves: past the disk's clock nothing happens to the disk
abbrev pub fuse_left : (ℕ → Image → Type 0) → ℕ → ℕ → Image → Type 0
fuse_left left inner t c = left (min t inner) c
