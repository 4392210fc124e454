-- What a fuse before a disk shows.
use Rattle.std.specs.Prelude.{◌≡◌, ℕ, ◌+◌, ◌-◌, ◌^◌, ◌<◌, min, Result, IsErr}
use Rattle.disk_model.specs.Disk.{Image, Rose, HasCause}
use Rattle.disk_model.specs.Fuse.{fuse_time, fuse_left}
use Rattle.disk_model.specs.declared.fuse.FuseDisk.{FuseDisk}

-- the disk behind the fuse
abbrev pub inner_of : {D : Type 0} {g : _} → FuseDisk D g → D
inner_of f = f.inner

-- how many calls it will still pass
abbrev pub calls_left : {D : Type 0} {g : _} → FuseDisk D g → ℕ
calls_left f = f.left

-- how many calls it did not pass, in its clock and in its count of faults
abbrev pub own_clock : {D : Type 0} {g : _} → FuseDisk D g → ℕ
own_clock f = f.clock

abbrev pub own_faults : {D : Type 0} {g : _} → FuseDisk D g → ℕ
own_faults f = f.faults

-- its clock, its count of faults and what a crash since t may leave, by those of the disk behind it
abbrev pub time_of : {D : Type 0} {g : _} → (D → ℕ) → FuseDisk D g → ℕ
time_of time f = fuse_time (time f.inner) f.clock

abbrev pub faults_of : {D : Type 0} {g : _} → (D → ℕ) → FuseDisk D g → ℕ
faults_of faults f = faults f.inner + f.faults

abbrev pub left_since_of : {D : Type 0} {g : _} → (D → ℕ) → (D → ℕ → Image → Type 0) → FuseDisk D g → ℕ → Image → Type 0
left_since_of time left f t c = fuse_left (left f.inner) (time f.inner) t c

-- where a call is left, the disk makes the call, and there is one less; where none is left, the call fails and does
-- nothing to the disk
pub record Passes {T E D : Type 0} {g : _} (time faults : D → ℕ) (old new : FuseDisk D g) (result : Result T E) : Type 0 where
  pub passed : 0 < calls_left old → (calls_left new ≡ calls_left old - 1) × (own_clock new ≡ own_clock old) × (own_faults new ≡ own_faults old)
  pub takes_time : 0 < calls_left old → Rose (time (inner_of old)) (time (inner_of new))
  pub cause : 0 < calls_left old → HasCause (faults (inner_of old)) (faults (inner_of new)) result
  pub refused : calls_left old ≡ 0 → IsErr result × (inner_of new ≡ inner_of old) × (calls_left new ≡ 0)
  pub counted : calls_left old ≡ 0 → (own_clock new ≡ min (own_clock old + 1) (2 ^ 64 - 1)) × (own_faults new ≡ min (own_faults old + 1) (2 ^ 64 - 1))
