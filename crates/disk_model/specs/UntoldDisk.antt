-- What a disk over real files shows.
use Rattle.std.specs.Prelude.{◌≡◌, ◌+◌, ◌-◌, ◌^◌, ◌<◌, ◌≤◌, ◌++◌, ◌∷◌, [], ℕ, List, Option, None, min}
use Rattle.disk_model.specs.Disk.{Image}
use Rattle.disk_model.specs.Untold.{no_image}
use Rattle.disk_model.specs.declared.call.Request.{Request}
use Rattle.disk_model.specs.declared.untold.UntoldDisk.{UntoldDisk}

-- the real files
abbrev pub raw_of : {F : Type 0} → UntoldDisk F → F
raw_of d = d.files

abbrev pub clock_of : {F : Type 0} → UntoldDisk F → ℕ
clock_of d = d.clock

abbrev pub faults_of : {F : Type 0} → UntoldDisk F → ℕ
faults_of d = d.faults

-- it tells nothing
abbrev pub contents_of : {F : Type 0} → UntoldDisk F → Option Image
contents_of d = None

abbrev pub read_of : {F : Type 0} → UntoldDisk F → Option (ℕ → ℕ)
read_of d = None

abbrev pub left_since_of : {F : Type 0} → UntoldDisk F → ℕ → Image → Type 0
left_since_of d t c = no_image

-- a device call asks the files for just this, once; at the last reading of the clock it leaves them; and it moves the clock
-- by one, up to its end
pub record Asks {F : Type 0} (requests : F → List Request) (request : Request) (old new : UntoldDisk F) : Type 0 where
  pub in_time : clock_of old < 2 ^ 64 - 1 → requests (raw_of new) ≡ requests (raw_of old) ++ request ∷ []
  pub at_end : 2 ^ 64 - 1 ≤ clock_of old → raw_of new ≡ raw_of old
  pub ticks : clock_of new ≡ min (clock_of old + 1) (2 ^ 64 - 1)
