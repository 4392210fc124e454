-- What a disk in memory shows.
use Rattle.std.specs.Prelude.{◌≡◌, ℕ, ◌+◌, ◌-◌, ◌^◌, min, List, [], Option, Some, Contains, Result, OnErr, IsErr}
use Rattle.disk_model.specs.declared.call.Request.{Request}
use Rattle.disk_model.specs.declared.call.Call.{Call}
use Rattle.disk_model.specs.declared.mem.MemDisk.{MemDisk}
use Rattle.disk_model.specs.Disk.{Image}
use Rattle.disk_model.specs.Image.{Files, bytes_in}
use Rattle.disk_model.specs.Crash.{FileState}
use Rattle.disk_model.specs.Replay.{states, LeftSince, Recorded, bytes_read_of}

-- the files as they read
abbrev pub files_of : MemDisk → Files
files_of d = d.files

-- the files that were durable at the start
abbrev pub start_of : MemDisk → Files
start_of d = d.start

-- the calls on record, the oldest first
abbrev pub calls_of : MemDisk → List Call
calls_of d = d.history.calls.items

-- the numbers of the calls that are made to fail
abbrev pub failing_of : MemDisk → List ℕ
failing_of d = d.history.failing.items

abbrev pub clock_of : MemDisk → ℕ
clock_of d = d.history.clock

abbrev pub faults_of : MemDisk → ℕ
faults_of d = d.history.faults

-- a file at a moment
abbrev pub state_of : MemDisk → ℕ → ℕ → FileState
state_of d moment f = states d.start d.history.calls.items moment f

-- what it tells: what each file reads as, and how many bytes were read of it
abbrev pub contents_of : MemDisk → Option Image
contents_of d = Some (bytes_in d.files)

abbrev pub read_of : MemDisk → Option (ℕ → ℕ)
read_of d = Some (bytes_read_of d.history.calls.items)

-- what a crash at some moment since t may have left
abbrev pub left_since_of : MemDisk → ℕ → Image → Type 0
left_since_of d t c = LeftSince d.start d.history.calls.items d.history.clock t c

-- these files are durable, and no call was made
pub record IsFresh (image : Files) (d : MemDisk) : Type 0 where
  pub files : files_of d ≡ image
  pub start : start_of d ≡ image
  pub calls : calls_of d ≡ []
  pub failing : failing_of d ≡ []
  pub clock : clock_of d ≡ 0
  pub faults : faults_of d ≡ 0

-- a crash at any moment leaves these files
abbrev pub HoldsDurably : Files → MemDisk → Type 0
HoldsDurably image d = (t : ℕ) (c : Image) → left_since_of d t c → (f : ℕ) → c f ≡ bytes_in image f

-- what each device call of a disk in memory does beside its effect: it goes on record with its outcome; it fails where it is
-- made to; where it fails it leaves the files; and it moves the clock by one, up to the clock's end
pub record Makes {T E : Type 0} (request : Request) (old new : MemDisk) (result : Result T E) : Type 0 where
  pub recorded : Recorded (clock_of old + 1) request (calls_of old) (calls_of new) result
  pub made_to_fail : Contains (failing_of old) (clock_of old + 1) → IsErr result
  pub nothing_done : OnErr result (files_of new ≡ files_of old)
  pub failing : failing_of new ≡ failing_of old
  pub start : start_of new ≡ start_of old
  pub ticks : clock_of new ≡ min (clock_of old + 1) (2 ^ 64 - 1)
