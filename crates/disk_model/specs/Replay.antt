-- What the calls on record make of each file.
use Rattle.std.specs.Prelude.{◌≡◌, ◌==◌, ◌&&◌, ℕ, ◌≤◌, ◌⊎◌, Bool, true, false, List, [], ◌∷◌, ◌++◌, sum_by, nat_le, if◌then◌else◌, All, Result, OnOk, OnErr, None}
use Rattle.std.specs.FinMap.{get}
use Rattle.disk_model.specs.declared.call.Request.{Request}
use Rattle.disk_model.specs.declared.call.Request.TheVariants.{Len, Read, Write, Cut, Sync}
use Rattle.disk_model.specs.declared.call.Call.{Call}
use Rattle.disk_model.specs.Disk.{Image}
use Rattle.disk_model.specs.Image.{Files, bytes_in}
use Rattle.disk_model.specs.Crash.{FileState, after_write, after_cut, after_sync, at_rest, IsImage}

-- what a request that is done makes of the file f
abbrev pub after_request : ℕ → Request → FileState → FileState
after_request f (Len file) s = s
after_request f (Read file at count) s = s
after_request f (Write file at bytes) s = if f == file then after_write at bytes s else s
after_request f (Cut file length) s = if f == file then after_cut length s else s
after_request f (Sync file) s = if f == file then after_sync s else s

-- the call was done by that moment
abbrev pub is_done_by : ℕ → Call → Bool
is_done_by moment call = call.done && nat_le call.number moment

-- what the calls that were done by a moment make of the file f
abbrev pub file_after : ℕ → ℕ → List Call → FileState → FileState
file_after moment f [] s = s
file_after moment f (call ∷ calls) s = file_after moment f calls (if is_done_by moment call then after_request f call.request s else s)

-- each file at a moment, where these files were durable at the start
abbrev pub states : Files → List Call → ℕ → ℕ → FileState
states start calls moment f = file_after moment f calls (at_rest (bytes_in start f))

-- a crash at some moment since t may have left this image
abbrev pub LeftSince : Files → List Call → ℕ → ℕ → Image → Type 0
LeftSince start calls clock t c = (moment : ℕ) × (t ≤ moment) × (moment ≤ clock) × IsImage (states start calls moment) c

-- how many bytes a call has read of the file f
abbrev pub count_read : ℕ → Request → ℕ
count_read f (Len file) = 0
count_read f (Read file at count) = if f == file then count else 0
count_read f (Write file at bytes) = 0
count_read f (Cut file length) = 0
count_read f (Sync file) = 0

abbrev pub bytes_read_of : List Call → ℕ → ℕ
bytes_read_of calls f = sum_by (λ call. if call.done then count_read f call.request else 0) calls

-- one more call on record, with its outcome; or none more, where the call fails and no memory is left for it
pub record Recorded {T E : Type 0} (number : ℕ) (request : Request) (old new : List Call) (result : Result T E) : Type 0 where
  pub ok : OnOk result (new ≡ old ++ record { number = number; done = true; request = request } ∷ [])
  pub err : OnErr result ((new ≡ old) ⊎ (new ≡ old ++ record { number = number; done = false; request = request } ∷ []))

-- no call on record has a later number
abbrev pub IsNumberedTo : ℕ → List Call → Type 0
IsNumberedTo clock calls = All (λ call. call.number ≤ clock) calls

-- the file was never there
pub record IsBlank (s : FileState) : Type 0 where
  pub reads : s.reads ≡ []
  pub durable : s.durable ≡ []
  pub least : s.least ≡ 0
  pub most : s.most ≡ 0

-- the files are those of the record, and a file that isn't among them was never there
pub record IsCurrent (start files : Files) (calls : List Call) (clock : ℕ) : Type 0 where
  pub reads : (f : ℕ) → bytes_in files f ≡ (states start calls clock f).reads
  pub blank : (moment f : ℕ) → get files f ≡ None → IsBlank (states start calls moment f)
