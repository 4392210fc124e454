-- What the calls on record leave: an image at each moment, and no fewer since an earlier one. Laws that the disk in memory
-- cites for those of the trait.
use Rattle.std.specs.Prelude.{◌≡◌, ◌==◌, ℕ, ◌≤◌, Bool, true, false, List, [], ◌∷◌, if◌then◌else◌, Some}
use Rattle.std.proofs.Common.{arith, cond, subst, sym}
use Rattle.disk_model.specs.declared.call.Request.{Request}
use Rattle.disk_model.specs.declared.call.Request.TheVariants.{Len, Read, Write, Cut, Sync}
use Rattle.disk_model.specs.declared.call.Call.{Call}
use Rattle.disk_model.specs.Disk.{Image}
use Rattle.disk_model.specs.Image.{Files, bytes_in}
use Rattle.disk_model.specs.Crash.{FileState, after_write, after_cut, after_sync, at_rest, IsImage, IsFileImage}
use Rattle.disk_model.specs.Replay.{after_request, is_done_by, file_after, states, LeftSince, IsCurrent}
use Rattle.disk_model.specs.Sound.{IsSound, rest_sound, write_sound, cut_sound}

if_sound : (here : Bool) (t s : FileState) → IsSound t → IsSound s → IsSound (cond here t s)
if_sound true t s a b = a
if_sound false t s a b = b

applied_sound : (f : ℕ) (request : Request) (s : FileState) → IsSound s → IsSound (after_request f request s)
applied_sound f (Len file) s sound = sound
applied_sound f (Read file at count) s sound = sound
applied_sound f (Write file at bytes) s sound = if_sound (f == file) (after_write at bytes s) s (write_sound at bytes s sound) sound
applied_sound f (Cut file length) s sound = if_sound (f == file) (after_cut length s) s (cut_sound length s sound) sound
applied_sound f (Sync file) s sound = if_sound (f == file) (after_sync s) s (rest_sound s.reads) sound

replayed_sound : (moment f : ℕ) (calls : List Call) (s : FileState) → IsSound s → IsSound (file_after moment f calls s)
replayed_sound moment f [] s sound = sound
replayed_sound moment f (call ∷ calls) s sound =
    replayed_sound moment f calls (if is_done_by moment call then after_request f call.request s else s)
    (if_sound (is_done_by moment call) (after_request f call.request s) s (applied_sound f call.request s sound) sound)

pub states_sound : (start : Files) (calls : List Call) (moment f : ℕ) → IsSound (states start calls moment f)
states_sound start calls moment f = replayed_sound moment f calls (at_rest (bytes_in start f)) (rest_sound (bytes_in start f))

pub left_earlier : (start : Files) (calls : List Call) (clock t u : ℕ) (c : Image) → t ≤ u → LeftSince start calls clock u c → LeftSince start calls clock t c
left_earlier start calls clock t u c le left = (left.0, omega (arith, left.1), left.2, left.3)

-- as it reads, the disk is one of its images now
pub reads_left : (start files : Files) (calls : List Call) (clock : ℕ) → IsCurrent start files calls clock → (m : Image) → Some (bytes_in files) ≡ Some m → LeftSince start calls clock clock m
reads_left start files calls clock current m is =
    let same : bytes_in files ≡ m = cc in
    let image : IsImage (states start calls clock) (bytes_in files) = λ f. subst (IsFileImage (states start calls clock f)) (sym (current.reads f)) (states_sound start calls clock f).image in
    (clock, omega arith, omega arith, subst (IsImage (states start calls clock)) same image)
