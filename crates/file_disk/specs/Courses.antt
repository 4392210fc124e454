-- The calls that a request of the files makes, by what it answers.
use Rattle.std.specs.Prelude.{◌≡◌, ◌⊎◌, ℕ, ◌+◌, ◌-◌, ◌^◌, ◌<◌, ◌≤◌, ◌==◌, ltb, Bool, true, false, List, [], ◌∷◌, ◌++◌, length, take, drop, if◌then◌else◌, Option, Some, None, Result, Ok, Err, ⊤, IfOk, IfErr}
use Rattle.std.specs.List.{list_any}
use Rattle.file_disk.specs.declared.raw.RawError.{RawError}
use Rattle.file_disk.specs.declared.raw.RawError.TheVariants.{Failed}
use Rattle.file_disk.specs.declared.trouble.Trouble.{Trouble}
use Rattle.file_disk.specs.declared.trouble.Operation.TheVariants.{MakeFolder, Lock, LockHeld, SyncFolder, Open, Create, Measure, Read, Write, Cut, Sync, Remember}
use Rattle.file_disk.specs.Deeds.{Deed, makes_folder, locks, opens, creates, measures, reads, writes, cuts, syncs_data, syncs_folder, unsynced}
use Rattle.file_disk.specs.Troubles.{trouble_at, trouble_of_folder}

-- these deeds, and one more
abbrev pub with_deed : List Deed → Deed → List Deed
with_deed deeds deed = deeds ++ deed ∷ []

-- a list's last item
abbrev pub EndsWith : {A : Type 0} → A → List A → Type 0
EndsWith {A} last all = (earlier : List A) × (all ≡ earlier ++ last ∷ [])

-- one more deed, of a call that failed
abbrev pub Fails : Deed → Trouble → Trouble → List Deed → List Deed → Type 0
Fails deed cause trouble old new = (new ≡ with_deed old deed) × (trouble ≡ cause)

-- ---- reaching a file

-- a file is open already, or is opened
abbrev pub Reaches : ℕ → List Deed → List Deed → Type 0
Reaches file old new = (new ≡ old) ⊎ (new ≡ with_deed old (opens file (Some true)))

-- there is no such file
abbrev pub IsAbsent : ℕ → List Deed → List Deed → Type 0
IsAbsent file old new = new ≡ with_deed old (opens file (Some false))

-- a file couldn't be opened; or it was, and couldn't be remembered for want of memory
abbrev pub FailsToReach : ℕ → Trouble → List Deed → List Deed → Type 0
FailsToReach file trouble old new = Fails (opens file None) (trouble_at file Open) trouble old new ⊎ Fails (opens file (Some true)) (trouble_at file Remember) trouble old new

-- a file is reached, or isn't there
abbrev pub ReachesOrNot : {A : Type 0} → ℕ → Result (Option A) Trouble → List Deed → List Deed → Type 0
ReachesOrNot file (Ok (Some place)) old new = Reaches file old new
ReachesOrNot file (Ok None) old new = IsAbsent file old new
ReachesOrNot file (Err trouble) old new = FailsToReach file trouble old new

-- A file is reached, and this is done with it; one that isn't there has such an answer. Or it couldn't be reached.
abbrev pub OnReached : {A : Type 0} → ℕ → (A → Type 0) → (Result A Trouble → List Deed → List Deed → Type 0) → Result A Trouble → List Deed → List Deed → Type 0
OnReached file OfNone Next (Ok x) old new = (IsAbsent file old new × OfNone x) ⊎ ((reached : List Deed) × Reaches file old reached × Next (Ok x) reached new)
OnReached file OfNone Next (Err trouble) old new = FailsToReach file trouble old new ⊎ ((reached : List Deed) × Reaches file old reached × Next (Err trouble) reached new)

-- a file that isn't there is made; or it can't be made, or not be remembered before or after that
abbrev pub Makes : {A : Type 0} → ℕ → Result A Trouble → List Deed → List Deed → Type 0
Makes file (Ok place) old new = new ≡ with_deed old (creates file true)
Makes file (Err trouble) old new = ((new ≡ old) × (trouble ≡ trouble_at file Remember))
    ⊎ (Fails (creates file false) (trouble_at file Create) trouble old new ⊎ Fails (creates file true) (trouble_at file Remember) trouble old new)

-- a file is reached, or is made where it isn't there
abbrev pub ReachesOrMakes : {A : Type 0} → ℕ → Result A Trouble → List Deed → List Deed → Type 0
ReachesOrMakes file (Ok place) old new = Reaches file old new ⊎ ((absent : List Deed) × IsAbsent file old absent × (new ≡ with_deed absent (creates file true)))
ReachesOrMakes {A} file (Err trouble) old new = FailsToReach file trouble old new ⊎ ((absent : List Deed) × IsAbsent file old absent × Makes {A = A} file (Err trouble) absent new)

-- ---- a length

-- an open file's
abbrev pub MeasuresOpen : ℕ → Result ℕ Trouble → List Deed → List Deed → Type 0
MeasuresOpen file (Ok bytes) old new = new ≡ with_deed old (measures file (Some bytes))
MeasuresOpen file (Err trouble) old new = Fails (measures file None) (trouble_at file Measure) trouble old new

abbrev pub Measures : ℕ → Result ℕ Trouble → List Deed → List Deed → Type 0
Measures file = OnReached file (λ bytes. bytes ≡ 0) (MeasuresOpen file)

-- ---- reads

-- what a read answered
abbrev pub ReadAnswer : Type 0
ReadAnswer = Result (List ℕ) RawError

abbrev pub bytes_of : ReadAnswer → List ℕ
bytes_of (Ok bytes) = bytes
bytes_of (Err error) = []

-- the bytes that reads gave, in order
abbrev pub given : List ReadAnswer → List ℕ
given [] = []
given (answer ∷ later) = bytes_of answer ++ given later

-- reads that answered so, each from where the one before has ended, and into the room that it left
abbrev pub read_deeds : ℕ → ℕ → ℕ → List ReadAnswer → List Deed
read_deeds file at room [] = []
read_deeds file at room (answer ∷ later) = reads file at room answer ∷ read_deeds file (at + length (bytes_of answer)) (room - length (bytes_of answer)) later

-- Reads until the buffer is full or a read gives none. One that is interrupted is made again, up to the last value of u64.
pub record ReadsAll (file at : ℕ) (buf : List ℕ) (result : Result ℕ Trouble) (old new : List Deed) : Type 0 where
  pub answers : List ReadAnswer
  pub calls : new ≡ old ++ read_deeds file at (length buf) answers
  pub bytes : IfOk result (λ count. take count buf ≡ given answers)
  pub bound : IfOk result (λ count. count ≤ length buf)
  pub end : IfOk result (λ count. (count ≡ length buf) ⊎ EndsWith (Ok []) answers)
  pub cause : IfErr result (λ trouble. (trouble ≡ trouble_at file Read) × (EndsWith (Err Failed) answers ⊎ (2 ^ 64 - 1 ≤ length answers)))

-- no call is made for what ends past the last value of u64
abbrev pub IsTooFar : {A : Type 0} → ℕ → ℕ → Trouble → Result A Trouble → List Deed → List Deed → Type 0
IsTooFar at count trouble result old new = (2 ^ 64 ≤ at + count) × (new ≡ old) × (result ≡ Err trouble)

abbrev pub Reads : ℕ → ℕ → List ℕ → Result ℕ Trouble → List Deed → List Deed → Type 0
Reads file at buf result old new = IsTooFar at (length buf) (trouble_at file Read) result old new ⊎ OnReached file (λ count. count ≡ 0) (ReadsAll file at buf) result old new

-- ---- writes

-- what a write answered
abbrev pub WriteAnswer : Type 0
WriteAnswer = Result ℕ RawError

abbrev pub count_of : WriteAnswer → ℕ
count_of (Ok count) = count
count_of (Err error) = 0

-- how many bytes writes have taken
abbrev pub taken : List WriteAnswer → ℕ
taken [] = 0
taken (answer ∷ later) = count_of answer + taken later

-- writes that answered so, each of what the one before has left, from where that has ended
abbrev pub write_deeds : ℕ → ℕ → List ℕ → List WriteAnswer → List Deed
write_deeds file at bytes [] = []
write_deeds file at bytes (answer ∷ later) = writes file at bytes answer ∷ write_deeds file (at + count_of answer) (drop (count_of answer) bytes) later

-- Writes until all bytes are taken. One that is interrupted is made again, up to the last value of u64.
pub record WritesAll (file at : ℕ) (bytes : List ℕ) (result : Result ⊤ Trouble) (old new : List Deed) : Type 0 where
  pub answers : List WriteAnswer
  pub calls : new ≡ old ++ write_deeds file at bytes answers
  pub whole : IfOk result (λ _. taken answers ≡ length bytes)
  pub part : taken answers ≤ length bytes
  pub cause : IfErr result (λ trouble. (trouble ≡ trouble_at file Write) × (EndsWith (Err Failed) answers ⊎ (EndsWith (Ok 0) answers ⊎ (2 ^ 64 - 1 ≤ length answers))))

abbrev pub Writes : ℕ → ℕ → List ℕ → Result ⊤ Trouble → List Deed → List Deed → Type 0
Writes file at bytes result old new = IsTooFar at (length bytes) (trouble_at file Write) result old new
    ⊎ (((trouble : Trouble) × (result ≡ Err trouble) × ReachesOrMakes {A = ⊤} file (Err trouble) old new) ⊎ ((made : List Deed) × ReachesOrMakes {A = ⊤} file (Ok record {}) old made × WritesAll file at bytes result made new))

-- ---- cuts

-- an open file is shortened where it is longer
abbrev pub ShortensOpen : ℕ → ℕ → Result ⊤ Trouble → List Deed → List Deed → Type 0
ShortensOpen file count (Ok done) old new = (bytes : ℕ) × (new ≡ (if ltb count bytes then with_deed (with_deed old (measures file (Some bytes))) (cuts file count true) else with_deed old (measures file (Some bytes))))
ShortensOpen file count (Err trouble) old new = Fails (measures file None) (trouble_at file Measure) trouble old new
    ⊎ ((bytes : ℕ) × (count < bytes) × Fails (cuts file count false) (trouble_at file Cut) trouble (with_deed old (measures file (Some bytes))) new)

abbrev pub Cuts : ℕ → ℕ → Result ⊤ Trouble → List Deed → List Deed → Type 0
Cuts file count = OnReached file (λ _. ⊤) (ShortensOpen file count)

-- ---- syncs

-- a file was made since the folder was last synced
abbrev pub is_unsynced : ℕ → List Deed → Bool
is_unsynced file deeds = list_any (λ made. made == file) (unsynced deeds)

-- the folder is synced where this file needs it
abbrev pub with_entry_synced : ℕ → List Deed → List Deed
with_entry_synced file deeds = if is_unsynced file deeds then with_deed deeds (syncs_folder true) else deeds

abbrev pub SyncsEntry : ℕ → Result ⊤ Trouble → List Deed → List Deed → Type 0
SyncsEntry file (Ok done) old new = new ≡ with_entry_synced file old
SyncsEntry file (Err trouble) old new = (is_unsynced file old ≡ true) × Fails (syncs_folder false) (trouble_of_folder SyncFolder) trouble old new

abbrev pub SyncsOpen : ℕ → Result ⊤ Trouble → List Deed → List Deed → Type 0
SyncsOpen file (Ok done) old new = new ≡ with_deed old (syncs_data file true)
SyncsOpen file (Err trouble) old new = Fails (syncs_data file false) (trouble_at file Sync) trouble old new

-- the folder first, where this file needs it, and then the file
abbrev pub SyncsBoth : ℕ → Result ⊤ Trouble → List Deed → List Deed → Type 0
SyncsBoth file (Ok done) old new = SyncsOpen file (Ok done) (with_entry_synced file old) new
SyncsBoth file (Err trouble) old new = SyncsEntry file (Err trouble) old new ⊎ SyncsOpen file (Err trouble) (with_entry_synced file old) new

abbrev pub Syncs : ℕ → Result ⊤ Trouble → List Deed → List Deed → Type 0
Syncs file = OnReached file (λ _. ⊤) (SyncsBoth file)

-- ---- the beginning

-- the folder is made and locked, and its files' places are made durable, since an earlier run may have made them
abbrev pub entered : List Deed → List Deed
entered deeds = with_deed (with_deed (with_deed deeds (makes_folder true)) (locks (Some true))) (syncs_folder true)

-- or a call of these fails, and is the last
abbrev pub Enters : Result ⊤ Trouble → List Deed → List Deed → Type 0
Enters (Ok done) old new = new ≡ entered old
Enters (Err trouble) old new = Fails (makes_folder false) (trouble_of_folder MakeFolder) trouble old new
    ⊎ (Fails (locks None) (trouble_of_folder Lock) trouble (with_deed old (makes_folder true)) new
    ⊎ (Fails (locks (Some false)) (trouble_of_folder LockHeld) trouble (with_deed old (makes_folder true)) new
    ⊎ Fails (syncs_folder false) (trouble_of_folder SyncFolder) trouble (with_deed (with_deed old (makes_folder true)) (locks (Some true))) new))
