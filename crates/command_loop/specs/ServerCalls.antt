-- What the calls of a server promise.
use Rattle.std.specs.Prelude.{◌≡◌, ℕ, ◌^◌, ◌≤◌, List, [], ◌++◌, Option, Some, Result}
use Rattle.std.specs.Option.{option_map}
use Rattle.std.specs.List.{flat_map}
use Rattle.disk_model.specs.Disk.{Image}
use Rattle.base_types.specs.declared.fault.StoreFault.{StoreFault}
use Rattle.base_types.specs.declared.fault.StoreFault.TheVariants as fault
use Rattle.base_types.specs.declared.flushes.Flushed.{Flushed}
use Rattle.base_types.specs.declared.program.Rules.{Rules}
use Rattle.base_types.specs.declared.program.Status.{Status}
use Rattle.base_types.specs.declared.program.Status.TheVariants as status
use Rattle.command_text.specs.Replies.{reply_text}
use Rattle.command_text.specs.declared.line.Line.{Line}
use Rattle.command_text.specs.declared.line.LineRefused.{LineRefused}
use Rattle.store_state.specs.Breaks.{IsBroken}
use Rattle.store_state.specs.Roles.{full_of, snapshot_of}
use Rattle.store_state.specs.State.{StoreState, first_rules}
use Rattle.machine.specs.Answers.{found_of}
use Rattle.machine.specs.Calls.{IsOpening, IsOpen}
use Rattle.machine.specs.State.{Setting, State, begins}
use Rattle.machine.specs.Steps.{Did, Step, at_end}
use Rattle.machine.specs.Work.{Moment, WorkDone, WorkCut}
use Rattle.command_loop.specs.declared.settings.RunSettings.{RunSettings}
use Rattle.command_loop.specs.declared.server.FoundStore.{FoundStore}
use Rattle.command_loop.specs.Points.{Standing}

-- what the machine is set to
abbrev pub setting_of : RunSettings → Setting
setting_of settings = record { limit = settings.limits.headers; cache = settings.cache; given = settings.rules }

-- the limits and the cache are in their ranges, and the rules are those that hold from the first block on, since no store keeps
-- others yet
pub record AreInRange (settings : RunSettings) : Type 0 where
  pub file_bytes : settings.limits.file_bytes ≤ 2 ^ 63
  pub headers : (1 ≤ settings.limits.headers) × (settings.limits.headers ≤ 2 ^ 31)
  pub cache : (1 ≤ settings.cache) × (settings.cache ≤ 4000000)
  pub rules : settings.rules ≡ first_rules

abbrev pub Asked : Type 0
Asked = Result Line LineRefused

-- ---- opening

-- the store was opened, and this was found: the machine begins with what the contents stand for
pub record OpensStore (setting : Setting) (past left : ℕ → Image → Type 0) (entered ended : ℕ) (contents : Image) (now : Option Image) (stands : Standing) (found : FoundStore) : Type 0 where
  pub after : Image
  pub told : now ≡ Some after
  pub from : StoreState
  pub on : StoreState
  pub opening : IsOpening setting.limit setting.given past left (record { entered = entered; ended = ended; contents = contents; after = after; flushes = []; events = [] }) from on
  pub full : found.full ≡ option_map found_of (full_of from.active from.role)
  pub snapshot : found.snapshot ≡ option_map found_of (snapshot_of from.active from.role)
  pub is_open : IsOpen setting.limit setting.given (left ended) after on
  pub stood : stands now (left ended) (begins from) on

-- ---- faults

abbrev pub status_of_fault : StoreFault → Status
status_of_fault fault.NoMemory = status.NoMemory
status_of_fault fault.DiskFailed = status.DiskFault
status_of_fault (fault.Damaged file at) = status.Damaged file at
status_of_fault (fault.Full file) = status.Full file
status_of_fault fault.CacheFull = status.CacheFull

-- an opening finds no file and no cache full
abbrev pub MayNotOpen : StoreFault → Type 0
MayNotOpen (fault.Full file) = ⊥
MayNotOpen fault.CacheFull = ⊥
MayNotOpen other = Unit {0}

-- a broken record, a full file and a full cache have a cause in what the disk reads as; a call of the disk counts its own
-- faults, and want of memory is free
abbrev pub IsCaused : (StoreFault → Image → Type 0) → Status → Image → Type 0
IsCaused causes (status.Damaged file at) contents = causes (fault.Damaged file at) contents
IsCaused causes (status.Full file) contents = causes (fault.Full file) contents
IsCaused causes status.CacheFull contents = causes fault.CacheFull contents
IsCaused causes other contents = Unit {0}

-- the place that is told as broken is so in this image
abbrev pub IsDamage : ℕ → Rules → Status → Image → Type 0
IsDamage limit given (status.Damaged file at) contents = IsBroken limit given contents (record { file = file; at = at })
IsDamage limit given other contents = Unit {0}

-- ---- work

-- Some work was done whole, as the machine may do it; the lines of its replies were added to a text, and its flushes to those
-- of the run.
pub record WorkServed (setting : Setting) (past left : ℕ → Image → Type 0) (before : Moment) (from : StoreState) (Does : Did → Type 0) (IsNow : Moment → State → StoreState → Type 0) (flushes_before flushes_after : List Flushed) (text_before text_after : List ℕ) : Type 0 where
  pub did : Did
  pub does : Does did
  pub after : Moment
  pub on : StoreState
  pub now : IsNow after did.now.state on
  pub flushes : List Flushed
  pub added : flushes_after ≡ flushes_before ++ flushes
  pub text : text_after ≡ text_before ++ flat_map reply_text did.replies
  pub work : WorkDone setting past left before after from on did flushes

-- or it was cut, with a first part of what the machine may do
pub record WorkStopped (setting : Setting) (past left : ℕ → Image → Type 0) (before : Moment) (from : StoreState) (Does : Did → Type 0) (IsThere : Moment → Type 0) (begun : Option (List ℕ)) (flushes_before flushes_after : List Flushed) : Type 0 where
  pub did : Did
  pub does : Does did
  pub after : Moment
  pub there : IsThere after
  pub flushes : List Flushed
  pub added : flushes_after ≡ flushes_before ++ flushes
  pub work : WorkCut setting past left before after from did begun flushes

-- the work of a line, and that of the end of the input
abbrev pub LineDoes : Setting → Moment → State → Asked → Did → Type 0
LineDoes setting before state ask did = Step setting (record { state = state; files = before.files }) ask did

abbrev pub EndDoes : Moment → State → Did → Type 0
EndDoes before state did = did ≡ at_end (record { state = state; files = before.files })
