-- The headers of a file, taken into an open store.
use Rattle.std.specs.Prelude.{◌≡◌, ◌⊎◌, ℕ, ◌≤◌, true, false, List, [], ◌++◌, length, Option, Some, None}
use Rattle.std.specs.FinMap.{get}
use Rattle.std.specs.List.{flat_map}
use Rattle.disk_model.specs.Disk.{Image}
use Rattle.base_types.specs.declared.flushes.Flushed.{Flushed}
use Rattle.block_codec.specs.Frames.{frames as blocks_in}
use Rattle.block_codec.specs.declared.block.Header.{Header}
use Rattle.chainstates.specs.Offers.{closed_under}
use Rattle.command_loop.specs.ServerCalls.{WorkServed}
use Rattle.command_text.specs.Replies.{reply_text}
use Rattle.command_text.specs.declared.line.Line.{Line}
use Rattle.command_text.specs.declared.line.Line.TheVariants as line
use Rattle.command_text.specs.declared.reply.Reply.TheVariants as says
use Rattle.frame_scan.specs.declared.fault.FrameFault.{FrameFault}
use Rattle.frame_scan.specs.declared.fault.FrameFault.TheVariants.{NoMemory, HostFailed, FileTooLong}
use Rattle.machine.specs.State.{Setting, State, Moved, and_reply}
use Rattle.machine.specs.Steps.{Did, closure_of, longest_file, moved_on, with_headers}
use Rattle.machine.specs.Work.{Moment, WorkDone, WorkCut}
use Rattle.store_lines.specs.Serving.{DoesLine, now_at}
use Rattle.store_lines.specs.declared.taking.TakenHeaders.{TakenHeaders}
use Rattle.store_state.specs.State.{StoreState}

-- a line that takes the headers of this file
abbrev pub TakesFile : List ℕ → Option (List ℕ) → Line → Type 0
TakesFile name key asked = (asked ≡ line.Headers name key) ⊎ (asked ≡ line.Import name key)

-- it is said why a file can't be read on
abbrev pub SaysFault : FrameFault → List ℕ → List ℕ → Type 0
SaysFault NoMemory before after = ⊥
SaysFault HostFailed before after = after ≡ before ++ reply_text says.HostFault
SaysFault FileTooLong before after = after ≡ before ++ reply_text says.FileTooLong

-- Work that flushed nothing was done whole, and the lines of its replies were added to a text.
pub record WorkAdded (setting : Setting) (past left : ℕ → Image → Type 0) (before : Moment) (from : StoreState) (did : Did) (IsNow : Moment → State → StoreState → Type 0) (text_before text_after : List ℕ) : Type 0 where
  pub after : Moment
  pub on : StoreState
  pub now : IsNow after did.now.state on
  pub text : text_after ≡ text_before ++ flat_map reply_text did.replies
  pub work : WorkDone setting past left before after from on did []

-- or it was cut
pub record WorkBroken (setting : Setting) (past left : ℕ → Image → Type 0) (before : Moment) (from : StoreState) (did : Did) (IsThere : Moment → Type 0) : Type 0 where
  pub after : Moment
  pub there : IsThere after
  pub work : WorkCut setting past left before after from did None []

-- ---- headers

-- those of the closure of the tree under headers are added
abbrev pub adding : Setting → State → List Header → Moved
adding setting state headers = with_headers state (closed_under setting.limit state headers).added

-- they were added, and the tree isn't full
pub record AddsHeaders (setting : Setting) (past left : ℕ → Image → Type 0) (before : Moment) (state : State) (from : StoreState) (IsNow : Moment → State → StoreState → Type 0) (headers : List Header) (text_before text_after : List ℕ) (taken : TakenHeaders) : Type 0 where
  pub room : (closed_under setting.limit state headers).full ≡ false
  pub count : taken.frames ≡ length headers
  pub fresh : taken.added ≡ length (closed_under setting.limit state headers).added
  pub work : WorkAdded setting past left before from (moved_on (now_at before state) (adding setting state headers)) IsNow text_before text_after

-- so they were, or a further one found the tree full, and it is said
abbrev pub OffersHeaders : Setting → (ℕ → Image → Type 0) → (ℕ → Image → Type 0) → Moment → State → StoreState → (Moment → State → StoreState → Type 0) → List Header → List ℕ → List ℕ → Option TakenHeaders → Type 0
OffersHeaders setting past left before state from IsNow headers text_before text_after (Some taken) =
    AddsHeaders setting past left before state from IsNow headers text_before text_after taken
OffersHeaders setting past left before state from IsNow headers text_before text_after None =
    ((closed_under setting.limit state headers).full ≡ true)
    × WorkAdded setting past left before from (moved_on (now_at before state) (and_reply says.TreeFull (adding setting state headers))) IsNow text_before text_after

-- ---- the headers of a file

-- the file's headers were added, and the tree isn't full; no line is said yet
pub record TakesHeaders (setting : Setting) (past left : ℕ → Image → Type 0) (before : Moment) (state : State) (from : StoreState) (IsNow : Moment → State → StoreState → Type 0) (name : List ℕ) (key : Option (List ℕ)) (text_before text_after : List ℕ) (taken : TakenHeaders) : Type 0 where
  pub bytes : List ℕ
  pub file : get before.files name ≡ Some bytes
  pub fits : length bytes ≤ longest_file
  pub room : (closure_of setting state (blocks_in bytes key)).full ≡ false
  pub count : taken.frames ≡ length (blocks_in bytes key)
  pub fresh : taken.added ≡ length (closure_of setting state (blocks_in bytes key)).added
  pub text : text_after ≡ text_before
  pub after : Moment
  pub on : StoreState
  pub now : IsNow after (with_headers state (closure_of setting state (blocks_in bytes key)).added).state on
  pub work : WorkDone setting past left before after from on (moved_on (now_at before state) (with_headers state (closure_of setting state (blocks_in bytes key)).added)) []

-- so they were, or the line is served: the file can't be read, or the tree is full
abbrev pub TakesOrEnds : Setting → (ℕ → Image → Type 0) → (ℕ → Image → Type 0) → Moment → State → StoreState → (Moment → State → StoreState → Type 0) → List ℕ → Option (List ℕ) → List Flushed → List ℕ → List ℕ → Option TakenHeaders → Type 0
TakesOrEnds setting past left before state from IsNow name key had text_before text_after (Some taken) =
    TakesHeaders setting past left before state from IsNow name key text_before text_after taken
TakesOrEnds setting past left before state from IsNow name key had text_before text_after None =
    (asked : Line) → TakesFile name key asked → WorkServed setting past left before from (DoesLine setting before state asked) IsNow had had text_before text_after
