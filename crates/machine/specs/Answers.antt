-- What a run finds in opening, and what it answers.
use Rattle.std.specs.Prelude.{◌≡◌, ◌≢◌, ℕ, zero, suc, ◌-◌, ◌≤◌, Bool, true, false, ◌&&◌, List, [], ◌∷◌, ◌++◌, length, map, filter, take, cond, nat_le, is_some, slice_get, Option, Some, None, Result, Ok}
use Rattle.std.specs.List.{AllByRecursion, filter_map}
use Rattle.std.specs.Option.{option_and_then, option_map}
use Rattle.disk_model.specs.Disk.{Image}
use Rattle.base_types.specs.declared.flushes.Chain.{Chain}
use Rattle.base_types.specs.declared.flushes.Flushed.{Flushed}
use Rattle.base_types.specs.declared.flushes.Why.{Why}
use Rattle.base_types.specs.declared.flushes.Why.TheVariants.{Command, End}
use Rattle.base_types.specs.declared.hash.Hash32.{Hash32}
use Rattle.base_types.specs.declared.program.Rules.{Rules}
use Rattle.base_types.specs.declared.program.Status.{Status}
use Rattle.base_types.specs.declared.program.Status.TheVariants as status
use Rattle.io_traits.specs.Causes.{RoseBy}
use Rattle.io_traits.specs.Host.{Files}
use Rattle.command_text.specs.Lines.{line_of}
use Rattle.command_text.specs.Replies.{reply_text}
use Rattle.command_text.specs.declared.line.Line.{Line}
use Rattle.command_text.specs.declared.line.Line.TheVariants as line
use Rattle.command_text.specs.declared.line.LineRefused.{LineRefused}
use Rattle.command_text.specs.declared.reply.Reply.{Reply}
use Rattle.command_text.specs.declared.reply.Reply.TheVariants as says
use Rattle.machine.specs.declared.report.Found.{Found}
use Rattle.machine.specs.declared.report.Opened.{Opened}
use Rattle.machine.specs.declared.report.Opened.TheVariants.{Not, Yes}
use Rattle.store_state.specs.Roles.{full_of, snapshot_of}
use Rattle.store_state.specs.State.{StoreState, Chainstate, state_of, tip_of}
use Rattle.machine.specs.State.{Event, HeadersStored, BodyStored, Flush}
use Rattle.machine.specs.Steps.{Now, Did, OthersStay}
use Rattle.machine.specs.Courses.{Course, lines_in, whole, ended, replies_of, events_of, text_of, host_faults}
use Rattle.machine.specs.Runs.{Run}

-- ---- opening

abbrev pub found_of : Chainstate → Found
found_of chainstate = record { marker = chainstate.marker; tip = tip_of chainstate }

-- what was found of each chainstate is what the contents stand for
abbrev pub FoundIn : ℕ → Rules → Image → Opened → Type 0
FoundIn limit given contents Not = Unit {0}
FoundIn limit given contents (Yes at full snapshot) =
    (store : StoreState) × (state_of limit given contents ≡ Some store)
    × (full ≡ option_map found_of (full_of store.active store.role)) × (snapshot ≡ option_map found_of (snapshot_of store.active store.role))

-- a run that ends so has opened the store
abbrev pub needs_opening : Status → Bool
needs_opening status.Done = true
needs_opening status.InFault = true
needs_opening status.OutFault = true
needs_opening status.TooLong = true
needs_opening other = false

-- a run that ends so hasn't
abbrev pub comes_before : Status → Bool
comes_before status.Usage = true
comes_before status.HostFault = true
comes_before status.BadCommitments = true
comes_before other = false

pub record Opens (limit : ℕ) (given : Rules) (run : Run) : Type 0 where
  pub found : FoundIn limit given run.contents run.opened
  pub not_only : run.opened ≡ Not → needs_opening run.status ≡ false
  pub not_with : comes_before run.status ≡ true → run.opened ≡ Not
  pub silent : run.opened ≡ Not → run.wrote ≡ []
  pub idle : run.opened ≡ Not → run.flushes ≡ []
  pub untaken : run.opened ≡ Not → run.taken ≡ []
  pub unchanged : run.opened ≡ Not → run.files_after ≡ run.files_before

-- ---- flushes

abbrev pub IsPrefix : {A : Type 0} → List A → List A → Type 0
IsPrefix {A} xs ys = (rest : List A) × (ys ≡ xs ++ rest)

-- a flush by its chainstate, its tip and why it was made
abbrev pub FlushName : Type 0
FlushName = Chain × Hash32 × Why

abbrev pub name_of : Flushed → FlushName
name_of member = (member.chain, member.tip, member.why)

abbrev pub flushes_of : List Event → List FlushName
flushes_of [] = []
flushes_of (Flush chain tip why touched ∷ events) = (chain, tip, why) ∷ flushes_of events
flushes_of (HeadersStored headers ∷ events) = flushes_of events
flushes_of (BodyStored hash block ∷ events) = flushes_of events

abbrev pub is_done : Flushed → Bool
is_done member = is_some member.done

abbrev pub AllDone : List Flushed → Type 0
AllDone members = AllByRecursion (λ member. is_done member ≡ true) members

-- only the last may be unfinished
abbrev pub AllDoneButLast : List Flushed → Type 0
AllDoneButLast [] = Unit {0}
AllDoneButLast (member ∷ []) = Unit {0}
AllDoneButLast (member ∷ next ∷ members) = (is_done member ≡ true) × AllDoneButLast (next ∷ members)

-- a run that ends so stopped while it took its input
abbrev pub stops_on_input : Status → Bool
stops_on_input status.InFault = true
stops_on_input status.TooLong = true
stops_on_input other = false

-- ---- lines that tell of flushes

-- the replies whose lines stand whole among so many bytes
unfoldable pub whole_replies : ℕ → List Reply → List Reply
whole_replies n [] = []
whole_replies n (reply ∷ replies) = cond (nat_le (length (reply_text reply)) n) (reply ∷ whole_replies (n - length (reply_text reply)) replies) []

abbrev pub flush_told_by : Reply → Option (Chain × Hash32)
flush_told_by (says.Flushed chain height tip) = Some (chain, tip)
flush_told_by other = None

abbrev pub flushes_told_by : List Reply → List (Chain × Hash32)
flushes_told_by replies = filter_map flush_told_by replies

abbrev pub told_name : Flushed → Chain × Hash32
told_name member = (member.chain, member.tip)

-- the flushes of a line, and of the end of the input, are told
abbrev pub has_line : Why → Bool
has_line Command = true
has_line End = true
has_line other = false

abbrev pub told_flushes : List Flushed → List (Chain × Hash32)
told_flushes members = map told_name (filter (λ member. member.told) members)

abbrev pub flushes_with_lines : List Flushed → List (Chain × Hash32)
flushes_with_lines members = map told_name (filter (λ member. is_done member && has_line member.why) members)

-- ---- the host's files

-- where all stands after so many lines
abbrev pub after_some : Now → ℕ → List Did → Now
after_some now zero dids = now
after_some now (suc n) [] = now
after_some now (suc n) (did ∷ dids) = after_some did.now n dids

-- the file that a line may begin
abbrev pub file_begun : Result Line LineRefused → Option (List ℕ)
file_begun (Ok (line.Generate number count file)) = Some file
file_begun other = None

abbrev pub next_begun : List (List ℕ) → ℕ → Option (List ℕ)
next_begun lines n = option_and_then (λ line. file_begun (line_of line)) (slice_get lines n)

-- the files are the same, but maybe for one that was begun
abbrev pub SameBut : Option (List ℕ) → Files → Files → Type 0
SameBut None before after = after ≡ before
SameBut (Some name) before after = OthersStay name before after

-- the files are those after a first part of the lines, but for a file that the next line began; each line of which the
-- last reply was written is in that part
pub record FilesAfter (taken wrote : List ℕ) (from : Now) (dids : List Did) (files : Files) : Type 0 where
  pub lines : ℕ
  pub same : SameBut (next_begun (lines_in taken) lines) (after_some from lines dids).files files
  pub answered : (n : ℕ) → n ≤ length dids → length (text_of (take n dids)) ≤ length wrote → n ≤ lines

-- ---- all that is answered, for one course of the machine

pub record Answers (run : Run) (from : Now) (course : Course run.setting from run.taken) : Type 0 where
  pub flushes : IsPrefix (map name_of run.flushes) (flushes_of (events_of (whole course)))
  pub unfinished : AllDoneButLast run.flushes
  pub all_flushes : run.status ≡ status.Done → (map name_of run.flushes ≡ flushes_of (events_of (whole course))) × AllDone run.flushes
  pub ended_flushes : stops_on_input run.status ≡ true → (map name_of run.flushes ≡ flushes_of (events_of (ended course))) × AllDone run.flushes
  pub text : IsPrefix run.wrote (text_of (whole course))
  pub all_text : run.status ≡ status.Done → (run.wrote ≡ text_of (whole course)) × (run.at_end ≡ true)
  pub ended_text : stops_on_input run.status ≡ true → run.wrote ≡ text_of (ended course)
  pub host : RoseBy (host_faults course.dids) run.faults_before run.faults_after
  -- the lines of flushes that stand whole among the bytes written are those of the told members; where a write failed,
  -- those of further done members may stand there too
  pub told : IsPrefix (told_flushes run.flushes) (flushes_told_by (whole_replies (length run.wrote) (replies_of (whole course))))
  pub told_only : run.status ≢ status.OutFault → flushes_told_by (whole_replies (length run.wrote) (replies_of (whole course))) ≡ told_flushes run.flushes
  pub told_done : IsPrefix (flushes_told_by (whole_replies (length run.wrote) (replies_of (whole course)))) (flushes_with_lines run.flushes)
  pub all_files : run.status ≡ status.Done → run.files_after ≡ course.last.files
  pub files : FilesAfter run.taken run.wrote from course.dids run.files_after
