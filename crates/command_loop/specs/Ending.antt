-- How a run over an open store ends.
use Rattle.std.specs.Prelude.{◌≡◌, ◌≢◌, ◌≤◌, true, ℕ, List, [], ◌++◌, length, map, Option, Some}
use Rattle.disk_model.specs.Disk.{Image}
use Rattle.base_types.specs.declared.program.Status.{Status}
use Rattle.base_types.specs.declared.program.Status.TheVariants as status
use Rattle.store_state.specs.State.{StoreState}
use Rattle.machine.specs.State.{Setting}
use Rattle.machine.specs.Steps.{Did}
use Rattle.machine.specs.Courses.{Course, whole, ended, text_of, events_of, host_faults}
use Rattle.machine.specs.Calls.{IsWhole}
use Rattle.machine.specs.Answers.{FilesAfter, name_of, flushes_of, AllDone, stops_on_input}
use Rattle.machine.specs.Work.{call_between}
use Rattle.command_loop.specs.Points.{Outer, Point, now_of}
use Rattle.command_loop.specs.Service.{CutShort}

-- What was taken of the bytes of an input, and what is left. Where there are too many, the most were taken, and one more
-- was looked at.
pub record Takes (result : Status) (bytes taken : List ℕ) (now_left : Option (List ℕ)) : Type 0 where
  pub beyond : List ℕ
  pub rest : List ℕ
  pub split : bytes ≡ taken ++ beyond ++ rest
  pub left : now_left ≡ Some rest
  pub most : length taken ≤ 16777216
  pub one : result ≡ status.TooLong → (length taken ≡ 16777216) × (length beyond ≡ 1)
  pub none : result ≢ status.TooLong → beyond ≡ []
  pub ended : result ≡ status.Done → rest ≡ []

-- at the exit with status 0 all was done
pub record AllWasDone (setting : Setting) (past left : ℕ → Image → Type 0) (p : Point) (o : Outer) (taken : List ℕ) (course : Course setting (now_of p) taken) (said others : List Did) (IsOut : Type 0) (short : CutShort setting past left p o IsOut said others) : Type 0 where
  pub end : StoreState
  pub is_whole : IsWhole setting.limit setting.given past left (call_between p.outer.moment o.moment short.flushes (events_of (whole course))) p.store end
  pub names : map name_of short.flushes ≡ flushes_of (events_of (whole course))
  pub done : AllDone short.flushes
  pub text : short.wrote ≡ text_of (whole course)
  pub files : o.moment.files ≡ course.last.files

-- where the taking of the input ended the run, the lines that had ended were done
pub record EndedWereDone (setting : Setting) (past left : ℕ → Image → Type 0) (p : Point) (o : Outer) (taken : List ℕ) (course : Course setting (now_of p) taken) (said others : List Did) (IsOut : Type 0) (short : CutShort setting past left p o IsOut said others) : Type 0 where
  pub names : map name_of short.flushes ≡ flushes_of (events_of (ended course))
  pub done : AllDone short.flushes
  pub text : short.wrote ≡ text_of (ended course)

pub record Finish (setting : Setting) (past left : ℕ → Image → Type 0) (p : Point) (o : Outer) (result : Status) (taken : List ℕ) : Type 0 where
  pub course : Course setting (now_of p) taken
  pub said : List Did
  pub others : List Did
  pub is : whole course ≡ said ++ others
  pub short : CutShort setting past left p o (result ≡ status.OutFault) said others
  pub host : host_faults course.dids ≡ host_faults (said ++ others)
  pub files : FilesAfter taken short.wrote (now_of p) course.dids o.moment.files
  pub done : result ≡ status.Done → AllWasDone setting past left p o taken course said others (result ≡ status.OutFault) short
  pub stops : stops_on_input result ≡ true → EndedWereDone setting past left p o taken course said others (result ≡ status.OutFault) short

-- the lines that were taken are answered
pub record AnswersInput (setting : Setting) (past left : ℕ → Image → Type 0) (result : Status) (bytes : List ℕ) (now_left : Option (List ℕ)) (p : Point) (IsThere : Outer → Type 0) : Type 0 where
  pub taken : List ℕ
  pub takes : Takes result bytes taken now_left
  pub o : Outer
  pub there : IsThere o
  pub finish : Finish setting past left p o result taken
