-- What a run promises: the values that belong together.
use Rattle.std.specs.Prelude.{◌≡◌, ◌≢◌, ℕ, ◌≤◌, true, Some}
use Rattle.std.specs.List.{AllByRecursion}
use Rattle.disk_model.specs.Disk.{Image}
use Rattle.base_types.specs.declared.flushes.Flushed.{Flushed}
use Rattle.base_types.specs.declared.program.Rules.{Rules}
use Rattle.machine.specs.declared.report.Opened.{Opened}
use Rattle.machine.specs.declared.report.Opened.TheVariants.{Not, Yes}
use Rattle.store_state.specs.State.{StoreState, state_of}
use Rattle.machine.specs.State.{begins}
use Rattle.machine.specs.Steps.{Now}
use Rattle.machine.specs.Courses.{Course, whole, events_of}
use Rattle.machine.specs.Runs.{Run, IsDisk}
use Rattle.machine.specs.Tips.{AllSettled, StaysSettled, LeavesAsAtEntry, LeavesEvents, LeavesAll}
use Rattle.machine.specs.Answers.{Opens, Answers, has_line, is_done}

-- the readings of a member are readings of the call in their order; a told member is done, and its flush has a line
abbrev pub ReadsWithin : ℕ → ℕ → Flushed → Type 0
ReadsWithin low high member =
    (low ≤ member.begun)
    × (member.begun ≤ high)
    × ((d : ℕ) → member.done ≡ Some d → (member.begun ≤ d) × (d ≤ high))
    × (member.told ≡ true → (is_done member ≡ true) × (has_line member.why ≡ true))

-- first the opening ended, and then the flushes were made
abbrev pub InOrder : Run → Opened → Type 0
InOrder run Not = Unit {0}
InOrder run (Yes at full snapshot) = (run.entered ≤ at) × (at ≤ run.ended) × AllByRecursion (ReadsWithin at run.ended) run.flushes

-- where the machine begins
abbrev pub now_at : Run → StoreState → Now
now_at run store = record { state = begins store; files = run.files_before }

-- one course of the machine serves the images and the answers
pub record AfterOpening (limit : ℕ) (given : Rules) (entry : Image → Type 0) (left : ℕ → Image → Type 0) (run : Run) (store : StoreState) : Type 0 where
  pub course : Course run.setting (now_at run store) run.taken
  pub leaves : LeavesEvents limit given entry left run (events_of (whole course)) store
  pub leaves_all : LeavesAll limit given left run (events_of (whole course)) store
  pub answers : Answers run (now_at run store) course

-- the values of a run that belong together, where the tree may have so many headers and these are the rules that are given
pub record IsRun (limit : ℕ) (given : Rules) (entry : Image → Type 0) (left : ℕ → Image → Type 0) (run : Run) : Type 0 where
  pub limits : run.setting.limit ≡ limit
  pub rules : run.setting.given ≡ given
  pub disk : IsDisk entry left run
  pub settled : StaysSettled limit given entry left run.entered
  pub opens : Opens limit given run
  pub in_order : InOrder run run.opened
  pub not_opened : AllSettled limit given entry → LeavesAsAtEntry limit given entry left run
  pub after_opening : AllSettled limit given entry → (store : StoreState) → state_of limit given run.contents ≡ Some store → run.opened ≢ Not
      → AfterOpening limit given entry left run store
