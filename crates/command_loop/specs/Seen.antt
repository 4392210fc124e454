-- What is seen of a run from outside.
use Rattle.std.specs.Prelude.{◌≡◌, ◌↔◌, ℕ, true, List, [], ◌++◌, Option, Some, Result, Ok, Err}
use Rattle.disk_model.specs.Disk.{Image}
use Rattle.base_types.specs.declared.program.Status.{Status}
use Rattle.base_types.specs.declared.program.Status.TheVariants as status
use Rattle.io_traits.specs.Host.{Held}
use Rattle.machine.specs.declared.report.Report.{Report}
use Rattle.machine.specs.Runs.{Run}
use Rattle.machine.specs.State.{Setting}
use Rattle.command_loop.specs.Ending.{Takes}
use Rattle.command_loop.specs.ServerCalls.{status_of_fault}
use Rattle.command_loop.specs.declared.stop.Stop.{Stop}
use Rattle.command_loop.specs.declared.stop.Stop.TheVariants as stop

abbrev pub status_of_end : {A : Type 0} → Result A Stop → Status
status_of_end (Ok done) = status.Done
status_of_end (Err (stop.OnStore fault)) = status_of_fault fault
status_of_end (Err stop.OutFault) = status.OutFault

-- the statuses of a run without a file of commitments
abbrev pub IsOfRun : Status → Type 0
IsOfRun status.HostFault = ⊥
IsOfRun status.BadCommitments = ⊥
IsOfRun other = Unit {0}

-- those of a run that didn't open its store
abbrev pub IsUnopened : Status → Type 0
IsUnopened status.Usage = Unit {0}
IsUnopened status.DiskFault = Unit {0}
IsUnopened status.NoMemory = Unit {0}
IsUnopened (status.Damaged file at) = Unit {0}
IsUnopened other = ⊥

-- what the disk, the input, the output and the host tell at a moment
pub record Outside : Type 0 where
  pub time : ℕ
  pub contents : Option Image
  pub input : Option (List ℕ)
  pub written : Option (List ℕ)
  pub held : Option Held
  pub faults : ℕ

-- the values of a run are those that are told before and after it, all of them, and those of its report
pub record IsSeen (setting : Setting) (before after : Outside) (report : Report) (run : Run) : Type 0 where
  pub setting_is : run.setting ≡ setting
  pub entered : run.entered ≡ before.time
  pub ended : run.ended ≡ after.time
  pub contents : before.contents ≡ Some run.contents
  pub contents_after : after.contents ≡ Some run.after
  pub bytes : List ℕ
  pub input : before.input ≡ Some bytes
  pub takes : Takes report.status bytes run.taken after.input
  pub at_end : (run.at_end ≡ true) ↔ (after.input ≡ Some [])
  pub had : List ℕ
  pub had_written : before.written ≡ Some had
  pub wrote : after.written ≡ Some (had ++ run.wrote)
  pub host : Held
  pub host_told : before.held ≡ Some host
  pub files : run.files_before ≡ host.files
  pub host_after : Held
  pub host_after_told : after.held ≡ Some host_after
  pub files_after : run.files_after ≡ host_after.files
  pub faults_before : run.faults_before ≡ before.faults
  pub faults_after : run.faults_after ≡ after.faults
  pub status : run.status ≡ report.status
  pub flushes : run.flushes ≡ report.flushes
  pub opened : run.opened ≡ report.opened
