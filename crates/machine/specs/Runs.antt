-- A run of the program as plain values.
use Rattle.std.specs.Prelude.{ℕ, ◌≤◌, Bool, List}
use Rattle.disk_model.specs.Disk.{Image}
use Rattle.base_types.specs.declared.flushes.Flushed.{Flushed}
use Rattle.base_types.specs.declared.program.Status.{Status}
use Rattle.io_traits.specs.Host.{Files}
use Rattle.machine.specs.State.{Setting}
use Rattle.machine.specs.declared.report.Opened.{Opened}

-- the values of a run but for the images: what it was set to, the clock and the disk at entry and at exit, the bytes of
-- commands that were taken and whether the input was read to its end, the bytes written, the host's files and faults, and
-- the report
pub record Run : Type 0 where
  pub setting : Setting
  pub entered : ℕ
  pub ended : ℕ
  pub contents : Image
  pub after : Image
  pub taken : List ℕ
  pub at_end : Bool
  pub wrote : List ℕ
  pub files_before : Files
  pub files_after : Files
  pub faults_before : ℕ
  pub faults_after : ℕ
  pub status : Status
  pub flushes : List Flushed
  pub opened : Opened

-- the disk of a run tells one of its images, and a crash since a moment is one since each earlier moment
pub record IsDisk (entry : Image → Type 0) (left : ℕ → Image → Type 0) (run : Run) : Type 0 where
  pub later : run.entered ≤ run.ended
  pub reads : entry run.contents
  pub reads_after : left run.ended run.after
  pub earlier : (t u : ℕ) (c : Image) → t ≤ u → u ≤ run.ended → left u c → left t c
