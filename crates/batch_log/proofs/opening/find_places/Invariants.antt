use Rattle.std.proofs.Common.{◌≡◌, ◌≤◌, ◌<◌, ◌-◌, ◌*◌, ℕ, List, length}
use Rattle.std.specs.Prelude.{Some}
use Rattle.disk_model.specs.Disk.{Quiet}
use Rattle.batch_log.specs.OpenLog.{AllBefore}
use Rattle.batch_log.specs.Opening.{IsReadTo}
use Rattle.batch_log.specs.Reading.{ReadAtMost}
use Rattle.batch_log.proofs.opening.find_places.Given as goal

abbrev pub invariant-loop-at : goal.invariant-loop-at
invariant-loop-at g l = record {
  contents : g.D.Disk.contents l.disk ≡ g.D.Disk.contents l.fn.disk;
  quiet : Quiet g.D.Disk.time g.D.Disk.left_since l.fn.disk l.disk;
  faults : g.D.Disk.faults l.fn.disk ≤ g.D.Disk.faults l.disk;
  before : AllBefore l.at l.places.items;
  read : ReadAtMost l.file (5 * length l.places.items) (g.D.Disk.bytes_read l.fn.disk) (g.D.Disk.bytes_read l.disk);
  known : (m : ℕ → List ℕ) → g.D.Disk.contents l.fn.disk ≡ Some m → l.len ≡ length (m l.file) → 1 < l.len → IsReadTo (m l.file) l.places.items l.at;
}

abbrev pub decreases-loop-at : goal.decreases-loop-at
decreases-loop-at g l = l.len - l.at
