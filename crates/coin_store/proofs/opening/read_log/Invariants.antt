use Rattle.std.proofs.Common.{◌≡◌, ℕ, ◌≤◌, List, take}
use Rattle.std.specs.Prelude.{sum_by}
use Rattle.disk_model.specs.Disk.{Quiet}
use Rattle.batch_log.specs.OpenLog.{Stands}
use Rattle.batch_log.specs.Reading.{ReadAtMost}
use Rattle.batch_log.specs.declared.places.Place.{Place}
use Rattle.coin_store.specs.Opening.{HasPayloads}
use Rattle.coin_store.proofs.opening.read_log.Given as goal

abbrev pub invariant-loop-i : goal.invariant-loop-i
invariant-loop-i g l = record {
  contents : g.D.Disk.contents l.disk ≡ g.D.Disk.contents l.fn.disk;
  quiet : Quiet g.D.Disk.time g.D.Disk.left_since l.fn.disk l.disk;
  faults : g.D.Disk.faults l.fn.disk ≤ g.D.Disk.faults l.disk;
  read : ReadAtMost l.log.file (sum_by (λ (p : Place). p.len) (take l.i l.places)) (g.D.Disk.bytes_read l.fn.disk) (g.D.Disk.bytes_read l.disk);
  known : (payloads : List (List ℕ)) → Stands (g.D.Disk.contents l.fn.disk) (g.D.Disk.left_since l.fn.disk (g.D.Disk.time l.fn.disk)) l.log payloads
      → HasPayloads l.kind l.log.file l.mask (take l.i payloads) l.fn.index.places l.index.places l.markers.items;
  salt : l.index.salt ≡ l.fn.index.salt;
}
