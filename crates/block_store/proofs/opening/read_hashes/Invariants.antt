use Rattle.std.proofs.Common.{◌≡◌, ◌*◌, ◌≤◌, ℕ, List, length, map, Some, take}
use Rattle.disk_model.specs.Disk.{Quiet}
use Rattle.batch_log.specs.OpenLog.{Stands}
use Rattle.batch_log.specs.Reading.{ReadAtMost}
use Rattle.block_store.specs.Bodies.{body_hash}
use Rattle.block_store.proofs.opening.read_hashes.Given as goal

abbrev pub invariant-loop-place : goal.invariant-loop-place
invariant-loop-place g l = record {
  hashes : (payloads : List (List ℕ)) → Stands (g.D.Disk.contents l.fn.disk) (g.D.Disk.left_since l.fn.disk (g.D.Disk.time l.fn.disk)) l.fn.bodies payloads → map body_hash (take l.place-index payloads) ≡ map Some l.index;
  len : length l.index ≡ l.place-index;
  faults : g.D.Disk.faults l.fn.disk ≤ g.D.Disk.faults l.disk;
  contents : g.D.Disk.contents l.disk ≡ g.D.Disk.contents l.fn.disk;
  quiet : Quiet g.D.Disk.time g.D.Disk.left_since l.fn.disk l.disk;
  read : ReadAtMost l.fn.bodies.file (32 * l.place-index) (g.D.Disk.bytes_read l.fn.disk) (g.D.Disk.bytes_read l.disk);
}
