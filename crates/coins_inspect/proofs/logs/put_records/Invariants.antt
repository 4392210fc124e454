use Rattle.std.proofs.Common.{◌≡◌, ◌++◌, ℕ, List, take, drop, length}
use Rattle.disk_model.specs.Disk.{Quiet}
use Rattle.batch_log.specs.OpenLog.{Stands}
use Rattle.batch_log.specs.Records.{records}
use Rattle.coins_inspect.specs.LogReports.{records_lines}
use Rattle.coins_inspect.proofs.logs.put_records.Given as goal

abbrev pub invariant-loop-place : goal.invariant-loop-place
invariant-loop-place g l = record {
  lines : (payloads : List (List ℕ)) → Stands (g.D.Disk.contents l.fn.disk) (g.D.Disk.left_since l.fn.disk (g.D.Disk.time l.fn.disk)) l.fn.log payloads
      → l.out.items ++ records_lines l.fn.kind (drop l.place-index l.fn.log.places) (drop l.place-index payloads) ≡ l.fn.out.items ++ records_lines l.fn.kind l.fn.log.places payloads;
  end : (payloads : List (List ℕ)) → Stands (g.D.Disk.contents l.fn.disk) (g.D.Disk.left_since l.fn.disk (g.D.Disk.time l.fn.disk)) l.fn.log payloads → l.end ≡ length (records (take l.place-index payloads));
  contents : g.D.Disk.contents l.disk ≡ g.D.Disk.contents l.fn.disk;
  quiet : Quiet g.D.Disk.time g.D.Disk.left_since l.fn.disk l.disk;
}
