use Rattle.std.proofs.Common.{◌≤◌, length}
use Rattle.file_disk.proofs.Moved.{HasWritten}
use Rattle.file_disk.proofs.file_calls.write_all.Given as goal

abbrev pub invariant-loop : goal.invariant-loop
invariant-loop g l = record {
  within : l.count ≤ length l.bytes;
  writes : HasWritten l.counter (g.F.RawFolder.number l.file) l.at l.bytes l.count (g.F.RawFolder.deeds l.fn.folder) (g.F.RawFolder.deeds l.folder);
}
