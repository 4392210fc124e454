use Rattle.std.proofs.Common.{◌≡◌, ◌≤◌, length, take}
use Rattle.file_disk.proofs.Moved.{HasRead}
use Rattle.file_disk.proofs.file_calls.read_all.Given as goal

abbrev pub invariant-loop : goal.invariant-loop
invariant-loop g l = record {
  within : l.count ≤ length l.buf;
  room : length l.buf ≡ length l.fn.buf;
  reads : HasRead l.counter (g.F.RawFolder.number l.file) l.at (length l.fn.buf) (take l.count l.buf) (g.F.RawFolder.deeds l.fn.folder) (g.F.RawFolder.deeds l.folder);
}
