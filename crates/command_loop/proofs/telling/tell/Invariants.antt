use Rattle.std.proofs.Common.{◌≡◌, ◌++◌, map, take, drop, length}
use Rattle.command_loop.specs.Telling.{told_now}
use Rattle.command_loop.proofs.telling.tell.Given as goal

abbrev pub invariant-loop-place : goal.invariant-loop-place
invariant-loop-place l = record {
  kept : take l.place l.flushes ++ map told_now (drop l.place l.flushes) ≡ take l.from l.fn.flushes ++ map told_now (drop l.from l.fn.flushes);
  long : length l.flushes ≡ length l.fn.flushes;
}
