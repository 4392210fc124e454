use Rattle.std.proofs.Common.{◌+◌, ◌*◌, ◌≤◌, length, drop}
use Rattle.snapshot_file.specs.Steps.{Goes, rank, point}
use Rattle.snapshot_file.proofs.progress.Progress.read_items.Given as goal

abbrev pub invariant-loop-len : goal.invariant-loop-len
invariant-loop-len l = record {
  goes : Goes (point l.initial.self l.at l.bytes l.initial.coins) (point l.self (l.at + l.used) (drop l.used l.bytes) l.coins);
  within : l.used ≤ length l.bytes;
  sized : 4 * length l.coins ≤ 4 * length l.initial.coins + l.used;
}

abbrev pub decreases-loop-len : goal.decreases-loop-len
decreases-loop-len l = rank l.self
