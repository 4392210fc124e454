use Rattle.std.proofs.Common.{◌≡◌, ◌++◌, ◌<◌, ◌≤◌, length, drop}
use Rattle.base_types.specs.Bytes.{marked, varint}
use Rattle.base_types.proofs.Groups.{room}
use Rattle.base_types.proofs.writing.put_varint.Given as goal

abbrev pub invariant-loop-above : goal.invariant-loop-above
invariant-loop-above l = record {
  written : marked l.above l.above ++ drop l.first l.groups ≡ varint l.n;
  fits : l.above < room l.first;
  places : l.first ≤ 9;
  sized : length l.groups ≡ 10;
}

abbrev pub decreases-loop-above : goal.decreases-loop-above
decreases-loop-above l = l.above
