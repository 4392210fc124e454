use Rattle.std.proofs.Common.{◌≡◌, ◌+◌, ◌-◌, ◌<◌, ◌≤◌}
use Rattle.coin_codec.specs.Amount.{tens, left}
use Rattle.coin_codec.proofs.amount.compress_amount.Given as goal

abbrev pub invariant-loop-tens : goal.invariant-loop-tens
invariant-loop-tens l = record {
  counted : l.tens + tens (9 - l.tens) l.left ≡ tens 9 l.value;
  over : left (9 - l.tens) l.left ≡ left 9 l.value;
  most : l.tens ≤ 9;
  some : 0 < l.left;
  within : l.left ≤ l.value;
}

abbrev pub decreases-loop-tens : goal.decreases-loop-tens
decreases-loop-tens l = 9 - l.tens
