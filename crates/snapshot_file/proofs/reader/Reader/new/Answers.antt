use Rattle.std.proofs.Common.{arith, ap, length, refl}
use Rattle.snapshot_file.proofs.HeadLaws.{head_none}
use Rattle.snapshot_file.proofs.reader.Reader.new.Goals as goal

pub returns : goal.returns
returns c = record {
  bytes = λ i. omega arith;
  count = omega (arith, ap length c.in_ok-with_capacity.ensures.items);
  stands = record { all = c.in_ok-with_capacity.ensures.items; no_height = refl; waits = head_none };
}
