use Rattle.std.proofs.Common.{◌≡◌, length, drop, reverse}
use Rattle.std.specs.Prelude.{None}
use Rattle.block_codec.specs.Commitment.{last_commitment}
use Rattle.merkle.proofs.Commitments.{first_commitment}
use Rattle.merkle.proofs.witness.last_commitment.Given as goal

abbrev pub invariant-loop-output : goal.invariant-loop-output
invariant-loop-output l = first_commitment None (drop (length l.yielded) (reverse l.outputs)) ≡ last_commitment None l.outputs
