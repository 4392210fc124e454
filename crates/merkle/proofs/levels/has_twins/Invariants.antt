use Rattle.std.proofs.Common.{◌≡◌, length}
use Rattle.block_codec.specs.Merkle.{has_twins as has_twins_of}
use Rattle.merkle.proofs.levels.has_twins.Given as goal

abbrev pub invariant-loop-rest : goal.invariant-loop-rest
invariant-loop-rest l = has_twins_of l.rest ≡ has_twins_of l.hashes

abbrev pub decreases-loop-rest : goal.decreases-loop-rest
decreases-loop-rest l = length l.rest
