use Rattle.std.proofs.Common.{◌≡◌, ◌||◌, vec_len}
use Rattle.block_codec.specs.Merkle.{merkle_root, is_mutated}
use Rattle.merkle.proofs.levels.root_in_place.Given as goal

abbrev pub invariant-loop-level : goal.invariant-loop-level
invariant-loop-level l = record {
  root : merkle_root l.level.items ≡ merkle_root l.fn.hashes.items;
  twins : (l.mutated || is_mutated l.level.items) ≡ is_mutated l.fn.hashes.items;
}

abbrev pub decreases-loop-level : goal.decreases-loop-level
decreases-loop-level l = vec_len l.level
