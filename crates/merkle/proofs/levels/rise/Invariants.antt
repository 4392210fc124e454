use Rattle.std.proofs.Common.{◌≡◌, vec_len}
use Rattle.block_codec.specs.Merkle.{level_above}
use Rattle.merkle.proofs.Rising.{raised}
use Rattle.merkle.proofs.levels.rise.Given as goal

abbrev pub invariant-loop-pair : goal.invariant-loop-pair
invariant-loop-pair l = record {
  written : raised l.pair l.level.items ≡ level_above l.fn.level.items;
  same_length : vec_len l.level ≡ vec_len l.fn.level;
}
