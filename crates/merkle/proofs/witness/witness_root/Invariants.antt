use Rattle.std.proofs.Common.{◌≡◌, ◌∷◌, map, take}
use Rattle.block_codec.specs.Text.{zero_hash, wtxid_of}
use Rattle.merkle.proofs.witness.witness_root.Given as goal

abbrev pub invariant-loop-tx : goal.invariant-loop-tx
invariant-loop-tx l = l.hashes.items ≡ zero_hash ∷ map wtxid_of (take l.tx-index l.others)
