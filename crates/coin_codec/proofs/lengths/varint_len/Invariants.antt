use Rattle.coin_codec.proofs.VarintLens.{IsCounted}
use Rattle.coin_codec.proofs.lengths.varint_len.Given as goal

abbrev pub invariant-loop-above : goal.invariant-loop-above
invariant-loop-above l = IsCounted l.n l.len l.above

abbrev pub decreases-loop-above : goal.decreases-loop-above
decreases-loop-above l = l.above
