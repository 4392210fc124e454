use Rattle.std.proofs.Common.{arith}
use Rattle.coin_codec.proofs.VarintLens.{begun, one_more, counted}
use Rattle.coin_codec.proofs.lengths.varint_len.Goals as goal

pub loop-above-init : goal.loop-above-init
loop-above-init c = begun c.args.n (omega arith)

pub loop-above-preserved : goal.loop-above-preserved
loop-above-preserved c = one_more c.args.n c.loop-above.len c.loop-above.above (omega arith) c.loop-above.invariant

pub returns-clause-exact : goal.returns-clause-exact
returns-clause-exact c = counted c.args.n c.loop-above.len c.loop-above.above (omega arith) c.loop-above.invariant
