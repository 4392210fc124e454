use Rattle.std.proofs.Common.{take}
use Rattle.std.specs.Prelude.{All}
use Rattle.block_codec.specs.Fitting.{HeaderFits}
use Rattle.block_store.proofs.ranges.headers_fit.Given as goal

abbrev pub invariant-loop-header : goal.invariant-loop-header
invariant-loop-header l = All HeaderFits (take l.header-index l.headers)
