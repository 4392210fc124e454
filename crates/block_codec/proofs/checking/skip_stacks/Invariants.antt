use Rattle.block_codec.proofs.Skips.{StacksPassed}
use Rattle.block_codec.proofs.checking.skip_stacks.Given as goal

abbrev pub invariant-loop : goal.invariant-loop
invariant-loop l = StacksPassed l.count l.counter l.has_witness l.fn.cursor l.cursor
