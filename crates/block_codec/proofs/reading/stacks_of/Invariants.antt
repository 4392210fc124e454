use Rattle.std.proofs.Common.{◌≡◌, length, take, drop}
use Rattle.block_codec.specs.Reading.{stacks_at}
use Rattle.block_codec.proofs.Loop.{with_front}
use Rattle.block_codec.proofs.reading.stacks_of.Given as goal

abbrev pub invariant-loop-index : goal.invariant-loop-index
invariant-loop-index l = record {
  sized : length l.inputs.items ≡ l.index-end;
  goes_on : with_front (take l.index l.inputs.items) (stacks_at (drop l.index l.inputs.items) l.cursor) ≡ stacks_at l.fn.inputs l.fn.cursor;
}
