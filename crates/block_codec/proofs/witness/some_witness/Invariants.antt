use Rattle.std.proofs.Common.{◌≡◌, drop}
use Rattle.block_codec.specs.Text.{some_witness}
use Rattle.block_codec.proofs.witness.some_witness.Given as goal

abbrev pub invariant-loop-input : goal.invariant-loop-input
invariant-loop-input l = some_witness (drop l.input-index l.inputs) ≡ some_witness l.inputs
