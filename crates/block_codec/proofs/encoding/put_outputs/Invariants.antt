use Rattle.std.proofs.Common.{take}
use Rattle.std.specs.List.{flat_map}
use Rattle.block_codec.specs.Encoding.{Adds}
use Rattle.block_codec.specs.Text.{output_text}
use Rattle.block_codec.proofs.encoding.put_outputs.Given as goal

abbrev pub invariant-loop-output : goal.invariant-loop-output
invariant-loop-output g l = Adds (g.E).Encoder.holds l.fn.encoder l.encoder (flat_map output_text (take l.output-index l.outputs))
