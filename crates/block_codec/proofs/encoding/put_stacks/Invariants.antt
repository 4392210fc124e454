use Rattle.std.proofs.Common.{take}
use Rattle.std.specs.List.{flat_map}
use Rattle.block_codec.specs.Encoding.{Adds}
use Rattle.block_codec.specs.Text.{stack_text}
use Rattle.block_codec.proofs.encoding.put_stacks.Given as goal

abbrev pub invariant-loop-input : goal.invariant-loop-input
invariant-loop-input g l = Adds (g.E).Encoder.holds l.fn.encoder l.encoder (flat_map (λ i. stack_text i.stack) (take l.input-index l.inputs))
