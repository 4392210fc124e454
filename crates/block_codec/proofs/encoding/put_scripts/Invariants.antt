use Rattle.std.proofs.Common.{take}
use Rattle.std.specs.List.{flat_map}
use Rattle.block_codec.specs.Encoding.{Adds}
use Rattle.block_codec.specs.Text.{script_text}
use Rattle.block_codec.proofs.encoding.put_scripts.Given as goal

abbrev pub invariant-loop-script : goal.invariant-loop-script
invariant-loop-script g l = Adds (g.E).Encoder.holds l.fn.encoder l.encoder (flat_map script_text (take l.script-index l.scripts))
