use Rattle.std.proofs.Common.{arith}
use Rattle.command_text.proofs.JsonTexts.{hex_is_plain}
use Rattle.command_text.proofs.json_text.hex_text.Goals as goal

pub returns-clause-plain : goal.returns-clause-plain
returns-clause-plain c = hex_is_plain c.args.bytes.now (λ i. omega (arith, c.type_inv.bytes i))
