use Rattle.std.proofs.Common.{sym, ◌∙◌, arith}
use Rattle.block_checks.proofs.Twins.{few, pair}
use Rattle.block_checks.proofs.inputs.has_duplicate_input.Goals as goal

pub returns-in-empty : goal.returns-in-empty
returns-in-empty c = sym (few c.args.inputs.now (omega arith))

pub returns-in-len2 : goal.returns-in-len2
returns-in-len2 c = c.eq.ensures ∙ sym (pair c.args.inputs.now c.first-item.result c.second-item.result (omega arith) c.first-item.is c.second-item.is)
