use Rattle.std.proofs.Common.{arith, rules, sym}
use Rattle.command_text.proofs.Digits.{not_read}
use Rattle.command_text.proofs.field.number.Goals as goal

pub returns-in_default-3-clause-value : goal.returns-in_default-3-clause-value
returns-in_default-3-clause-value c =
    sym (not_read c.in_default.field-0 c.args.form c.args.field.now (rw c.as_text.ensures at c.in_default.ensures.value.0) (search rules) (omega arith))
