use Rattle.std.proofs.Common.{sym, arith}
use Rattle.coin_codec.proofs.ScriptLaws.{short_takes, kept_most}
use Rattle.coin_codec.proofs.lengths.script_len.Goals as goal

pub returns-in-Some-clause-most : goal.returns-in-Some-clause-most
returns-in-Some-clause-most c =
    let s = short_takes c.args.script.now c.in-Some.field-0-0 c.in-Some.kept.now (sym c.in-Some.ensures) in
    omega (arith, s.len, kept_most c.in-Some.field-0-0)
