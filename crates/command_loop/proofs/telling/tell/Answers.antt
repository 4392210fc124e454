use Rattle.std.proofs.Common.{◌<◌, length, ◌∙◌, ap, arith}
use Rattle.command_loop.proofs.Members.{told_step}
use Rattle.command_loop.proofs.telling.tell.Goals as goal

pub loop-place-preserved : goal.loop-place-preserved
loop-place-preserved c =
    let at = c.loop-place in
    let test = c.loop-place-test.true in
    let end = ap length c.as_slice-place-end.ensures in
    let long = at.invariant.long in
    let within : at.place < length at.flushes = omega (arith, test, end, long) in
    let step = told_step at.flushes c.tell_one.new.flushes at.place within c.tell_one.ensures in
    record { kept = step.0 ∙ at.invariant.kept; long = step.1 ∙ long }
