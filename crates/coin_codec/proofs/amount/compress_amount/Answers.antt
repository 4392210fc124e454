use Rattle.std.proofs.Common.{◌≡◌, ◌<◌, ◌%◌, sym, ◌∙◌, arith}
use Rattle.coin_codec.proofs.AmountLaws.{few_code}
use Rattle.coin_codec.specs.Amount.{tens, left}
use Rattle.coin_codec.proofs.Codes.{taken, coded, nine_parts, zero_code}
use Rattle.coin_codec.proofs.amount.compress_amount.Goals as goal
use Rattle.coin_codec.proofs.amount.compress_amount.Goals.{then-loop-tens-test+else-left-eq0, else-loop-tens-test}

pub returns-then-value-eq0 : goal.returns-then-value-eq0
returns-then-value-eq0 c = sym (zero_code c.args.value c.if-value-eq0.true)

pub loop-tens-preserved : goal.loop-tens-preserved
loop-tens-preserved c =
    let step = taken c.loop-tens.tens c.loop-tens.left (tens 9 c.args.value) (left 9 c.args.value) c.loop-tens-test.true c.if-left-eq0.true c.loop-tens.invariant.counted c.loop-tens.invariant.over in
    record { counted = step.0; over = step.1; most = omega arith; some = omega arith; within = omega arith }

pub returns-then-tens-lt9 : goal.returns-then-tens-lt9
returns-then-tens-lt9 c =
    let last : c.loop-tens.tens < 9 → c.loop-tens.left % 10 ≡ 0 → ⊥ = elim c.loop-tens-test.branch [ then-loop-tens-test+else-left-eq0 w ↦ λ _ z. w.if-left-eq0.false z | else-loop-tens-test w ↦ λ lt _. omega arith ] in
    let k = c.loop-tens.invariant in
    sym (coded c.args.value c.loop-tens.tens c.loop-tens.left (omega arith) k.most last k.counted k.over ∙ few_code c.loop-tens.tens c.loop-tens.left c.if-tens-lt9.true)

pub returns-else-tens-lt9 : goal.returns-else-tens-lt9
returns-else-tens-lt9 c =
    let last : c.loop-tens.tens < 9 → c.loop-tens.left % 10 ≡ 0 → ⊥ = λ lt _. omega arith in
    let k = c.loop-tens.invariant in
    sym (coded c.args.value c.loop-tens.tens c.loop-tens.left (omega arith) k.most last k.counted k.over ∙ nine_parts c.loop-tens.tens c.loop-tens.left (omega arith))
