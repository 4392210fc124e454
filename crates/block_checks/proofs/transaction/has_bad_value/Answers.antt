use Rattle.std.proofs.Common.{◌≡◌, ◌+◌, ◌||◌, true, false, Bool, drop, pos, ltb, sym, ap, ◌∙◌, arith}
use Rattle.std.specs.Prelude.{unsigned_abs}
use Rattle.std.proofs.lemmas.Bool.{ltb-false}
use Rattle.chain_model.specs.BodyRules.{has_bad_value}
use Rattle.block_checks.proofs.Amounts.{in_range, bad_at, step_at, fine_at_end}
use Rattle.block_checks.proofs.transaction.has_bad_value.Goals as goal

pub overflow_add-total : goal.overflow_add-total
overflow_add-total c =
    let small = in_range c.output-item.result.value (sym c.if-is_out_of_range.ensures) in
    omega (arith, small, c.satoshis-total.ensures, c.loop-output.invariant.total)

pub returns-then-is_out_of_range : goal.returns-then-is_out_of_range
returns-then-is_out_of_range c =
    sym (sym c.loop-output.invariant.so_far ∙ bad_at c.args.outputs.now c.loop-output.output-index c.loop-output.total c.output-item.result (omega arith) c.output-item.is (sym c.if-is_out_of_range.ensures))

pub returns-then-is_too_much : goal.returns-then-is_too_much
returns-then-is_too_much c =
    let sum : c.loop-output.total + unsigned_abs c.output-item.result.value ≡ c.loop-output.total + c.satoshis-total.result = omega (arith, c.satoshis-total.ensures) in
    let large : ltb 2100000000000000 (c.loop-output.total + unsigned_abs c.output-item.result.value) ≡ true = rw sum (sym c.if-is_too_much.ensures) in
    sym (sym c.loop-output.invariant.so_far
    ∙ step_at c.args.outputs.now c.loop-output.output-index c.loop-output.total c.output-item.result (omega arith) c.output-item.is (sym c.if-is_out_of_range.ensures)
    ∙ ap (λ (b : Bool). b || has_bad_value (pos (c.loop-output.total + unsigned_abs c.output-item.result.value)) (drop (c.loop-output.output-index + 1) c.args.outputs.now)) large)

pub loop-output-preserved : goal.loop-output-preserved
loop-output-preserved c =
    let sum : c.loop-output.total + unsigned_abs c.output-item.result.value ≡ c.loop-output.total + c.satoshis-total.result = omega (arith, c.satoshis-total.ensures) in
    let small : ltb 2100000000000000 (c.loop-output.total + unsigned_abs c.output-item.result.value) ≡ false = rw sum (sym c.if-is_too_much.ensures) in
    let here : has_bad_value (pos (c.loop-output.total + unsigned_abs c.output-item.result.value)) (drop (c.loop-output.output-index + 1) c.args.outputs.now) ≡ has_bad_value (pos 0) c.args.outputs.now =
    sym (sym c.loop-output.invariant.so_far
    ∙ step_at c.args.outputs.now c.loop-output.output-index c.loop-output.total c.output-item.result (omega arith) c.output-item.is (sym c.if-is_out_of_range.ensures)
    ∙ ap (λ (b : Bool). b || has_bad_value (pos (c.loop-output.total + unsigned_abs c.output-item.result.value)) (drop (c.loop-output.output-index + 1) c.args.outputs.now)) small) in
    record { so_far = rw sum at here; total = ltb-false 2100000000000000 (c.loop-output.total + c.satoshis-total.result) (sym c.if-is_too_much.ensures) }

pub returns : goal.returns
returns c = sym (sym c.loop-output.invariant.so_far ∙ fine_at_end c.args.outputs.now c.loop-output.output-index c.loop-output.total (omega arith))
