use Rattle.std.proofs.Common.{◌≡◌, true, false, sym, ◌∙◌, arith}
use Rattle.std.proofs.lemmas.Grind.{common_steps}
use Rattle.std.specs.BTreeSet.{contains}
use Rattle.base_types.specs.Keys.{outpoint_cmp}
use Rattle.block_checks.proofs.Twins.{at_start, step_at, none_at_end, was_new}
use Rattle.block_checks.proofs.inputs.has_repeated_outpoint.Goals as goal

pub loop-input-init : goal.loop-input-init
loop-input-init c = at_start c.new-before.result c.new-before.ensures.empty c.args.inputs.now

pub loop-input-preserved : goal.loop-input-preserved
loop-input-preserved c =
    let added : c.in_ok-insert.field-0 ≡ true = grind (arith, common_steps) in
    let new : contains outpoint_cmp c.loop-input.before c.input-item.result.prev ≡ false = was_new c.in_ok-insert.field-0 (contains outpoint_cmp c.loop-input.before c.input-item.result.prev) c.in_ok-insert.ensures.added added in
    step_at c.loop-input.before c.insert.new.self c.args.inputs.now c.loop-input.input-index c.input-item.result (omega arith) c.input-item.is new c.in_ok-insert.ensures.updates.0
    ∙ c.loop-input.invariant

pub returns : goal.returns
returns c = sym (sym c.loop-input.invariant ∙ none_at_end c.loop-input.before c.args.inputs.now c.loop-input.input-index (omega arith))
