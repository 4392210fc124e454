use Rattle.std.proofs.Common.{◌∙◌, Some, ap, inr, refl, sym}
use Rattle.header_tree.specs.State.{State}
use Rattle.chainstates.proofs.TreeSteps.{none_taken, one_refused, one_taken}
use Rattle.chainstates.proofs.tree_reading.add_record.Goals as goal

pub loop-header-init : goal.loop-header-init
loop-header-init c = (refl, none_taken c.args.tree.now.limit c.args.tree.now.tree)

pub returns-in-Err-Refused-clause-err : goal.returns-in-Err-Refused-clause-err
returns-in-Err-Refused-clause-err c =
    let at = c.loop-header in
    let broken = rw c.in-Err-Refused.field-0-is at c.in-Err-Refused.ensures.answer in
    inr (
      refl,
      one_refused c.args.tree.now.limit at.tree.limit c.args.tree.now.tree at.tree.tree c.as_slice-header-items.result.now c.args.stored.now.headers at.header-index _ c.in-Err-Refused.field-0-0 c.as_slice-header-items.ensures c.loop-header-test.true at.invariant.0 at.invariant.1 broken,
    )

pub loop-header-preserved : goal.loop-header-preserved
loop-header-preserved c =
    let at = c.loop-header in
    let ok = c.in-Ok.ensures.ok in (
      ap (λ (s : State). s.limit) ok ∙ at.invariant.0,
      one_taken c.args.tree.now.limit at.tree.limit c.args.tree.now.tree at.tree.tree c.as_slice-header-items.result.now c.args.stored.now.headers at.header-index _ c.as_slice-header-items.ensures c.loop-header-test.true at.invariant.0 at.invariant.1 c.in-Ok.ensures.answer.0
          ∙ ap (λ (s : State). Some s.tree) (sym ok),
    )
