use Rattle.std.proofs.Common.{◌++◌, ◌∷◌, ap, ◌∙◌}
use Rattle.std.proofs.lemmas.Result.{err_from_is_err_and}
use Rattle.block_codec.specs.declared.block.TxIn.{TxIn}
use Rattle.block_codec.specs.Text.{with_stack}
use Rattle.block_codec.specs.Reading.{stacks_at}
use Rattle.block_codec.proofs.Places.{set_between, stands_between}
use Rattle.block_codec.proofs.Stacks.{Sets, goes_on, ends, is_done}
use Rattle.block_codec.proofs.reading.stacks_of.Goals as goal

pub returns-in_err-inputs : goal.returns-in_err-inputs
returns-in_err-inputs c =
    let p = err_from_is_err_and c.from_residual.result c.from_residual.ensures.1 in
    rw (p.1, p.2) (ends c.loop-index.inputs.items c.loop-index.index _ c.in_err-inputs.field-0.0 c.loop-index.cursor (stacks_at c.args.inputs c.args.cursor.now) c.loop-index.invariant.sized c.loop-index-test.true c.in_err-inputs.ensures c.loop-index.invariant.goes_on)

pub loop-index-preserved : goal.loop-index-preserved
loop-index-preserved c =
    let inputs = c.loop-index.inputs.items in
    let place = c.loop-index.index in
    let here = c.index_mut.result.now in
    let stack = c.in_ok-inputs.field-0 in
    let sets : Sets place stack inputs _ = λ before after input len is.
    set_between inputs before after input (with_stack here stack) place len is ∙
    ap (λ (i : TxIn). before ++ with_stack i stack ∷ after) (c.index_mut.ensures.value ∙ stands_between inputs before after input here place len is) in
    let p = goes_on inputs _ place _ stack c.loop-index.cursor c.stack_of.new.cursor (stacks_at c.args.inputs c.args.cursor.now) c.loop-index.invariant.sized c.loop-index-test.true c.in_ok-inputs.ensures sets c.loop-index.invariant.goes_on in
    record { sized = p.0; goes_on = p.1 }

pub returns : goal.returns
returns c =
    rw c.from.ensures (is_done c.loop-index.inputs.items c.loop-index.index _ c.loop-index.cursor (stacks_at c.args.inputs c.args.cursor.now) c.loop-index.invariant.sized c.loop-index-test.false c.loop-index.invariant.goes_on)
