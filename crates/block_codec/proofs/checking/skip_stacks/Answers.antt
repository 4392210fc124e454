use Rattle.block_codec.specs.Reading.{stacks_at}
use Rattle.block_codec.proofs.Skips.{no_stack_passed, stacks_go_on, stacks_end, stacks_done, failed_as}
use Rattle.block_codec.proofs.checking.skip_stacks.Goals as goal

pub loop-init : goal.loop-init
loop-init c = no_stack_passed c.args.count c.args.cursor.now

pub loop-preserved : goal.loop-preserved
loop-preserved c = stacks_go_on c.args.count c.loop.counter c.loop.has_witness c.in_ok-has_witness.field-0 c.args.cursor.now c.loop.cursor c.skip_stack.new.cursor c.loop-test.true c.in_ok-has_witness.ensures c.loop.invariant

pub returns-in_err-has_witness : goal.returns-in_err-has_witness
returns-in_err-has_witness c = λ inputs len.
    failed_as _ c.from_residual.result c.skip_stack.new.cursor (stacks_at inputs c.args.cursor.now) c.from_residual.ensures.0
    (stacks_end c.args.count c.loop.counter c.loop.has_witness c.args.cursor.now c.loop.cursor c.loop-test.true c.in_err-has_witness.ensures c.loop.invariant inputs len)

pub returns : goal.returns
returns c = stacks_done c.args.count c.loop.counter c.loop.has_witness c.args.cursor.now c.loop.cursor c.loop-test.false c.loop.invariant
