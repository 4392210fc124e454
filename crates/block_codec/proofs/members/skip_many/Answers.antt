use Rattle.base_types.specs.Codec.{many_at}
use Rattle.block_codec.proofs.Skips.{none_passed, goes_on, ends, failed, is_done}
use Rattle.block_codec.proofs.members.skip_many.Goals as goal

pub loop-init : goal.loop-init
loop-init g c = none_passed g.T.Member.at c.args.count c.args.cursor.now

pub loop-preserved : goal.loop-preserved
loop-preserved g c = goes_on g.T.Member.at c.args.count c.loop.counter c.loop.cursor c.skip.new.cursor (many_at g.T.Member.at c.args.count c.args.cursor.now) c.loop-test.true c.in_ok-skip.ensures c.loop.invariant

pub returns-in_err-skip : goal.returns-in_err-skip
returns-in_err-skip g c =
    let total = many_at g.T.Member.at c.args.count c.args.cursor.now in
    failed c.from_residual.result c.skip.new.cursor total c.from_residual.ensures.0 (ends g.T.Member.at c.args.count c.loop.counter c.loop.cursor total c.loop-test.true c.in_err-skip.ensures c.loop.invariant)

pub returns : goal.returns
returns g c = is_done g.T.Member.at c.args.count c.loop.counter c.loop.cursor (many_at g.T.Member.at c.args.count c.args.cursor.now) c.loop-test.false c.loop.invariant
