use Rattle.std.proofs.lemmas.Result.{err_from_is_err_and}
use Rattle.base_types.specs.Codec.{many_at}
use Rattle.block_codec.proofs.Loop.{goes_on, ends, is_done}
use Rattle.block_codec.proofs.members.read_many.Goals as goal

pub returns-in_err-member : goal.returns-in_err-member
returns-in_err-member g c =
    let p = err_from_is_err_and c.from_residual-in_err-member.result c.from_residual-in_err-member.ensures.1 in
    rw (p.1, p.2) (ends g.T.Member.at c.in_err-member.field-0.0 c.loop.members c.args.count c.loop.counter c.loop.cursor (many_at g.T.Member.at c.args.count c.args.cursor.now) c.loop-test.true c.in_err-member.ensures c.loop.invariant)

pub loop-preserved : goal.loop-preserved
loop-preserved g c =
    rw c.in_ok-push.ensures.ok (goes_on g.T.Member.at c.loop.members c.args.count c.loop.counter c.loop.cursor c.in_ok-member.member c.read.new.cursor (many_at g.T.Member.at c.args.count c.args.cursor.now) c.loop-test.true c.in_ok-member.ensures c.loop.invariant)

pub returns : goal.returns
returns g c = is_done g.T.Member.at c.loop.members c.args.count c.loop.counter c.loop.cursor (many_at g.T.Member.at c.args.count c.args.cursor.now) c.loop-test.false c.loop.invariant
