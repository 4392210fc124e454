use Rattle.chainstates.specs.Closing.{closed_of}
use Rattle.chainstates.proofs.Closings.{full_round}
use Rattle.chainstates.proofs.closing.close_round.Goals as goal

pub returns-then-closing-clause-ok : goal.returns-then-closing-clause-ok
returns-then-closing-clause-ok c = full_round c.args.tree.now.limit c.args.headers.now c.loop-header.header-index (closed_of c.args.tree.now c.args.closing.now) (closed_of c.loop-header.tree c.loop-header.closing) c.loop-header.invariant.1 c.if-closing.true
