use Rattle.std.proofs.Common.{arith}
use Rattle.coins_top.proofs.Adding.{first_there, first_order}
use Rattle.coins_top.proofs.folding.Folding.new.Goals as goal

pub invariant_of-result : goal.invariant_of-result
invariant_of-result c =
    let tree = c.in_ok-tree.tree in
    let first = c.in_ok-tree.ensures.first in (
      first_order tree c.args.limits.now.headers c.args.rules.now first,
      first_there tree c.args.limits.now.headers c.args.rules.now c.in-Some.tip first c.in-Some.ensures.hash,
      omega arith,
    )
