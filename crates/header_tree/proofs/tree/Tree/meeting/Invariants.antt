use Rattle.std.proofs.Common.{◌≡◌, ◌<◌, length}
use Rattle.chain_model.specs.Tree.{height, fork}
use Rattle.header_tree.specs.State.{hash_at}
use Rattle.header_tree.proofs.tree.Tree.meeting.Given as goal

abbrev pub invariant-loop-left : goal.invariant-loop-left
invariant-loop-left l = record {
  left : l.left < length l.self.order;
  right : l.right < length l.self.order;
  level : height l.self.tree.headers (hash_at l.self l.left) ≡ height l.self.tree.headers (hash_at l.self l.right);
  same : fork l.self.tree.headers (hash_at l.self l.left) (hash_at l.self l.right) ≡ fork l.self.tree.headers (hash_at l.self l.fn.left) (hash_at l.self l.fn.right);
}

abbrev pub decreases-loop-left : goal.decreases-loop-left
decreases-loop-left l = l.left
