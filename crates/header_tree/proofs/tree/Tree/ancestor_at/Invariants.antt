use Rattle.std.proofs.Common.{◌≡◌, ◌<◌, ◌≤◌, length}
use Rattle.chain_model.specs.Tree.{height, ancestor}
use Rattle.header_tree.specs.State.{hash_at}
use Rattle.header_tree.proofs.tree.Tree.ancestor_at.Given as goal

abbrev pub invariant-loop-at : goal.invariant-loop-at
invariant-loop-at l = record {
  there : l.at < length l.self.order;
  low : l.height ≤ height l.self.tree.headers (hash_at l.self l.at);
  same : ancestor l.self.tree.headers (hash_at l.self l.at) l.height ≡ ancestor l.self.tree.headers (hash_at l.self l.number) l.height;
}

abbrev pub decreases-loop-at : goal.decreases-loop-at
decreases-loop-at l = l.at
