use Rattle.std.proofs.Common.{◌≡◌, ◌<◌, ◌-◌, ◌++◌, length, map, take}
use Rattle.chain_model.specs.Tree.{chain, time}
use Rattle.header_tree.specs.State.{hash_at}
use Rattle.header_tree.proofs.tree.Tree.last_times.Given as goal

abbrev pub invariant-loop-count : goal.invariant-loop-count
invariant-loop-count l = record {
  sized : length l.times ≡ 11;
  there : l.at < length l.self.order;
  so_far : take l.count l.times ++ map (time l.self.tree.headers) (take (11 - l.count) (chain l.self.tree.headers (hash_at l.self l.at)))
      ≡ map (time l.self.tree.headers) (take 11 (chain l.self.tree.headers (hash_at l.self l.number)));
}
