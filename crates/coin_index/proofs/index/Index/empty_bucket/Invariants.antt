use Rattle.std.proofs.Common.{◌≡◌, ℕ, set, get_or, None}
use Rattle.std.specs.FinMap.{FinMap}
use Rattle.slot_pool.specs.Changes.{ChangesOnly}
use Rattle.base_types.specs.Keys.{outpoint_cmp}
use Rattle.coin_index.specs.Index.{bucket_count, salt_of}
use Rattle.coin_index.specs.Rehash.{AreSplit}
use Rattle.coin_index.proofs.Chains.{ahead}
use Rattle.coin_index.proofs.index.Index.empty_bucket.Given as goal

abbrev pub invariant-loop-slot : goal.invariant-loop-slot
invariant-loop-slot g l = record {
  index : (all : FinMap outpoint_cmp ℕ) → AreSplit g.T.Chained.key_of g.T.Chained.chain_of l.initial.pool.values l.initial.self l.initial.target all → AreSplit g.T.Chained.key_of g.T.Chained.chain_of l.pool.values l.self l.target all;
  kept : ChangesOnly g.T.Chained.with_chain l.initial.pool l.pool;
  others : l.self.buckets.items ≡ set l.initial.self.buckets.items l.b (get_or l.self.buckets.items l.b None);
  target : (bucket_count l.target ≡ bucket_count l.initial.target) × (salt_of l.target ≡ salt_of l.initial.target);
}

abbrev pub decreases-loop-slot : goal.decreases-loop-slot
decreases-loop-slot g l = ahead g.T.Chained.chain_of l.pool.values (get_or l.self.buckets.items l.b None)
