use Rattle.std.proofs.Common.{◌≡◌, ◌<◌, ℕ, get_or, length, None}
use Rattle.std.specs.FinMap.{FinMap}
use Rattle.slot_pool.specs.Changes.{ChangesOnly}
use Rattle.base_types.specs.Keys.{outpoint_cmp}
use Rattle.coin_index.specs.Index.{IsIndex, bucket_count, salt_of}
use Rattle.coin_index.specs.Rehash.{AreSplit}
use Rattle.coin_index.proofs.index.Index.reserve_buckets.Given as goal

abbrev pub invariant-loop-b : goal.invariant-loop-b
invariant-loop-b g l = record {
  index : (all : FinMap outpoint_cmp ℕ) → IsIndex g.T.Chained.key_of g.T.Chained.chain_of l.initial.pool.values l.initial.self all → AreSplit g.T.Chained.key_of g.T.Chained.chain_of l.pool.values l.self l.target all;
  kept : ChangesOnly g.T.Chained.with_chain l.initial.pool l.pool;
  emptied : (c : ℕ) → c < l.b → get_or l.self.buckets.items c None ≡ None;
  count : length l.self.buckets.items ≡ length l.initial.self.buckets.items;
  target : (bucket_count l.target ≡ bucket_count l.initial.target) × (salt_of l.target ≡ salt_of l.initial.target);
}
