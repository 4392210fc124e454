use Rattle.std.proofs.Common.{ap, None}
use Rattle.std.specs.FinMap.{empty, insert, get-empty}
use Rattle.slot_pool.specs.Pool.{Contents}
use Rattle.slot_pool.proofs.ChangeLaws.{kept_value}
use Rattle.base_types.specs.Keys.{outpoint_cmp}
use Rattle.base_types.specs.declared.hash.Hash32.{Hash32}
use Rattle.coin_index.specs.declared.tests.Keyed.{Keyed}
use Rattle.coin_index.proofs.IndexLaws.{new_index, put_ready, found_here}
use Rattle.coin_index.proofs.tests.finds_a_key_until_it_is_unlinked.Goals as goal

-- the key's value before it is linked
abbrev first : Hash32 → Keyed
first h = record { key = record { txid = h; index = 1 }; next = None }

pub reserve_buckets-requires : goal.reserve_buckets-requires
reserve_buckets-requires g c = (empty, new_index _ _ _ _ _ c.new-index.ensures)

pub link-requires-clause-index : goal.link-requires-clause-index
link-requires-clause-index g c =
    let e = first c.hash_twice.result in let h = c.reserve_buckets.ensures.index empty (new_index _ _ _ _ _ c.new-index.ensures) in
    let r = put_ready _ _ c.reserve_buckets.new.pool.values c.reserve_buckets.new.self empty h c.put-slot.new.self.values c.put-slot.result e c.put-slot.ensures.fresh (get-empty outpoint_cmp e.key) (ap (λ (p : Contents Keyed). p.values) c.put-slot.ensures.stored) in
    (empty, r.0, r.1)

pub find-requires : goal.find-requires
find-requires g c =
    let e = first c.hash_twice.result in let h = c.reserve_buckets.ensures.index empty (new_index _ _ _ _ _ c.new-index.ensures) in
    let r = put_ready _ _ c.reserve_buckets.new.pool.values c.reserve_buckets.new.self empty h c.put-slot.new.self.values c.put-slot.result e c.put-slot.ensures.fresh (get-empty outpoint_cmp e.key) (ap (λ (p : Contents Keyed). p.values) c.put-slot.ensures.stored) in
    let l = c.link.ensures.index empty e r.0 c.put-slot.ensures.held (get-empty outpoint_cmp e.key) in
    (_, l)

pub reserve_buckets-requires-2 : goal.reserve_buckets-requires-2
reserve_buckets-requires-2 g c =
    let e = first c.hash_twice.result in let h = c.reserve_buckets.ensures.index empty (new_index _ _ _ _ _ c.new-index.ensures) in
    let r = put_ready _ _ c.reserve_buckets.new.pool.values c.reserve_buckets.new.self empty h c.put-slot.new.self.values c.put-slot.result e c.put-slot.ensures.fresh (get-empty outpoint_cmp e.key) (ap (λ (p : Contents Keyed). p.values) c.put-slot.ensures.stored) in
    let l = c.link.ensures.index empty e r.0 c.put-slot.ensures.held (get-empty outpoint_cmp e.key) in
    (_, l)

pub find-requires-2 : goal.find-requires-2
find-requires-2 g c =
    let e = first c.hash_twice.result in let h = c.reserve_buckets.ensures.index empty (new_index _ _ _ _ _ c.new-index.ensures) in
    let r = put_ready _ _ c.reserve_buckets.new.pool.values c.reserve_buckets.new.self empty h c.put-slot.new.self.values c.put-slot.result e c.put-slot.ensures.fresh (get-empty outpoint_cmp e.key) (ap (λ (p : Contents Keyed). p.values) c.put-slot.ensures.stored) in
    let l = c.link.ensures.index empty e r.0 c.put-slot.ensures.held (get-empty outpoint_cmp e.key) in
    let m = c.reserve_buckets-2.ensures.index (insert empty e.key c.put-slot.result) l in
    (_, m)

pub unlink-requires : goal.unlink-requires
unlink-requires g c =
    let e = first c.hash_twice.result in let h = c.reserve_buckets.ensures.index empty (new_index _ _ _ _ _ c.new-index.ensures) in
    let r = put_ready _ _ c.reserve_buckets.new.pool.values c.reserve_buckets.new.self empty h c.put-slot.new.self.values c.put-slot.result e c.put-slot.ensures.fresh (get-empty outpoint_cmp e.key) (ap (λ (p : Contents Keyed). p.values) c.put-slot.ensures.stored) in
    let l = c.link.ensures.index empty e r.0 c.put-slot.ensures.held (get-empty outpoint_cmp e.key) in
    let m = c.reserve_buckets-2.ensures.index (insert empty e.key c.put-slot.result) l in
    let k = kept_value (λ (x : Keyed) n. record x { next = n }) c.put-slot.new.self c.link.new.pool c.put-slot.result e c.link.ensures.changes c.put-slot.ensures.held in
    let q = kept_value (λ (x : Keyed) n. record x { next = n }) c.link.new.pool c.reserve_buckets-2.new.pool c.put-slot.result _ c.reserve_buckets-2.ensures.changes k.1 in
    (_, _, m, q.1, found_here empty e.key c.put-slot.result)

pub find-requires-3 : goal.find-requires-3
find-requires-3 g c =
    let e = first c.hash_twice.result in let h = c.reserve_buckets.ensures.index empty (new_index _ _ _ _ _ c.new-index.ensures) in
    let r = put_ready _ _ c.reserve_buckets.new.pool.values c.reserve_buckets.new.self empty h c.put-slot.new.self.values c.put-slot.result e c.put-slot.ensures.fresh (get-empty outpoint_cmp e.key) (ap (λ (p : Contents Keyed). p.values) c.put-slot.ensures.stored) in
    let l = c.link.ensures.index empty e r.0 c.put-slot.ensures.held (get-empty outpoint_cmp e.key) in
    let m = c.reserve_buckets-2.ensures.index (insert empty e.key c.put-slot.result) l in
    let k = kept_value (λ (x : Keyed) n. record x { next = n }) c.put-slot.new.self c.link.new.pool c.put-slot.result e c.link.ensures.changes c.put-slot.ensures.held in
    let q = kept_value (λ (x : Keyed) n. record x { next = n }) c.link.new.pool c.reserve_buckets-2.new.pool c.put-slot.result _ c.reserve_buckets-2.ensures.changes k.1 in
    (_, c.unlink.ensures.index _ _ m q.1 (found_here empty e.key c.put-slot.result))
