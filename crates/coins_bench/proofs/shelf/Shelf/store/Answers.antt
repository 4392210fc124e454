use Rattle.std.proofs.Common.{None, sym, ap, subst, ◌∙◌}
use Rattle.std.specs.Ordering.{nat_cmp}
use Rattle.std.specs.FinMap.{FinMap, insert}
use Rattle.slot_pool.specs.Pool.{Contents}
use Rattle.coins_bench.specs.declared.shelf.Entry.{Entry}
use Rattle.coin_index.specs.Index.{IsIndex}
use Rattle.coin_index.proofs.IndexLaws.{put_ready}
use Rattle.coins_bench.proofs.shelf.Shelf.store.Goals as goal

pub invariant_of-self : goal.invariant_of-self
invariant_of-self c =
    let q = c.self.invariant in
    (q.0, subst (λ (m : FinMap nat_cmp Entry). IsIndex (λ e. e.key) (λ e. e.next) m c.self.inside.index q.0) (sym c.reserve.ensures.values) q.1)

pub reserve_buckets-requires : goal.reserve_buckets-requires
reserve_buckets-requires c =
    let q = c.self.invariant in
    (q.0, subst (λ (m : FinMap nat_cmp Entry). IsIndex (λ e. e.key) (λ e. e.next) m c.self.inside.index q.0) (sym c.reserve.ensures.values) q.1)

pub invariant_of-self-in_err-reserve_buckets : goal.invariant_of-self-in_err-reserve_buckets
invariant_of-self-in_err-reserve_buckets c =
    let q = c.self.invariant in
    (q.0, c.reserve_buckets.ensures.index q.0 (subst (λ (m : FinMap nat_cmp Entry). IsIndex (λ e. e.key) (λ e. e.next) m c.self.inside.index q.0) (sym c.reserve.ensures.values) q.1))

pub find-requires : goal.find-requires
find-requires c =
    let q = c.self.invariant in
    (q.0, c.reserve_buckets.ensures.index q.0 (subst (λ (m : FinMap nat_cmp Entry). IsIndex (λ e. e.key) (λ e. e.next) m c.self.inside.index q.0) (sym c.reserve.ensures.values) q.1))

pub invariant_of-self-in-Some : goal.invariant_of-self-in-Some
invariant_of-self-in-Some c =
    let q = c.self.invariant in
    (q.0, c.reserve_buckets.ensures.index q.0 (subst (λ (m : FinMap nat_cmp Entry). IsIndex (λ e. e.key) (λ e. e.next) m c.self.inside.index q.0) (sym c.reserve.ensures.values) q.1))

pub link-requires-clause-buckets : goal.link-requires-clause-buckets
link-requires-clause-buckets c = c.in_ok-reserve_buckets.ensures.ok.0

pub link-requires-clause-index : goal.link-requires-clause-index
link-requires-clause-index c =
    let q = c.self.invariant in
    let h = c.reserve_buckets.ensures.index q.0 (subst (λ (m : FinMap nat_cmp Entry). IsIndex (λ e. e.key) (λ e. e.next) m c.self.inside.index q.0) (sym c.reserve.ensures.values) q.1) in
    let w : Entry = record { key = c.args.key; value = c.args.value; next = None } in
    let r = put_ready (λ (e : Entry). e.key) (λ e. e.next) c.reserve_buckets.new.pool.values c.reserve_buckets.new.self q.0 h c.put-slot.new.self.values c.put-slot.result w c.put-slot.ensures.fresh (sym (c.find.ensures q.0 h) ∙ c.in-None.is) (ap (λ (p : Contents Entry). p.values) c.put-slot.ensures.stored) in
    (q.0, r.0, r.1)

pub invariant_of-self-in-None : goal.invariant_of-self-in-None
invariant_of-self-in-None c =
    let q = c.self.invariant in
    let h = c.reserve_buckets.ensures.index q.0 (subst (λ (m : FinMap nat_cmp Entry). IsIndex (λ e. e.key) (λ e. e.next) m c.self.inside.index q.0) (sym c.reserve.ensures.values) q.1) in
    let none = sym (c.find.ensures q.0 h) ∙ c.in-None.is in let w : Entry = record { key = c.args.key; value = c.args.value; next = None } in
    let r = put_ready (λ (e : Entry). e.key) (λ e. e.next) c.reserve_buckets.new.pool.values c.reserve_buckets.new.self q.0 h c.put-slot.new.self.values c.put-slot.result w c.put-slot.ensures.fresh none (ap (λ (p : Contents Entry). p.values) c.put-slot.ensures.stored) in
    (insert q.0 c.args.key c.put-slot.result, c.link.ensures.index q.0 w r.0 c.put-slot.ensures.held none)
