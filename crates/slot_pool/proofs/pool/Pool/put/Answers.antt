use Rattle.std.proofs.Common.{◌≡◌, ◌-◌, ◌++◌, length, vec_len, sym, ap, ◌∙◌, subst, arith}
use Rattle.std.specs.Option.{option_to_list}
use Rattle.std.specs.FinMap as map
use Rattle.slot_pool.specs.Pool.{contents}
use Rattle.slot_pool.specs.Layout.{Lists, places_of, map_from}
use Rattle.slot_pool.proofs.Layouts.{last_vacant, get_here}
use Rattle.slot_pool.proofs.Pools.{chunk_below, put_room, put_fresh, put_pool, put_map}
use Rattle.slot_pool.proofs.pool.Pool.put.Goals as goal

pub index_mut-requires : goal.index_mut-requires
index_mut-requires g c =
    let last = c.pop.ensures.items ∙ ap (λ o. c.pop.new.self.items ++ option_to_list o) c.unwrap-index.ensures in
    let p = c.self.invariant in let css = c.self.inside.chunks.items in
    let at = last_vacant (places_of css) c.pop.new.self.items c.unwrap-index.result (subst (Lists (places_of css)) last p.lists) in
    let lt = chunk_below css c.unwrap-index.result p.whole at.0 in omega (arith, c.self.inside.chunks.ok.0)

pub put-requires : goal.put-requires
put-requires g c =
    let last = c.pop.ensures.items ∙ ap (λ o. c.pop.new.self.items ++ option_to_list o) c.unwrap-index.ensures in
    (omega arith, put_room c.self.inside.chunks.items _ _ c.self.invariant c.unwrap-index.result _ c.index_mut.ensures.value _ c.args.value last)

pub invariant_of-self : goal.invariant_of-self
invariant_of-self g c =
    let last = c.pop.ensures.items ∙ ap (λ o. c.pop.new.self.items ++ option_to_list o) c.unwrap-index.ensures in
    let p = put_pool c.self.inside.chunks.items _ _ c.self.invariant c.unwrap-index.result _ c.index_mut.ensures.value _ c.args.value last c.put.new.self c.put.ensures in rw c.pop.ensures.capacity p

pub returns-clause-fresh : goal.returns-clause-fresh
returns-clause-fresh g c =
    let last = c.pop.ensures.items ∙ ap (λ o. c.pop.new.self.items ++ option_to_list o) c.unwrap-index.ensures in
    sym (ap (λ p. map.get p.values c.unwrap-index.result) c.self.view_is) ∙ put_fresh c.self.inside.chunks.items _ _ c.self.invariant c.unwrap-index.result _ c.index_mut.ensures.value _ c.args.value last

pub returns-clause-stored : goal.returns-clause-stored
returns-clause-stored g c =
    let last = c.pop.ensures.items ∙ ap (λ o. c.pop.new.self.items ++ option_to_list o) c.unwrap-index.ensures in
    let m = put_map c.self.inside.chunks.items _ _ c.self.invariant c.unwrap-index.result _ c.index_mut.ensures.value _ c.args.value last c.put.new.self c.put.ensures in
    let n : vec_len c.pop.new.self ≡ vec_len c.self.inside.vacant - 1 = omega (arith, c.pop.ensures.len, ap (λ o. length (option_to_list o)) c.unwrap-index.ensures) in
    (λ i. contents (m i) (n i)) ∙ ap (λ p. contents (map.insert p.values c.unwrap-index.result c.args.value) (p.spare - 1)) c.self.view_is

pub returns-clause-held : goal.returns-clause-held
returns-clause-held g c =
    let last = c.pop.ensures.items ∙ ap (λ o. c.pop.new.self.items ++ option_to_list o) c.unwrap-index.ensures in
    let m = put_map c.self.inside.chunks.items _ _ c.self.invariant c.unwrap-index.result _ c.index_mut.ensures.value _ c.args.value last c.put.new.self c.put.ensures in
    ap (λ n. map.get n c.unwrap-index.result) m ∙ get_here (map_from 0 (places_of c.self.inside.chunks.items)) c.unwrap-index.result c.args.value
