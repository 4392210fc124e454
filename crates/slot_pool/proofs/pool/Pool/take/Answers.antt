use Rattle.std.proofs.Common.{◌+◌, ◌++◌, [], ◌∷◌, vec_len, is_ok, cond, ap, ◌∙◌, arith}
use Rattle.std.specs.FinMap as map
use Rattle.slot_pool.specs.Pool.{contents}
use Rattle.slot_pool.specs.Layout.{places_of, map_from}
use Rattle.slot_pool.proofs.Pools.{slot_has, slot_value, found, held, take_pool, take_map, take_room, roomier, place_read}
use Rattle.slot_pool.proofs.pool.Pool.take.Goals as goal

pub index_mut-requires : goal.index_mut-requires
index_mut-requires g c =
    let css = c.self.inside.chunks.items in let h = slot_has css _ _ _ _ c.self.view_is c.slot.view_is c.requires in
    let lt = found css c.slot.inside.index c.self.invariant.whole h.0 h.1 in omega (arith, lt, c.self.inside.chunks.ok.0)

pub take-value-requires : goal.take-value-requires
take-value-requires g c =
    let css = c.self.inside.chunks.items in let h = slot_has css _ _ _ _ c.self.view_is c.slot.view_is c.requires in
    (h.0, held css _ _ c.self.invariant c.slot.inside.index c.index_mut.result.now c.index_mut.ensures.value h.0 h.1)

pub unwrap-requires : goal.unwrap-requires
unwrap-requires g c =
    let css = c.self.inside.chunks.items in let h = slot_has css _ _ _ _ c.self.view_is c.slot.view_is c.requires in
    let room = take_room css _ _ _ h.0 c.self.invariant h.1 in c.push.ensures.succeeds (omega (arith, room, c.self.inside.vacant.ok.0))

pub invariant_of-self : goal.invariant_of-self
invariant_of-self g c =
    let css = c.self.inside.chunks.items in let v = c.self.inside.vacant in let h = slot_has css _ _ _ _ c.self.view_is c.slot.view_is c.requires in
    let pushed = c.push.ensures.items ∙ ap (λ r. cond (is_ok r) (v.items ++ c.slot.inside.index ∷ []) v.items) c.unwrap.ensures in
    let p = take_pool css _ _ c.self.invariant c.slot.inside.index c.index_mut.result.now c.index_mut.ensures.value h.0 h.1 c.take-value.new.self c.take-value.ensures.rest c.push.new.self.items pushed in
    roomier _ _ _ _ c.push.ensures.capacity p

pub returns-clause-value : goal.returns-clause-value
returns-clause-value g c =
    let css = c.self.inside.chunks.items in let h = slot_has css _ _ _ _ c.self.view_is c.slot.view_is c.requires in
    let lt = found css c.slot.inside.index c.self.invariant.whole h.0 h.1 in
    slot_value css _ _ _ _ c.take-value.result c.self.view_is c.slot.view_is (place_read css c.slot.inside.index c.self.invariant.whole c.index_mut.result.now lt c.index_mut.ensures.value ∙ c.take-value.ensures.value)

pub returns-clause-rest : goal.returns-clause-rest
returns-clause-rest g c =
    let css = c.self.inside.chunks.items in let v = c.self.inside.vacant in let h = slot_has css _ _ _ _ c.self.view_is c.slot.view_is c.requires in
    let m = take_map css _ _ c.self.invariant c.slot.inside.index c.index_mut.result.now c.index_mut.ensures.value h.0 h.1 c.take-value.new.self c.take-value.ensures.rest in
    let n = c.push.ensures.len ∙ ap (λ r. cond (is_ok r) (vec_len v + 1) (vec_len v)) c.unwrap.ensures in
    (λ i. contents (m i) (n i)) ∙ ap (λ j. contents (map.remove (map_from 0 (places_of css)) j) (vec_len v + 1)) c.slot.view_is ∙ ap (λ p. contents (map.remove p.values c.args.slot) (p.spare + 1)) c.self.view_is
