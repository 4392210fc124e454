use Rattle.std.proofs.Common.{vec_len, refl, ap, ◌∙◌, arith}
use Rattle.std.specs.FinMap as map
use Rattle.slot_pool.specs.Pool.{contents, with_value}
use Rattle.slot_pool.specs.Layout.{places_of, map_from}
use Rattle.slot_pool.proofs.Pools.{slot_has, slot_value, found, held, place_read, write_pool, write_map}
use Rattle.slot_pool.proofs.pool.Pool.get_mut.Goals as goal

pub index_mut-requires : goal.index_mut-requires
index_mut-requires g c =
    let css = c.self.inside.chunks.items in let h = slot_has css _ _ _ _ c.self.view_is c.slot.view_is c.requires in
    let lt = found css c.slot.inside.index c.self.invariant.whole h.0 h.1 in omega (arith, lt, c.self.inside.chunks.ok.0)

pub get_mut-requires : goal.get_mut-requires
get_mut-requires g c =
    let css = c.self.inside.chunks.items in let h = slot_has css _ _ _ _ c.self.view_is c.slot.view_is c.requires in
    (h.0, held css _ _ c.self.invariant c.slot.inside.index c.index_mut.result.now c.index_mut.ensures.value h.0 h.1)

pub invariant_of-self-lent : goal.invariant_of-self-lent
invariant_of-self-lent g c =
    λ w. let css = c.self.inside.chunks.items in let h = slot_has css _ _ _ _ c.self.view_is c.slot.view_is c.requires in
    write_pool css _ _ c.self.invariant c.slot.inside.index c.index_mut.result.now c.index_mut.ensures.value h.0 h.1 w

pub returns : goal.returns
returns g c =
    let css = c.self.inside.chunks.items in let h = slot_has css _ _ _ _ c.self.view_is c.slot.view_is c.requires in let n = vec_len c.self.inside.vacant in
    let lt = found css c.slot.inside.index c.self.invariant.whole h.0 h.1 in (
      (
        refl,
        λ w. (λ i. contents (write_map css _ _ c.self.invariant c.slot.inside.index c.index_mut.result.now c.index_mut.ensures.value h.0 h.1 w i) n)
            ∙ ap (λ j. contents (map.insert (map_from 0 (places_of css)) j w) n) c.slot.view_is ∙ ap (λ p. with_value p c.args.slot w) c.self.view_is,
      ),
      record { writes_back = tt; value = slot_value css _ _ _ _ c.get_mut.result.now c.self.view_is c.slot.view_is (place_read css c.slot.inside.index c.self.invariant.whole c.index_mut.result.now lt c.index_mut.ensures.value ∙ c.get_mut.ensures.value) },
    )
