use Rattle.std.proofs.Common.{◌∙◌, arith}
use Rattle.slot_pool.proofs.Pools.{slot_has, slot_value, found, held, place_read}
use Rattle.slot_pool.proofs.pool.Pool.get.Goals as goal

pub index-requires : goal.index-requires
index-requires g c =
    let css = c.self.inside.chunks.items in let h = slot_has css _ _ _ _ c.self.view_is c.slot.view_is c.requires in
    let lt = found css c.slot.inside.index c.self.invariant.whole h.0 h.1 in omega (arith, lt, c.self.inside.chunks.ok.0)

pub get-requires : goal.get-requires
get-requires g c =
    let css = c.self.inside.chunks.items in let h = slot_has css _ _ _ _ c.self.view_is c.slot.view_is c.requires in
    (h.0, held css _ _ c.self.invariant c.slot.inside.index c.index.result.now c.index.ensures h.0 h.1)

pub returns : goal.returns
returns g c =
    let css = c.self.inside.chunks.items in let h = slot_has css _ _ _ _ c.self.view_is c.slot.view_is c.requires in
    let lt = found css c.slot.inside.index c.self.invariant.whole h.0 h.1 in
    slot_value css _ _ _ _ c.get.result.now c.self.view_is c.slot.view_is (place_read css c.slot.inside.index c.self.invariant.whole c.index.result.now lt c.index.ensures ∙ c.get.ensures)
