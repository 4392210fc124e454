use Rattle.std.proofs.Common.{◌+◌, ◌/◌, ◌<◌, length, is_some, sym, ap, ◌∙◌, arith}
use Rattle.std.specs.FinMap as map
use Rattle.slot_pool.specs.Layout.{places_of}
use Rattle.slot_pool.proofs.Layouts.{get-map}
use Rattle.slot_pool.proofs.Pools.{counts, place_read}
use Rattle.slot_pool.proofs.pool.Pool.is_taken.Goals as goal

pub index-requires : goal.index-requires
index-requires g c =
    let n = counts c.self.inside.chunks.items _ _ c.self.invariant in let e = ap (λ p. map.len p.values + p.spare) c.self.view_is in
    omega (arith, n, e, c.requires, c.self.inside.chunks.ok.0, c.self.inside.vacant.ok.0)

pub returns : goal.returns
returns g c =
    let css = c.self.inside.chunks.items in let n = counts css _ _ c.self.invariant in let e = ap (λ p. map.len p.values + p.spare) c.self.view_is in
    let lt : c.args.place / 256 < length css = omega (arith, n, e, c.requires, c.self.inside.vacant.ok.0) in
    c.is_filled.ensures ∙ ap is_some (sym (place_read css c.args.place c.self.invariant.whole c.index.result.now lt c.index.ensures) ∙ sym (get-map (places_of css) c.args.place) ∙ ap (λ p. map.get p.values c.args.place) c.self.view_is)
