use Rattle.std.proofs.Common.{◌+◌, ◌*◌, ◌≤◌, ◌++◌, [], ◌∷◌, length, ap, ◌∙◌, arith, length-append}
use Rattle.std.specs.FinMap as map
use Rattle.slot_pool.specs.Layout.{places_of, map_from, numbers}
use Rattle.slot_pool.proofs.Layouts.{length-numbers}
use Rattle.slot_pool.proofs.Pools.{grown_pool, grow_map, counts}
use Rattle.slot_pool.proofs.pool.Pool.grow.Goals as goal

pub widen-requires : goal.widen-requires
widen-requires g c =
    let chunks = c.self.inside.chunks in let vacant = c.self.inside.vacant in let n = counts chunks.items _ _ c.self.invariant in let e = ap (λ p. map.len p.values + p.spare) c.self.view_is in
    (omega (arith, n, chunks.ok.0, vacant.ok.0, c.len-places.ensures), omega (arith, n, e, c.requires, chunks.ok.0, vacant.ok.0, c.len-places.ensures))

pub list_places-requires-clause-fits : goal.list_places-requires-clause-fits
list_places-requires-clause-fits g c =
    let chunks = c.self.inside.chunks in let vacant = c.self.inside.vacant in let n = counts chunks.items _ _ c.self.invariant in let e = ap (λ p. map.len p.values + p.spare) c.self.view_is in
    omega (arith, n, e, c.requires, chunks.ok.0, vacant.ok.0, c.len-places.ensures)

pub list_places-requires-clause-room : goal.list_places-requires-clause-room
list_places-requires-clause-room g c =
    let chunks = c.self.inside.chunks in let vacant = c.self.inside.vacant in let n = counts chunks.items _ _ c.self.invariant in
    omega (arith, n, chunks.ok.0, vacant.ok.0, c.len-places.ensures, c.in_ok-widen.ensures.ok, c.widen.new.vacant.ok.0, ap length c.widen.ensures.items)

pub invariant_of-self-2 : goal.invariant_of-self-2
invariant_of-self-2 g c =
    let chunks = c.self.inside.chunks in let vacant = c.self.inside.vacant in let n = counts chunks.items vacant.items _ c.self.invariant in let e = ap (λ p. map.len p.values + p.spare) c.self.view_is in
    let k = c.len-places.result in
    let few : k + 1 ≤ 16777216 = omega (arith, n, e, c.requires, chunks.ok.0, vacant.ok.0, c.len-places.ensures) in
    grown_pool chunks.items vacant.items _ k _ c.self.invariant (c.len-places.ensures ∙ chunks.ok.0) (omega (arith, c.in_ok-widen.ensures.ok, c.list_places.ensures.capacity)) few _ _
    (c.in-Ok.ensures.items ∙ ap (λ l. l ++ c.in_ok-chunk.chunk ∷ []) c.reserve.ensures.items ∙ ap (λ d. chunks.items ++ d ∷ []) c.in_ok-chunk.ensures)
    (c.list_places.ensures.items ∙ ap (λ l. l ++ numbers (k * 256) 256) c.widen.ensures.items)

pub returns-clause-values : goal.returns-clause-values
returns-clause-values g c =
    let chunks = c.self.inside.chunks.items in
    ap (λ l. map_from 0 (places_of l)) (c.in-Ok.ensures.items ∙ ap (λ l. l ++ c.in_ok-chunk.chunk ∷ []) c.reserve.ensures.items ∙ ap (λ d. chunks ++ d ∷ []) c.in_ok-chunk.ensures)
    ∙ grow_map chunks ∙ ap (λ p. p.values) c.self.view_is

pub returns-clause-ok : goal.returns-clause-ok
returns-clause-ok g c =
    let k = c.len-places.result * 256 in
    c.list_places.new.vacant.ok.0 ∙ ap length c.list_places.ensures.items ∙ length-append c.widen.new.vacant.items (numbers k 256)
    ∙ omega (arith, length-numbers k 256, ap length c.widen.ensures.items, c.self.inside.vacant.ok.0, ap (λ p. p.spare) c.self.view_is)
