use Rattle.std.proofs.Common.{◌≡◌, ◌≤◌, ◌∙◌, ℕ, Some, ap, subst}
use Rattle.std.specs.Prelude.{Contains, slice_get, IfSome, IsSomeAnd}
use Rattle.block_store.specs.Index.{last_place}
use Rattle.block_store.specs.OpenStore.{OpenStore}
use Rattle.block_store.proofs.Lookups.{last_there, one_number, found_listed}
use Rattle.block_store.proofs.store.BlockStore.last_body.Goals as goal

pub returns-clause-some : goal.returns-clause-some
returns-clause-some c = λ number last.
    let here = ap (λ (s : OpenStore). last_place s.hashes c.args.hash.now) c.self.view_is ∙ last in
    let same = one_number c.in_ok-number.number number (c.in_ok-number.ensures ∙ here) in
    subst (λ (s : OpenStore). IsSomeAnd c.place_at.result (λ place. slice_get s.bodies.places number ≡ Some place)) c.self.view_is
    (last_there c.self.inside.index c.self.inside.bodies.places c.args.hash.now number c.place_at.result c.self.invariant.2 here
    (c.place_at.ensures ∙ ap (λ (n : ℕ). slice_get c.self.inside.bodies.places n) same))

pub returns-clause-listed : goal.returns-clause-listed
returns-clause-listed c =
    subst (λ (s : OpenStore). IfSome c.place_at.result (λ place. Contains s.bodies.places place × (32 ≤ place.len))) c.self.view_is
    (found_listed c.self.inside.bodies.places c.in_ok-number.number c.place_at.result c.place_at.ensures c.self.invariant.4)
