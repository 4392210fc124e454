-- The test of two outpoints, by their order and by their parts.
use Rattle.std.specs.Prelude.{◌≡◌, ℕ, Bool, ◌&&◌, List, [], ◌∷◌, nat_eq, refl}
use Rattle.std.proofs.Common.{ap, ◌∙◌, eqb, arith}
use Rattle.std.proofs.lemmas.Bool.Decides.{nat_tests}
use Rattle.std.specs.declared.cmp.Ordering.{Ordering}
use Rattle.std.specs.declared.cmp.Ordering.TheVariants.{Less, Equal, Greater}
use Rattle.std.specs.Ordering.{is_eq, eq_by_cmp, ordering_then, nat_cmp}
use Rattle.std.specs.Cmp.Lexicographic.{slice_cmp, pointwise}
use Rattle.base_types.specs.Keys.{outpoint_cmp}
use Rattle.base_types.specs.declared.hash.OutPoint.{OutPoint}
use Rattle.chain_model.specs.BodyRules.{same_outpoint}

numbers : (a b : ℕ) → is_eq (nat_cmp a b) ≡ eqb a b
numbers a b = grind (arith, nat_tests)

both : (r s : Ordering) → is_eq (ordering_then r s) ≡ (is_eq r && is_eq s)
both Less s = refl
both Equal s = refl
both Greater s = refl

texts : (xs ys : List ℕ) → is_eq (slice_cmp nat_cmp xs ys) ≡ pointwise nat_eq xs ys
texts [] [] = refl
texts [] (y ∷ ys) = refl
texts (x ∷ xs) [] = refl
texts (x ∷ xs) (y ∷ ys) =
    both (nat_cmp x y) (slice_cmp nat_cmp xs ys)
    ∙ ap (λ (b : Bool). b && is_eq (slice_cmp nat_cmp xs ys)) (numbers x y)
    ∙ ap (λ (b : Bool). eqb x y && b) (texts xs ys)

-- two outpoints tie in their order exactly where they are the same
pub tied_outpoints : (a b : OutPoint) → eq_by_cmp outpoint_cmp a b ≡ same_outpoint a b
tied_outpoints a b =
    both (slice_cmp nat_cmp a.txid.bytes b.txid.bytes) (nat_cmp a.index b.index)
    ∙ ap (λ (t : Bool). t && is_eq (nat_cmp a.index b.index)) (texts a.txid.bytes b.txid.bytes)
    ∙ ap (λ (t : Bool). pointwise nat_eq a.txid.bytes b.txid.bytes && t) (numbers a.index b.index)
