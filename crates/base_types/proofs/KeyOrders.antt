-- Laws of the orders of hashes and of outpoints.
use Rattle.std.specs.Prelude.{◌≡◌, ◌⊎◌, ℕ, List, [], ◌∷◌, true, false, refl}
use Rattle.std.proofs.Common.{ap, sym, ◌∙◌, inl, inr}
use Rattle.std.specs.declared.cmp.Ordering.{Ordering}
use Rattle.std.specs.declared.cmp.Ordering.TheVariants.{Less, Equal, Greater}
use Rattle.std.specs.Ordering.{nat_cmp, ordering_then, eq_by_cmp, is_eq}
use Rattle.std.specs.Cmp.{IsTotalOrder, on_total, then_total, nat_cmp_total, nat_cmp_is}
use Rattle.std.specs.Cmp.Lexicographic.{slice_cmp, nat_list_cmp_total}
use Rattle.std.specs.FinMap.{IsAntisymmetric, nat_cmp-IsAntisymmetric, slice_cmp-IsAntisymmetric}
use Rattle.base_types.specs.Keys.{hash_cmp, outpoint_cmp}
use Rattle.base_types.specs.declared.hash.Hash32.{Hash32}
use Rattle.base_types.specs.declared.hash.OutPoint.{OutPoint}

pub hash_cmp_total : IsTotalOrder hash_cmp
hash_cmp_total = on_total (λ (h : Hash32). h.bytes) nat_list_cmp_total

pub outpoint_cmp_total : IsTotalOrder outpoint_cmp
outpoint_cmp_total = then_total (on_total (λ (o : OutPoint). o.txid) hash_cmp_total) (on_total (λ (o : OutPoint). o.index) nat_cmp_total)

pub hash_cmp-IsAntisymmetric : IsAntisymmetric hash_cmp
hash_cmp-IsAntisymmetric x y e =
    let bytes = slice_cmp-IsAntisymmetric nat_cmp-IsAntisymmetric x.bytes y.bytes e in
    λ i. record { bytes = bytes i }

both_equal : (a b : Ordering) → ordering_then a b ≡ Equal → (a ≡ Equal) × (b ≡ Equal)
both_equal Less b e = absurd cc
both_equal Equal b e = (refl, e)
both_equal Greater b e = absurd cc

pub outpoint_cmp-IsAntisymmetric : IsAntisymmetric outpoint_cmp
outpoint_cmp-IsAntisymmetric x y e =
    let p = both_equal (hash_cmp x.txid y.txid) (nat_cmp x.index y.index) e in
    let txid = hash_cmp-IsAntisymmetric x.txid y.txid p.0 in
    let index = nat_cmp-IsAntisymmetric x.index y.index p.1 in
    λ i. record { txid = txid i; index = index i }

-- ---- which keys tie

nat_ties : (n : ℕ) → nat_cmp n n ≡ Equal
nat_ties n = sym (nat_cmp_is n n Equal refl)

bytes_tie : (bs : List ℕ) → slice_cmp nat_cmp bs bs ≡ Equal
bytes_tie [] = refl
bytes_tie (b ∷ bs) = ap (λ (r : Ordering). ordering_then r (slice_cmp nat_cmp bs bs)) (nat_ties b) ∙ bytes_tie bs

pub hash_ties : (x : Hash32) → hash_cmp x x ≡ Equal
hash_ties x = bytes_tie x.bytes

pub outpoint_ties : (x : OutPoint) → outpoint_cmp x x ≡ Equal
outpoint_ties x = ap (λ (r : Ordering). ordering_then r (nat_cmp x.index x.index)) (bytes_tie x.txid.bytes) ∙ nat_ties x.index

module _ {K : Type 0} (cmp : K → K → Ordering) (same : (x : K) → cmp x x ≡ Equal) (distinct : IsAntisymmetric cmp) where
  -- two keys are the same or not
  pub cases_key : (x y : K) → (x ≡ y) ⊎ (x ≡ y → ⊥)
  cases_key x y = go (cmp x y) refl where
    go : (r : Ordering) → cmp x y ≡ r → (x ≡ y) ⊎ (x ≡ y → ⊥)
    go Less e = inr (λ s. let f : Less ≡ Equal = sym e ∙ ap (λ z. cmp z y) s ∙ same y in cc)
    go Equal e = inl (distinct x y e)
    go Greater e = inr (λ s. let f : Greater ≡ Equal = sym e ∙ ap (λ z. cmp z y) s ∙ same y in cc)

  -- the test of a map's keys is true of a key and itself
  pub tied_same : (x : K) → eq_by_cmp cmp x x ≡ true
  tied_same x = ap is_eq (same x)

  -- and false of two keys
  pub tied_not : (x y : K) → (x ≡ y → ⊥) → eq_by_cmp cmp x y ≡ false
  tied_not x y ne = go (cmp x y) refl where
    go : (r : Ordering) → cmp x y ≡ r → is_eq (cmp x y) ≡ false
    go Less e = ap is_eq e
    go Equal e = absurd (ne (distinct x y e))
    go Greater e = ap is_eq e
