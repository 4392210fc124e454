-- Outpoints behind their key texts, in order.
use Rattle.std.specs.Prelude.{◌≡◌, ℕ, ◌+◌, ◌<◌, false, All, IfOk, List, [], ◌∷◌, length, map, get_or, Result, Ok, Err, refl}
use Rattle.std.specs.Cmp.Lexicographic.{slice_cmp}
use Rattle.std.specs.List.Sorted.{IsPermutation, IsSorted}
use Rattle.std.specs.Ordering.{nat_cmp, ordering_then, is_lt}
use Rattle.std.specs.declared.cmp.Ordering.{Ordering}
use Rattle.std.specs.declared.cmp.Ordering.TheVariants.{Less, Equal, Greater}
use Rattle.std.proofs.Common.{sym, ap, subst, ◌∙◌, arith}
use Rattle.std.proofs.lemmas.List.{get_or-map, length-map}
use Rattle.std.proofs.lemmas.List.Sorted.{IsPermutation-map}
use Rattle.std.proofs.lemmas.Map.Views.{All-map-IsPermutation}
use Rattle.base_types.specs.Keys.{outpoint_cmp}
use Rattle.base_types.specs.declared.hash.OutPoint.{OutPoint}
use Rattle.coin_codec.specs.KeyText.{key_text}
use Rattle.coin_store.specs.declared.key_order.Named.{Named}
use Rattle.coin_store.specs.KeyOrder.{IsNamed, key_of, key_order}

first_not : (a b : Ordering) → is_lt (ordering_then a b) ≡ false → is_lt a ≡ false
first_not Less b e = e
first_not Equal b e = refl
first_not Greater b e = refl

-- names in order have keys in the order of their texts
sorted_keys : (names : List Named) → All IsNamed names → IsSorted (λ (a b : Named). ordering_then (slice_cmp nat_cmp a.text.items b.text.items) (outpoint_cmp a.key b.key)) names → IsSorted key_order (map key_of names)
sorted_keys [] named s = λ k d low high. absurd (omega (arith, high))
sorted_keys (n ∷ names) named s = λ k d low high.
    let all = n ∷ names in
    let size = length-map all key_of in
    let second : k + 1 < length all = omega (arith, high, size) in
    let first : k < length all = omega (arith, second) in
    let a = get_or all (k + 1) n in
    let b = get_or all k n in
    let not_less : is_lt (slice_cmp nat_cmp a.text.items b.text.items) ≡ false = first_not (slice_cmp nat_cmp a.text.items b.text.items) (outpoint_cmp a.key b.key) (s k n low second) in
    let texts : is_lt (key_order (key_of a) (key_of b)) ≡ false =
    ap (λ (t : List ℕ). is_lt (slice_cmp nat_cmp t (key_text b.key))) (sym (named (k + 1) n second)) ∙ ap (λ (t : List ℕ). is_lt (slice_cmp nat_cmp a.text.items t)) (sym (named k n first)) ∙ not_less in
    ap (λ (o : OutPoint). is_lt (key_order o (get_or (map key_of all) k d))) (get_or-map key_of all (k + 1) n d second)
    ∙ ap (λ (o : OutPoint). is_lt (key_order (key_of a) o)) (get_or-map key_of all k n d first) ∙ texts

all_named : (names sorted : List Named) → IsPermutation names sorted → All IsNamed names → All IsNamed sorted
all_named names sorted p named =
    let itself : All IsNamed (map (λ (n : Named). n) names) = λ k d within. subst IsNamed (sym (get_or-map (λ (n : Named). n) names k d d (omega (arith, within, length-map names (λ (n : Named). n))))) (named k d (omega (arith, within, length-map names (λ (n : Named). n)))) in
    let moved = All-map-IsPermutation (λ (n : Named). n) IsNamed names sorted p itself in
    λ k d within. subst IsNamed (get_or-map (λ (n : Named). n) sorted k d d within) (moved k d (omega (arith, within, length-map sorted (λ (n : Named). n))))

module _ (names sorted shown : List Named) (keys : List OutPoint) (p : IsPermutation names sorted) (is : shown ≡ sorted) where
  pub same_keys : {E : Type 0} → map key_of names ≡ keys → (result : Result (List OutPoint) E) → IfOk result (λ ks. ks ≡ map key_of shown) → IfOk result (λ ks. IsPermutation keys ks)
  same_keys were (Ok ks) k = subst (λ (l : List OutPoint). IsPermutation keys l) (sym (k ∙ ap (λ (l : List Named). map key_of l) is)) (subst (λ (l : List OutPoint). IsPermutation l (map key_of sorted)) were (IsPermutation-map key_of names sorted p))
  same_keys were (Err e) k = tt

  pub keys_sorted : {E : Type 0} → All IsNamed names → IsSorted (λ (a b : Named). ordering_then (slice_cmp nat_cmp a.text.items b.text.items) (outpoint_cmp a.key b.key)) sorted → (result : Result (List OutPoint) E)
      → IfOk result (λ ks. ks ≡ map key_of shown) → IfOk result (IsSorted key_order)
  keys_sorted named s (Ok ks) k = subst (IsSorted key_order) (sym (k ∙ ap (λ (l : List Named). map key_of l) is)) (sorted_keys sorted (all_named names sorted p named) s)
  keys_sorted named s (Err e) k = tt
