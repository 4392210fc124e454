-- What the map of the index answers, as a finite map.
use Rattle.std.specs.Prelude.{◌≡◌, ℕ, Bool, true, ◌&&◌, List, [], ◌∷◌, Option, Some, None, IsSome, refl}
use Rattle.std.proofs.Common.{cond, eqb, sym, ap, subst, ◌∙◌, inl, inr}
use Rattle.std.proofs.lemmas.Bool.{cases_Bool, and_parts, eqb-true, eq-eqb}
use Rattle.std.specs.Cmp.Lexicographic.{pointwise}
use Rattle.std.specs.FinMap.{find, get, insert, remove}
use Rattle.std.specs.HashMap as hash
use Rattle.std.specs.HashMap.{HashMap}
use Rattle.std.specs.Map.{lookup}
use Rattle.std.specs.Ordering.{eq_by_cmp, is_eq}
use Rattle.base_types.specs.Keys.{outpoint_cmp}
use Rattle.base_types.proofs.KeyOrders.{outpoint_cmp_total, outpoint_cmp-IsAntisymmetric, outpoint_ties, tied_same, tied_not}
use Rattle.base_types.proofs.OrderedMaps.{get-map_of, inserts, removes}
use Rattle.base_types.specs.declared.hash.OutPoint.{OutPoint}
use Rattle.coin_store.specs.declared.index.IndexKey.{IndexKey}
use Rattle.coin_store.specs.declared.index.Salted.{Salted}
use Rattle.coin_store.specs.declared.places.CoinPlace.{CoinPlace}
use Rattle.coin_store.specs.IndexKeys.{key_cmp}
use Rattle.coin_store.specs.IndexMaps.{pairs, map_of}
use Rattle.coin_store.specs.Places.{CoinPlaces}

-- ---- the test of outpoints

pointwise_same : (xs : List ℕ) → pointwise eqb xs xs ≡ true
pointwise_same [] = refl
pointwise_same (x ∷ xs) = rw (eq-eqb x x refl) (pointwise_same xs)

pointwise_is : (xs ys : List ℕ) → pointwise eqb xs ys ≡ true → xs ≡ ys
pointwise_is [] [] e = refl
pointwise_is [] (y ∷ ys) e = absurd cc
pointwise_is (x ∷ xs) [] e = absurd cc
pointwise_is (x ∷ xs) (y ∷ ys) e =
    let p = and_parts (eqb x y) (pointwise eqb xs ys) e in
    λ i. eqb-true x y p.0 i ∷ pointwise_is xs ys p.1 i

abbrev same_parts : OutPoint → OutPoint → Bool
same_parts x y = pointwise eqb x.txid.bytes y.txid.bytes && eqb x.index y.index

are_same : (x y : OutPoint) → same_parts x y ≡ true → x ≡ y
are_same x y e =
    let p = and_parts (pointwise eqb x.txid.bytes y.txid.bytes) (eqb x.index y.index) e in
    let bytes = pointwise_is x.txid.bytes y.txid.bytes p.0 in
    let index = eqb-true x.index y.index p.1 in
    λ i. record { txid = record { bytes = bytes i }; index = index i }

own_parts : (x : OutPoint) → same_parts x x ≡ true
own_parts x = rw (pointwise_same x.txid.bytes, eq-eqb x.index x.index refl) refl

pub test_is : (x y : OutPoint) → same_parts x y ≡ eq_by_cmp outpoint_cmp x y
test_is x y = elim (cases_Bool (same_parts x y)) [
  | inl t ↦ t ∙ sym (subst (λ (o : OutPoint). eq_by_cmp outpoint_cmp x o ≡ true) (are_same x y t) (tied_same outpoint_cmp outpoint_ties outpoint_cmp-IsAntisymmetric x))
  | inr f ↦ f ∙ sym (tied_not outpoint_cmp outpoint_ties outpoint_cmp-IsAntisymmetric x y (λ e.
      let t : same_parts x y ≡ true = subst (λ (o : OutPoint). same_parts x o ≡ true) e (own_parts x) in
      absurd cc))
]

-- ---- the map

abbrev Map : Type 0
Map = HashMap IndexKey CoinPlace Salted

find_pairs : (es : List (IndexKey × CoinPlace)) (q : IndexKey) → find outpoint_cmp q.outpoint (pairs es) ≡ lookup (eq_by_cmp key_cmp q) es
find_pairs [] q = refl
find_pairs (e ∷ es) q = ap (λ (o : Option CoinPlace). cond (eq_by_cmp key_cmp q e.0) (Some e.1) o) (find_pairs es q)

pub get_is : (m : Map) (q : IndexKey) → get (map_of m) q.outpoint ≡ hash.get (eq_by_cmp key_cmp) m q
get_is m q = get-map_of outpoint_cmp outpoint_cmp_total outpoint_cmp-IsAntisymmetric (pairs m.entries) q.outpoint ∙ find_pairs m.entries q

abbrev key_of : OutPoint → IndexKey
key_of outpoint = record { outpoint = outpoint }

pub set_is : (m n : Map) (k : IndexKey) (v : CoinPlace) → hash.Updates (eq_by_cmp key_cmp) m n k (Some v) → map_of n ≡ insert (map_of m) k.outpoint v
set_is m n k v u = inserts outpoint_cmp outpoint_cmp_total outpoint_cmp-IsAntisymmetric (pairs m.entries) (pairs n.entries) k.outpoint v (λ q.
    find_pairs n.entries (key_of q) ∙ u.0 (key_of q) ∙ ap (λ (o : Option CoinPlace). cond (is_eq (outpoint_cmp k.outpoint q)) (Some v) o) (sym (find_pairs m.entries (key_of q))))

pub remove_is : (m n : Map) (k : IndexKey) → hash.Updates (eq_by_cmp key_cmp) m n k None → map_of n ≡ remove (map_of m) k.outpoint
remove_is m n k u = removes outpoint_cmp outpoint_cmp_total outpoint_cmp-IsAntisymmetric (pairs m.entries) (pairs n.entries) k.outpoint (λ q.
    find_pairs n.entries (key_of q) ∙ u.0 (key_of q) ∙ ap (λ (o : Option CoinPlace). cond (is_eq (outpoint_cmp k.outpoint q)) None o) (sym (find_pairs m.entries (key_of q))))

pub not_there : (m : Map) (k : IndexKey) (p : CoinPlaces) {X : Type 0} → map_of m ≡ p → hash.get (eq_by_cmp key_cmp) m k ≡ None → IsSome (get p k.outpoint) → X
not_there m k p view none some = absurd (none_some (get p k.outpoint) (ap (λ (x : CoinPlaces). get x k.outpoint) (sym view) ∙ get_is m k ∙ none) some) where
  none_some : (o : Option CoinPlace) → o ≡ None → IsSome o → ⊥
  none_some None e s = cc
  none_some (Some x) e s = cc
