-- The outpoints of the index that have coins, one entry after the other.
use Rattle.std.specs.Prelude.{◌≡◌, Bool, true, false, is_some, List, [], ◌∷◌, ◌++◌, map, Option, Some, refl}
use Rattle.std.specs.FinMap.{get, same_map}
use Rattle.std.specs.HashMap.{HashMap, IsUnique}
use Rattle.std.specs.List.{list_any, IsDistinct, AllByRecursion}
use Rattle.std.specs.Map.{lookup}
use Rattle.std.specs.Ordering.{eq_by_cmp, is_eq}
use Rattle.std.proofs.Common.{cond, eqb, sym, ap, ◌∙◌, append_assoc, inl, inr}
use Rattle.std.proofs.lemmas.Bool.{cases_Bool, eq-eqb, ne_eqb}
use Rattle.base_types.specs.Keys.{outpoint_cmp}
use Rattle.base_types.proofs.KeyOrders.{outpoint_cmp_total, outpoint_cmp-IsAntisymmetric}
use Rattle.base_types.specs.declared.hash.OutPoint.{OutPoint}
use Rattle.std.specs.declared.cmp.Ordering.{Ordering}
use Rattle.std.specs.declared.cmp.Ordering.TheVariants.{Less, Equal, Greater}
use Rattle.coin_store.specs.declared.index.IndexKey.{IndexKey}
use Rattle.coin_store.specs.declared.index.Salted.{Salted}
use Rattle.coin_store.specs.declared.places.CoinPlace.{CoinPlace}
use Rattle.coin_store.specs.IndexKeys.{key_cmp}
use Rattle.coin_store.specs.IndexMaps.{map_of}
use Rattle.coin_store.specs.Kept.{kept}
use Rattle.coin_store.specs.Places.{CoinPlaces, live}
use Rattle.coin_store.proofs.Indexes.{get_is}

abbrev pub Entry : Type 0
Entry = IndexKey × CoinPlace

pub kept_vacant : (front : List Entry) (e : Entry) → e.1.len ≡ 0 → kept (front ++ e ∷ []) ≡ kept front
kept_vacant [] e none = rw (eq-eqb e.1.len 0 none) refl
kept_vacant (f ∷ front) e none = ap (λ (k : List OutPoint). cond (eqb f.1.len 0) k (f.0.outpoint ∷ k)) (kept_vacant front e none)

pub kept_live : (front : List Entry) (e : Entry) → (e.1.len ≡ 0 → ⊥) → kept (front ++ e ∷ []) ≡ kept front ++ e.0.outpoint ∷ []
kept_live [] e some = rw (ne_eqb e.1.len 0 some) refl
kept_live (f ∷ front) e some = ap (λ (k : List OutPoint). cond (eqb f.1.len 0) k (f.0.outpoint ∷ k)) (kept_live front e some) ∙ over (eqb f.1.len 0) f.0.outpoint (kept front) (e.0.outpoint ∷ []) where
  over : (b : Bool) (x : OutPoint) (l m : List OutPoint) → cond b (l ++ m) (x ∷ (l ++ m)) ≡ cond b l (x ∷ l) ++ m
  over true x l m = refl
  over false x l m = refl

pub one_further : (all front rest now : List Entry) (e : Entry) → all ≡ front ++ rest → rest ≡ e ∷ now → all ≡ (front ++ e ∷ []) ++ now
one_further all front rest now e is step = is ∙ ap (λ (l : List Entry). front ++ l) step ∙ sym (append_assoc front (e ∷ []) now)

abbrev keys_in : List Entry → List IndexKey
keys_in entries = map (λ e. e.0) entries

all_kept : (P : OutPoint → Type 0) (es : List Entry) → AllByRecursion (λ (k : IndexKey). P k.outpoint) (keys_in es) → AllByRecursion P (kept es)
all_kept P [] a = tt
all_kept P (e ∷ es) a = elim (cases_Bool (eqb e.1.len 0)) [
  | inl t ↦ rw t (all_kept P es a.1)
  | inr f ↦ rw f (a.0, all_kept P es a.1)
]

pub kept_distinct : (es : List Entry) → IsDistinct (eq_by_cmp key_cmp) (keys_in es) → IsDistinct (eq_by_cmp outpoint_cmp) (kept es)
unfolding IsDistinct
kept_distinct [] d = tt
kept_distinct (e ∷ es) d = elim (cases_Bool (eqb e.1.len 0)) [
  | inl t ↦ rw t (kept_distinct es d.1)
  | inr f ↦ rw f (all_kept (λ y. eq_by_cmp outpoint_cmp e.0.outpoint y ≡ false) es d.0, kept_distinct es d.1)
]

none_any : (q : OutPoint) (ks : List OutPoint) → AllByRecursion (λ y. eq_by_cmp outpoint_cmp q y ≡ false) ks → list_any (eq_by_cmp outpoint_cmp q) ks ≡ false
none_any q [] a = refl
none_any q (k ∷ ks) a = rw (a.0) (none_any q ks a.1)

tied_is : (r : Ordering) → is_eq r ≡ true → r ≡ Equal
tied_is Less e = absurd cc
tied_is Equal e = refl
tied_is Greater e = absurd cc

kept_found : (q : OutPoint) (es : List Entry) → IsDistinct (eq_by_cmp key_cmp) (keys_in es) → list_any (eq_by_cmp outpoint_cmp q) (kept es) ≡ is_some (live (lookup (eq_by_cmp key_cmp (record { outpoint = q })) es))
unfolding IsDistinct
kept_found q [] d = refl
kept_found q (e ∷ es) d = elim (cases_Bool (eq_by_cmp outpoint_cmp q e.0.outpoint)) [
  | inl here ↦
      let same : q ≡ e.0.outpoint = outpoint_cmp-IsAntisymmetric q e.0.outpoint (tied_is (outpoint_cmp q e.0.outpoint) here) in
      elim (cases_Bool (eqb e.1.len 0)) [
        | inl t ↦
            let none : list_any (eq_by_cmp outpoint_cmp e.0.outpoint) (kept es) ≡ false = none_any e.0.outpoint (kept es) (all_kept (λ y. eq_by_cmp outpoint_cmp e.0.outpoint y ≡ false) es d.0) in
            let none_q : list_any (eq_by_cmp outpoint_cmp q) (kept es) ≡ false = ap (λ (o : OutPoint). list_any (eq_by_cmp outpoint_cmp o) (kept es)) same ∙ none in
            rw (t, here, t) none_q
        | inr f ↦ rw (f, here, f) refl
      ]
  | inr apart ↦ elim (cases_Bool (eqb e.1.len 0)) [
    | inl t ↦ rw (t, apart) (kept_found q es d.1)
    | inr f ↦ rw (f, apart) (kept_found q es d.1)
  ]
]

pub found : (m : HashMap IndexKey CoinPlace Salted) (places : CoinPlaces) (keys : List OutPoint) (q : OutPoint) → IsUnique (eq_by_cmp key_cmp) m → map_of m ≡ places → keys ≡ kept m.entries
    → list_any (eq_by_cmp outpoint_cmp q) keys ≡ is_some (live (get places q))
found m places keys q unique view is =
    ap (λ (k : List OutPoint). list_any (eq_by_cmp outpoint_cmp q) k) is ∙ kept_found q m.entries unique
    ∙ ap (λ (p : Option CoinPlace). is_some (live p)) (sym (get_is m (record { outpoint = q })) ∙ ap (λ (p : CoinPlaces). get p q) view)

-- ---- a copy

at_member : (P : IndexKey → Type 0) (front : List Entry) (e : Entry) (rest : List Entry) → AllByRecursion P (keys_in (front ++ e ∷ rest)) → P e.0
at_member P [] e rest a = a.0
at_member P (f ∷ front) e rest a = at_member P front e rest a.1

-- one more entry, whose key is none of those before
pub one_copied : (front : List Entry) (e : Entry) (rest : List Entry) (q : IndexKey) → IsDistinct (eq_by_cmp key_cmp) (keys_in (front ++ e ∷ rest))
    → cond (eq_by_cmp key_cmp q e.0) (Some e.1) (lookup (eq_by_cmp key_cmp q) front) ≡ lookup (eq_by_cmp key_cmp q) (front ++ e ∷ [])
unfolding IsDistinct
one_copied [] e rest q d = refl
one_copied (f ∷ front) e rest q d = elim (cases_Bool (eq_by_cmp outpoint_cmp q.outpoint f.0.outpoint)) [
  | inl here ↦
      let same : q ≡ f.0 = (λ i. record { outpoint = outpoint_cmp-IsAntisymmetric q.outpoint f.0.outpoint (tied_is (outpoint_cmp q.outpoint f.0.outpoint) here) i }) in
      let apart : eq_by_cmp key_cmp q e.0 ≡ false = ap (λ (k : IndexKey). eq_by_cmp key_cmp k e.0) same ∙ at_member (λ y. eq_by_cmp key_cmp f.0 y ≡ false) front e rest d.0 in
      rw (here, apart) refl
  | inr other ↦ rw other (one_copied front e rest q d.1)
]

pub copied : (m : HashMap IndexKey CoinPlace Salted) (copy places : CoinPlaces) (front : List Entry) → ((q : OutPoint) → get copy q ≡ lookup (eq_by_cmp key_cmp (record { outpoint = q })) front) → front ≡ m.entries → map_of m ≡ places → copy ≡ places
copied m copy places front all whole view =
    same_map outpoint_cmp_total outpoint_cmp-IsAntisymmetric copy places (λ q.
    all q
    ∙ ap (λ (es : List Entry). lookup (eq_by_cmp key_cmp (record { outpoint = q })) es) whole
    ∙ sym (get_is m (record { outpoint = q }))
    ∙ ap (λ (p : CoinPlaces). get p q) view)
