-- A list of names with their bytes, looked through from the front, as a finite map.
use Rattle.std.proofs.Common.{◌≡◌, ℕ, zero, suc, ◌+◌, ◌<◌, ◌≤◌, Bool, true, false, cond, not, List, [], ◌∷◌, ◌++◌, length, get_or, set, Option, Some, None, refl, sym, ap, subst, ◌∙◌, arith}
use Rattle.std.specs.List.{position, position_or_len}
use Rattle.std.specs.Ordering.{nat_cmp}
use Rattle.std.specs.Cmp.Lexicographic.{slice_cmp, nat_list_cmp_total}
use Rattle.std.specs.FinMap.{find, get, insert, from_entries, same_map, get-insert, get-from_entries, from_entries_push}
use Rattle.std.proofs.lemmas.List.Quantifiers.{position-Some}
use Rattle.std.proofs.lemmas.Map.Lookups.{exact_bytes}
use Rattle.io_traits.specs.Names.{same}
use Rattle.io_traits.proofs.Names.{same_is, same_itself}
use borrow.Author.Tests.{ltb-false}

abbrev pub Entry : Type 0
Entry = List ℕ × List ℕ

abbrev found : List ℕ → List Entry → Option (List ℕ)
found = find (slice_cmp nat_cmp)

shadowed : {A : Type 0} (b : Bool) (x y z : A) → cond b x z ≡ cond b x (cond b y z)
shadowed true x y z = refl
shadowed false x y z = refl

swapped : {A : Type 0} (a b : Bool) (x y z : A) → (a ≡ true → b ≡ true → ⊥) → cond a x (cond b y z) ≡ cond b y (cond a x z)
swapped true true x y z apart = absurd (apart refl refl)
swapped true false x y z apart = refl
swapped false b x y z apart = refl

-- the first entry of a name gives its bytes
found_at : (name : List ℕ) (es : List Entry) (i : ℕ) (d : Entry) → i < length es → same name (get_or es i d).0 ≡ true → ((k : ℕ) → k < i → same name (get_or es k d).0 ≡ false) → found name es ≡ Some (get_or es i d).1
found_at name [] i d within here before = absurd (omega arith)
found_at name (e ∷ es) zero d within here before = ap (λ b. cond b (Some e.1) (found name es)) here
found_at name (e ∷ es) (suc i) d within here before =
    ap (λ b. cond b (Some e.1) (found name es)) (before 0 (omega arith))
    ∙ found_at name es i d (omega arith) here (λ k below. before (suc k) (omega arith))

-- with other bytes in that entry, these are found
found-set : (name bytes : List ℕ) (es : List Entry) (i : ℕ) (d : Entry) → i < length es → same name (get_or es i d).0 ≡ true → ((k : ℕ) → k < i → same name (get_or es k d).0 ≡ false)
    → (q : List ℕ) → found q (set es i ((get_or es i d).0, bytes)) ≡ cond (same q name) (Some bytes) (found q es)
found-set name bytes [] i d within here before q = absurd (omega arith)
found-set name bytes (e ∷ es) zero d within here before q =
    subst (λ key. cond (same q e.0) (Some bytes) (found q es) ≡ cond (same q key) (Some bytes) (cond (same q e.0) (Some e.1) (found q es))) (sym (same_is name e.0 here))
    (shadowed (same q e.0) (Some bytes) (Some e.1) (found q es))
found-set name bytes (e ∷ es) (suc i) d within here before q =
    ap (cond (same q e.0) (Some e.1)) (found-set name bytes es i d (omega arith) here (λ k below. before (suc k) (omega arith)) q)
    ∙ swapped (same q e.0) (same q name) (Some e.1) (Some bytes) (found q es) (λ one other.
    let names : name ≡ e.0 = sym (same_is q name other) ∙ same_is q e.0 one in
    let yes : same name e.0 ≡ true = subst (λ key. same name key ≡ true) names (same_itself name) in
    let no : same name e.0 ≡ false = before 0 (omega arith) in
    cc)

unfound_from : (name : List ℕ) (es : List Entry) → length es ≤ position_or_len (λ e. same name e.0) es → found name es ≡ None
unfound_from name [] past = refl
unfound_from name (e ∷ es) past =
    elim (same name e.0) as (λ b. length es + 1 ≤ cond (not b) (1 + position_or_len (λ e. same name e.0) es) 0 → cond b (Some e.1) (found name es) ≡ None) [
      | true ↦ λ over. absurd (omega arith)
      | false ↦ λ over. unfound_from name es (omega arith)
    ] (omega arith)

at_least : (b : Bool) (i : ℕ) → cond b (Some i) None ≡ None → b ≡ false
at_least true i is = cc
at_least false i is = refl

unfound : (name : List ℕ) (es : List Entry) → position (λ e. same name e.0) es ≡ None → found name es ≡ None
unfound name es is = unfound_from name es (ltb-false _ _ (at_least _ _ is))

-- what is looked up where the name stands at place i
pub get_at : (name : List ℕ) (es : List Entry) (i : ℕ) (e : Entry) → position (λ e. same name e.0) es ≡ Some i → e ≡ get_or es i e → get (from_entries {R = slice_cmp nat_cmp} es) name ≡ Some e.1
get_at name es i e place is =
    let first = position-Some (λ (e : Entry). same name e.0) es i e place in
    get-from_entries nat_list_cmp_total es name ∙ found_at name es i e first.0 first.1 first.2 ∙ ap (λ (entry : Entry). Some entry.1) (sym is)

-- and where it doesn't stand
pub get_absent : (name : List ℕ) (es : List Entry) → position (λ e. same name e.0) es ≡ None → get (from_entries {R = slice_cmp nat_cmp} es) name ≡ None
get_absent name es none = get-from_entries nat_list_cmp_total es name ∙ unfound name es none

-- new bytes at place i
pub insert_at : (name bytes : List ℕ) (es : List Entry) (i : ℕ) (e : Entry) → position (λ e. same name e.0) es ≡ Some i → e ≡ get_or es i e
    → from_entries {R = slice_cmp nat_cmp} (set es i (e.0, bytes)) ≡ insert (from_entries es) name bytes
insert_at name bytes es i e place is =
    let first = position-Some (λ (e : Entry). same name e.0) es i e place in
    let replaced : (q : List ℕ) → found q (set es i (e.0, bytes)) ≡ cond (same q name) (Some bytes) (found q es) =
    λ q. ap (λ (entry : Entry). found q (set es i (entry.0, bytes))) is ∙ found-set name bytes es i e first.0 first.1 first.2 q in
    same_map nat_list_cmp_total exact_bytes _ _ (λ q. get-from_entries nat_list_cmp_total (set es i (e.0, bytes)) q ∙ replaced q
    ∙ sym (get-insert nat_list_cmp_total (from_entries es) name bytes q ∙ ap (cond (same q name) (Some bytes)) (get-from_entries nat_list_cmp_total es q)))

-- a new name at the end
pub insert_new : (name bytes : List ℕ) (es : List Entry) → position (λ e. same name e.0) es ≡ None → from_entries {R = slice_cmp nat_cmp} (es ++ (name, bytes) ∷ []) ≡ insert (from_entries es) name bytes
insert_new name bytes es none = from_entries_push nat_list_cmp_total exact_bytes es name bytes (unfound name es none)
