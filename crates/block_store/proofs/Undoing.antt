-- A map from hashes to last places, as one hash is added or taken away again.
use Rattle.std.proofs.Common.{◌≡◌, ℕ, Bool, true, false, List, [], ◌∷◌, ◌++◌, Option, Some, None, Result, Ok, Err, length, take, ◌-◌, arith, length-append, cond, refl, sym, ap, ◌∙◌}
use Rattle.std.proofs.lemmas.List.{take_at}
use Rattle.std.specs.Prelude.{OnOk, OnErr, Contains, is_some}
use Rattle.std.specs.Ordering.{is_eq}
use Rattle.base_types.specs.Keys.{hash_cmp}
use Rattle.base_types.specs.declared.hash.Hash32.{Hash32}
use Rattle.block_store.specs.Index.{last_place}
use Rattle.block_store.proofs.IndexLaws.{last_push, last_none, last_contained, is_same, is_itself}

-- each hash has its last place there
abbrev pub Places : (Hash32 → Option ℕ) → List Hash32 → Type 0
Places found hashes = (q : Hash32) → found q ≡ last_place hashes q

abbrev pub with_place : Hash32 → Option ℕ → (Hash32 → Option ℕ) → Hash32 → Option ℕ
with_place hash place found q = cond (is_eq (hash_cmp hash q)) place (found q)

pub added : (old new : Hash32 → Option ℕ) (hashes : List Hash32) (hash : Hash32) (n : ℕ) → Places old hashes → ((q : Hash32) → new q ≡ with_place hash (Some n) old q) → n ≡ length hashes
    → Places new (hashes ++ hash ∷ [])
added old new hashes hash n places is long q =
    is q
    ∙ ap (λ (o : Option ℕ). cond (is_eq (hash_cmp hash q)) (Some n) o) (places q)
    ∙ ap (λ (k : ℕ). cond (is_eq (hash_cmp hash q)) (Some k) (last_place hashes q)) long
    ∙ sym (last_push hashes hash q)

chosen : (b : Bool) (before here : Option ℕ) (n : ℕ) → (b ≡ true → before ≡ here) → cond b before (cond b (Some n) here) ≡ here
chosen true before here n same = same refl
chosen false before here n same = refl

pub taken_back : (old new : Hash32 → Option ℕ) (hashes : List Hash32) (hash : Hash32) (before : Option ℕ) → Places old (hashes ++ hash ∷ []) → before ≡ last_place hashes hash
    → ((q : Hash32) → new q ≡ with_place hash before old q) → Places new hashes
taken_back old new hashes hash before places was is q =
    is q
    ∙ ap (λ (o : Option ℕ). cond (is_eq (hash_cmp hash q)) before o) (places q ∙ last_push hashes hash q)
    ∙ chosen (is_eq (hash_cmp hash q)) before (last_place hashes q) (length hashes) (λ same. was ∙ ap (λ (h : Hash32). last_place hashes h) (is_same hash q same))

-- a hash that was just added has a place
pub has_place : (old : Hash32 → Option ℕ) (hashes : List Hash32) (hash : Hash32) → Places old (hashes ++ hash ∷ []) → old hash ≡ None → ⊥
has_place old hashes hash places none =
    let there : old hash ≡ Some (length hashes) = places hash ∙ last_push hashes hash hash ∙ ap (λ (b : Bool). cond b (Some (length hashes)) (last_place hashes hash)) (is_itself hash) in
    let both : None ≡ Some (length hashes) = sym none ∙ there in
    absurd cc

-- what holds where a result is Ok holds, where Err can't be
pub surely : {T E P Q : Type 0} (r : Result T E) → OnOk r P → OnErr r Q → (Q → ⊥) → P
surely (Ok x) p q never = p
surely (Err e) p q never = absurd (never q)

-- the list without its last member
pub popped : (old new hashes : List Hash32) (hash : Hash32) (n : ℕ) → old ≡ hashes ++ hash ∷ [] → new ≡ take (n - 1) old → n ≡ length old → new ≡ hashes
popped old new hashes hash n is rest long =
    let size : length hashes ≡ n - 1 = omega (arith, ap length is, length-append hashes (hash ∷ [])) in
    rest ∙ ap (take (n - 1)) is ∙ take_at hashes (hash ∷ []) (n - 1) size

abbrev nothing : Option ℕ
nothing = None

-- a hash has a last place where it is among the hashes, and only there
pub found_here : (hashes : List Hash32) (q : Hash32) → (is_some (last_place hashes q) ≡ true → Contains hashes q) × (Contains hashes q → is_some (last_place hashes q) ≡ true)
found_here hashes q = go (last_place hashes q) refl where
  go : (o : Option ℕ) → last_place hashes q ≡ o → (is_some (last_place hashes q) ≡ true → Contains hashes q) × (Contains hashes q → is_some (last_place hashes q) ≡ true)
  go None e = (λ some. absurd (let both : is_some nothing ≡ true = ap is_some (sym e) ∙ some in cc), λ has. absurd (last_none hashes q e has))
  go (Some n) e = (λ some. last_contained hashes q n e, λ has. ap is_some e)
