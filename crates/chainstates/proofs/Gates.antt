-- Where the records of a log stand.
use Rattle.std.proofs.Common.{◌≡◌, ◌⊎◌, inl, inr, ⊎_elim, ℕ, zero, suc, ◌+◌, ◌≤◌, ◌&&◌, Bool, true, false, List, [], ◌∷◌, ◌++◌, length, take, drop, Some, None, refl, sym, ap, ◌∙◌, arith}
use Rattle.std.specs.Prelude.{slice_get}
use Rattle.std.specs.List.{list_all}
use Rattle.std.proofs.lemmas.List.Folds.{list_all-append}
use Rattle.batch_log.specs.OpenLog.{places_of}
use Rattle.batch_log.specs.declared.places.Place.{Place}
use Rattle.store_state.specs.State.{Record, gated}

pub same_value : {A : Type 0} (a b : A) → Some a ≡ Some b → a ≡ b
same_value a b e = cc

-- a payload at its place, behind those before it
pub gated_at : (start : ℕ) (payloads : List (List ℕ)) (n : ℕ) (payload : List ℕ) (place : Place) → slice_get payloads n ≡ Some payload → slice_get (places_of start payloads) n ≡ Some place
    → (after : List (Record (List ℕ))) × (gated start payloads ≡ gated start (take n payloads) ++ (place.at, payload) ∷ after)
unfolding gated
gated_at start [] n payload place here there = absurd cc
gated_at start (p ∷ payloads) zero payload place here there =
    let same : p ≡ payload = same_value p payload here in
    let is = same_value (record { at = start; len = length p }) place there in (
      gated (start + (5 + length p)) payloads,
      ap (λ (q : List ℕ). (start, q) ∷ gated (start + (5 + length p)) payloads) same ∙ ap (λ (at : ℕ). (at, payload) ∷ gated (start + (5 + length p)) payloads) (ap (λ (q : Place). q.at) is),
    )
gated_at start (p ∷ payloads) (suc n) payload place here there =
    let rest = gated_at (start + (5 + length p)) payloads n payload place here there in
    (rest.0, ap (λ (records : List (Record (List ℕ))). (start, p) ∷ records) rest.1)

-- the first n + 1 members
take_suc : {A : Type 0} (xs : List A) (i : ℕ) (x : A) → slice_get xs i ≡ Some x → take (suc i) xs ≡ take i xs ++ x ∷ []
take_suc [] i x e = absurd cc
take_suc (y ∷ xs) zero x e = ap (λ z. z ∷ []) (same_value y x e)
take_suc (y ∷ xs) (suc i) x e = ap (λ l. y ∷ l) (take_suc xs i x e)

pub take_more : {A : Type 0} (xs : List A) (i : ℕ) (x : A) → slice_get xs i ≡ Some x → take (i + 1) xs ≡ take i xs ++ x ∷ []
take_more xs i x e = ap (λ n. take n xs) (let s : i + 1 ≡ suc i = omega arith in s) ∙ take_suc xs i x e

-- a list around its n-th member
pub split_there : {A : Type 0} (xs : List A) (i : ℕ) (x : A) → slice_get xs i ≡ Some x → xs ≡ take i xs ++ x ∷ drop (suc i) xs
split_there [] i x e = absurd cc
split_there (y ∷ xs) zero x e = ap (λ z. z ∷ xs) (same_value y x e)
split_there (y ∷ xs) (suc i) x e = ap (λ l. y ∷ l) (split_there xs i x e)

-- within a list there is a member
pub member_at : {A : Type 0} (xs : List A) (n : ℕ) → (length xs ≤ n → ⊥) → (x : A) × (slice_get xs n ≡ Some x)
member_at [] n within = absurd (within (omega arith))
member_at (x ∷ xs) zero within = (x, refl)
member_at (x ∷ xs) (suc n) within = member_at xs n (λ over. within (omega (arith, over)))

pub ended : {A : Type 0} (xs : List A) (n : ℕ) → slice_get xs n ≡ None → length xs ≤ n
ended [] n e = omega arith
ended (x ∷ xs) zero e = absurd cc
ended (x ∷ xs) (suc n) e = let rest = ended xs n e in omega (arith, rest)

pub in_or_over : {A : Type 0} (xs : List A) (n : ℕ) → ((x : A) × (slice_get xs n ≡ Some x)) ⊎ (length xs ≤ n)
in_or_over [] n = inr (omega arith)
in_or_over (x ∷ xs) zero = inl (x, refl)
in_or_over (x ∷ xs) (suc n) = ⊎_elim (λ there. inl there) (λ over. inr (omega (arith, over))) (in_or_over xs n)

-- ---- a test of all members

pub both_true : (a b : Bool) → (a && b) ≡ true → (a ≡ true) × (b ≡ true)
both_true true b e = (refl, e)
both_true false b e = absurd cc

pub all_more : {A : Type 0} (test : A → Bool) (xs : List A) (n : ℕ) (x : A) → slice_get xs n ≡ Some x → list_all test (take n xs) ≡ true → test x ≡ true → list_all test (take (n + 1) xs) ≡ true
all_more test xs n x there all one =
    ap (list_all test) (take_more xs n x there) ∙ list_all-append test (take n xs) (x ∷ []) ∙ ap (λ b. b && (test x && true)) all ∙ ap (λ b. b && true) one

pub all_at : {A : Type 0} (test : A → Bool) (xs : List A) (n : ℕ) (x : A) → list_all test xs ≡ true → slice_get xs n ≡ Some x → test x ≡ true
all_at test [] n x all e = absurd cc
all_at test (y ∷ xs) zero x all e = ap test (sym (same_value y x e)) ∙ (both_true (test y) (list_all test xs) all).0
all_at test (y ∷ xs) (suc n) x all e = all_at test xs n x (both_true (test y) (list_all test xs) all).1 e
