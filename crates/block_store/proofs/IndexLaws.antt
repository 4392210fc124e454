-- What the last place of a hash says.
use Rattle.std.specs.Prelude.{◌≡◌, ◌≤◌, ℕ, zero, suc, ◌+◌, List, [], ◌∷◌, ◌++◌, length, slice_get, Contains, Option, Some, None, Bool, true, false, refl}
use Rattle.std.proofs.Common.{ap, sym, subst, ◌∙◌, cond, arith, inl, inr, ◌⊎◌, ⊎_elim}
use Rattle.std.proofs.lemmas.Option.{slice_get_read, slice_get_within, get_or_from_slice_get}
use Rattle.std.specs.Ordering.{is_eq}
use Rattle.std.specs.declared.cmp.Ordering.{Ordering}
use Rattle.std.specs.declared.cmp.Ordering.TheVariants.{Less, Equal, Greater}
use Rattle.base_types.specs.Keys.{hash_cmp}
use Rattle.base_types.proofs.KeyOrders.{hash_ties, hash_cmp-IsAntisymmetric}
use Rattle.base_types.specs.declared.hash.Hash32.{Hash32}
use Rattle.block_store.specs.Index.{last_from, last_place}

same_bytes : (a b : Hash32) (r : Ordering) → hash_cmp a b ≡ r → is_eq r ≡ true → a ≡ b
same_bytes a b Less e t = absurd cc
same_bytes a b Equal e t = hash_cmp-IsAntisymmetric a b e
same_bytes a b Greater e t = absurd cc

-- the test of the map's keys tells hashes apart
pub is_same : (a b : Hash32) → is_eq (hash_cmp a b) ≡ true → a ≡ b
is_same a b t = same_bytes a b (hash_cmp a b) refl t

pub is_itself : (a : Hash32) → is_eq (hash_cmp a a) ≡ true
is_itself a = ap is_eq (hash_ties a)

-- one more hash
from_push : (at : ℕ) (found : Option ℕ) (hashes : List Hash32) (hash q : Hash32)
    → last_from at found (hashes ++ hash ∷ []) q ≡ cond (is_eq (hash_cmp hash q)) (Some (at + length hashes)) (last_from at found hashes q)
from_push at found [] hash q = ap (λ (n : ℕ). cond (is_eq (hash_cmp hash q)) (Some n) found) (let z : at ≡ at + 0 = omega arith in z)
from_push at found (first ∷ hashes) hash q =
    let n : at + 1 + length hashes ≡ at + length (first ∷ hashes) = omega arith in
    from_push (at + 1) (cond (is_eq (hash_cmp first q)) (Some at) found) hashes hash q
    ∙ ap (λ (n : ℕ). cond (is_eq (hash_cmp hash q)) (Some n) (last_from (at + 1) (cond (is_eq (hash_cmp first q)) (Some at) found) hashes q)) n

pub last_push : (hashes : List Hash32) (hash q : Hash32) → last_place (hashes ++ hash ∷ []) q ≡ cond (is_eq (hash_cmp hash q)) (Some (length hashes)) (last_place hashes q)
last_push hashes hash q =
    from_push 0 None hashes hash q
    ∙ ap (λ (n : ℕ). cond (is_eq (hash_cmp hash q)) (Some n) (last_place hashes q)) (let z : 0 + length hashes ≡ length hashes = omega arith in z)

-- one of these hashes is this one, and has the place n, where the first has the place `at`
pub record IsAt (at : ℕ) (hashes : List Hash32) (q : Hash32) (n : ℕ) : Type 0 where
  pub k : ℕ
  pub place : n ≡ at + k
  pub is : slice_get hashes k ≡ Some q

chosen_first : (b : Bool) (at : ℕ) (found : Option ℕ) (first : Hash32) (hashes : List Hash32) (q : Hash32) (n : ℕ) → (b ≡ true → first ≡ q)
    → cond b (Some at) found ≡ Some n → (found ≡ Some n) ⊎ IsAt at (first ∷ hashes) q n
chosen_first true at found first hashes q n same e =
    let same_place : at ≡ n = cc in
    inr (record { k = 0; place = omega arith; is = ap (λ (h : Hash32). Some h) (same refl) })
chosen_first false at found first hashes q n same e = inl e

found_from : (at : ℕ) (found : Option ℕ) (hashes : List Hash32) (q : Hash32) (n : ℕ) → last_from at found hashes q ≡ Some n → (found ≡ Some n) ⊎ IsAt at hashes q n
found_from at found [] q n e = inl e
found_from at found (first ∷ hashes) q n e = ⊎_elim
    (chosen_first (is_eq (hash_cmp first q)) at found first hashes q n (is_same first q))
    (λ (s : IsAt (at + 1) hashes q n). let place = s.place in inr (record { k = suc s.k; place = omega arith; is = s.is }))
    (found_from (at + 1) (cond (is_eq (hash_cmp first q)) (Some at) found) hashes q n e)

-- the hash stands at its last place
pub last_is : (hashes : List Hash32) (q : Hash32) (n : ℕ) → last_place hashes q ≡ Some n → slice_get hashes n ≡ Some q
last_is hashes q n e = ⊎_elim
    (λ (none : None ≡ Some n). absurd cc)
    (λ (s : IsAt 0 hashes q n). let place = s.place in let same : s.k ≡ n = omega arith in subst (λ (k : ℕ). slice_get hashes k ≡ Some q) same s.is)
    (found_from 0 None hashes q n e)

record LaterThan (least : ℕ) (found : Option ℕ) : Type 0 where
  pub n : ℕ
  pub is : found ≡ Some n
  pub later : least ≤ n

later_choice : (b : Bool) (at m least : ℕ) → least ≤ at → least ≤ m → (k : ℕ) × (cond b (Some at) (Some m) ≡ Some k) × (least ≤ k)
later_choice true at m least la lm = (at, refl, la)
later_choice false at m least la lm = (m, refl, lm)

stays_later : (at m least : ℕ) (hashes : List Hash32) (q : Hash32) → least ≤ at → least ≤ m → LaterThan least (last_from at (Some m) hashes q)
stays_later at m least [] q la lm = record { n = m; is = refl; later = lm }
stays_later at m least (first ∷ hashes) q la lm =
    let c = later_choice (is_eq (hash_cmp first q)) at m least la lm in
    subst (λ (o : Option ℕ). LaterThan least (last_from (at + 1) o hashes q)) (sym c.1) (stays_later (at + 1) c.0 least hashes q (omega arith) c.2)

later_from : (at : ℕ) (found : Option ℕ) (hashes : List Hash32) (q : Hash32) (k : ℕ) → slice_get hashes k ≡ Some q → LaterThan (at + k) (last_from at found hashes q)
later_from at found [] q k e = absurd cc
later_from at found (first ∷ hashes) q zero e =
    let same : first ≡ q = cc in
    let test : is_eq (hash_cmp first q) ≡ true = ap (λ (h : Hash32). is_eq (hash_cmp h q)) same ∙ is_itself q in
    subst (λ (b : Bool). LaterThan (at + 0) (last_from (at + 1) (cond b (Some at) found) hashes q)) (sym test) (stays_later (at + 1) at (at + 0) hashes q (omega arith) (omega arith))
later_from at found (first ∷ hashes) q (suc k) e =
    let r = later_from (at + 1) (cond (is_eq (hash_cmp first q)) (Some at) found) hashes q k e in
    let later = r.later in
    record { n = r.n; is = r.is; later = omega arith }

-- where the hash stands, its last place is there or later
pub last_later : (hashes : List Hash32) (q : Hash32) (k : ℕ) → slice_get hashes k ≡ Some q → (n : ℕ) × (last_place hashes q ≡ Some n) × (k ≤ n)
last_later hashes q k e = let r = later_from 0 None hashes q k e in let later = r.later in (r.n, r.is, omega arith)

-- it has no last place exactly where it stands nowhere
pub last_none : (hashes : List Hash32) (q : Hash32) → last_place hashes q ≡ None → Contains hashes q → ⊥
last_none hashes q e has =
    let there : slice_get hashes has.0 ≡ Some q = slice_get_read hashes (length hashes) has.0 q refl has.1 (sym has.2) in
    let l = last_later hashes q has.0 there in
    let both : None ≡ Some l.0 = sym e ∙ l.1 in
    absurd cc

pub last_contained : (hashes : List Hash32) (q : Hash32) (n : ℕ) → last_place hashes q ≡ Some n → Contains hashes q
last_contained hashes q n e =
    let there = last_is hashes q n e in
    (n, slice_get_within hashes n q there, get_or_from_slice_get hashes n q q there)
