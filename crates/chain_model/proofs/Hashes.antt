-- The test of hashes, and maps by hashes.
use Rattle.std.proofs.Common.{◌≡◌, ℕ, ◌+◌, Bool, true, false, cond, List, [], ◌∷◌, ◌⊎◌, refl, sym, ap, subst, ◌∙◌, eq-eqb}
use Rattle.std.specs.Prelude.{nat_eq, is_some}
use Rattle.std.specs.declared.option.Option.{Option}
use Rattle.std.specs.declared.option.Option.TheVariants.{Some, None}
use Rattle.std.specs.Cmp.Lexicographic.{pointwise, same_text}
use Rattle.std.specs.FinMap.{FinMap, get, insert, get-insert, len-insert}
use Rattle.std.specs.FinMap as finite
use Rattle.base_types.specs.Keys.{hash_cmp}
use Rattle.base_types.proofs.KeyOrders.{hash_cmp_total, hash_cmp-IsAntisymmetric, hash_ties, cases_key, tied_same, tied_not}
use Rattle.base_types.specs.declared.hash.Hash32.{Hash32}
use Rattle.block_codec.specs.Text.{same_hash}

-- ---- the test of hashes

bytes_same : (xs : List ℕ) → pointwise nat_eq xs xs ≡ true
bytes_same [] = refl
bytes_same (x ∷ xs) = simp (eq-eqb x x refl, bytes_same xs)

pub same_self : (a : Hash32) → same_hash a a ≡ true
same_self a = bytes_same a.bytes

pub same_true : (a b : Hash32) → same_hash a b ≡ true → a ≡ b
same_true a b e = let bytes = same_text a.bytes b.bytes (sym e) in λ i. record { bytes = bytes i }

pub same_false : (a b : Hash32) → (a ≡ b → ⊥) → same_hash a b ≡ false
same_false a b apart = go (same_hash a b) refl where
  go : (r : Bool) → same_hash a b ≡ r → same_hash a b ≡ false
  go true e = absurd (apart (same_true a b e))
  go false e = e

pub same_or_not : (a b : Hash32) → (a ≡ b) ⊎ (a ≡ b → ⊥)
same_or_not a b = cases_key hash_cmp hash_ties hash_cmp-IsAntisymmetric a b

-- ---- what may be there

pub absent : {A : Type 0} (o : Option A) → is_some o ≡ false → o ≡ None
absent None e = refl
absent (Some x) e = absurd cc

pub there : {A : Type 0} (o : Option A) → is_some o ≡ true → (x : A) × (o ≡ Some x)
there None e = absurd cc
there (Some x) e = (x, refl)

-- ---- maps by hashes

module _ {V : Type 0} where
  pub get_same : (m : FinMap hash_cmp V) (k : Hash32) (v : V) → get (insert m k v) k ≡ Some v
  get_same m k v =
      get-insert hash_cmp_total m k v k
      ∙ ap (λ (b : Bool). cond b (Some v) (get m k)) (tied_same hash_cmp hash_ties hash_cmp-IsAntisymmetric k)

  pub get_other : (m : FinMap hash_cmp V) (k : Hash32) (v : V) (q : Hash32) → (q ≡ k → ⊥) → get (insert m k v) q ≡ get m q
  get_other m k v q apart =
      get-insert hash_cmp_total m k v q
      ∙ ap (λ (b : Bool). cond b (Some v) (get m q)) (tied_not hash_cmp hash_ties hash_cmp-IsAntisymmetric q k apart)

  pub len_new : (m : FinMap hash_cmp V) (k : Hash32) (v : V) → get m k ≡ None → finite.len (insert m k v) ≡ finite.len m + 1
  len_new m k v none =
      len-insert hash_cmp_total m k v
      ∙ ap (λ (o : Option V). cond (is_some o) (finite.len m) (finite.len m + 1)) none

  -- what is there isn't under a key that has nothing
  pub apart_from : (m : FinMap hash_cmp V) (k q : Hash32) (v : V) → get m k ≡ None → get m q ≡ Some v → k ≡ q → ⊥
  apart_from m k q v none some same = let e : get m q ≡ None = subst (λ (h : Hash32). get m h ≡ None) same none in cc

  -- a new key leaves what is there
  pub get_kept : (m : FinMap hash_cmp V) (k : Hash32) (v : V) (q : Hash32) (x : V) → get m k ≡ None → get m q ≡ Some x → get (insert m k v) q ≡ Some x
  get_kept m k v q x fresh found = get_other m k v q (λ is. apart_from m k q x fresh found (sym is)) ∙ found
