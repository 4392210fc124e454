-- The scripts that have a short form.
use Rattle.std.specs.Prelude.{◌≡◌, ◌⊎◌, ℕ, zero, suc, ◌<◌, ◌≤◌, true, ◌&&◌, List, ◌++◌, length, take, drop, Option, Some, None, option_map, nat_eq, bytes_eq, refl}
use Rattle.std.proofs.Common.{ltb, ap, subst, ◌∙◌, append_assoc, arith, inl, inr}
use Rattle.std.proofs.lemmas.Bool.{cases_Bool, and_parts, eqb-true, eq-eqb}
use Rattle.std.proofs.lemmas.List.{take_at, drop_at}
use Rattle.std.proofs.lemmas.Slice.Eq.{bytes_eq-Decides}
use Rattle.coin_codec.specs.ScriptForm.{before, kept_len, behind, script_of, between, of_kind, else_try, short_form}

some_is : {A : Type 0} (x y : A) → Some x ≡ Some y → x ≡ y
some_is x y e = cc

abbrev nothing : {A : Type 0} → Option A
nothing = None

none_is : {A : Type 0} (x : A) → nothing {A = A} ≡ Some x → ⊥
none_is x e = cc

pub between_takes : (front : List ℕ) (n : ℕ) (back bytes kept : List ℕ) → between front n back bytes ≡ Some kept → (bytes ≡ front ++ kept ++ back) × (length kept ≡ n)
unfolding between
between_takes front n back bytes kept e =
    let k = take n (drop (length front) bytes) in
    elim (cases_Bool (bytes_eq bytes (front ++ k ++ back) && nat_eq (length k) n)) [
      | inl t ↦
          let both = and_parts (bytes_eq bytes (front ++ k ++ back)) (nat_eq (length k) n) t in
          let is : k ≡ kept = some_is k kept (rw t at e) in
          subst (λ (x : List ℕ). (bytes ≡ front ++ x ++ back) × (length x ≡ n)) is ((bytes_eq-Decides bytes (front ++ k ++ back)).0 both.0, eqb-true (length k) n both.1)
      | inr f ↦ absurd (none_is kept (rw f at e))
    ]

pub between_again : (front : List ℕ) (n : ℕ) (back kept : List ℕ) → length kept ≡ n → between front n back (front ++ kept ++ back) ≡ Some kept
unfolding between
between_again front n back kept len =
    let whole = front ++ kept ++ back in
    let is : take n (drop (length front) whole) ≡ kept =
    ap (λ (x : List ℕ). take n (drop (length front) x)) (append_assoc front kept back) ∙ ap (λ (x : List ℕ). take n x) (drop_at front (kept ++ back) (length front) refl) ∙ take_at kept back n len in
    let same : bytes_eq whole whole ≡ true = (bytes_eq-Decides whole whole).1 refl in
    let sized : nat_eq (length kept) n ≡ true = eq-eqb _ _ len in
    rw (is, same, sized) refl

-- what is said of a mark and what is kept of a script
pub record IsShort (mark : ℕ) (kept script : List ℕ) : Type 0 where
  pub kind : mark < 4
  pub len : length kept ≡ kept_len mark
  pub is : script ≡ script_of mark kept

of_kind_takes : (m : ℕ) (script : List ℕ) (mark : ℕ) (kept : List ℕ) → m < 4 → of_kind m script ≡ Some (mark, kept) → IsShort mark kept script
of_kind_takes m script mark kept lt e = go (between (before m) (kept_len m) (behind m) script) refl e where
  go : (r : Option (List ℕ)) → between (before m) (kept_len m) (behind m) script ≡ r → option_map {U = ℕ × List ℕ} (λ (k : List ℕ). (m, k)) r ≡ Some (mark, kept) → IsShort mark kept script
  go (Some k) found e =
      let b = between_takes (before m) (kept_len m) (behind m) script k found in
      let p = some_is (m, k) (mark, kept) e in
      let made : IsShort m k script = record { kind = lt; len = b.1; is = b.0 } in
      subst (λ (x : ℕ × List ℕ). IsShort x.0 x.1 script) p made
  go None found e = absurd (none_is (mark, kept) e)

one_of : {A : Type 0} (a b : Option A) (x : A) → else_try a b ≡ Some x → (a ≡ Some x) ⊎ (b ≡ Some x)
one_of (Some y) b x e = inl e
one_of None b x e = inr e

-- the script that has a short form is made of it
pub short_takes : (script : List ℕ) (mark : ℕ) (kept : List ℕ) → short_form script ≡ Some (mark, kept) → IsShort mark kept script
unfolding short_form
short_takes script mark kept e =
    elim (one_of (of_kind 0 script) (else_try (of_kind 1 script) (else_try (of_kind 2 script) (of_kind 3 script))) (mark, kept) e) [
      | inl is ↦ of_kind_takes 0 script mark kept (omega arith) is
      | inr e ↦ elim (one_of (of_kind 1 script) (else_try (of_kind 2 script) (of_kind 3 script)) (mark, kept) e) [
        | inl is ↦ of_kind_takes 1 script mark kept (omega arith) is
        | inr e ↦ elim (one_of (of_kind 2 script) (of_kind 3 script) (mark, kept) e) [
          | inl is ↦ of_kind_takes 2 script mark kept (omega arith) is
          | inr is ↦ of_kind_takes 3 script mark kept (omega arith) is
        ]
      ]
    ]

kind_again : (mark : ℕ) (kept : List ℕ) → length kept ≡ kept_len mark → of_kind mark (script_of mark kept) ≡ Some (mark, kept)
kind_again mark kept len = ap (λ (r : Option (List ℕ)). option_map {U = ℕ × List ℕ} (λ (k : List ℕ). (mark, k)) r) (between_again (before mark) (kept_len mark) (behind mark) kept len)

-- and a script that is made of a short form has it
pub short_again : (mark : ℕ) (kept : List ℕ) → mark < 4 → length kept ≡ kept_len mark → short_form (script_of mark kept) ≡ Some (mark, kept)
unfolding short_form between
short_again zero kept lt len =
    let s = script_of 0 kept in
    ap (λ (r : Option (ℕ × List ℕ)). else_try r (else_try (of_kind 1 s) (else_try (of_kind 2 s) (of_kind 3 s)))) (kind_again 0 kept len)
short_again (suc zero) kept lt len = ap (λ (r : Option (ℕ × List ℕ)). else_try r None) (kind_again 1 kept len)
short_again (suc (suc zero)) kept lt len = ap (λ (r : Option (ℕ × List ℕ)). else_try r None) (kind_again 2 kept len)
short_again (suc (suc (suc zero))) kept lt len = kind_again 3 kept len
short_again (suc (suc (suc (suc n)))) kept lt len = absurd (omega arith)

pub kept_most : (mark : ℕ) → kept_len mark ≤ 32
kept_most mark = elim (cases_Bool (ltb mark 2)) [ inl t ↦ rw t (omega arith) | inr f ↦ rw f (omega arith) ]
