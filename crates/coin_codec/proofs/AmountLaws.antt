-- The code of an amount, and the amount of a code.
use Rattle.std.specs.Prelude.{◌≡◌, ℕ, zero, suc, ◌+◌, ◌-◌, ◌*◌, ◌/◌, ◌%◌, ◌^◌, ◌<◌, ◌≤◌, true, false, refl}
use Rattle.std.proofs.Common.{eqb, ap, subst, ◌∙◌, arith, inl, inr}
use Rattle.std.proofs.Math.Nat.{pow-suc, pow-zero}
use Rattle.std.proofs.lemmas.Bool.{cases_lt, cases_Bool, eqb-true, eqb-false, eq-eqb, ne_eqb, lt-ltb, le-ltb}
use Rattle.coin_codec.specs.Amount.{tens, left, code_of, amount_code, left_of, amount_of}

ten_more : (n e : ℕ) → n * 10 ^ suc e ≡ 10 * (n * 10 ^ e)
ten_more n e = ap (λ (p : ℕ). n * p) (pow-suc 10 e) ∙ omega arith

shifted_pos : (e n : ℕ) → 0 < n → 0 < n * 10 ^ e
shifted_pos zero n some = rw (pow-zero 10) (omega arith)
shifted_pos (suc e) n some = rw (ten_more n e) (omega (arith, shifted_pos e n some))

left_le : (most n : ℕ) → left most n ≤ n
unfolding left
left_le zero n = omega arith
left_le (suc most) n = elim (cases_Bool (eqb (n % 10) 0)) [
  | inl t ↦ rw t (omega (arith, left_le most (n / 10)))
  | inr f ↦ rw f (omega arith)
]

left_pos : (most n : ℕ) → 0 < n → 0 < left most n
unfolding left
left_pos zero n some = some
left_pos (suc most) n some = elim (cases_Bool (eqb (n % 10) 0)) [
  | inl t ↦ rw t (left_pos most (n / 10) (omega (arith, eqb-true (n % 10) 0 t)))
  | inr f ↦ rw f some
]

tens_le : (most n : ℕ) → tens most n ≤ most
unfolding tens
tens_le zero n = omega arith
tens_le (suc most) n = elim (cases_Bool (eqb (n % 10) 0)) [
  | inl t ↦ rw t (omega (arith, tens_le most (n / 10)))
  | inr f ↦ rw f (omega arith)
]

-- with its factors of ten it is the number
left_tens : (most n : ℕ) → left most n * 10 ^ tens most n ≡ n
unfolding left tens
left_tens zero n = rw (pow-zero 10) (omega arith)
left_tens (suc most) n = elim (cases_Bool (eqb (n % 10) 0)) [
  | inl t ↦ rw t (ten_more (left most (n / 10)) (tens most (n / 10)) ∙ omega (arith, left_tens most (n / 10), eqb-true (n % 10) 0 t))
  | inr f ↦ rw (f, pow-zero 10) (omega arith)
]

-- its last digit is 0 only where as many factors as asked for were taken out
last_digit : (most n : ℕ) → tens most n < most → left most n % 10 ≡ 0 → ⊥
unfolding left tens
last_digit zero n few is = omega arith
last_digit (suc most) n few is = elim (cases_Bool (eqb (n % 10) 0)) [
  | inl t ↦
      let few : suc (tens most (n / 10)) < suc most = rw t at few in
      let is : left most (n / 10) % 10 ≡ 0 = rw t at is in
      last_digit most (n / 10) (omega arith) is
  | inr f ↦ eqb-false (n % 10) 0 f (rw f at is)
]

-- a number with so many factors of ten has just these
pub tens_none : (most k n : ℕ) → k ≡ n → (0 < most → n % 10 ≡ 0 → ⊥) → (tens most k ≡ 0) × (left most k ≡ n)
unfolding left tens
tens_none zero k n is last = (refl, is)
tens_none (suc most) k n is last =
    let f : eqb (k % 10) 0 ≡ false = ne_eqb _ _ (λ z. last (omega arith) (omega arith)) in
    rw f (refl, is)

tens_of : (most e n : ℕ) → e ≤ most → 0 < n → (e < most → n % 10 ≡ 0 → ⊥) → (tens most (n * 10 ^ e) ≡ e) × (left most (n * 10 ^ e) ≡ n)
unfolding left tens
tens_of most zero n le some last = tens_none most (n * 10 ^ zero) n (rw (pow-zero 10) (omega arith)) last
tens_of zero (suc e) n le some last = absurd (omega arith)
tens_of (suc most) (suc e) n le some last =
    let k = n * 10 ^ e in
    let t : eqb ((10 * k) % 10) 0 ≡ true = eq-eqb _ _ (omega arith) in
    let d : (10 * k) / 10 ≡ k = omega arith in
    let r = tens_of most e n (omega arith) some (λ lt. last (omega arith)) in
    rw (ten_more n e, t, d) (ap suc r.0, r.1)

-- where e is below 9
pub few_code : (e n : ℕ) → e < 9 → code_of e n ≡ 1 + 10 * (9 * (n / 10) + n % 10 - 1) + e
unfolding code_of
few_code e n lt = rw (lt-ltb e 9 lt) refl

pub nine_code : (n : ℕ) → code_of 9 n ≡ 1 + 10 * (n - 1) + 9
unfolding code_of
nine_code n = refl

-- the amount of a code that is made of these parts
amount_of_parts : (code e k : ℕ) → e < 10 → code ≡ 1 + 10 * k + e → amount_of code ≡ left_of e k * 10 ^ e
unfolding amount_of
amount_of_parts code e k lt is =
    let f : eqb code 0 ≡ false = ne_eqb _ _ (λ z. omega arith) in
    let r : (code - 1) % 10 ≡ e = omega arith in
    let q : (code - 1) / 10 ≡ k = omega arith in
    rw (f, r, q) refl

amount_of_few : (e n : ℕ) → e < 9 → 0 < n % 10 → amount_of (code_of e n) ≡ n * 10 ^ e
unfolding left_of
amount_of_few e n lt digit =
    let k = 9 * (n / 10) + n % 10 - 1 in
    let whole : 10 * (k / 9) + k % 9 + 1 ≡ n = omega arith in
    let is : left_of e k ≡ n = rw (lt-ltb e 9 lt) whole in
    amount_of_parts (code_of e n) e k (omega arith) (few_code e n lt) ∙ ap (λ (m : ℕ). m * 10 ^ e) is

amount_of_nine : (n : ℕ) → 0 < n → amount_of (code_of 9 n) ≡ n * 10 ^ 9
unfolding left_of
amount_of_nine n some =
    let is : n - 1 + 1 ≡ n = omega arith in
    amount_of_parts (code_of 9 n) 9 (n - 1) (omega arith) (nine_code n) ∙ ap (λ (m : ℕ). m * 10 ^ 9) is

amount_of_code_of : (e n : ℕ) → e ≤ 9 → 0 < n → (e < 9 → n % 10 ≡ 0 → ⊥) → amount_of (code_of e n) ≡ n * 10 ^ e
amount_of_code_of e n le some last = elim (cases_lt e 9) [
  | inl lt ↦
      let ne : n % 10 ≡ 0 → ⊥ = last lt in
      amount_of_few e n lt (omega arith)
  | inr ge ↦
      let is : 9 ≡ e = omega arith in
      subst (λ (d : ℕ). amount_of (code_of d n) ≡ n * 10 ^ d) is (amount_of_nine n some)
]

-- the code of an amount that isn't 0
pub some_code : (n : ℕ) → 0 < n → amount_code n ≡ code_of (tens 9 n) (left 9 n)
unfolding amount_code
some_code n some =
    let f : eqb n 0 ≡ false = ne_eqb _ _ (λ z. omega arith) in
    rw f refl

-- the amount of an amount's code is that amount
pub amount_of-code : (n : ℕ) → amount_of (amount_code n) ≡ n
unfolding amount_code amount_of
amount_of-code zero = refl
amount_of-code (suc n) =
    ap amount_of (some_code (suc n) (omega arith)) ∙ amount_of_code_of (tens 9 (suc n)) (left 9 (suc n)) (tens_le 9 (suc n)) (left_pos 9 (suc n) (omega arith)) (last_digit 9 (suc n)) ∙ left_tens 9 (suc n)

-- what is left by the parts of a code, and the code of it
code_parts : (e k : ℕ) → e ≤ 9 → (0 < left_of e k) × (e < 9 → left_of e k % 10 ≡ 0 → ⊥) × (code_of e (left_of e k) ≡ 1 + 10 * k + e)
unfolding left_of code_of
code_parts e k le = elim (cases_lt e 9) [
  | inl lt ↦ rw (lt-ltb e 9 lt) (omega arith, λ _ z. omega arith, omega arith)
  | inr ge ↦ rw (le-ltb e 9 ge) (omega arith, λ lt. absurd (omega arith), omega arith)
]

-- each code is that of its amount
pub code-amount_of : (code : ℕ) → amount_code (amount_of code) ≡ code
unfolding amount_code amount_of
code-amount_of zero = refl
code-amount_of (suc c) =
    let e = c % 10 in
    let k = c / 10 in
    let parts = code_parts e k (omega arith) in
    let m = left_of e k in
    let p = 10 ^ e in
    let is : amount_of (suc c) ≡ m * p = amount_of_parts (suc c) e k (omega arith) (omega arith) in
    let some : 0 < m * p = shifted_pos e m parts.0 in
    let t = tens_of 9 e m (omega arith) parts.0 parts.1 in
    ap amount_code is ∙ some_code (m * p) some ∙ rw (t.0, t.1) (parts.2 ∙ omega arith)

-- no code is more than ten times the amount
code_of_le : (e n : ℕ) → e ≤ 9 → 0 < n → code_of e n ≤ 10 * n
unfolding code_of
code_of_le e n le some = elim (cases_lt e 9) [
  | inl lt ↦ rw (lt-ltb e 9 lt) (omega arith)
  | inr ge ↦ rw (le-ltb e 9 ge) (omega arith)
]

pub amount_code_le : (n : ℕ) → amount_code n ≤ 10 * n
unfolding amount_code
amount_code_le zero = omega arith
amount_code_le (suc n) =
    let le = code_of_le (tens 9 (suc n)) (left 9 (suc n)) (tens_le 9 (suc n)) (left_pos 9 (suc n) (omega arith)) in
    rw (some_code (suc n) (omega arith)) (omega (arith, left_le 9 (suc n)))
