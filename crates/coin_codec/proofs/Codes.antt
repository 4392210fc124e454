-- The codes of amounts as they are computed.
use Rattle.std.specs.Prelude.{◌≡◌, ℕ, suc, ◌+◌, ◌-◌, ◌*◌, ◌/◌, ◌%◌, ◌^◌, ◌<◌, ◌≤◌, true, Option, Some, None, refl}
use Rattle.std.proofs.Common.{cond, eqb, leb, sym, ◌∙◌, arith}
use Rattle.std.proofs.lemmas.Bool.{eq-eqb, ne_eqb, le-leb, lt-leb}
use Rattle.coin_codec.specs.Amount.{tens, left, code_of, amount_code, left_of, amount_of}
use Rattle.coin_codec.proofs.AmountLaws.{nine_code, tens_none, some_code}

-- one more factor of ten is taken out
pub taken : (t n e m : ℕ) → t < 9 → n % 10 ≡ 0 → t + tens (9 - t) n ≡ e → left (9 - t) n ≡ m → (t + 1 + tens (9 - (t + 1)) (n / 10) ≡ e) × (left (9 - (t + 1)) (n / 10) ≡ m)
unfolding tens left
taken t n e m lt digit counted over =
    let next : 9 - t ≡ suc (9 - (t + 1)) = omega arith in
    let b : eqb (n % 10) 0 ≡ true = eq-eqb _ _ digit in
    let counted : t + suc (tens (9 - (t + 1)) (n / 10)) ≡ e = rw (next, b) at counted in
    let over : left (9 - (t + 1)) (n / 10) ≡ m = rw (next, b) at over in
    (omega (arith, counted), over)

-- none is left
pub coded : (value t n : ℕ) → 0 < value → t ≤ 9 → (t < 9 → n % 10 ≡ 0 → ⊥) → t + tens (9 - t) n ≡ tens 9 value → left (9 - t) n ≡ left 9 value → amount_code value ≡ code_of t n
coded value t n some most last counted over =
    let ends = tens_none (9 - t) n n refl (λ lt. last (omega arith)) in
    let e : tens 9 value ≡ t = omega (arith, ends.0, counted) in
    let m : left 9 value ≡ n = sym over ∙ ends.1 in
    some_code value some ∙ rw (e, m) refl

-- the amount of a code from its parts
pub parts_amount : (code : ℕ) → (code ≡ 0 → ⊥) → amount_of code ≡ left_of ((code - 1) % 10) ((code - 1) / 10) * 10 ^ ((code - 1) % 10)
unfolding amount_of
parts_amount code some = rw (ne_eqb code 0 some) refl

pub zero_amount : (code : ℕ) → code ≡ 0 → amount_of code ≡ 0
unfolding amount_of
zero_amount code is = rw is refl

-- the amounts up to a greatest one
pub within : (amount v most : ℕ) → amount ≡ v → v ≤ most → Some v ≡ cond (leb amount most) (Some amount) None
within amount v most is le = rw (is, le-leb v most le) refl

pub above : (amount v most : ℕ) (r : Option ℕ) → r ≡ None → amount ≡ v → most < v → r ≡ cond (leb amount most) (Some amount) None
above amount v most r none is lt = none ∙ rw (is, lt-leb v most lt) refl

pub zero_code : (value : ℕ) → value ≡ 0 → amount_code value ≡ 0
unfolding amount_code
zero_code value is = rw is refl

pub nine_parts : (t n : ℕ) → t ≡ 9 → code_of t n ≡ 1 + 10 * (n - 1) + t
nine_parts t n is = rw is (nine_code n)
