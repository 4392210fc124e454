-- The bytes of a height.
use Rattle.std.proofs.Common.{◌≡◌, ◌<◌, ℕ, zero, suc, ◌-◌, ◌/◌, ◌%◌, Bool, true, false, cond, List, [], ◌∷◌, ◌++◌, length, get_or, ltb, leb, refl, ap, ◌∙◌, arith}
use Rattle.std.proofs.lemmas.Bool.Decides.{nat_tests}
use Rattle.chain_model.specs.BodyRules.{least_bytes, without_sign}

pub one_more : (most n : ℕ) → 0 < most → 0 < n → least_bytes most n ≡ n % 256 ∷ least_bytes (most - 1) (n / 256)
unfolding least_bytes
one_more zero n p q = absurd (omega arith)
one_more (suc most) zero p q = absurd (omega arith)
one_more (suc most) (suc n) p q = let e : suc most - 1 ≡ most = omega arith in rw e refl

pub no_more : (n : ℕ) → least_bytes 0 n ≡ []
unfolding least_bytes
no_more n = refl

pub of_zero : (most : ℕ) → least_bytes most 0 ≡ []
unfolding least_bytes
of_zero zero = refl
of_zero (suc most) = refl

behind : (b : Bool) (x : ℕ) (xs ys : List ℕ) → x ∷ cond b xs ys ≡ cond b (x ∷ xs) (x ∷ ys)
behind true x xs ys = refl
behind false x xs ys = refl

last_byte : (b : ℕ) → cond (ltb b 128) (b ∷ []) (b ∷ 0 ∷ []) ≡ cond (leb 128 b) (b ∷ 0 ∷ []) (b ∷ [])
last_byte b = grind (arith, nat_tests)

pub signed : (xs : List ℕ) (k : ℕ) → length xs ≡ suc k → without_sign xs ≡ cond (leb 128 (get_or xs k 0)) (xs ++ 0 ∷ []) xs
unfolding without_sign
signed [] k e = absurd (omega arith)
signed (b ∷ []) zero e = last_byte b
signed (b ∷ []) (suc k) e = absurd (omega arith)
signed (b ∷ n ∷ bs) zero e = absurd (omega arith)
signed (b ∷ n ∷ bs) (suc k) e = ap (λ (xs : List ℕ). b ∷ xs) (signed (n ∷ bs) k (omega arith)) ∙ behind (leb 128 (get_or (n ∷ bs) k 0)) b ((n ∷ bs) ++ 0 ∷ []) (n ∷ bs)

pub unsigned_none : without_sign [] ≡ []
unfolding without_sign
unsigned_none = refl
