-- The pushes of heights of one, two and three bytes.
use Rattle.std.proofs.Common.{◌≡◌, ◌<◌, ◌≤◌, ◌+◌, ◌/◌, ◌%◌, ◌^◌, ℕ, zero, suc, Bool, true, false, cond, ◌&&◌, List, [], ◌∷◌, length, ltb, leb, refl, ap, ◌∙◌, arith}
use Rattle.std.proofs.Common.{inl, inr}
use Rattle.std.proofs.lemmas.Bool.{cases_lt}
use Rattle.std.proofs.lemmas.Bool.Decides.{nat_tests}
use Rattle.chain_model.specs.BodyRules.{least_bytes, without_sign, height_push}

one_more : (most n : ℕ) → 0 < n → least_bytes (suc most) n ≡ n % 256 ∷ least_bytes most (n / 256)
unfolding least_bytes
one_more most zero some = absurd (omega arith)
one_more most (suc n) some = refl

of_zero : (most : ℕ) → least_bytes most 0 ≡ []
unfolding least_bytes
of_zero zero = refl
of_zero (suc most) = refl

-- behind 16 the push has a length
long_push : (h : ℕ) (bytes : List ℕ) → 16 < h → without_sign (least_bytes 8 h) ≡ bytes → height_push h ≡ length bytes ∷ bytes
long_push h bytes long is =
    let push : List ℕ → List ℕ = λ (zs : List ℕ). length zs ∷ zs in
    let test : (leb 1 h && leb h 16) ≡ false = grind (arith, nat_tests) in
    ap (λ (b : Bool). cond b ((0x50 + h) ∷ []) (push (without_sign (least_bytes 8 h)))) test ∙ ap push is

-- a last byte that is no sign, and one that would be
signless : (b : ℕ) → b < 128 → without_sign (b ∷ []) ≡ b ∷ []
unfolding without_sign
signless b small = let test : ltb b 128 ≡ true = grind (arith, nat_tests) in ap (λ (t : Bool). cond t (b ∷ []) (b ∷ 0 ∷ [])) test

signed : (b : ℕ) → 128 ≤ b → without_sign (b ∷ []) ≡ b ∷ 0 ∷ []
unfolding without_sign
signed b large = let test : ltb b 128 ≡ false = grind (arith, nat_tests) in ap (λ (t : Bool). cond t (b ∷ []) (b ∷ 0 ∷ [])) test

later : (b c : ℕ) (bytes : List ℕ) → without_sign (b ∷ c ∷ bytes) ≡ b ∷ without_sign (c ∷ bytes)
unfolding without_sign
later b c bytes = refl

bytes_1 : (h most : ℕ) → 0 < h → h < 256 → least_bytes (suc most) h ≡ h ∷ []
bytes_1 h most some small =
    let low : h % 256 ≡ h = omega arith in
    let rest : h / 256 ≡ 0 = omega arith in
    one_more most h some ∙ ap (λ (n : ℕ). n ∷ least_bytes most (h / 256)) low ∙ ap (λ (n : ℕ). h ∷ least_bytes most n) rest ∙ ap (λ (zs : List ℕ). h ∷ zs) (of_zero most)

bytes_2 : (h most : ℕ) → 256 ≤ h → h < 65536 → least_bytes (suc (suc most)) h ≡ h % 256 ∷ h / 256 ∷ []
bytes_2 h most large small = one_more (suc most) h (omega arith) ∙ ap (λ (zs : List ℕ). h % 256 ∷ zs) (bytes_1 (h / 256) most (omega arith) (omega arith))

bytes_3 : (h most : ℕ) → 65536 ≤ h → h < 2 ^ 24 → least_bytes (suc (suc (suc most))) h ≡ h % 256 ∷ h / 256 % 256 ∷ h / 256 / 256 ∷ []
bytes_3 h most large small = one_more (suc (suc most)) h (omega arith) ∙ ap (λ (zs : List ℕ). h % 256 ∷ zs) (bytes_2 (h / 256) most (omega arith) (omega arith))

pub push_1 : (h : ℕ) → 16 < h → h < 128 → height_push h ≡ 1 ∷ h % 256 ∷ []
push_1 h long small =
    let low : h ≡ h % 256 = omega arith in
    long_push h (h % 256 ∷ []) long (ap without_sign (bytes_1 h 7 (omega arith) (omega arith)) ∙ signless h small ∙ ap (λ (n : ℕ). n ∷ []) low)

pub push_2 : (h : ℕ) → 128 ≤ h → h < 2 ^ 15 → height_push h ≡ 2 ∷ h % 256 ∷ h / 256 % 256 ∷ []
push_2 h long small = long_push h (h % 256 ∷ h / 256 % 256 ∷ []) (omega arith) (elim (cases_lt h 256) [ inl one ↦ one_byte one | inr two ↦ two_bytes two ])
  where
    one_byte : h < 256 → without_sign (least_bytes 8 h) ≡ h % 256 ∷ h / 256 % 256 ∷ []
    one_byte one =
        let low : h ≡ h % 256 = omega arith in
        let next : 0 ≡ h / 256 % 256 = omega arith in
        ap without_sign (bytes_1 h 7 (omega arith) one) ∙ signed h long ∙ ap (λ (n : ℕ). n ∷ 0 ∷ []) low ∙ ap (λ (n : ℕ). h % 256 ∷ n ∷ []) next

    two_bytes : 256 ≤ h → without_sign (least_bytes 8 h) ≡ h % 256 ∷ h / 256 % 256 ∷ []
    two_bytes two =
        let next : h / 256 ≡ h / 256 % 256 = omega arith in
        let less : h / 256 < 128 = omega arith in
        ap without_sign (bytes_2 h 6 two (omega arith)) ∙ later (h % 256) (h / 256) [] ∙ ap (λ (zs : List ℕ). h % 256 ∷ zs) (signless (h / 256) less) ∙ ap (λ (n : ℕ). h % 256 ∷ n ∷ []) next

pub push_3 : (h : ℕ) → 2 ^ 15 ≤ h → h < 2 ^ 23 → height_push h ≡ 3 ∷ h % 256 ∷ h / 256 % 256 ∷ h / 65536 % 256 ∷ []
push_3 h long small = long_push h (h % 256 ∷ h / 256 % 256 ∷ h / 65536 % 256 ∷ []) (omega arith) (elim (cases_lt h 65536) [ inl two ↦ two_bytes two | inr three ↦ three_bytes three ])
  where
    two_bytes : h < 65536 → without_sign (least_bytes 8 h) ≡ h % 256 ∷ h / 256 % 256 ∷ h / 65536 % 256 ∷ []
    two_bytes two =
        let next : h / 256 ≡ h / 256 % 256 = omega arith in
        let last : 0 ≡ h / 65536 % 256 = omega arith in
        let sign : 128 ≤ h / 256 = omega arith in
        ap without_sign (bytes_2 h 6 (omega arith) two) ∙ later (h % 256) (h / 256) [] ∙ ap (λ (zs : List ℕ). h % 256 ∷ zs) (signed (h / 256) sign) ∙ ap (λ (n : ℕ). h % 256 ∷ n ∷ 0 ∷ []) next ∙ ap (λ (n : ℕ). h % 256 ∷ h / 256 % 256 ∷ n ∷ []) last

    three_bytes : 65536 ≤ h → without_sign (least_bytes 8 h) ≡ h % 256 ∷ h / 256 % 256 ∷ h / 65536 % 256 ∷ []
    three_bytes three =
        let last : h / 256 / 256 ≡ h / 65536 % 256 = omega arith in
        let less : h / 256 / 256 < 128 = omega arith in
        ap without_sign (bytes_3 h 5 three (omega arith)) ∙ later (h % 256) (h / 256 % 256) (h / 256 / 256 ∷ []) ∙ ap (λ (zs : List ℕ). h % 256 ∷ zs) (later (h / 256 % 256) (h / 256 / 256) [] ∙ ap (λ (zs : List ℕ). h / 256 % 256 ∷ zs) (signless (h / 256 / 256) less))
        ∙ ap (λ (n : ℕ). h % 256 ∷ h / 256 % 256 ∷ n ∷ []) last
