-- Numbers whose lowest byte stands first, byte by byte.
use Rattle.std.proofs.Common.{◌≡◌, ℕ, ◌+◌, ◌*◌, ◌<◌, Bool, true, false, cond, zero, suc, ◌&&◌, List, [], ◌∷◌, length, drop, get_or, refl, sym, ap, ◌∙◌, arith, ltb, lt-ltb, le-ltb, ltb-true, ltb-false}
use Rattle.std.specs.Prelude.{nat_lt}
use Rattle.std.specs.List.{list_all}
use Rattle.std.proofs.lemmas.List.{drop_more}
use Rattle.chain_model.specs.HeaderRules.{number_of}
use Rattle.base_types.specs.Parameters.{target}

-- whether a is greater than b, where the bytes before gave this answer
abbrev pub decided : Bool → ℕ → ℕ → Bool
decided before a b = cond (ltb b a) true (cond (ltb a b) false before)

abbrev pub target_bytes : List ℕ
target_bytes = 0 ∷ 0 ∷ 0 ∷ 0 ∷ 0 ∷ 0 ∷ 0 ∷ 0 ∷ 0 ∷ 0 ∷ 0 ∷ 0 ∷ 0 ∷ 0 ∷ 0 ∷ 0 ∷ 0 ∷ 0 ∷ 0 ∷ 0 ∷ 0 ∷ 0 ∷ 0 ∷ 0 ∷ 0 ∷ 0 ∷ 0 ∷ 0 ∷ 0 ∷ 255 ∷ 255 ∷ 127 ∷ []

more : (before : Bool) (a b : ℕ) → b < a → decided before a b ≡ true
more before a b less = ap (λ (r : Bool). cond r true (cond (ltb a b) false before)) (lt-ltb b a less)

fewer : (before : Bool) (a b : ℕ) → a < b → decided before a b ≡ false
fewer before a b less =
    ap (λ (r : Bool). cond r true (cond (ltb a b) false before)) (le-ltb b a (omega arith))
    ∙ ap (λ (r : Bool). cond r false before) (lt-ltb a b less)

alike : (before : Bool) (a b : ℕ) → a ≡ b → decided before a b ≡ before
alike before a b is =
    ap (λ (r : Bool). cond r true (cond (ltb a b) false before)) (le-ltb b a (omega arith))
    ∙ ap (λ (r : Bool). cond r false before) (le-ltb a b (omega arith))

both_true : (a b : Bool) → (a && b) ≡ true → (a ≡ true) × (b ≡ true)
both_true true b e = (refl, e)
both_true false b e = absurd cc

-- the next byte decides where the rest doesn't
pub step : (before after : Bool) (x y a b : ℕ) → x < 256 → y < 256 → (x ≡ y → after ≡ before) → (y < x → after ≡ true) → (x < y → after ≡ false) → decided before (x + 256 * a) (y + 256 * b) ≡ decided after a b
step before after x y a b small_x small_y on_same on_more on_less = go (ltb b a) (ltb a b) refl refl where
  bytes : a ≡ b → (r s : Bool) → ltb y x ≡ r → ltb x y ≡ s → decided before (x + 256 * a) (y + 256 * b) ≡ decided after a b
  bytes is true s up down =
      let less = ltb-true y x up in more before (x + 256 * a) (y + 256 * b) (omega arith) ∙ sym (alike after a b is ∙ on_more less)
  bytes is false true up down =
      let less = ltb-true x y down in fewer before (x + 256 * a) (y + 256 * b) (omega arith) ∙ sym (alike after a b is ∙ on_less less)
  bytes is false false up down =
      let low = ltb-false y x up in let high = ltb-false x y down in
      alike before (x + 256 * a) (y + 256 * b) (omega arith) ∙ sym (alike after a b is ∙ on_same (omega arith))

  go : (r s : Bool) → ltb b a ≡ r → ltb a b ≡ s → decided before (x + 256 * a) (y + 256 * b) ≡ decided after a b
  go true s up down = let less = ltb-true b a up in more before (x + 256 * a) (y + 256 * b) (omega arith) ∙ sym (more after a b less)
  go false true up down = let less = ltb-true a b down in fewer before (x + 256 * a) (y + 256 * b) (omega arith) ∙ sym (fewer after a b less)
  go false false up down =
      let low = ltb-false b a up in let high = ltb-false a b down in
      bytes (omega arith) (ltb y x) (ltb x y) refl refl

all_small : (xs : List ℕ) → list_all (λ x. nat_lt x 256) xs ≡ true → (i : ℕ) → i < length xs → get_or xs i 0 < 256
all_small [] e i less = absurd (omega arith)
all_small (x ∷ xs) e zero less = ltb-true x 256 (both_true (nat_lt x 256) (list_all (λ y. nat_lt y 256) xs) e).0
all_small (x ∷ xs) e (suc i) less = all_small xs (both_true (nat_lt x 256) (list_all (λ y. nat_lt y 256) xs) e).1 i (omega arith)

target_small : (i : ℕ) → i < 32 → get_or target_bytes i 0 < 256
target_small i less = all_small target_bytes refl i less

pub at_start : (n : ℕ) → decided false n (number_of target_bytes) ≡ nat_lt target n
at_start n = go (ltb target n) refl where
  go : (r : Bool) → ltb target n ≡ r → decided false n (number_of target_bytes) ≡ ltb target n
  go true e = let less = ltb-true target n e in more false n target less ∙ sym e
  go false e = ap (λ (r : Bool). cond r true (cond (ltb n target) false false)) e ∙ both (ltb n target) ∙ sym e where
    both : (r : Bool) → cond r false false ≡ false
    both true = refl
    both false = refl

pub step_at : (before after : Bool) (bytes : List ℕ) (i : ℕ) → i < 32 → length bytes ≡ 32 → get_or bytes i 0 < 256 → (get_or bytes i 0 ≡ get_or target_bytes i 0 → after ≡ before) → (get_or target_bytes i 0 < get_or bytes i 0 → after ≡ true) → (get_or bytes i 0 < get_or target_bytes i 0 → after ≡ false) → decided before (number_of (drop i bytes)) (number_of (drop i target_bytes)) ≡ decided after (number_of (drop (i + 1) bytes)) (number_of (drop (i + 1) target_bytes))
step_at before after bytes i less size small on_same on_more on_less =
    ap (λ (l : List ℕ). decided before (number_of l) (number_of (drop i target_bytes))) (drop_more bytes i 0 (omega arith))
    ∙ ap (λ (l : List ℕ). decided before (get_or bytes i 0 + 256 * number_of (drop (i + 1) bytes)) (number_of l)) (drop_more target_bytes i 0 less)
    ∙ step before after (get_or bytes i 0) (get_or target_bytes i 0) (number_of (drop (i + 1) bytes)) (number_of (drop (i + 1) target_bytes)) small (target_small i less) on_same on_more on_less
