-- The bytes between others, from the tests that find them.
use Rattle.std.specs.Prelude.{◌≡◌, ℕ, ◌+◌, ◌-◌, ◌≤◌, true, false, List, ◌++◌, length, take, drop, Option, Some, None, bytes_eq, refl}
use Rattle.std.proofs.Common.{sym, ap, ◌∙◌, append_assoc, arith}
use Rattle.std.proofs.lemmas.Bool.{both_ways}
use Rattle.std.proofs.lemmas.List.{take_at, drop_at, length-append, length-take, take-append-drop}
use Rattle.std.proofs.lemmas.Slice.Eq.{bytes_eq-Decides}
use Rattle.std.proofs.lemmas.Slice.{take-put_mid}
use borrow.Rule.Slice.PartMut.{put_mid}
use Rattle.coin_codec.specs.ScriptForm.{between}
use Rattle.coin_codec.proofs.ScriptLaws.{between_takes, between_again}

none_between : (front : List ℕ) (n : ℕ) (back bytes : List ℕ) → ((kept : List ℕ) → length kept ≡ n → bytes ≡ front ++ (kept ++ back) → ⊥) → between front n back bytes ≡ None
none_between front n back bytes never = go (between front n back bytes) refl where
  go : (r : Option (List ℕ)) → between front n back bytes ≡ r → between front n back bytes ≡ None
  go (Some kept) e =
      let b = between_takes front n back bytes kept e in
      absurd (never kept b.1 (b.0 ∙ append_assoc front kept back))
  go None e = e

pub not_before : (front : List ℕ) (n : ℕ) (back bytes : List ℕ) → bytes_eq (take (length front) bytes) front ≡ false → between front n back bytes ≡ None
not_before front n back bytes differs = none_between front n back bytes (λ kept len is.
    let begins : take (length front) bytes ≡ front = ap (λ (b : List ℕ). take (length front) b) is ∙ take_at front (kept ++ back) (length front) refl in
    both_ways (bytes_eq (take (length front) bytes) front) differs ((bytes_eq-Decides (take (length front) bytes) front).1 begins))

-- what stands behind the front
pub after_front : (front bytes rest : List ℕ) → bytes_eq (take (length front) bytes) front ≡ true → rest ≡ drop (length front) bytes → bytes ≡ front ++ rest
after_front front bytes rest begins is =
    let f : take (length front) bytes ≡ front = (bytes_eq-Decides (take (length front) bytes) front).0 begins in
    sym (take-append-drop (length front) bytes) ∙ ap (λ (x : List ℕ). x ++ drop (length front) bytes) f ∙ ap (λ (x : List ℕ). front ++ x) (sym is)

-- and in front of the back
pub before_back : (back rest kept : List ℕ) → bytes_eq (drop (length rest - length back) rest) back ≡ true → kept ≡ take (length rest - length back) rest → rest ≡ kept ++ back
before_back back rest kept ends is =
    let n = length rest - length back in
    let b : drop n rest ≡ back = (bytes_eq-Decides (drop n rest) back).0 ends in
    sym (take-append-drop n rest) ∙ ap (λ (x : List ℕ). x ++ drop n rest) (sym is) ∙ ap (λ (x : List ℕ). kept ++ x) b

behind_front : (front rest other : List ℕ) → front ++ rest ≡ front ++ other → rest ≡ other
behind_front front rest other e = sym (drop_at front rest (length front) refl) ∙ ap (λ (x : List ℕ). drop (length front) x) e ∙ drop_at front other (length front) refl

pub not_behind : (front : List ℕ) (n : ℕ) (back bytes rest : List ℕ) → bytes ≡ front ++ rest → bytes_eq (drop (length rest - length back) rest) back ≡ false → between front n back bytes ≡ None
not_behind front n back bytes rest parts differs = none_between front n back bytes (λ kept len is.
    let e : rest ≡ kept ++ back = behind_front front rest (kept ++ back) (sym parts ∙ is) in
    let k : length rest - length back ≡ length kept = omega (arith, ap length e, length-append kept back) in
    let ends : drop (length rest - length back) rest ≡ back = rw k (ap (λ (x : List ℕ). drop (length kept) x) e ∙ drop_at kept back (length kept) refl) in
    both_ways (bytes_eq (drop (length rest - length back) rest) back) differs ((bytes_eq-Decides (drop (length rest - length back) rest) back).1 ends))

pub not_so_long : (front : List ℕ) (n : ℕ) (back bytes rest found : List ℕ) → bytes ≡ front ++ rest → rest ≡ found ++ back → (length found ≡ n → ⊥) → between front n back bytes ≡ None
not_so_long front n back bytes rest found parts ends other = none_between front n back bytes (λ kept len is.
    let e : rest ≡ kept ++ back = behind_front front rest (kept ++ back) (sym parts ∙ is) in
    other (omega (arith, ap length e, ap length ends, length-append kept back, length-append found back, len)))

pub is_between : (front : List ℕ) (n : ℕ) (back bytes rest found : List ℕ) → bytes ≡ front ++ rest → rest ≡ found ++ back → length found ≡ n → between front n back bytes ≡ Some found
is_between front n back bytes rest found parts ends len =
    let whole : bytes ≡ front ++ found ++ back = parts ∙ ap (λ (x : List ℕ). front ++ x) ends ∙ sym (append_assoc front found back) in
    ap (λ (b : List ℕ). between front n back b) whole ∙ between_again front n back found len

-- ---- bytes that are written one after the other

pub written : (front kept back a b c tail : List ℕ) (k l : ℕ) → a ≡ front → b ≡ kept → c ≡ back
    → take (length front + length kept + length back) (put_mid (length front + length kept) l (put_mid (length front) k (a ++ tail) b) c) ≡ front ++ kept ++ back
written front kept back a b c tail k l a-is b-is c-is =
    let two = put_mid (length front) k (a ++ tail) b in
    let a-len : length a ≡ length front = ap length a-is in
    let b-len : length b ≡ length kept = ap length b-is in
    let c-len : length c ≡ length back = ap length c-is in
    let inner : take (length front + length kept) two ≡ a ++ b =
    take-put_mid (length front) k (a ++ tail) b (length front + length kept) (omega arith) (omega (arith, length-append a tail)) ∙ ap (λ (x : List ℕ). x ++ b) (take_at a tail (length front) a-len) in
    let long : length front + length kept ≤ length two = omega (arith, ap length inner, length-append a b, length-take (length front + length kept) two) in
    take-put_mid (length front + length kept) l two c (length front + length kept + length back) (omega arith) long ∙ ap (λ (x : List ℕ). x ++ c) inner ∙ rw (a-is, b-is, c-is) refl
