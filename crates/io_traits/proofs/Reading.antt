-- Bytes from a place on that are copied to the front of a buffer.
use Rattle.std.proofs.Common.{◌≡◌, ℕ, ◌+◌, ◌-◌, ◌<◌, ◌≤◌, min, List, ◌++◌, [], length, take, drop, sym, ap, subst, ◌∙◌, arith, length-drop, length-append}
use Rattle.std.proofs.Math.Seq.{take-length}
use Rattle.std.proofs.lemmas.List.{take-append-drop, take-append-le, take_all, drop-drop, drop_all, length-take, length-take-le}

-- a slice to the end is the whole rest
pub rest_whole : (xs : List ℕ) (place : ℕ) → take (length xs - place) (drop place xs) ≡ drop place xs
rest_whole xs place = ap (λ n. take n (drop place xs)) (sym (length-drop place xs)) ∙ take-length (drop place xs)

front_copied : (rest tail : List ℕ) (n : ℕ) → n ≤ length rest → take n (take n rest ++ tail) ≡ take n rest
front_copied rest tail n within =
    let count : length (take n rest) ≡ n = length-take-le n rest within in
    take-append-le n (take n rest) tail (omega arith) ∙ take_all n (take n rest) (omega arith)

-- what is read, and what is left then
front_of : (rest buf : List ℕ) (n : ℕ) → n ≡ min (length buf) (length rest) → rest ≡ take n (take n rest ++ drop n buf) ++ drop n rest
front_of rest buf n count = sym (take-append-drop n rest) ∙ ap (λ l. l ++ drop n rest) (sym (front_copied rest (drop n buf) n (omega arith)))

-- none is read only at the end, or with no room
none_at_end : (rest buf : List ℕ) (n : ℕ) → n ≡ min (length buf) (length rest) → n ≡ 0 → 0 < length (take n rest ++ drop n buf) → length rest ≡ 0
none_at_end rest buf n count none room =
    let total = length-append (take n rest) (drop n buf) in
    let front = length-take n rest in
    let back = length-drop n buf in
    omega arith

pub source_read : (xs ys left copied buf : List ℕ) (place n : ℕ) → ys ≡ xs → drop place xs ≡ left → n ≡ min (length buf) (length (take (length ys - place) (drop place ys))) → copied ≡ take n (take (length ys - place) (drop place ys))
    → (left ≡ take n (copied ++ drop n buf) ++ drop (place + n) xs) × (n ≡ 0 → 0 < length (copied ++ drop n buf) → drop (place + n) xs ≡ [])
source_read xs ys left copied buf place n same is count copy =
    let rest = drop place xs in
    let whole : take (length ys - place) (drop place ys) ≡ rest = rest_whole ys place ∙ ap (drop place) same in
    let count' : n ≡ min (length buf) (length rest) = count ∙ ap (λ l. min (length buf) (length l)) whole in
    let copy' : copied ≡ take n rest = copy ∙ ap (take n) whole in (
      sym is ∙ front_of rest buf n count' ∙ ap (λ l. take n (l ++ drop n buf) ++ drop n rest) (sym copy') ∙ ap (λ l. take n (copied ++ drop n buf) ++ l) (drop-drop n place xs),
      λ none room. sym (drop-drop n place xs) ∙ drop_all n rest (let ended = none_at_end rest buf n count' none (subst (λ l. 0 < length (l ++ drop n buf)) copy' room) in omega arith),
    )
