-- The part of a buffer that a window shows.
use Rattle.std.proofs.Common.{◌≡◌, ◌≤◌, ◌+◌, ◌-◌, ◌++◌, ℕ, List, length, take, drop, refl, sym, ap, ◌∙◌, arith}
use Rattle.std.specs.List.{between}
use Rattle.std.proofs.lemmas.List.{drop-take, drop-drop, take-take, drop-append-le, length-take, length-drop, length-append, append-nil, with_items_is}
use Rattle.std.specs.Vec.{with_items}
use Rattle.std.specs.Prelude.{Vec}
use Rattle.std.proofs.lemmas.Slice.{between_is, take-put_mid}
use Rattle.std.proofs.Math.Seq.{take-append-add}
use borrow.Rule.Slice.PartMut.{put_mid}

-- it begins so many bytes later
pub between_later : (xs : List ℕ) (i j n : ℕ) → i + n ≤ j → between (i + n) j xs ≡ drop n (between i j xs)
between_later xs i j n within =
    let whole : j - i ≡ n + (j - (i + n)) = omega arith in
    sym (ap (λ m. drop n (take m (drop i xs))) whole ∙ drop-take n (j - (i + n)) (drop i xs) ∙ ap (take (j - (i + n))) (drop-drop n i xs))

-- it ends so many bytes later, where these were written
pub between_grown : (s e k n : ℕ) (xs ys : List ℕ) → s ≤ e → e ≤ length xs → n ≤ length ys → between s (e + n) (put_mid e k xs ys) ≡ between s e xs ++ take n ys
between_grown s e k n xs ys from within given =
    let less : e + n ≤ e + length ys = omega arith in
    let front : length (take e xs) ≡ e = omega (arith, length-take e xs) in
    let reaches : s ≤ length (take e xs) = omega arith in
    between_is (put_mid e k xs ys) s (e + n)
    ∙ ap (drop s) (sym (take-take (e + n) (e + length ys) (put_mid e k xs ys) less)
    ∙ ap (take (e + n)) (take-put_mid e k xs ys (e + length ys) refl within)
    ∙ ap (λ (m : ℕ). take (m + n) (take e xs ++ ys)) (sym front)
    ∙ take-append-add (take e xs) ys n)
    ∙ drop-append-le s (take e xs) (take n ys) reaches
    ∙ ap (λ (zs : List ℕ). zs ++ take n ys) (sym (between_is xs s e))

pub length-put_mid : (e k : ℕ) (xs ys : List ℕ) → e + k ≤ length xs → length ys ≡ k → length (put_mid e k xs ys) ≡ length xs
length-put_mid e k xs ys within size =
    omega (arith, length-append (take e xs) (ys ++ drop k (drop e xs)), length-append ys (drop k (drop e xs)), length-take e xs, length-drop e xs, length-drop k (drop e xs))

-- what a window shows of its buffer, once bytes were written behind those that it showed
pub grown_by : (at e k n : ℕ) (shown items zs piece : List ℕ) → items ≡ put_mid e k zs piece → between at e zs ≡ shown → at ≤ e → e ≤ length zs → n ≤ length piece → between at (e + n) items ≡ shown ++ take n piece
grown_by at e k n shown items zs piece is was from within given =
    ap (between at (e + n)) is ∙ between_grown at e k n zs piece from within given ∙ ap (λ (l : List ℕ). l ++ take n piece) was

pub kept_by : (at e k : ℕ) (shown items zs piece : List ℕ) → items ≡ put_mid e k zs piece → between at e zs ≡ shown → at ≤ e → e ≤ length zs → between at e items ≡ shown
kept_by at e k shown items zs piece is was from within =
    let same : e ≡ e + 0 = omega arith in
    ap (λ (j : ℕ). between at j items) same ∙ grown_by at e k 0 shown items zs piece is was from within (omega arith) ∙ append-nil shown

-- what a write to a part of a Vec leaves
pub written : {Z : Type 0} (v : Vec ℕ Z) (e k : ℕ) (zs piece : List ℕ) → e + k ≤ length zs → length piece ≡ k → length zs ≡ v.len → (with_items v (put_mid e k zs piece)).items ≡ put_mid e k zs piece
written v e k zs piece within given size = with_items_is v (put_mid e k zs piece) (length-put_mid e k zs piece within given ∙ size)
