-- Laws of obfuscated bytes.
use Rattle.std.proofs.Common.{◌≡◌, ◌<◌, ◌+◌, ℕ, suc, List, [], ◌∷◌, ◌++◌, length, take, drop, get_or, set, refl, sym, ap, ◌∙◌, arith}
use Rattle.std.specs.Prelude.{◌%◌, bit_xor}
use Rattle.std.proofs.lemmas.List.{take_more, drop_more, set_at, length-take-le, append_assoc, get_or_at}
use Rattle.base_types.specs.Obfuscation.{obfuscated}

pub length-obfuscated : (key : List ℕ) (p : ℕ) (xs : List ℕ) → length (obfuscated key p xs) ≡ length xs
length-obfuscated key p [] = refl
length-obfuscated key p (x ∷ xs) = ap suc (length-obfuscated key (suc p) xs)

-- the key goes on behind the first bytes
pub obfuscated-append : (key : List ℕ) (p : ℕ) (xs ys : List ℕ) → obfuscated key p (xs ++ ys) ≡ obfuscated key p xs ++ obfuscated key (p + length xs) ys
obfuscated-append key p [] ys = let same : p ≡ p + 0 = omega arith in ap (λ q. obfuscated key q ys) same
obfuscated-append key p (x ∷ xs) ys =
    let later : suc p + length xs ≡ p + suc (length xs) = omega arith in
    ap (λ zs. bit_xor x (get_or key (p % 8) 0) ∷ zs) (obfuscated-append key (suc p) xs ys ∙ ap (λ q. obfuscated key (suc p) xs ++ obfuscated key q ys) later)

-- one byte more
pub obfuscated_more : (key : List ℕ) (p : ℕ) (xs : List ℕ) (i v : ℕ) → i < length xs → v ≡ bit_xor (get_or xs i 0) (get_or key ((p + i) % 8) 0)
    → set (obfuscated key p (take i xs) ++ drop i xs) i v ≡ obfuscated key p (take (i + 1) xs) ++ drop (i + 1) xs
obfuscated_more key p xs i v within is =
    let front = obfuscated key p (take i xs) in
    let x = get_or xs i 0 in
    let count : length (take i xs) ≡ i = length-take-le i xs (omega arith) in
    let place : length front ≡ i = length-obfuscated key p (take i xs) ∙ count in
    let one : obfuscated key (p + length (take i xs)) (x ∷ []) ≡ v ∷ [] = ap (λ n. bit_xor x (get_or key ((p + n) % 8) 0) ∷ []) count ∙ ap (λ b. b ∷ []) (sym is) in
    let longer : obfuscated key p (take (i + 1) xs) ≡ front ++ v ∷ [] =
    ap (obfuscated key p) (take_more xs i 0 within) ∙ obfuscated-append key p (take i xs) (x ∷ []) ∙ ap (λ zs. front ++ zs) one in
    ap (λ zs. set (front ++ zs) i v) (drop_more xs i 0 within)
    ∙ set_at front x (drop (i + 1) xs) v i place
    ∙ sym (append_assoc front (v ∷ []) (drop (i + 1) xs))
    ∙ ap (λ zs. zs ++ drop (i + 1) xs) (sym longer)

-- the next byte is as it was
pub byte_left : (key : List ℕ) (p : ℕ) (xs : List ℕ) (i : ℕ) → i < length xs → get_or (obfuscated key p (take i xs) ++ drop i xs) i 0 ≡ get_or xs i 0
byte_left key p xs i within =
    let front = obfuscated key p (take i xs) in
    let place : length front ≡ i = length-obfuscated key p (take i xs) ∙ length-take-le i xs (omega arith) in
    ap (λ (zs : List ℕ). get_or (front ++ zs) i 0) (drop_more xs i 0 within) ∙ get_or_at front (get_or xs i 0) (drop (i + 1) xs) 0 i place
