-- The fields that every form is made of: what is read of each is so spelled, and what is so spelled is read.
use Rattle.std.specs.Prelude.{◌≡◌, ℕ, zero, suc, ◌+◌, ◌-◌, ◌*◌, ◌/◌, ◌%◌, ◌^◌, ◌<◌, ◌≤◌, true, false, List, [], ◌∷◌, ◌++◌, length, take, drop, Ok, Err, refl}
use Rattle.std.proofs.Common.{cond, ltb, eqb, sym, ap, subst, ◌∙◌, append_assoc, arith, inl, inr}
use Rattle.std.specs.Int.{Width, w16, w32, w64, byte_len, from_le_bytes, to_le_bytes}
use Rattle.std.proofs.lemmas.Bool.{cases_lt, ltb-true, ltb-false, lt-ltb, le-ltb, eqb-true, eqb-false, ne_eqb}
use Rattle.std.proofs.lemmas.List.{take_at, drop_at, take-append-drop, length-append, length-take}
use Rattle.std.proofs.lemmas.Nat.{le_bytes_2, le_bytes_4, le_bytes_8, from_le_bytes-to_le_bytes_2, from_le_bytes-to_le_bytes_4, from_le_bytes-to_le_bytes_8}
use Rattle.base_types.specs.declared.cursor.ReadError.{ReadError}
use Rattle.base_types.specs.declared.cursor.ReadError.TheVariants.{Short, LongSpelling, TooLarge}
use Rattle.base_types.specs.Bytes.{number_text, compact, marked, varint}
use Rattle.base_types.specs.Reading.{byte_at, bytes_at, number_at, long_at, compact_at, length_at, groups_at, varint_at}
use Rattle.base_types.specs.Codec.{IsBytes}
use Rattle.base_types.proofs.Codecs.{IsBytes-drop, IsBytes-take, IsBytes-rest, Takes, IsField, bind_ok, guard_ok, ok_is, chosen}

-- ---- numbers

-- the numbers of a width, and their bytes
pub record IsWide (w : Width) (limit : ℕ) : Type 0 where
  pub len : (n : ℕ) → length (to_le_bytes w n) ≡ byte_len w
  pub back : (bytes : List ℕ) → length bytes ≡ byte_len w → IsBytes bytes → to_le_bytes w (from_le_bytes w bytes) ≡ bytes
  pub again : (n : ℕ) → n < limit → from_le_bytes w (to_le_bytes w n) ≡ n
  pub below : (bytes : List ℕ) → IsBytes bytes → from_le_bytes w bytes < limit

pub wide16 : IsWide w16 (2 ^ 16)
wide16 = record {
  len = λ n. refl;
  back = λ bytes len fits. le_bytes_2 bytes _ len fits refl;
  again = λ n lt. from_le_bytes-to_le_bytes_2 n lt;
  below = λ bytes fits. omega (arith, fits 0, fits 1);
}

pub wide32 : IsWide w32 (2 ^ 32)
wide32 = record {
  len = λ n. refl;
  back = λ bytes len fits. le_bytes_4 bytes _ len fits refl;
  again = λ n lt. from_le_bytes-to_le_bytes_4 n lt;
  below = λ bytes fits. omega (arith, fits 0, fits 1, fits 2, fits 3);
}

pub wide64 : IsWide w64 (2 ^ 64)
wide64 = record {
  len = λ n. refl;
  back = λ bytes len fits. le_bytes_8 bytes _ len fits refl;
  again = λ n lt. from_le_bytes-to_le_bytes_8 n lt;
  below = λ bytes fits. omega (arith, fits 0, fits 1, fits 2, fits 3, fits 4, fits 5, fits 6, fits 7);
}

number_takes : (w : Width) (limit : ℕ) (wide : IsWide w limit) (bytes : List ℕ) (n : ℕ) (rest : List ℕ) → IsBytes bytes → number_at w bytes ≡ Ok (n, rest) → Takes bytes (number_text w n) rest × (n < limit)
unfolding number_text
number_takes w limit wide bytes n rest fits e =
    let g = guard_ok (ltb (length bytes) (byte_len w)) Short (from_le_bytes w (take (byte_len w) bytes), drop (byte_len w) bytes) (n, rest) e in
    let long : byte_len w ≤ length bytes = ltb-false _ _ g.0 in
    let n-is : from_le_bytes w (take (byte_len w) bytes) ≡ n = ap (λ (p : ℕ × List ℕ). p.0) g.1 in
    let rest-is : drop (byte_len w) bytes ≡ rest = ap (λ (p : ℕ × List ℕ). p.1) g.1 in
    let front : to_le_bytes w n ≡ take (byte_len w) bytes = rw (← n-is) (wide.back (take (byte_len w) bytes) (omega (arith, length-take (byte_len w) bytes)) (IsBytes-take (byte_len w) bytes fits)) in
    (record { parts = rw (front, ← rest-is) (sym (take-append-drop (byte_len w) bytes)); rest_fits = rw (← rest-is) (IsBytes-drop (byte_len w) bytes fits) }, rw (← n-is) (wide.below (take (byte_len w) bytes) (IsBytes-take (byte_len w) bytes fits)))

number_again : (w : Width) (limit : ℕ) (wide : IsWide w limit) (n : ℕ) (rest : List ℕ) → n < limit → number_at w (number_text w n ++ rest) ≡ Ok (n, rest)
unfolding number_text
number_again w limit wide n rest lt =
    let len = wide.len n in
    let long : ltb (length (to_le_bytes w n ++ rest)) (byte_len w) ≡ false = le-ltb _ _ (omega (arith, length-append (to_le_bytes w n) rest)) in
    rw (long, take_at (to_le_bytes w n) rest (byte_len w) len, drop_at (to_le_bytes w n) rest (byte_len w) len, wide.again n lt) refl

pub number_field : (w : Width) (limit : ℕ) → IsWide w limit → IsField (number_at w) (number_text w) (λ n. n < limit)
number_field w limit wide = record { takes = number_takes w limit wide; again = number_again w limit wide }

-- ---- so many bytes

bytes_takes : (n : ℕ) (bytes text rest : List ℕ) → IsBytes bytes → bytes_at n bytes ≡ Ok (text, rest) → Takes bytes text rest × (length text ≡ n)
bytes_takes n bytes text rest fits e =
    let g = guard_ok (ltb (length bytes) n) Short (take n bytes, drop n bytes) (text, rest) e in
    let long : n ≤ length bytes = ltb-false _ _ g.0 in
    let whole : Takes bytes (take n bytes) (drop n bytes) = record { parts = sym (take-append-drop n bytes); rest_fits = IsBytes-drop n bytes fits } in
    let len : length (take n bytes) ≡ n = omega (arith, length-take n bytes) in
    subst (λ (p : List ℕ × List ℕ). Takes bytes p.0 p.1 × (length p.0 ≡ n)) g.1 (whole, len)

bytes_again : (n : ℕ) (text rest : List ℕ) → length text ≡ n → bytes_at n (text ++ rest) ≡ Ok (text, rest)
bytes_again n text rest len =
    let long : ltb (length (text ++ rest)) n ≡ false = le-ltb _ _ (omega (arith, length-append text rest)) in
    rw (long, take_at text rest n len, drop_at text rest n len) refl

pub bytes_field : (n : ℕ) → IsField (bytes_at n) (λ text. text) (λ text. length text ≡ n)
bytes_field n = record { takes = bytes_takes n; again = bytes_again n }

-- ---- a byte

pub byte_takes : (bytes : List ℕ) (n : ℕ) (rest : List ℕ) → IsBytes bytes → byte_at bytes ≡ Ok (n, rest) → (bytes ≡ n ∷ rest) × IsBytes rest
byte_takes [] n rest fits e = absurd cc
byte_takes (first ∷ bytes) n rest fits e =
    let p = ok_is {E = ReadError} (first, bytes) (n, rest) e in
    (ap (λ (x : ℕ × List ℕ). x.0 ∷ x.1) p, subst (λ (x : ℕ × List ℕ). IsBytes x.1) p (IsBytes-rest first bytes fits))

-- a first byte, and what follows it
Takes-behind : (first : ℕ) (bytes text rest whole : List ℕ) → whole ≡ first ∷ text → Takes bytes text rest → Takes (first ∷ bytes) whole rest
Takes-behind first bytes text rest whole is t = record { parts = ap (λ (x : List ℕ). first ∷ x) t.parts ∙ ap (λ (x : List ℕ). x ++ rest) (sym is); rest_fits = t.rest_fits }

-- ---- CompactSize

long_takes : (w : Width) (limit least : ℕ) (wide : IsWide w limit) (bytes : List ℕ) (n : ℕ) (rest : List ℕ) → IsBytes bytes → long_at w least bytes ≡ Ok (n, rest) → Takes bytes (number_text w n) rest × (n < limit) × (least ≤ n)
long_takes w limit least wide bytes n rest fits e =
    let b = bind_ok (number_at w bytes) (λ n. cond (ltb n.0 least) (Err LongSpelling) (Ok n)) (n, rest) e in
    let g = guard_ok (ltb b.0.0 least) LongSpelling b.0 (n, rest) b.2 in
    let n-is : b.0.0 ≡ n = ap (λ (p : ℕ × List ℕ). p.0) g.1 in
    let above : least ≤ b.0.0 = ltb-false _ _ g.0 in
    let t = number_takes w limit wide bytes n rest fits (b.1 ∙ ap Ok g.1) in
    (t.0, t.1, omega (arith, n-is, above))

long_again : (w : Width) (limit least : ℕ) (wide : IsWide w limit) (n : ℕ) (rest : List ℕ) → n < limit → least ≤ n → long_at w least (number_text w n ++ rest) ≡ Ok (n, rest)
long_again w limit least wide n rest lt le =
    let above : ltb n least ≡ false = le-ltb _ _ le in
    rw (number_again w limit wide n rest lt, above) refl

compact_8 : (n : ℕ) → n < 253 → compact n ≡ n ∷ []
unfolding compact
compact_8 n a = rw (lt-ltb n 253 a) refl

compact_16 : (n : ℕ) → 253 ≤ n → n < 2 ^ 16 → compact n ≡ 253 ∷ number_text w16 n
unfolding compact
compact_16 n a b = rw (le-ltb n 253 a, lt-ltb n (2 ^ 16) b) refl

compact_32 : (n : ℕ) → 2 ^ 16 ≤ n → n < 2 ^ 32 → compact n ≡ 254 ∷ number_text w32 n
unfolding compact
compact_32 n a b = rw (le-ltb n 253 (omega arith), le-ltb n (2 ^ 16) a, lt-ltb n (2 ^ 32) b) refl

compact_64 : (n : ℕ) → 2 ^ 32 ≤ n → compact n ≡ 255 ∷ number_text w64 n
unfolding compact
compact_64 n a = rw (le-ltb n 253 (omega arith), le-ltb n (2 ^ 16) (omega arith), le-ltb n (2 ^ 32) a) refl

compact_takes : (bytes : List ℕ) (n : ℕ) (rest : List ℕ) → IsBytes bytes → compact_at bytes ≡ Ok (n, rest) → Takes bytes (compact n) rest × (n < 2 ^ 64)
unfolding compact_at
compact_takes [] n rest fits e = absurd cc
compact_takes (first ∷ bytes) n rest fits e =
    let rest_fits = IsBytes-rest first bytes fits in
    let byte : first < 256 = fits 0 in
    elim (chosen (eqb first 253) _ _ _ e) [
      | inl (is, e) ↦
          let t = long_takes w16 (2 ^ 16) 253 wide16 bytes n rest rest_fits e in
          let first-is : first ≡ 253 = eqb-true _ _ is in
          (Takes-behind first bytes (number_text w16 n) rest (compact n) (compact_16 n t.2 t.1 ∙ ap (λ (x : ℕ). x ∷ number_text w16 n) (sym first-is)) t.0, omega (arith, t.1))
      | inr (not_253, e) ↦ elim (chosen (eqb first 254) _ _ _ e) [
        | inl (is, e) ↦
            let t = long_takes w32 (2 ^ 32) (2 ^ 16) wide32 bytes n rest rest_fits e in
            let first-is : first ≡ 254 = eqb-true _ _ is in
            (Takes-behind first bytes (number_text w32 n) rest (compact n) (compact_32 n t.2 t.1 ∙ ap (λ (x : ℕ). x ∷ number_text w32 n) (sym first-is)) t.0, omega (arith, t.1))
        | inr (not_254, e) ↦ elim (chosen (eqb first 255) _ _ _ e) [
          | inl (is, e) ↦
              let t = long_takes w64 (2 ^ 64) (2 ^ 32) wide64 bytes n rest rest_fits e in
              let first-is : first ≡ 255 = eqb-true _ _ is in
              (Takes-behind first bytes (number_text w64 n) rest (compact n) (compact_64 n t.2 ∙ ap (λ (x : ℕ). x ∷ number_text w64 n) (sym first-is)) t.0, t.1)
          | inr (not_255, e) ↦
              let n-is : first ≡ n = ap (λ (p : ℕ × List ℕ). p.0) (ok_is (first, bytes) (n, rest) e) in
              let rest-is : bytes ≡ rest = ap (λ (p : ℕ × List ℕ). p.1) (ok_is (first, bytes) (n, rest) e) in
              let a = eqb-false first 253 not_253 in
              let b = eqb-false first 254 not_254 in
              let c = eqb-false first 255 not_255 in
              let small : n < 253 = omega arith in
              (record { parts = rw (compact_8 n small) (ap (λ (x : ℕ). x ∷ bytes) n-is ∙ ap (λ (x : List ℕ). n ∷ x) rest-is); rest_fits = rw (← rest-is) rest_fits }, omega arith)
        ]
      ]
    ]

compact_again : (n : ℕ) (rest : List ℕ) → n < 2 ^ 64 → compact_at (compact n ++ rest) ≡ Ok (n, rest)
unfolding compact_at
compact_again n rest lt =
    elim (cases_lt n 253) [
      | inl small ↦
          let a : eqb n 253 ≡ false = ne_eqb _ _ (λ e. omega arith) in
          let b : eqb n 254 ≡ false = ne_eqb _ _ (λ e. omega arith) in
          let c : eqb n 255 ≡ false = ne_eqb _ _ (λ e. omega arith) in
          ap (λ (x : List ℕ). compact_at (x ++ rest)) (compact_8 n small) ∙ rw (a, b, c) refl
      | inr above ↦ elim (cases_lt n (2 ^ 16)) [
        | inl below ↦ ap (λ (x : List ℕ). compact_at (x ++ rest)) (compact_16 n above below) ∙ long_again w16 (2 ^ 16) 253 wide16 n rest below above
        | inr above ↦ elim (cases_lt n (2 ^ 32)) [
          | inl below ↦ ap (λ (x : List ℕ). compact_at (x ++ rest)) (compact_32 n above below) ∙ long_again w32 (2 ^ 32) (2 ^ 16) wide32 n rest below above
          | inr above ↦ ap (λ (x : List ℕ). compact_at (x ++ rest)) (compact_64 n above) ∙ long_again w64 (2 ^ 64) (2 ^ 32) wide64 n rest lt above
        ]
      ]
    ]

pub compact_field : IsField compact_at compact (λ n. n < 2 ^ 64)
compact_field = record { takes = compact_takes; again = compact_again }

length_takes : (bytes : List ℕ) (n : ℕ) (rest : List ℕ) → IsBytes bytes → length_at bytes ≡ Ok (n, rest) → Takes bytes (compact n) rest × (n ≤ 33554432)
unfolding length_at
length_takes bytes n rest fits e =
    let b = bind_ok (compact_at bytes) (λ n. cond (ltb 33554432 n.0) (Err TooLarge) (Ok n)) (n, rest) e in
    let g = guard_ok (ltb 33554432 b.0.0) TooLarge b.0 (n, rest) b.2 in
    let n-is : b.0.0 ≡ n = ap (λ (p : ℕ × List ℕ). p.0) g.1 in
    let small : b.0.0 ≤ 33554432 = ltb-false _ _ g.0 in
    let t = compact_takes bytes n rest fits (b.1 ∙ ap Ok g.1) in
    (t.0, omega (arith, n-is, small))

length_again : (n : ℕ) (rest : List ℕ) → n ≤ 33554432 → length_at (compact n ++ rest) ≡ Ok (n, rest)
unfolding length_at
length_again n rest le =
    let small : ltb 33554432 n ≡ false = le-ltb _ _ le in
    let lt : n < 2 ^ 64 = omega arith in
    rw (compact_again n rest lt, small) refl

pub length_field : IsField length_at compact (λ n. n ≤ 33554432)
length_field = record { takes = length_takes; again = length_again }

-- ---- VARINT

-- a greater bound on the number of groups changes nothing
marked_enough : (a b n : ℕ) → n ≤ a → n ≤ b → marked a n ≡ marked b n
unfolding marked
marked_enough zero zero n le lf = refl
marked_enough zero (suc b) zero le lf = refl
marked_enough zero (suc b) (suc n) le lf = absurd (omega arith)
marked_enough (suc a) zero zero le lf = refl
marked_enough (suc a) zero (suc n) le lf = absurd (omega arith)
marked_enough (suc a) (suc b) zero le lf = refl
marked_enough (suc a) (suc b) (suc n) le lf = ap (λ (xs : List ℕ). xs ++ (128 + n % 128) ∷ []) (marked_enough a b (n / 128) (omega arith) (omega arith))

-- one more group
pub marked_more : (most n above group : ℕ) → n ≡ 128 * above + group → group < 128 → n < most → marked most (suc n) ≡ marked above above ++ (128 + group) ∷ []
unfolding marked
marked_more zero n above group is small le = absurd (omega arith)
marked_more (suc most) n above group is small le =
    let over : n / 128 ≡ above = omega arith in
    let left : n % 128 ≡ group = omega arith in
    rw (over, left) (ap (λ (xs : List ℕ). xs ++ (128 + group) ∷ []) (marked_enough most above above (omega arith) (omega arith)))

-- the last group
pub varint_last : (n above group : ℕ) → n ≡ 128 * above + group → group < 128 → varint n ≡ marked above above ++ group ∷ []
unfolding varint
varint_last n above group is small =
    let over : n / 128 ≡ above = omega arith in
    let left : n % 128 ≡ group = omega arith in
    rw (over, left) (ap (λ (xs : List ℕ). xs ++ group ∷ []) (marked_enough n above above (omega arith) (omega arith)))

groups_takes : (above : ℕ) (bytes : List ℕ) (n : ℕ) (rest : List ℕ) → IsBytes bytes → above < 2 ^ 57 → groups_at above bytes ≡ Ok (n, rest) → (marked above above ++ bytes ≡ varint n ++ rest) × IsBytes rest × (n < 2 ^ 64)
unfolding groups_at
groups_takes above [] n rest fits few e = absurd cc
groups_takes above (first ∷ bytes) n rest fits few e =
    let rest_fits = IsBytes-rest first bytes fits in
    let byte : first < 256 = fits 0 in
    let next = 128 * above + first - 127 in
    elim (chosen (ltb first 128) _ _ _ e) [
      | inl (is, e) ↦
          let small : first < 128 = ltb-true _ _ is in
          let n-is : 128 * above + first ≡ n = ap (λ (p : ℕ × List ℕ). p.0) (ok_is {E = ReadError} (128 * above + first, bytes) (n, rest) e) in
          let rest-is : bytes ≡ rest = ap (λ (p : ℕ × List ℕ). p.1) (ok_is {E = ReadError} (128 * above + first, bytes) (n, rest) e) in
          let whole : varint n ≡ marked above above ++ first ∷ [] = varint_last n above first (sym n-is) small in
          (sym (append_assoc (marked above above) (first ∷ []) bytes) ∙ ap (λ (t : List ℕ). t ++ bytes) (sym whole) ∙ ap (λ (t : List ℕ). varint n ++ t) rest-is, rw (← rest-is) rest_fits, omega arith)
      | inr (is, e) ↦ elim (chosen (ltb (2 ^ 57 - 1) next) _ _ _ e) [
        | inl (over, e) ↦ absurd cc
        | inr (fitting, e) ↦
            let large : 128 ≤ first = ltb-false _ _ is in
            let few : next ≤ 2 ^ 57 - 1 = ltb-false _ _ fitting in
            let later = groups_takes next bytes n rest rest_fits (omega arith) e in
            let group = first - 128 in
            let is_next : next ≡ suc (128 * above + group) = omega arith in
            let is_first : 128 + group ≡ first = omega arith in
            let more : marked next next ≡ marked above above ++ first ∷ [] =
            ap (λ (k : ℕ). marked next k) is_next ∙ marked_more next (128 * above + group) above group refl (omega arith) (omega arith) ∙ ap (λ (b : ℕ). marked above above ++ b ∷ []) is_first in
            (sym (append_assoc (marked above above) (first ∷ []) bytes) ∙ ap (λ (t : List ℕ). t ++ bytes) (sym more) ∙ later.0, later.1, later.2)
      ]
    ]

groups_again : (most above : ℕ) (tail : List ℕ) → above ≤ most → above < 2 ^ 57 → groups_at 0 (marked most above ++ tail) ≡ groups_at above tail
unfolding marked groups_at
groups_again zero zero tail le few = refl
groups_again zero (suc above) tail le few = absurd (omega arith)
groups_again (suc most) zero tail le few = refl
groups_again (suc most) (suc above) tail le few =
    let group = 128 + above % 128 in
    let earlier = groups_again most (above / 128) (group ∷ tail) (omega arith) (omega arith) in
    let marks : ltb group 128 ≡ false = le-ltb _ _ (omega arith) in
    let next : 128 * (above / 128) + group - 127 ≡ suc above = omega arith in
    let fitting : ltb (2 ^ 57 - 1) (suc above) ≡ false = le-ltb _ _ (omega arith) in
    ap (λ (t : List ℕ). groups_at 0 t) (append_assoc (marked most (above / 128)) (group ∷ []) tail) ∙ earlier ∙ rw (marks, next, fitting) refl

varint_takes : (bytes : List ℕ) (n : ℕ) (rest : List ℕ) → IsBytes bytes → varint_at bytes ≡ Ok (n, rest) → Takes bytes (varint n) rest × (n < 2 ^ 64)
unfolding marked
varint_takes bytes n rest fits e =
    let t = groups_takes 0 bytes n rest fits (omega arith) e in
    (record { parts = t.0; rest_fits = t.1 }, t.2)

varint_again : (n : ℕ) (rest : List ℕ) → n < 2 ^ 64 → varint_at (varint n ++ rest) ≡ Ok (n, rest)
unfolding varint groups_at
varint_again n rest lt =
    let small : ltb (n % 128) 128 ≡ true = lt-ltb _ _ (omega arith) in
    let whole : 128 * (n / 128) + n % 128 ≡ n = omega arith in
    ap (λ (t : List ℕ). groups_at 0 t) (append_assoc (marked n (n / 128)) ((n % 128) ∷ []) rest)
    ∙ groups_again n (n / 128) ((n % 128) ∷ rest) (omega arith) (omega arith)
    ∙ rw (small, whole) refl

pub varint_field : IsField varint_at varint (λ n. n < 2 ^ 64)
varint_field = record { takes = varint_takes; again = varint_again }
