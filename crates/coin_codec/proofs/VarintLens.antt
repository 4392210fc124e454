-- The groups of a VARINT, counted from the last to the first.
use Rattle.std.specs.Prelude.{◌≡◌, ℕ, zero, suc, ◌+◌, ◌-◌, ◌*◌, ◌/◌, ◌%◌, ◌^◌, ◌<◌, ◌≤◌, [], ◌∷◌, ◌++◌, length, refl}
use Rattle.std.proofs.Common.{ap, arith}
use Rattle.std.proofs.lemmas.List.{length-append}
use Rattle.base_types.specs.Bytes.{marked, varint}
use Rattle.base_types.proofs.Fields.{marked_more, varint_last}

-- the numbers that have at most so many groups
abbrev pub room : ℕ → ℕ
room zero = 1
room (suc groups) = 128 * room groups

-- how many groups are left, and how many at most
pub record IsCounted (n len above : ℕ) : Type 0 where
  pub exact : len + length (marked above above) ≡ length (varint n)
  pub most : len ≤ 10
  pub fits : above < room (10 - len)

pub begun : (n : ℕ) → n < 2 ^ 64 → IsCounted n 1 (n / 128)
begun n small = record {
  exact = omega (arith, ap length (varint_last n (n / 128) (n % 128) (omega arith) (omega arith)), length-append (marked (n / 128) (n / 128)) ((n % 128) ∷ []));
  most = omega arith;
  fits = omega arith;
}

fewer : (above : ℕ) → 0 < above → length (marked above above) ≡ length (marked ((above - 1) / 128) ((above - 1) / 128)) + 1
fewer zero some = absurd (omega arith)
fewer (suc n) some =
    let e : suc n - 1 ≡ n = omega arith in
    let whole : marked (suc n) (suc n) ≡ marked (n / 128) (n / 128) ++ (128 + n % 128) ∷ [] = marked_more (suc n) n (n / 128) (n % 128) (omega arith) (omega arith) (omega arith) in
    rw e (omega (arith, ap length whole, length-append (marked (n / 128) (n / 128)) ((128 + n % 128) ∷ [])))

less : (groups above : ℕ) → 0 < above → above < room groups → (0 < groups) × ((above - 1) / 128 < room (groups - 1))
less zero above some fits = absurd (omega arith)
less (suc groups) above some fits =
    let e : suc groups - 1 ≡ groups = omega arith in
    (omega arith, rw e (omega arith))

pub one_more : (n len above : ℕ) → 0 < above → IsCounted n len above → IsCounted n (len + 1) ((above - 1) / 128)
one_more n len above some is =
    let place = less (10 - len) above some is.fits in
    let e : 10 - (len + 1) ≡ 10 - len - 1 = omega arith in
    record { exact = omega (arith, fewer above some, is.exact); most = omega (arith, place.0); fits = rw e place.1 }

none_left : (above : ℕ) → above ≡ 0 → length (marked above above) ≡ 0
unfolding marked
none_left zero none = refl
none_left (suc n) none = absurd (omega arith)

pub counted : (n len above : ℕ) → above ≡ 0 → IsCounted n len above → len ≡ length (varint n)
counted n len above none is = omega (arith, none_left above none, is.exact)
