-- Where the bytes of a payload stand in a log.
use Rattle.std.proofs.Common.{◌≡◌, ℕ, zero, suc, ◌+◌, ◌≤◌, List, [], ◌∷◌, ◌++◌, length, take, drop, sym, ◌∙◌, ap, arith, append_assoc, length-append}
use Rattle.std.specs.Prelude.{Some, slice_get}
use Rattle.std.specs.Int.{to_le_bytes, w32}
use Rattle.std.proofs.lemmas.List.{drop_at, drop-drop, places}
use Rattle.std.proofs.lemmas.Grind.{same_number_lists}
use Rattle.batch_log.specs.Records.{body, records, EndsClosed}
use Rattle.batch_log.specs.OpenLog.{places_of}
use Rattle.batch_log.specs.declared.places.Place.{Place}

-- a record within others
record Within (at : ℕ) (payloads : List (List ℕ)) (place : Place) (payload : List ℕ) : Type 0 where
  pub front : List ℕ
  pub back : List ℕ
  pub starts : place.at ≡ at + length front
  pub long : place.len ≡ length payload
  pub is : records payloads ≡ front ++ ((1 ∷ body payload) ++ back)

one_within : (at : ℕ) (payloads : List (List ℕ)) (i : ℕ) (place : Place) (payload : List ℕ)
    → slice_get (places_of at payloads) i ≡ Some place → slice_get payloads i ≡ Some payload → Within at payloads place payload
one_within at [] i place payload p q = cc
one_within at (first ∷ payloads) zero place payload p q =
    let here : first ≡ payload = cc in
    let there : record { at = at; len = length first } ≡ place = cc in
    record {
      front = [];
      back = records payloads;
      starts = sym (ap (λ (r : Place). r.at) there) ∙ plain at;
      long = sym (ap (λ (r : Place). r.len) there) ∙ ap length here;
      is = ap (λ (l : List ℕ). (1 ∷ body l) ++ records payloads) here;
    }
  where
    plain : (n : ℕ) → n ≡ n + 0
    plain n = omega arith
one_within at (first ∷ payloads) (suc i) place payload p q =
    let w = one_within (at + (5 + length first)) payloads i place payload p q in
    let starts = w.starts in
    record {
      front = (1 ∷ body first) ++ w.front;
      back = w.back;
      starts = omega (arith, length-append (1 ∷ body first) w.front);
      long = w.long;
      is = ap (λ (l : List ℕ). (1 ∷ body first) ++ l) w.is ∙ sym (append_assoc (1 ∷ body first) w.front ((1 ∷ body payload) ++ w.back));
    }

part_of : (from n : ℕ) (xs ys : List ℕ) → from + n ≤ length xs → take n (drop from (xs ++ ys)) ≡ take n (drop from xs)
part_of from n xs ys fits = same_number_lists _ _ (grind (arith, places)) (λ k below. grind (arith, places))

pub record Read (bytes : List ℕ) (place : Place) (payload : List ℕ) : Type 0 where
  pub long : place.len ≡ length payload
  pub ends : place.at + 5 + length payload ≤ length bytes
  pub part : (from n : ℕ) → from + n ≤ length payload → take n (drop (place.at + 5 + from) bytes) ≡ take n (drop from payload)

-- what stands at a place of a log
pub payload_read : (payloads : List (List ℕ)) (bytes : List ℕ) → EndsClosed payloads bytes → (seen : List Place) → seen ≡ places_of 0 payloads
    → (i : ℕ) (place : Place) (payload : List ℕ) → slice_get seen i ≡ Some place → slice_get payloads i ≡ Some payload → Read bytes place payload
payload_read payloads bytes e seen same i place payload p q =
    let w = one_within 0 payloads i place payload (sym (ap (λ (l : List Place). slice_get l i) same) ∙ p) q in
    let head = w.front ++ (1 ∷ to_le_bytes w32 (length payload)) in
    let rest = w.back ++ e.gate ∷ e.rest in
    let size : length head ≡ place.at + 5 = omega (arith, w.starts, length-append w.front (1 ∷ to_le_bytes w32 (length payload))) in
    let whole : bytes ≡ head ++ (payload ++ rest) = e.is ∙ ap (λ (l : List ℕ). l ++ e.gate ∷ e.rest) w.is ∙ simp append_assoc in
    record {
      long = w.long;
      ends = omega (arith, size, ap length whole, length-append head (payload ++ rest), length-append payload rest);
      part = λ from n fits.
          sym (ap (take n) (drop-drop from (place.at + 5) bytes))
          ∙ ap (λ (l : List ℕ). take n (drop from (drop (place.at + 5) l))) whole
          ∙ ap (λ (l : List ℕ). take n (drop from l)) (drop_at head (payload ++ rest) (place.at + 5) size)
          ∙ part_of from n payload rest fits;
    }
