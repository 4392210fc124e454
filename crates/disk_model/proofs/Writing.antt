-- Bytes written over others, in place.
use Rattle.std.specs.Prelude.{◌≡◌, ℕ, ◌+◌, ◌-◌, ◌<◌, ◌≤◌, List, ◌++◌, length, take, drop, replicate, get_or}
use Rattle.std.specs.Prelude.{map, ◌∷◌, [], ◌⊎◌}
use Rattle.std.specs.List.{range_with_len}
use Rattle.std.proofs.Common.{arith, ap, sym, ◌∙◌, inl, inr, length-append}
use Rattle.std.proofs.lemmas.List.FromFn.{length-map-range_with_len, get_or-map-range_with_len}
use Rattle.std.proofs.lemmas.List.{places}
use Rattle.std.proofs.lemmas.Grind.{same_number_lists}
use Rattle.disk_model.specs.Disk.{written}

-- the bytes as the slice has them, where they lie within the old ones
abbrev pub overwritten : ℕ → List ℕ → List ℕ → List ℕ
overwritten at xs bytes = take at bytes ++ xs ++ drop (at + length xs) bytes

pub length-overwritten : (at : ℕ) (xs bytes : List ℕ) → at + length xs ≤ length bytes → length (overwritten at xs bytes) ≡ length bytes
length-overwritten at xs bytes le = grind (arith, places)

pub overwritten_within : (at : ℕ) (xs bytes : List ℕ) → at + length xs ≤ length bytes → overwritten at xs bytes ≡ written at xs bytes
overwritten_within at xs bytes le = same_number_lists _ _ (grind (arith, places)) (λ k below. grind (arith, places))

pub overwritten_longer : (at : ℕ) (xs bytes : List ℕ) → length bytes < at + length xs
    → overwritten at xs (take (at + length xs) bytes ++ replicate (at + length xs - length bytes) 0) ≡ written at xs bytes
overwritten_longer at xs bytes lt = same_number_lists _ _ (grind (arith, places)) (λ k below. grind (arith, places))

-- a vector whose slice was written over
pub in_place : (len at : ℕ) (xs items now new : List ℕ) → len ≡ length items → now ≡ items → new ≡ overwritten at xs now → at + length xs ≤ length items
    → take len (new ++ drop (length new) items) ≡ overwritten at xs items
in_place len at xs items now new long same is fits =
    let here : new ≡ overwritten at xs items = is ∙ ap (overwritten at xs) same in
    let size : length new ≡ length items = ap length here ∙ length-overwritten at xs items fits in
    let whole : take len (new ++ drop (length new) items) ≡ new = same_number_lists _ _ (grind (arith, places)) (λ k below. grind (arith, places)) in
    whole ∙ here

pub map_range_push : (f : ℕ → ℕ) (n : ℕ) → map f (range_with_len 0 (n + 1)) ≡ map f (range_with_len 0 n) ++ f n ∷ []
map_range_push f n = same_number_lists _ _ size (λ k below. elim (split k) [
  | inl early ↦ at_place k (n + 1) (omega arith) ∙ sym (at_place k n early) ∙ sym (grind (arith, places, length-map-range_with_len f 0 n))
  | inr end ↦
      let last : k ≡ n = omega (arith, below, length-map-range_with_len f 0 (n + 1)) in
      at_place k (n + 1) (omega arith) ∙ ap f last ∙ sym (at_end k last)
])
  where
    size : length (map f (range_with_len 0 (n + 1))) ≡ length (map f (range_with_len 0 n) ++ f n ∷ [])
    size = length-map-range_with_len f 0 (n + 1) ∙ sym (length-append (map f (range_with_len 0 n)) (f n ∷ []) ∙ ap (λ m. m + 1) (length-map-range_with_len f 0 n))

    split : (k : ℕ) → (k < n) ⊎ (n ≤ k)
    split k = grind arith

    at_place : (k m : ℕ) → k < m → get_or (map f (range_with_len 0 m)) k 0 ≡ f k
    at_place k m below = get_or-map-range_with_len f 0 m k k 0 below (omega arith)

    at_end : (k : ℕ) → k ≡ n → get_or (map f (range_with_len 0 n) ++ f n ∷ []) k 0 ≡ f n
    at_end k last = grind (arith, places, length-map-range_with_len f 0 n)
