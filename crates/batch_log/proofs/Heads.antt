-- The first bytes of a record, as they are read.
use Rattle.std.proofs.Common.{◌≡◌, ℕ, ◌+◌, ◌<◌, List, [], ◌∷◌, length, get_or, take, drop, refl, sym, ◌∙◌, ap, subst, arith}
use Rattle.std.specs.Prelude.{min}
use Rattle.std.specs.Int.{to_le_bytes, from_le_bytes, w32}
use Rattle.std.proofs.lemmas.List.{get_or-take, get_or-drop, drop_more, drop-take, take_all, length-take, length-drop}
use Rattle.std.proofs.lemmas.Nat.{le_bytes_4}
use Rattle.batch_log.specs.Records.{length_at}

five : (buf : List ℕ) → length buf ≡ 5 → drop 1 buf ≡ get_or buf 1 0 ∷ get_or buf 2 0 ∷ get_or buf 3 0 ∷ get_or buf 4 0 ∷ []
five [] h = absurd (omega arith)
five (a ∷ []) h = absurd (omega arith)
five (a ∷ b ∷ []) h = absurd (omega arith)
five (a ∷ b ∷ c ∷ []) h = absurd (omega arith)
five (a ∷ b ∷ c ∷ d ∷ []) h = absurd (omega arith)
five (a ∷ b ∷ c ∷ d ∷ e ∷ []) h = refl
five (a ∷ b ∷ c ∷ d ∷ e ∷ f ∷ rest) h = absurd (omega arith)

module _ (buf bytes : List ℕ) (n : ℕ) (room : length buf ≡ 5) (same : take n buf ≡ take 5 bytes) (count : n ≡ min 5 (length bytes)) where
  first : 0 < n → get_or buf 0 0 ≡ get_or bytes 0 0
  first h = sym (get_or-take n buf 0 0 h) ∙ ap (λ (l : List ℕ). get_or l 0 0) same ∙ get_or-take 5 bytes 0 0 (omega arith)

  pub gate_is : 0 < n → bytes ≡ get_or buf 0 0 ∷ drop 1 bytes
  gate_is h = drop_more bytes 0 0 (omega arith) ∙ ap (λ (k : ℕ). k ∷ drop 1 bytes) (sym (first h))

  pub rest_long : 0 < n → length (drop 1 bytes) + 1 ≡ length bytes
  rest_long h = omega (arith, length-drop 1 bytes)

  four : n ≡ 5 → take 4 (drop 1 bytes) ≡ drop 1 buf
  four is = sym (drop-take 1 4 bytes) ∙ ap (drop 1) (sym same ∙ ap (λ (k : ℕ). take k buf) is ∙ take_all 5 buf (omega arith))

  pub number_is : n ≡ 5 → (v : ℕ) → v ≡ from_le_bytes w32 (get_or buf 1 0 ∷ get_or buf 2 0 ∷ get_or buf 3 0 ∷ get_or buf 4 0 ∷ []) → v ≡ length_at (drop 1 bytes)
  number_is is v e = e ∙ ap (from_le_bytes w32) (sym (five buf room) ∙ sym (four is))

  pub spelled : n ≡ 5 → (v : ℕ) → ((i : ℕ) → get_or buf i 0 < 256) → v ≡ length_at (drop 1 bytes) → to_le_bytes w32 v ≡ take 4 (drop 1 bytes)
  spelled is v small e = le_bytes_4 (take 4 (drop 1 bytes)) v (omega (arith, length-take 4 (drop 1 bytes), length-drop 1 bytes))
      (λ i. subst (λ (k : ℕ). k < 256) (sym (get_or-drop 1 buf i 0) ∙ ap (λ (l : List ℕ). get_or l i 0) (sym (four is))) (small (1 + i))) e
