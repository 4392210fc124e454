-- Bytes and their words.
use Rattle.std.proofs.Common.{◌≡◌, ◌⊎◌, inl, inr, ◌+◌, ◌-◌, ◌<◌, ◌≤◌, ℕ, zero, suc, Bool, true, false, List, get_or, length, refl, sym, ap, ◌∙◌, arith}
use lib.Dec.{ltb}
use borrow.Author.Tests.{ltb-true, ltb-false}
use Rattle.std.specs.Int.{w64, to_le_bytes}
use Rattle.std.proofs.lemmas.Nat.{le_bytes_8}
use Rattle.std.proofs.lemmas.List.{ext_get_or}
use Rattle.coin_index.specs.Hash.{eight_at, word_at}

side : (n m : ℕ) → (n < m) ⊎ (m ≤ n)
side n m = go (ltb n m) refl where
  go : (r : Bool) → ltb n m ≡ r → (n < m) ⊎ (m ≤ n)
  go true e = inl (ltb-true n m e)
  go false e = inr (ltb-false n m e)

pub never_both : (b : Bool) → b ≡ true → b ≡ false → ⊥
never_both true h e = cc
never_both false h e = cc

abbrev pub AreBytes : List ℕ → Type 0
AreBytes bs = (i : ℕ) → get_or bs i 0 < 256

eight_bytes : (bs : List ℕ) (i : ℕ) → AreBytes bs → AreBytes (eight_at bs i)
eight_bytes bs i h zero = h i
eight_bytes bs i h (suc zero) = h (i + 1)
eight_bytes bs i h (suc (suc zero)) = h (i + 2)
eight_bytes bs i h (suc (suc (suc zero))) = h (i + 3)
eight_bytes bs i h (suc (suc (suc (suc zero)))) = h (i + 4)
eight_bytes bs i h (suc (suc (suc (suc (suc zero))))) = h (i + 5)
eight_bytes bs i h (suc (suc (suc (suc (suc (suc zero)))))) = h (i + 6)
eight_bytes bs i h (suc (suc (suc (suc (suc (suc (suc zero))))))) = h (i + 7)
eight_bytes bs i h (suc (suc (suc (suc (suc (suc (suc (suc k)))))))) = omega arith

bytes_of_word : (bs : List ℕ) (i : ℕ) → AreBytes bs → to_le_bytes w64 (word_at bs i) ≡ eight_at bs i
unfolding word_at
bytes_of_word bs i h = le_bytes_8 (eight_at bs i) (word_at bs i) refl (eight_bytes bs i h) refl

-- a word has its bytes
pub same_eight : (a b : List ℕ) (i : ℕ) → AreBytes a → AreBytes b → word_at a i ≡ word_at b i → eight_at a i ≡ eight_at b i
same_eight a b i h k e = sym (bytes_of_word a i h) ∙ ap (to_le_bytes w64) e ∙ bytes_of_word b i k

-- the bytes of a word, one by one
agree : (a b : List ℕ) (n i j : ℕ) → n ≡ i + j → j < 8 → eight_at a i ≡ eight_at b i → get_or a n 0 ≡ get_or b n 0
agree a b n i zero is less e = let s : n ≡ i = omega arith in ap (λ m. get_or a m 0) s ∙ ap (λ l. get_or l 0 0) e ∙ ap (λ m. get_or b m 0) (sym s)
agree a b n i (suc zero) is less e = ap (λ m. get_or a m 0) is ∙ ap (λ l. get_or l 1 0) e ∙ ap (λ m. get_or b m 0) (sym is)
agree a b n i (suc (suc zero)) is less e = ap (λ m. get_or a m 0) is ∙ ap (λ l. get_or l 2 0) e ∙ ap (λ m. get_or b m 0) (sym is)
agree a b n i (suc (suc (suc zero))) is less e = ap (λ m. get_or a m 0) is ∙ ap (λ l. get_or l 3 0) e ∙ ap (λ m. get_or b m 0) (sym is)
agree a b n i (suc (suc (suc (suc zero)))) is less e = ap (λ m. get_or a m 0) is ∙ ap (λ l. get_or l 4 0) e ∙ ap (λ m. get_or b m 0) (sym is)
agree a b n i (suc (suc (suc (suc (suc zero))))) is less e = ap (λ m. get_or a m 0) is ∙ ap (λ l. get_or l 5 0) e ∙ ap (λ m. get_or b m 0) (sym is)
agree a b n i (suc (suc (suc (suc (suc (suc zero)))))) is less e = ap (λ m. get_or a m 0) is ∙ ap (λ l. get_or l 6 0) e ∙ ap (λ m. get_or b m 0) (sym is)
agree a b n i (suc (suc (suc (suc (suc (suc (suc zero))))))) is less e = ap (λ m. get_or a m 0) is ∙ ap (λ l. get_or l 7 0) e ∙ ap (λ m. get_or b m 0) (sym is)
agree a b n i (suc (suc (suc (suc (suc (suc (suc (suc j)))))))) is less e = absurd (omega arith)

module _ (a b : List ℕ) (e0 : eight_at a 0 ≡ eight_at b 0) (e1 : eight_at a 8 ≡ eight_at b 8) (e2 : eight_at a 16 ≡ eight_at b 16) (e3 : eight_at a 24 ≡ eight_at b 24) where
  at : (n : ℕ) → n < 32 → ((n < 8) ⊎ (8 ≤ n)) → ((n < 16) ⊎ (16 ≤ n)) → ((n < 24) ⊎ (24 ≤ n)) → get_or a n 0 ≡ get_or b n 0
  at n less (inl f) p q = agree a b n 0 n (omega arith) f e0
  at n less (inr f) (inl p) q = agree a b n 8 (n - 8) (omega arith) (omega arith) e1
  at n less (inr f) (inr p) (inl q) = agree a b n 16 (n - 16) (omega arith) (omega arith) e2
  at n less (inr f) (inr p) (inr q) = agree a b n 24 (n - 24) (omega arith) (omega arith) e3

  -- 32 bytes are the same where their four words are
  pub same_bytes : length a ≡ 32 → length b ≡ 32 → a ≡ b
  same_bytes l k = ext_get_or 0 a b (l ∙ sym k) (λ n less. at n (omega arith) (side n 8) (side n 16) (side n 24))
