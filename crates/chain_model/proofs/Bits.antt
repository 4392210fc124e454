-- The bits of a sequence.
use Rattle.std.proofs.Common.{◌≡◌, ◌<◌, ℕ, zero, suc, ◌*◌, not, eqb, bit_and, ap, refl, ◌∙◌, arith}
use Rattle.std.proofs.lemmas.Nat.Bits.{and_pow, bit_at-lt}
use Rattle.std.specs.Int.{bit_at}
use Rattle.chain_model.specs.Apply.{counts_time}

bit : (b : ℕ) → b < 2 → not (eqb (b * 4194304) 0) ≡ eqb b 1
bit zero h = refl
bit (suc zero) h = refl
bit (suc (suc b)) h = absurd (omega arith)

pub bit_22 : (sequence : ℕ) → not (eqb (bit_and sequence 4194304) 0) ≡ counts_time sequence
bit_22 sequence =
    ap (λ (n : ℕ). not (eqb n 0)) (and_pow sequence 22)
    ∙ bit (bit_at sequence 22) (bit_at-lt sequence 22)
