-- Sums of amounts.
use Rattle.std.proofs.Common.{◌≡◌, ◌<◌, ◌≤◌, ℕ, ◌+◌, Bool, true, false, ◌||◌, List, ◌∷◌, length, drop, get_or, ltb, ℤ, pos, negsuc, refl, sym, ap, ◌∙◌}
use Rattle.std.specs.Prelude.{◌+ℤ◌, unsigned_abs}
use Rattle.std.proofs.lemmas.Bool.{ltb-false}
use Rattle.std.proofs.lemmas.List.{at_drop_more, at_drop_all}
use Rattle.base_types.specs.declared.coin.TxOut.{TxOut}
use Rattle.chain_model.specs.BodyRules.{is_out_of_range, has_bad_value}

-- an amount in range isn't too large
pub in_range : (z : ℤ) → is_out_of_range z ≡ false → unsigned_abs z ≤ 2100000000000000
in_range (pos n) e = ltb-false 2100000000000000 n e
in_range (negsuc n) e = cc

same : (t : ℕ) (z : ℤ) (rest : ℤ → Bool) → is_out_of_range z ≡ false → (is_out_of_range z || is_out_of_range (pos t +ℤ z) || rest (pos t +ℤ z)) ≡ (ltb 2100000000000000 (t + unsigned_abs z) || rest (pos (t + unsigned_abs z)))
same t (pos n) rest e = rw e refl
same t (negsuc n) rest e = cc

pub bad_first : (before : ℤ) (output : TxOut) (outputs : List TxOut) → is_out_of_range output.value ≡ true → has_bad_value before (output ∷ outputs) ≡ true
unfolding has_bad_value
bad_first before output outputs e = rw e refl

pub bad_step : (t : ℕ) (output : TxOut) (outputs : List TxOut) → is_out_of_range output.value ≡ false → has_bad_value (pos t) (output ∷ outputs) ≡ (ltb 2100000000000000 (t + unsigned_abs output.value) || has_bad_value (pos (t + unsigned_abs output.value)) outputs)
unfolding has_bad_value
bad_step t output outputs e = same t output.value (λ z. has_bad_value z outputs) e

pub bad_at : (outputs : List TxOut) (i t : ℕ) (output : TxOut) → i < length outputs → output ≡ get_or outputs i output → is_out_of_range output.value ≡ true → has_bad_value (pos t) (drop i outputs) ≡ true
bad_at outputs i t output h is e =
    at_drop_more (has_bad_value (pos t)) outputs i output h
    ∙ ap (λ (o : TxOut). has_bad_value (pos t) (o ∷ drop (i + 1) outputs)) (sym is)
    ∙ bad_first (pos t) output (drop (i + 1) outputs) e

pub step_at : (outputs : List TxOut) (i t : ℕ) (output : TxOut) → i < length outputs → output ≡ get_or outputs i output → is_out_of_range output.value ≡ false → has_bad_value (pos t) (drop i outputs) ≡ (ltb 2100000000000000 (t + unsigned_abs output.value) || has_bad_value (pos (t + unsigned_abs output.value)) (drop (i + 1) outputs))
step_at outputs i t output h is e =
    at_drop_more (has_bad_value (pos t)) outputs i output h
    ∙ ap (λ (o : TxOut). has_bad_value (pos t) (o ∷ drop (i + 1) outputs)) (sym is)
    ∙ bad_step t output (drop (i + 1) outputs) e

pub fine_at_end : (outputs : List TxOut) (i t : ℕ) → length outputs ≤ i → has_bad_value (pos t) (drop i outputs) ≡ false
unfolding has_bad_value
fine_at_end outputs i t h = at_drop_all (has_bad_value (pos t)) outputs i h
