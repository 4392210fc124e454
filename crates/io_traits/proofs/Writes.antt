-- Writes that take a piece after another.
use Rattle.std.proofs.Common.{◌≡◌, ℕ, zero, suc, ◌+◌, ◌-◌, ◌^◌, ◌≤◌, ◌∷◌, [], List, ◌++◌, length, take, drop, refl, sym, ap, ◌∙◌, arith, append_assoc, append-nil}
use Rattle.std.specs.Prelude.{Option, Result, Ok, Err, ⊤}
use Rattle.std.proofs.lemmas.List.{take-append-drop, nil_from_length}
use Rattle.io_traits.specs.declared.raw.RawError.{RawError}
use Rattle.io_traits.specs.declared.raw.RawError.TheVariants.{Interrupted, Failed}
use Rattle.io_traits.specs.RawCalls.{RawAnswer, taken, write_call, EndsWrite, WritesThrough}

-- so many calls have taken all of these bytes but the rest
pub record Writes (turns : ℕ) (bytes rest : List ℕ) (before now : List RawAnswer) : Type 0 where
  pub calls : List RawAnswer
  pub newer : now ≡ calls ++ before
  pub all : bytes ≡ taken calls ++ rest
  pub count : length calls ≡ turns

pub Writes-none : (bytes : List ℕ) (before : List RawAnswer) → Writes 0 bytes bytes before before
Writes-none bytes before = record { calls = []; newer = refl; all = refl; count = refl }

pub Writes-took : (turns n : ℕ) (bytes rest : List ℕ) (before now next : List RawAnswer) → Writes turns bytes rest before now → next ≡ Ok (take n rest) ∷ now → Writes (turns + 1) bytes (drop n rest) before next
Writes-took turns n bytes rest before now next so_far call = record {
  calls = Ok (take n rest) ∷ so_far.calls;
  newer = call ∙ ap (λ l. Ok (take n rest) ∷ l) so_far.newer;
  all = so_far.all ∙ ap (λ l. taken so_far.calls ++ l) (sym (take-append-drop n rest)) ∙ sym (append_assoc (taken so_far.calls) (take n rest) (drop n rest));
  count = omega (arith, so_far.count);
}

pub Writes-refused : (error : RawError) (turns : ℕ) (bytes rest : List ℕ) (before now next : List RawAnswer) → Writes turns bytes rest before now → next ≡ Err error ∷ now → Writes (turns + 1) bytes rest before next
Writes-refused error turns bytes rest before now next so_far call = record {
  calls = Err error ∷ so_far.calls;
  newer = call ∙ ap (λ l. Err error ∷ l) so_far.newer;
  all = so_far.all;
  count = omega (arith, so_far.count);
}

pub Writes-whole : {E : Type 0} (turns : ℕ) (bytes rest : List ℕ) (before now : List RawAnswer) → Writes turns bytes rest before now → length rest ≡ 0 → WritesThrough {E = E} bytes (Ok tt) before now
Writes-whole turns bytes rest before now so_far none = record {
  calls = so_far.calls;
  newer = so_far.newer;
  whole = sym (so_far.all ∙ ap (λ l. taken so_far.calls ++ l) (nil_from_length rest none) ∙ append-nil (taken so_far.calls));
  part = tt;
  cause = tt;
}

pub Writes-failed : {E : Type 0} (e : E) (turns : ℕ) (error : RawError) (bytes rest : List ℕ) (before now next : List RawAnswer) → error ≡ Failed → Writes turns bytes rest before now → next ≡ Err error ∷ now → WritesThrough bytes (Err e) before next
Writes-failed e turns error bytes rest before now next is so_far call = record {
  calls = Err Failed ∷ so_far.calls;
  newer = call ∙ ap (λ failed. Err failed ∷ now) is ∙ ap (λ l. Err Failed ∷ l) so_far.newer;
  whole = tt;
  part = (rest, so_far.all);
  cause = tt;
}

pub Writes-empty : {E : Type 0} (e : E) (turns n : ℕ) (bytes rest : List ℕ) (before now next : List RawAnswer) → n ≡ 0 → Writes turns bytes rest before now → next ≡ Ok (take n rest) ∷ now → WritesThrough bytes (Err e) before next
Writes-empty e turns n bytes rest before now next none so_far call = record {
  calls = Ok [] ∷ so_far.calls;
  newer = call ∙ ap (λ m. Ok (take m rest) ∷ now) none ∙ ap (λ l. Ok [] ∷ l) so_far.newer;
  whole = tt;
  part = (rest, so_far.all ∙ ap (λ l. l ++ rest) (sym (append-nil (taken so_far.calls))));
  cause = tt;
}

ends_at_last : (calls : List RawAnswer) → 2 ^ 64 - 1 ≤ length calls → EndsWrite calls
ends_at_last [] many = many
ends_at_last (Ok [] ∷ earlier) many = tt
ends_at_last (Ok (x ∷ bytes) ∷ earlier) many = many
ends_at_last (Err Failed ∷ earlier) many = tt
ends_at_last (Err Interrupted ∷ earlier) many = many

pub Writes-given_up : {E : Type 0} (e : E) (turns : ℕ) (bytes rest : List ℕ) (before now : List RawAnswer) → Writes turns bytes rest before now → 2 ^ 64 - 1 ≤ turns → WritesThrough bytes (Err e) before now
Writes-given_up e turns bytes rest before now so_far many = record {
  calls = so_far.calls;
  newer = so_far.newer;
  whole = tt;
  part = (rest, so_far.all);
  cause = ends_at_last so_far.calls (omega (arith, so_far.count, many));
}
