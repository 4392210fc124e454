-- Where a cursor stands after a call that may have read from it.
use Rattle.std.specs.Prelude.{◌≡◌, ℕ, List, [], ◌∷◌, ◌++◌, length, take, drop, Result, Ok, Err}
use Rattle.std.proofs.Common.{ltb, sym, ap, ◌∙◌, append_assoc}
use Rattle.std.proofs.lemmas.List.{take-append-drop}
use Rattle.base_types.specs.Bytes.{varint}
use Rattle.base_types.specs.Reading.{Input, ◌>>=◌, on_rest, byte_at, bytes_at, varint_at}
use Rattle.base_types.specs.Codec.{at}
use Rattle.base_types.proofs.Codecs.{ok_is, guard_ok}
use Rattle.base_types.specs.declared.cursor.ReadError.{ReadError}
use Rattle.base_types.specs.declared.cursor.ReadError.TheVariants.{Short}
use Rattle.coin_codec.specs.Reading.{IsNumber, IsFurther}

pub further_same : (old new : Input) → new ≡ old → IsFurther old new
further_same old new is = record { end = ap (λ (i : Input). i.end) is; taken = ([], ap (λ (i : Input). i.rest) (sym is)) }

pub further_then : (a b c : Input) → IsFurther a b → IsFurther b c → IsFurther a c
further_then a b c p q = record {
  end = q.end ∙ p.end;
  taken = (p.taken.0 ++ q.taken.0, p.taken.1 ∙ ap (λ (t : List ℕ). p.taken.0 ++ t) q.taken.1 ∙ sym (append_assoc p.taken.0 q.taken.0 c.rest));
}

pub further_three : (a b c d : Input) → IsFurther a b → IsFurther b c → IsFurther c d → IsFurther a d
further_three a b c d p q r = further_then a c d (further_then a b c p q) r

given : {X : Type 0} (end : ℕ) (r : Result (X × List ℕ) ReadError) (x : X) (new : Input) → (let step : X × List ℕ → Result (X × Input) ReadError = λ y. Ok (y.0, at end y.1) in r >>= step) ≡ Ok (x, new) → (new.end ≡ end) × (r ≡ Ok (x, new.rest))
given {X} end (Ok y) x new e =
    let p = ok_is {E = ReadError} (y.0, at end y.1) (x, new) e in
    (ap (λ (z : X × Input). z.1.end) (sym p), ap (λ (z : X × Input). Ok (z.0, z.1.rest)) p)
given end (Err d) x new e = absurd cc

pub further_number : (old new : Input) (n : ℕ) → IsNumber old.rest → on_rest varint_at old ≡ Ok (n, new) → IsFurther old new
further_number old new n number e =
    let g = given old.end (varint_at old.rest) n new e in
    record { end = g.0; taken = (varint n, (number.found n new.rest g.1).0) }

pub further_bytes : (old new : Input) (len : ℕ) (text : List ℕ) → on_rest (bytes_at len) old ≡ Ok (text, new) → IsFurther old new
further_bytes old new len text e =
    let g = given old.end (bytes_at len old.rest) text new e in
    let b = guard_ok (ltb (length old.rest) len) Short (take len old.rest, drop len old.rest) (text, new.rest) g.1 in
    let rest : drop len old.rest ≡ new.rest = ap (λ (p : List ℕ × List ℕ). p.1) b.1 in
    record { end = g.0; taken = (take len old.rest, sym (take-append-drop len old.rest) ∙ ap (λ (t : List ℕ). take len old.rest ++ t) rest) }

byte_parts : (bytes : List ℕ) (n : ℕ) (rest : List ℕ) → byte_at bytes ≡ Ok (n, rest) → bytes ≡ (n ∷ []) ++ rest
byte_parts [] n rest e = absurd cc
byte_parts (first ∷ bytes) n rest e = ap (λ (p : ℕ × List ℕ). p.0 ∷ p.1) (ok_is {E = ReadError} (first, bytes) (n, rest) e)

pub further_byte : (old new : Input) (n : ℕ) → on_rest byte_at old ≡ Ok (n, new) → IsFurther old new
further_byte old new n e =
    let g = given old.end (byte_at old.rest) n new e in
    record { end = g.0; taken = (n ∷ [], byte_parts old.rest n new.rest g.1) }

-- what the search tries
pub ruleset further_steps = (further_same, further_then, further_number, further_bytes, further_byte)
