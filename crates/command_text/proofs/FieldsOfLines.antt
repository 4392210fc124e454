-- The fields that an iterator takes off a line are those of the definition.
use Rattle.std.proofs.Common.{◌≡◌, ℕ, ◌≤◌, Bool, false, List, [], ◌∷◌, ◌++◌, append_assoc, append-nil, length, cond, ltb, Option, Some, None, Result, Err, refl, sym, ap, ap₂, ◌∙◌, subst, arith}
use Rattle.std.specs.Prelude.{◌==◌}
use Rattle.std.specs.List.{slice_split, onto_first}
use Rattle.std.proofs.lemmas.Bool.Decides.{nat_tests}
use Rattle.std.proofs.lemmas.Iterator.{YieldsList}
use Rattle.std.proofs.lemmas.Iterator.Splits.{YieldsList-from_slice_split}
use Rattle.std.specs.Fn.{CalledAt}
use Rattle.std.specs.Slice.Iter.{split_rest, split_done, split_callee, split_steps}
use Rattle.command_text.specs.declared.line.Line.{Line}
use Rattle.command_text.specs.declared.line.LineFault.{LineFault}
use Rattle.command_text.specs.declared.line.LineFault.TheVariants.{Refused}
use Rattle.command_text.specs.declared.line.LineRefused.TheVariants.{UnknownCommand}
use Rattle.command_text.specs.Lines.{and_byte, pieces_between, command_of, line_of}
use Rattle.command_text.specs.Parsed.{Parses}

onto_first_is : (byte : ℕ) (pieces : List (List ℕ)) → onto_first byte pieces ≡ and_byte byte pieces
onto_first_is byte [] = refl
onto_first_is byte (piece ∷ pieces) = refl

pieces_is : (mark : ℕ) (bytes : List ℕ) → slice_split (λ byte. byte == mark) bytes ≡ pieces_between mark bytes
unfolding pieces_between
pieces_is mark [] = refl
pieces_is mark (byte ∷ bytes) =
    ap₂ (cond (byte == mark)) (ap (λ pieces. [] ∷ pieces) (pieces_is mark bytes)) (onto_first_is byte (slice_split (λ byte. byte == mark) bytes) ∙ ap (and_byte byte) (pieces_is mark bytes))

within : (n m : ℕ) → m ≤ n → ltb n m ≡ false
within n m h = grind (arith, nat_tests)

line_is : (line : List ℕ) → (length line == 0) ≡ false → length line ≤ 4096 → line_of line ≡ command_of (slice_split (λ byte. byte == 32) line)
line_is [] some short = absurd (cc)
line_is (byte ∷ bytes) some short =
    rw (within 4096 (length (byte ∷ bytes)) short) (ap command_of (sym (pieces_is 32 (byte ∷ bytes))))

-- a line whose fields begin with those at the front, and an iterator over the others
pub record IsTaken {S A : Type 0} (steps : S → Option A → S → Type 0) (text : A → List ℕ) (s : S) (line : List ℕ) (front : List (List ℕ)) : Type 0 where
  pub rest : List (List ℕ)
  pub fields : slice_split (λ byte. byte == 32) line ≡ front ++ rest
  pub runs : YieldsList steps text s rest

-- what `split` at a space returns has taken none; the facts are what it ensures
pub begins : {F : Type 0} {s : _} (g : _) {f : F} (line : List ℕ) → split_rest s ≡ line → split_done s ≡ false → split_callee s ≡ f → ((x : ℕ) (b : Bool) (q : F) → CalledAt g f x b q → (q ≡ f) × (b ≡ (x == 32))) → IsTaken (split_steps g) (λ x. x.now) s line []
begins g line rest done closure tests = record {
  rest = slice_split (λ byte. byte == 32) line;
  fields = refl;
  runs = YieldsList-from_slice_split g (λ byte. byte == 32) line rest done closure tests;
}

-- `next` gives the next field
pub goes_on : {S A : Type 0} {steps : S → Option A → S → Type 0} {text : A → List ℕ} {s : S} {line : List ℕ} {front : List (List ℕ)} → (x : A) (t : S) → steps s (Some x) t → IsTaken steps text s line front → IsTaken steps text t line (front ++ text x ∷ [])
goes_on {steps = steps} {text = text} {s = s} {line = line} {front = front} x t step is = more is.rest is.fields is.runs
  where
    more : (rest : List (List ℕ)) → slice_split (λ byte. byte == 32) line ≡ front ++ rest → YieldsList steps text s rest → IsTaken steps text t line (front ++ text x ∷ [])
    more [] fields runs = absurd (runs.runs x t step)
    more (y ∷ ys) fields runs =
        let next = runs.runs.1 x t step in
        record { rest = ys; fields = fields ∙ ap (λ z. front ++ z ∷ ys) (sym next.0) ∙ sym (append_assoc front (text x ∷ []) ys); runs = record { runs = next.1 } }

-- or it tells that there is none
pub ends : {S A : Type 0} {steps : S → Option A → S → Type 0} {text : A → List ℕ} {s : S} {line : List ℕ} {front : List (List ℕ)} → (t : S) → steps s None t → IsTaken steps text s line front → slice_split (λ byte. byte == 32) line ≡ front
ends {steps = steps} {text = text} {s = s} {line = line} {front = front} t step is = none is.rest is.fields is.runs
  where
    none : (rest : List (List ℕ)) → slice_split (λ byte. byte == 32) line ≡ front ++ rest → YieldsList steps text s rest → slice_split (λ byte. byte == 32) line ≡ front
    none [] fields runs = fields ∙ append-nil front
    none (y ∷ ys) fields runs = absurd (runs.runs.0 t step)

-- so a line is parsed as the command that has its fields
pub by_fields : (line : List ℕ) {fields : List (List ℕ)} → slice_split (λ byte. byte == 32) line ≡ fields → false ≡ (length line == 0) → length line ≤ 4096 → (r : Result Line LineFault) → Parses (command_of fields) r → Parses (line_of line) r
by_fields line e some short r h = subst (λ said. Parses said r) (sym (line_is line (sym some) short ∙ ap command_of e)) h

-- a line with five fields or more is no command
pub by_many_fields : {S A : Type 0} {steps : S → Option A → S → Type 0} {text : A → List ℕ} {s : S} (line : List ℕ) {a b c d e : List ℕ} → IsTaken steps text s line (a ∷ b ∷ c ∷ d ∷ e ∷ []) → false ≡ (length line == 0) → length line ≤ 4096 → (fault : LineFault) → fault ≡ Refused UnknownCommand → Parses (line_of line) (Err fault)
by_many_fields line is some short fault e = by_fields line is.fields some short (Err fault) (rw e refl)
