-- Readers over a cursor, from which those of larger forms are put together.
use Rattle.std.specs.Prelude.{ℕ, zero, suc, ◌<◌, List, [], ◌∷◌, get_or, Result, Ok, Err}
use Rattle.base_types.specs.declared.cursor.ReadError.{ReadError}
use Rattle.base_types.specs.Reading.{Input, ◌>>=◌, on_rest}

-- every member is a byte
abbrev pub IsBytes : List ℕ → Type 0
IsBytes bytes = (i : ℕ) → get_or bytes i 0 < 256

-- a reader of a value from what a cursor has left
abbrev pub Reader : Type 0 → Type 0 → Type 0
Reader E X = Input → Result (X × Input) E

-- the same with each fault named anew
abbrev pub renamed : {E F X : Type 0} → (E → F) → Result X E → Result X F
renamed name (Ok x) = Ok x
renamed name (Err e) = Err (name e)

-- a field, with its fault named by where it stands
abbrev pub field : {E X : Type 0} → (Input → ReadError → E) → (List ℕ → Result (X × List ℕ) ReadError) → Reader E X
field name read i = renamed (name i) (on_rest read i)

-- so many of them
unfoldable pub many_at : {E X : Type 0} → Reader E X → ℕ → Reader E (List X)
many_at read zero i = Ok ([], i)
many_at read (suc n) i = do
  first ← read i
  others ← many_at read n first.1
  Ok (first.0 ∷ others.0, others.1)

abbrev pub at : ℕ → List ℕ → Input
at end rest = record { end = end; rest = rest }
