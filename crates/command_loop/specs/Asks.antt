-- The lines of bytes that come in pieces.
use Rattle.std.specs.Prelude.{ℕ, List, [], ◌∷◌, ◌++◌, map, take, Option, None}
use Rattle.command_text.specs.Lines.{line_of, pieces_between, without_return}
use Rattle.machine.specs.Answers.{file_begun}
use Rattle.command_loop.specs.ServerCalls.{Asked}

-- without the line feed that ends it
abbrev pub asked : List ℕ → Asked
asked piece = line_of (without_return piece)

-- the pieces of bytes that stand behind a first part of a line
abbrev pub onto : List ℕ → List (List ℕ) → List (List ℕ)
onto kept [] = []
onto kept (piece ∷ pieces) = (kept ++ piece) ∷ pieces

abbrev pub pieces_behind : List ℕ → List ℕ → List (List ℕ)
pieces_behind kept bytes = onto kept (pieces_between 10 bytes)

-- the lines that ended, and the one that hasn't
unfoldable pub all_but_last : List (List ℕ) → List (List ℕ)
all_but_last [] = []
all_but_last (piece ∷ []) = []
all_but_last (piece ∷ next ∷ pieces) = piece ∷ all_but_last (next ∷ pieces)

unfoldable pub last_of : List (List ℕ) → List ℕ
last_of [] = []
last_of (piece ∷ []) = piece
last_of (piece ∷ next ∷ pieces) = last_of (next ∷ pieces)

abbrev pub ended_asks : List ℕ → List ℕ → List Asked
ended_asks kept bytes = map asked (all_but_last (pieces_behind kept bytes))

-- no line has more bytes that matter: 4,096, a carriage return, and one that makes it too long
abbrev pub kept_of : List ℕ → List ℕ
kept_of bytes = take 4098 bytes

abbrev pub first_begun : List Asked → Option (List ℕ)
first_begun [] = None
first_begun (ask ∷ asks) = file_begun ask
