-- Words on lists of slots, for structures whose links lie in the values of a pool.
use Rattle.std.specs.Prelude.{◌≡◌, ◌⊎◌, ℕ, List, [], ◌∷◌, Option, Some}

-- the first slot, or else a
abbrev pub first_or : Option ℕ → List ℕ → Option ℕ
first_or a [] = a
first_or a (s ∷ ss) = Some s

-- the last slot, or else b
abbrev pub last_or : Option ℕ → List ℕ → Option ℕ
last_or b [] = b
last_or b (s ∷ ss) = last_or (Some s) ss

-- the slot is in the list
abbrev pub IsIn : ℕ → List ℕ → Type 0
IsIn s [] = ⊥
IsIn s (t ∷ ss) = (s ≡ t) ⊎ IsIn s ss

-- no slot stands twice
abbrev pub IsDistinct : List ℕ → Type 0
IsDistinct [] = Unit {0}
IsDistinct (s ∷ ss) = (¬ IsIn s ss) × IsDistinct ss
