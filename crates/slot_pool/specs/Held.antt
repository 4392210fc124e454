-- Which cells hold a value.
use Rattle.std.specs.Prelude.{◌≡◌, ℕ, get_or, List, Option, Some, None}

-- the cell at the index holds a value
abbrev pub IsHeld : {T : Type 0} → List (Option T) → ℕ → Type 0
IsHeld {T} cs i = (x : T) × (get_or cs i None ≡ Some x)
