-- What an object tells of itself, before and after a call.
use Rattle.std.specs.Prelude.{Option, Some, None}

-- It tells its state before and after, and P says what became of it; or it tells neither.
abbrev pub OnTold : {S : Type 0} → Option S → Option S → (S → S → Type 0) → Type 0
OnTold None None P = Unit {0}
OnTold None (Some t) P = ⊥
OnTold (Some s) None P = ⊥
OnTold (Some s) (Some t) P = P s t
