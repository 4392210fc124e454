-- What the cells hold once a `&mut` into one of them has ended.
use Rattle.std.specs.Prelude.{ℕ, slice_set, Some}
use Rattle.std.specs.Borrow.{Fml, RattleType, MutBor, Lends}
use Rattle.slot_pool.specs.declared.cells.Cells.{Cells}
use Rattle.slot_pool.specs.contracts.cells.Cells.{the_row}

-- the cells with w in the one at the index
abbrev pub with_held : {T : Type 0} → Cells T → ℕ → T → Cells T
with_held c i w = record { start = c.start; held = slice_set c.held i (Some w) }

abbrev pub lends_cell : (R : RattleType) → MutBor (Cells R.Denot) → ℕ → MutBor R.Denot → Fml
lends_cell R c i r = Lends (the_row R) R c r (with_held c.now i)
