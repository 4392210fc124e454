-- What a chunk holds once a `&mut` into one of its places has ended.
use Rattle.std.specs.Prelude.{ℕ, List, slice_set, Option, Some}
use Rattle.std.specs.Borrow.{Fml, RattleType, MutBor, Lends}
use Rattle.slot_pool.specs.contracts.chunk.Chunk.{the_row}

abbrev pub lends_place : (R : RattleType) → MutBor (List (Option R.Denot)) → ℕ → MutBor R.Denot → Fml
lends_place R c i r = Lends (the_row R) R c r (λ w. slice_set c.now i (Some w))
