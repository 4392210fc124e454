-- What a block of cells owns and lends, at values of the row R.
use Rattle.std.specs.Prelude.{ℕ, ◌+◌, ◌*◌, ◌^◌, List, [], ◌∷◌, length, Option, Some, None}
use Rattle.std.specs.Mem.{type_size}
use base.Fraction.{full_share}
use base.Fml.{Lft, Fml, ftrue, ffalse, fsep, flt, froom}
use mir.Syntax.{Ty, ty_array}
use mir.Raw.{raw}
use denote.RattleType.{RattleType}
use denote.Memory.{lone, part_at, shared_of}
use denote.Sharing.{nothing, said, beside}
use denote.RawPtr.{Ptr, block_ptr, null_ptr}

module _ (R : RattleType) where
  -- a cell o bytes into the block b: a value, or room for one
  abbrev pub cell : ℕ → ℕ → Option R.Denot → Fml
  cell b o None = froom (raw (lone R.mir)) b o
  cell b o (Some x) = part_at R full_share x b o

  -- cells one after another
  abbrev pub row : ℕ → ℕ → List (Option R.Denot) → Fml
  row b o [] = ftrue
  row b o (c ∷ cs) = fsep (cell b o c) (row b (o + type_size R) cs)

  -- what a shared reference sees of them: the values
  abbrev pub cell_seen : ℕ → ℕ → Option R.Denot → Lft → Fml
  cell_seen b o None = nothing
  cell_seen b o (Some x) = shared_of R x b o

  abbrev pub row_seen : ℕ → ℕ → List (Option R.Denot) → Lft → Fml
  row_seen b o [] = nothing
  row_seen b o (c ∷ cs) = beside (cell_seen b o c) (row_seen b (o + type_size R) cs)

  -- no offset within the block overflows
  abbrev pub in_reach : List (Option R.Denot) → Fml
  in_reach cs = flt (length cs * type_size R) (2 ^ 63)

  abbrev pub cells_own : Ptr → List (Option R.Denot) → Fml
  cells_own null_ptr cs = ffalse
  cells_own (block_ptr b o) cs = fsep (in_reach cs) (row b o cs)

  abbrev pub cells_lent : Ptr → List (Option R.Denot) → Lft → Fml
  cells_lent null_ptr cs = said ffalse
  cells_lent (block_ptr b o) cs = beside (said (in_reach cs)) (row_seen b o cs)

  -- the allocator's token for a block of 256 cells
  abbrev pub claim_owns : (Ty → Ptr → Fml) → Ptr → Fml
  claim_owns token p = token (raw (ty_array (lone R.mir) 256)) p
