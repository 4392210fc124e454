-- A `&` to the cells is lent as one to each of their values.
use Prim.Native.Nat.{ℕ, ◌+◌}
use Rattle.std.specs.Prelude.{List, [], ◌∷◌, Option, Some, None}
use Rattle.std.specs.Mem.{type_size}
use seplogic.Ra.Ura.{Ura}
use base.Fml.{Lft, Incl, ftrue, ffalse}
use types.Logic.{Logic}
use denote.RattleType.{RattleType, RowLaws}
use denote.Param.Laws.{Laws}
use denote.RawPtr.{Ptr, block_ptr, null_ptr}
use denote.Sharing.{ShrLaws, said}
use denote.SharingLaws.{beside_shr_laws, nothing_shr_laws, said_shr_laws}
use denote.Shares.{Shares-less}
use denote.Struct.Lending.{Lends, Lends-both, Lends-nothing, Lends-said, Lends-false}
use Rattle.slot_pool.specs.Ownership.{cell, row, cell_seen, row_seen, in_reach, cells_own, cells_lent}

module _ (R : RattleType) (laws : RowLaws R) where
  cell_seen-laws : (b o : ℕ) (c : Option R.Denot) → ShrLaws (cell_seen R b o c)
  cell_seen-laws b o None = nothing_shr_laws
  cell_seen-laws b o (Some x) = laws x b o

  row_seen-laws : (b o : ℕ) (cs : List (Option R.Denot)) → ShrLaws (row_seen R b o cs)
  row_seen-laws b o [] = nothing_shr_laws
  row_seen-laws b o (c ∷ cs) = beside_shr_laws _ _ (cell_seen-laws b o c) (row_seen-laws b (o + type_size R) cs)

  pub cells_lent-laws : (p : Ptr) (cs : List (Option R.Denot)) → ShrLaws (cells_lent R p cs)
  cells_lent-laws null_ptr cs = said_shr_laws ffalse tt
  cells_lent-laws (block_ptr b o) cs = beside_shr_laws _ _ (said_shr_laws (in_reach R cs) tt) (row_seen-laws b o cs)

module _ {M : Type 1} {𝓤 : Ura M} (𝓛 : Logic 𝓤) (R : RattleType) (L : Laws R) (l : Lft) (inc : Incl l R.lives) where
  Lends-cell : (b o : ℕ) (c : Option R.Denot) → Lends 𝓛 (cell R b o c) (cell_seen R b o c) l
  Lends-cell b o None = Lends-nothing 𝓛 (cell R b o None) l
  Lends-cell b o (Some x) = λ κ ts. Shares-less 𝓛 R R.lives l inc (L.shares 𝓛) x κ ts b o

  Lends-row : (b o : ℕ) (cs : List (Option R.Denot)) → Lends 𝓛 (row R b o cs) (row_seen R b o cs) l
  Lends-row b o [] = Lends-nothing 𝓛 ftrue l
  Lends-row b o (c ∷ cs) =
      let next = o + type_size R in
      Lends-both 𝓛 (cell R b o c) (row R b next cs) (cell_seen R b o c) (row_seen R b next cs) l (Lends-cell b o c) (Lends-row b next cs)

  pub Lends-cells : (p : Ptr) (cs : List (Option R.Denot)) → Lends 𝓛 (cells_own R p cs) (cells_lent R p cs) l
  Lends-cells null_ptr cs = Lends-false 𝓛 (said ffalse) l
  Lends-cells (block_ptr b o) cs =
      Lends-both 𝓛 (in_reach R cs) (row R b o cs) (said (in_reach R cs)) (row_seen R b o cs) l (Lends-said 𝓛 (in_reach R cs) tt l) (Lends-row b o cs)
