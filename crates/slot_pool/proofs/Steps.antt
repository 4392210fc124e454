-- The names that the walks of the functions on raw cells cite.
pub use mathlib.Core.Path.{◌≡◌, refl, sym, ap, subst, ◌∙◌}
pub use Prim.Native.Nat.{ℕ, ◌+◌, ◌*◌, ◌<◌, ◌^◌}
pub use native.Mathlib.Omega.{arith}
pub use mathlib.Core.List.{List, [], ◌∷◌, ◌++◌}
pub use lib.ListN.{length, get_or, set, length-set, replicate}
pub use seplogic.Ra.Ura.{Ura}
pub use base.Fraction.{full_share}
pub use base.Logic.{SProp, ent, sep, never, id⊢}
pub use base.Fml.{Fml, Lft, Share, GName, ftrue, fsep, fat, froom, flt, flft, fobs, fbor}
pub use mir.Syntax.{Fn, Body, w64, named, ty_array}
pub use mir.MapTy.{inst_fn}
pub use mir.Val.{Val, vptr, vint, vunit}
pub use prog.Memory.{Memory}
pub use prog.Routine.{Routine}
pub use prog.Wp.{Env, WpFn, Tables}
pub use sound.WpLaws.{WpFn-mono}
pub use types.Logic.{Logic, sem}
pub use types.Kit.{Item, ‵, raw, ◌⊛◌, some, given, later, at_ret, ◌$◌, ◌∵◌, !, qed, by, move, keep, drop, use0, use1, use2, use3, split, split3, join, pick, learn, await, rewrite, group, frame, fsplit, fsplit3, fjoin, fjoin3, fpack, feq_i, feq_l, flt_l, flt_i, suffices, done}
pub use types.Part.{whole, sub, look_in}
pub use types.Run.{init, look, forget, stop, fld, load, addr, size_lit, unit_lit, of_opd, bin, assigns_last, first, blocks, exec, returns, enter}
pub use types.ByLocal.{alloc_all, pass_all, free_all, look_at, get, through, sets, sets_last, env}
pub use contract.BorrowLft.{◌⊑◌}
pub use contract.Monad.{Fun, fact}
pub use denote.Builtin.{usize, RefOf}
pub use denote.Exit.{yes, no}
pub use denote.Memory.{cell_at, mem, part_at, hidden_shr}
pub use denote.Plain.{uint_vals, uint_Tells}
pub use denote.RattleType.{RattleType, owns}
pub use denote.RawPtr.{Ptr, RawPtr, block_ptr, in_a_block}
pub use denote.Ref.{MutRef, mut_vals, mut_Tells, shr_vals, shr_Tells}
pub use denote.Signature.{plain, types_at}
pub use denote.Steps.{heard, nothing}
pub use denote.Triple.Clauses.{Clauses, Ended, closing}
pub use denote.Triple.Entry.{Vals}
pub use denote.Triple.Spec.{Meets, triple_of}
pub use denote.Triple.Table.{entered}
pub use denote.Triple.Walked.{says, Stays, stay_dropped, stay_ref, walk_of, ends_at, walked, Goes-dropped, Goes-ref, walk_Meets}
pub use Rattle.std.specs.Prelude.{Option, Some, None}
pub use Rattle.core.proofs.mem.Param.{El, R, args, el_x, elτ, Good, lawful, one}
pub use Rattle.core.proofs.mem.Facts.{says_two}
pub use Rattle.core.proofs.slots.Bodies.{after, knowing}
pub use Rattle.std_alloc.proofs.RcSteps.{word, word-Good}
pub use Rattle.slot_pool.specs.Held.{IsHeld}
pub use Rattle.slot_pool.specs.Ownership.{cell, row}
pub use Rattle.slot_pool.specs.declared.cells.Cells.{Cells}
use Rattle.core.proofs.ptr.Rows.{times_below, one_below}

-- a cell's offset doesn't overflow
pub near : (i n s : ℕ) → i < n → n * s < 2 ^ 63 → (s < 2 ^ 64) × (i * s < 2 ^ 64)
near i n s lt fit = (omega (arith, one_below n s (2 ^ 63) (omega arith) fit), omega (arith, times_below i n s (2 ^ 63) (omega arith) fit))
