-- One cell comes out of a row and goes back, an empty row is room for an array, and the cells behind a reference are opened and closed.
use mathlib.Core.Path.{◌≡◌, refl, sym, ap, ◌∙◌}
use Prim.Native.Nat.{ℕ, zero, suc, ◌+◌, ◌*◌, ◌<◌, ◌^◌}
use native.Mathlib.Omega.{arith}
use native.Mathlib.Nat.{zero-mul, suc-mul}
use mathlib.Core.List.{List, [], ◌∷◌, ◌++◌}
use lib.ListN.{length, set, get_or, replicate}
use seplogic.Ra.Ura.{Ura}
use base.Fraction.{full_share}
use base.Stored.{Gv}
use mir.Syntax.{ty_array}
use mir.Val.{Val, vstruct, of_list}
use base.Logic.{ent, sep, id⊢, never}
use base.Fml.{Fml, fhide, Lft, GName, Share, ftrue, fsep, froom, fobs, fauth, fbor, fobor, flft}
use types.Logic.{Logic, sem}
use denote.Opens.{unhide}
use denote.Struct.Lending.{lent_out}
use types.SemTy.{Body}
use types.Kit.{Item, Goal, Seq, Step, Soaks, step, ‵, ◌⊛◌, ◌$◌, ◌∵◌, !, qed, by, move, keep, drop, use1, use2, split, frame, rewrite, fsplit, fjoin, fpick, fpack, feq_l, feq_i, flt_l, flt_i, done}
use denote.RattleType.{RattleType, Valss}
use denote.Memory.{cell_at, mem, hidden_shr}
use denote.RawPtr.{Ptr, RawPtr, block_ptr, ptr_val, in_a_block}
use denote.Steps.{nothing, opens, closes}
use denote.Struct.Struct.{Struct, within}
use denote.Struct.Owning.{shape}
use Rattle.std.specs.Prelude.{Option, Some, None}
use Rattle.std.specs.Mem.{type_size}
use Rattle.core.proofs.mem.Param.{El, R, el_x, elτ}
use Rattle.std_alloc.proofs.RcSteps.{word}
use Rattle.slot_pool.specs.Ownership.{cell, row, cell_seen, row_seen, cells_own, cells_lent}
use Rattle.slot_pool.specs.declared.cells.Cells.{Cells}
use Rattle.slot_pool.specs.contracts.cells.Cells as C

module _ (E : El) where
  -- the type `Cells<T>`, and its one field as a plain struct
  abbrev pub Cs : RattleType
  Cs = C.the_row (R E)

  abbrev pub Start : RattleType
  Start = Struct (shape (C.the_type (R E)))

  abbrev pub sz : ℕ
  sz = type_size (R E)

  abbrev pub Held : Type 0
  Held = List (Option (el_x E))

  -- a row without its cell i
  abbrev pub others : ℕ → ℕ → Held → ℕ → Fml
  others b o [] i = ftrue
  others b o (c ∷ cs) zero = row (R E) b (o + sz) cs
  others b o (c ∷ cs) (suc i) = fsep (cell (R E) b o c) (others b (o + sz) cs i)

pub held_within : {X : Type 0} (cs : List (Option X)) (i : ℕ) (x : X) → get_or cs i None ≡ Some x → i < length cs
held_within [] i x e = cc
held_within (c ∷ cs) zero x e = omega arith
held_within (c ∷ cs) (suc i) x e = omega (arith, held_within cs i x e)

module _ (E : El) {M : Type 1} {𝓤 : Ura M} (𝓛 : Logic 𝓤) (b : ℕ) where
  open 𝓛 use {H}

  abbrev s : ℕ
  s = sz E

  pub cell_out : (cs : Held E) (i o at : ℕ) → at ≡ i * s + o → i < length cs → ent 𝓤 (sem 𝓛 (row (R E) b o cs)) (sep 𝓤 (sem 𝓛 (cell (R E) b at (get_or cs i None))) (sem 𝓛 (others E b o cs i)))
  cell_out [] i o at e lt = absurd (omega arith)
  cell_out (c ∷ cs) zero o at e lt =
      let here : o ≡ at = omega (arith, zero-mul s) in
      qed 𝓛 (‵ (row (R E) b o (c ∷ cs)) ∷ []) ∵ fsplit ! $ rewrite ! 0 (λ (k : ℕ). ‵ (cell (R E) b k c)) here refl $ done !
  cell_out (c ∷ cs) (suc i) o at e lt =
      let e' : at ≡ suc i * s + o = e in
      qed 𝓛 (‵ (row (R E) b o (c ∷ cs)) ∷ []) ∵ fsplit ! $ move ! (1 ∷ []) $
      use1 𝓛 (‵ (cell (R E) b at (get_or cs i None)) ⊛ ‵ (others E b (o + s) cs i)) (cell_out cs i (o + s) at (omega (arith, suc-mul i s)) (omega arith)) $
      split ! $ frame ! $ move ! (1 ∷ 0 ∷ []) $ fjoin ! $ done !

  pub cell_in : (cs : Held E) (i o at : ℕ) → at ≡ i * s + o → i < length cs → (c : Option (el_x E)) → ent 𝓤 (sep 𝓤 (sem 𝓛 (cell (R E) b at c)) (sem 𝓛 (others E b o cs i))) (sem 𝓛 (row (R E) b o (set cs i c)))
  cell_in [] i o at e lt c = absurd (omega arith)
  cell_in (d ∷ cs) zero o at e lt c =
      let here : at ≡ o = omega (arith, zero-mul s) in
      qed 𝓛 (‵ (cell (R E) b at c) ∷ ‵ (others E b o (d ∷ cs) zero) ∷ []) ∵ rewrite ! 0 (λ (k : ℕ). ‵ (cell (R E) b k c)) here refl $ fjoin ! $ done !
  cell_in (d ∷ cs) (suc i) o at e lt c =
      let e' : at ≡ suc i * s + o = e in
      qed 𝓛 (‵ (cell (R E) b at c) ∷ ‵ (others E b o (d ∷ cs) (suc i)) ∷ []) ∵ move ! (1 ∷ []) $ fsplit ! $ move ! (2 ∷ 1 ∷ []) $
      use2 𝓛 (‵ (row (R E) b (o + s) (set cs i c))) (cell_in cs i (o + s) at (omega (arith, suc-mul i s)) (omega arith) c) $ move ! (1 ∷ 0 ∷ []) $ fjoin ! $ done !

  -- room for an array is a row of empty cells
  pub row_of_room : (n o : ℕ) → ent 𝓤 (H.room (ty_array (elτ E) n) b o) (sem 𝓛 (row (R E) b o (replicate n None)))
  row_of_room zero o = qed 𝓛 (‵ (froom (ty_array (elτ E) 0) b o) ∷ []) ∵ keep ! [] $ done !
  row_of_room (suc n) o = qed 𝓛 (‵ (froom (ty_array (elτ E) (suc n)) b o) ∷ []) ∵
      use1 𝓛 (‵ (froom (elτ E) b o) ⊛ ‵ (froom (ty_array (elτ E) n) b (o + s))) (𝓛.laws.room_uncons (elτ E) n b o) $ split ! $
      use1 𝓛 (‵ (cell (R E) b o None)) (𝓛.laws.room-raw (elτ E) b o) $ frame ! $ by ! (row_of_room n (o + s))

  pub room_of_row : (n o : ℕ) → ent 𝓤 (sem 𝓛 (row (R E) b o (replicate n None))) (H.room (ty_array (elτ E) n) b o)
  room_of_row zero o = 𝓛.laws.room_nil (elτ E) b o
  room_of_row (suc n) o = qed 𝓛 (‵ (cell (R E) b o None) ∷ ‵ (row (R E) b (o + s) (replicate n None)) ∷ []) ∵
      use1 𝓛 (‵ (froom (elτ E) b o)) (𝓛.laws.raw-room (elτ E) b o) $ move ! (1 ∷ []) $
      use1 𝓛 (‵ (froom (ty_array (elτ E) n) b (o + s))) (room_of_row n (o + s)) $ move ! (1 ∷ []) $ by ! (𝓛.laws.room_cons (elτ E) n b o)

  pub cell_is_seen : (κ : Lft) (cs : Held E) (i o at : ℕ) → at ≡ i * s + o → i < length cs → ent 𝓤 (sem 𝓛 (row_seen (R E) b o cs κ)) (sem 𝓛 (cell_seen (R E) b at (get_or cs i None) κ))
  cell_is_seen κ [] i o at e lt = absurd (omega arith)
  cell_is_seen κ (c ∷ cs) zero o at e lt =
      let here : o ≡ at = omega (arith, zero-mul s) in
      qed 𝓛 (‵ (row_seen (R E) b o (c ∷ cs) κ) ∷ []) ∵ fsplit ! $ keep ! (0 ∷ []) $ rewrite ! 0 (λ (k : ℕ). ‵ (cell_seen (R E) b k c κ)) here refl $ done !
  cell_is_seen κ (c ∷ cs) (suc i) o at e lt =
      let e' : at ≡ suc i * s + o = e in
      qed 𝓛 (‵ (row_seen (R E) b o (c ∷ cs) κ) ∷ []) ∵ fsplit ! $ keep ! (1 ∷ []) $ by ! (cell_is_seen κ cs i (o + s) at (omega (arith, suc-mul i s)) (omega arith))

module _ (E : El) {M : Type 1} {𝓤 : Ura M} {𝓛 : Logic 𝓤} {K : Type 0} {Γ : List (Item 𝓤)} {G : Goal 𝓤 𝓛.H} where
  -- what is owned of a `Cells` is its word and its row
  pub cells_had : K → (d : Cells (el_x E)) (vs : List Val)
      → ((b o : ℕ) → d.start ≡ block_ptr b o → vs ≡ word (block_ptr b o) ∷ [] → length d.held * sz E < 2 ^ 63 → Seq K 𝓛 (‵ (row (R E) b o d.held) ∷ Γ) G)
      → Seq K 𝓛 (‵ ((Cs E).own_val d vs) ∷ Γ) G
  cells_had t d vs k =
      fsplit t $ fpick t (λ vss. fsplit t $ feq_l t (λ whole. fsplit t $ feq_l t (λ part. drop t $
      in_a_block t d.start (λ p. cells_own (R E) p d.held) (id⊢ 𝓤 (never 𝓤)) (λ b o at. fsplit t $ flt_l t (λ fit.
      k b o at (whole ∙ ((λ i. vstruct (of_list (part i ++ [])) ∷ []) ∙ ap (λ (p : Ptr). word p ∷ []) at)) fit)))))

  pub cells_made : K → (d : Cells (el_x E)) (b o : ℕ) → d.start ≡ block_ptr b o → length d.held * sz E < 2 ^ 63
      → Step K 𝓛 (‵ ((Cs E).own_val d (word (block_ptr b o) ∷ [])) ∷ Γ) G (‵ (row (R E) b o d.held) ∷ Γ) G
  cells_made t d b o at fit = step (λ s.
      flt_i t (length d.held * sz E) (2 ^ 63) fit $ fjoin t $
      nothing t $ feq_i t (List Val) (ptr_val (block_ptr b o) ∷ []) (ptr_val (block_ptr b o) ∷ []) refl $ fjoin t $ feq_i t (List Val) (word (block_ptr b o) ∷ []) (word (block_ptr b o) ∷ []) refl $ fjoin t $
      fpack t (Valss (shape (C.the_type (R E))).fields) (within (shape (C.the_type (R E))) (block_ptr b o, tt) (word (block_ptr b o) ∷ [])) (ptr_val (block_ptr b o) ∷ [], tt) $ fjoin t $
      rewrite t 0 (λ (p : Ptr). ‵ (fsep ((Start E).own_val (p, tt) (word (block_ptr b o) ∷ [])) (cells_own (R E) p d.held))) (sym at) refl $ s)

module _ (E : El) {M : Type 1} {𝓤 : Ura M} {𝓛 : Logic 𝓤} {K : Type 0} {Γ : List (Item 𝓤)} {G : Goal 𝓤 𝓛.H} where
  -- [the row; the word's cell; the open borrow; obs; auth]
  pub cells_open : K → Soaks G → {κ : Lft} {q : Share} {γ : GName} (d : Cells (el_x E)) (rb ro : ℕ)
      → ((b o : ℕ) → d.start ≡ block_ptr b o → length d.held * sz E < 2 ^ 63
      → Seq K 𝓛 (‵ (row (R E) b o d.held) ∷ ‵ (cell_at full_share (Cs E).mir (word (block_ptr b o) ∷ []) rb ro) ∷ ‵ (fobor κ q (Body (mem (Cs E)) rb ro γ)) ∷ ‵ (fobs γ ((Cs E).coded.code d)) ∷ ‵ (fauth γ ((Cs E).coded.code d)) ∷ Γ) G)
      → Seq K 𝓛 (‵ (fobs γ ((Cs E).coded.code d)) ∷ ‵ (fbor κ (Body (mem (Cs E)) rb ro γ)) ∷ ‵ (flft κ q) ∷ Γ) G
  cells_open t z d rb ro k =
      opens t z (Cs E) {h = d} rb ro (λ vs. move t (1 ∷ []) $ cells_had E t d vs (λ b o at is fit.
      rewrite t 1 (λ (ws : List Val). ‵ (cell_at full_share (Cs E).mir ws rb ro)) is refl $ k b o at fit))

  pub cells_close : K → Soaks G → {κ : Lft} {q : Share} {u v : Gv} {γ : GName} (d : Cells (el_x E)) (b o rb ro : ℕ) → d.start ≡ block_ptr b o → length d.held * sz E < 2 ^ 63
      → Step K 𝓛 (‵ (fobs γ ((Cs E).coded.code d)) ∷ ‵ (fbor κ (Body (mem (Cs E)) rb ro γ)) ∷ ‵ (flft κ q) ∷ Γ) G
      (‵ (row (R E) b o d.held) ∷ ‵ (cell_at full_share (Cs E).mir (word (block_ptr b o) ∷ []) rb ro) ∷ ‵ (fobor κ q (Body (mem (Cs E)) rb ro γ)) ∷ ‵ (fobs γ u) ∷ ‵ (fauth γ v) ∷ Γ) G
  cells_close t z d b o rb ro at fit = step (λ s. cells_made E t d b o at fit $ move t (1 ∷ 0 ∷ []) $ closes t z (Cs E) d (word (block_ptr b o) ∷ []) rb ro $ s)

module _ (E : El) {M : Type 1} {𝓤 : Ura M} (𝓛 : Logic 𝓤) (κ : Lft) where
  -- what a `&` to a `Cells` shows: its word, and the values
  pub cells_seen : (d : Cells (el_x E)) (b o : ℕ) → ent 𝓤 (sem 𝓛 (hidden_shr (Cs E) κ d b o)) (sep 𝓤 (sem 𝓛 (hidden_shr RawPtr κ d.start b (o + 0))) (sem 𝓛 (cells_lent (R E) d.start d.held κ)))
  cells_seen d b o = qed 𝓛 (‵ (hidden_shr (Cs E) κ d b o) ∷ []) ∵
      use1 𝓛 (‵ (hidden_shr (Start E) κ (d.start, tt) b o) ⊛ ‵ (fhide (C.the_lent (R E) d d.start κ))) (lent_out 𝓛 (C.struct (R E)) (C.the_codes (el_x E) (R E).coded) (C.the_heap (R E)) (C.the_lent (R E)) κ d b o) $ split ! $
      unhide ! $ fsplit ! $ fsplit ! $ keep ! (0 ∷ 3 ∷ []) $ done !
