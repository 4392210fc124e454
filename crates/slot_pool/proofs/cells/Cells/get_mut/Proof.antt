-- `get_mut` lends a value, and the cells end with what was written through the loan.
use Rattle.slot_pool.proofs.Steps.{◌≡◌, refl, sym, subst, ℕ, ◌+◌, ◌*◌, ◌<◌, ◌^◌, List, [], ◌∷◌, length, get_or, length-set, Ura, full_share, SProp, ent, sep, Fml, GName, ftrue, fsep, flft, Fn, w64, named, inst_fn, Val, vptr, vint, Memory, Routine, Env, WpFn, Tables, WpFn-mono, Logic, sem, ‵, raw, ◌⊛◌, some, later, at_ret, ◌$◌, ◌∵◌, !, qed, move, keep, drop, use1, use2, split, split3, join, pick, await, rewrite, group, frame, fsplit, fsplit3, fjoin, fpack, suffices, done, whole, sub, look_in, stop, fld, load, addr, size_lit, of_opd, bin, first, blocks, exec, returns, enter, alloc_all, pass_all, free_all, look_at, get, through, sets, sets_last, env, ◌⊑◌, Fun, fact, usize, yes, no, cell_at, mem, uint_vals, uint_Tells, owns, block_ptr, MutRef, mut_vals, mut_Tells, plain, types_at, heard, nothing, Clauses, Ended, closing, Meets, triple_of, entered, says, Stays, stay_dropped, walk_of, ends_at, walked, Goes-dropped, walk_Meets, Option, Some, None, El, R, args, el_x, word, after, IsHeld, cell, row, Cells, near}
use contract.Running.{tables, tables_of}
use denote.Builtin.{RefMutOf}
use denote.Ref.{MutBor}
use denote.Memory.{part_of}
use denote.Follow.{follows, lends_Part}
use denote.Triple.Walked.{Goes-spent_ref}
use Rattle.slot_pool.specs.CellsLends.{with_held}
use Rattle.slot_pool.proofs.Rows.{Cs, sz, others, held_within, cell_out, cell_in, cells_open, cells_made}
use Rattle.slot_pool.specs.contracts.cells.Cells.get_mut as F
use Rattle.slot_pool.specs.contracts.cells.Cells.get_mut.Key.{name as key}
use Rattle.slot_pool.proofs.cells.Cells.get_mut.Statement as stated
use Rattle.slot_pool.proofs.cells.Cells.get_mut.Code as code

module _ (E : El) {M : Type 1} {𝓤 : Ura M} (𝓛 : Logic 𝓤) (rb ro b o : ℕ) (d : Cells (el_x E)) (i : ℕ) where
  -- all that the loan leaves behind
  abbrev Rest : Fml
  Rest = fsep (others E b o d.held i) (cell_at full_share (Cs E).mir (word (block_ptr b o) ∷ []) rb ro)

  comes_back : d.start ≡ block_ptr b o → length d.held * sz E < 2 ^ 63 → i < length d.held → (w : el_x E)
      → ent 𝓤 (sep 𝓤 (sem 𝓛 ((mem (R E)).own_at w b (i * sz E + o))) (sem 𝓛 Rest)) (sem 𝓛 ((mem (Cs E)).own_at (with_held d i w) rb ro))
  unfolding part_of
  comes_back at fit within w =
      let new = with_held d i w in
      qed 𝓛 (‵ (cell (R E) b (i * sz E + o) (Some w)) ∷ ‵ Rest ∷ []) ∵ move ! (1 ∷ []) $ fsplit ! $ move ! (2 ∷ 0 ∷ []) $
      use2 𝓛 (‵ (row (R E) b o new.held)) (cell_in E 𝓛 b d.held i o (i * sz E + o) refl within (Some w)) $
      cells_made E ! new b o at (subst (λ n. n * sz E < 2 ^ 63) (sym (length-set d.held i (Some w))) fit) $ move ! (1 ∷ 0 ∷ []) $ fjoin ! $
      fpack ! (List Val) (λ us. fsep (cell_at full_share (Cs E).mir us rb ro) ((Cs E).own_val new us)) (word (block_ptr b o) ∷ []) $ done !

module _ (E : El) where
  abbrev here : Fn
  here = inst_fn (args E) code.function

  abbrev ended : Ended
  ended = F.ended E.row

  abbrev stayed : Stays ended.signature.params ended.kept
  stayed = (stay_dropped (RefMutOf (0 ∷ []) tt (plain (λ _. Cs E)) (λ _. tt)) no, (stay_dropped (plain (λ _. usize)) yes, tt))

  module _ {M : Type 1} {𝓤 : Ura M} (𝓛 : Logic 𝓤) (at_mem : Memory → SProp 𝓤) (run : Routine → Fun 𝓤) (𝓣 : Tables 𝓤 𝓛.H) where
    open 𝓛 use {H}

    abbrev clauses : Clauses 𝓤 ended
    clauses = F.clauses E.row 𝓛 at_mem run

    abbrev Bound : Type 0
    Bound = (walk_of 𝓛 ended stayed clauses).Ghost

    abbrev passed : Bound → Bound
    passed z = ((z.0.0, z.0.1, z.0.2, z.0.3, (mut_vals z.0.3.0, (uint_vals w64 z.0.3.1.0, tt))), z.1)

    walk : (z : Bound) → z.0.3.1.0 < 2 ^ 64
        → ent 𝓤 ((walk_of 𝓛 ended stayed clauses).pre (passed z)) (WpFn 𝓤 H 𝓣.C 𝓣.Λ here ((walk_of 𝓛 ended stayed clauses).args (passed z)) ((walk_of 𝓛 ended stayed clauses).post (passed z)))
    walk z fits =
        let κ = z.0.0.0 in let κ₁ = z.0.0.1.0 in let q = z.0.1.0 in let q₁ = z.0.1.1.0 in
        let rb : ℕ = z.0.3.0.ref_ptr.0 in let ro : ℕ = z.0.3.0.ref_ptr.1 in let γ : GName = z.0.3.0.ghost_name in let d : Cells (el_x E) = z.0.3.0.now in let i : ℕ = z.0.3.1.0 in
        let Post : Val → SProp 𝓤 = (walk_of 𝓛 ended stayed clauses).post (passed z) in
        qed 𝓛 (((‵ (flft κ q) ⊛ ‵ (flft κ₁ q₁) ⊛ ‵ ftrue) ⊛ ‵ (owns (types_at ended.signature.params z.0.0) z.0.3 (passed z).0.4)) ∷ (raw (fact 𝓤 (κ₁ ⊑ E.row.lives)) ⊛ raw (fact 𝓤 (IsHeld d.held i))) ∷ []) ∵
        move ! (1 ∷ []) $ split ! $ drop ! $ heard ! (IsHeld d.held i) (λ asked.
        let x : el_x E = asked.0 in let within = held_within d.held i x asked.1 in
        split ! $ split ! $ move ! (2 ∷ []) $ fsplit ! $ fsplit3 ! $ keep ! (1 ∷ 2 ∷ 4 ∷ 5 ∷ []) $
        enter ! 𝓣.C 𝓣.Λ here (vptr rb ro ∷ vint w64 i ∷ []) _ $ alloc_all ! (λ l. pass_all ! refl ((tt, tt), ((tt, record { fits = fits }), tt)) $
        let En : Env 𝓤 H = env here.locals l in
        cells_open E ! tt d rb ro (λ b o at fit.
        let s = sz E in let small = near i (length d.held) s within fit in let place = i * s + o in let loan : GName → MutBor (el_x E) = λ δ. record { ref_ptr = (b, place); ghost_name = δ; now = x } in
        -- [the row; the word; the open borrow; obs; auth; the other token]
        first ! $ blocks ! $
        sets ! (of_opd ! (load ! (through ! refl (fld ! refl (stop !))) (look_in ! 1 (sub ! 0 refl (whole !))))) refl (tt, tt) $
        sets ! (bin ! (get ! refl) (size_lit ! (record { fits = small.0 })) (record { fits = small.1 })) refl (tt, record { fits = small.1 }) $
        sets ! (bin ! (get ! refl) (get ! refl) tt) refl (tt, tt) $ sets_last ! (addr ! (through ! refl (stop !))) refl (tt, tt) $
        exec ! 𝓣.C 𝓣.Λ En (after 1 here.body) (at_ret En Post) $ sets ! (of_opd ! (get ! refl)) refl (tt, tt) $
        use1 𝓛 (‵ (cell (R E) b place (get_or d.held i None)) ⊛ ‵ (others E b o d.held i)) (cell_out E 𝓛 b d.held i o place refl within) $ split ! $
        rewrite ! 0 (λ (c : Option (el_x E)). ‵ (cell (R E) b place c)) asked.1 refl $
        move ! (1 ∷ 2 ∷ []) $ fjoin ! $ move ! (2 ∷ 3 ∷ 4 ∷ 1 ∷ 0 ∷ []) $ group ! 5 $
        use1 𝓛 (later (some (λ (δ : GName). ‵ ((MutRef (named 0) κ (R E)).own_val (loan δ) (vptr b place ∷ [])) ⊛ ‵ (flft κ q) ⊛ ‵ (follows (Cs E) (R E) γ δ (with_held d i)))))
        (lends_Part 𝓛 (Cs E) (R E) (with_held d i) (named 0) κ q rb ro b place γ (sem 𝓛 (Rest E 𝓛 rb ro b o d i)) (comes_back E 𝓛 rb ro b o d i at fit within) ((Cs E).coded.code d) ((Cs E).coded.code d) x) $
        await ! tt $ pick ! (λ δ. split3 ! $ returns ! (look_at ! 0 refl) $ free_all ! refl $
        suffices ! _ (ends_at 𝓛 ended stayed clauses (passed z) (vptr b place) (loan δ) (tt, (tt, tt)) (tt, (tt, tt))) $
        nothing ! $ nothing ! $ fjoin ! $ nothing ! $ fjoin ! $ join ! $ move ! (1 ∷ 3 ∷ []) $ join ! $ join ! $ frame ! $ says ! asked.1 $ keep ! (0 ∷ []) $ done !))))

    meets : Meets 𝓛 ended.signature (WpFn 𝓤 H 𝓣.C 𝓣.Λ here) (closing 𝓛 ended clauses)
    meets =
        walk_Meets 𝓛 ended stayed (Goes-spent_ref 𝓛 2 (0 ∷ []) tt (plain (λ _. Cs E)), (Goes-dropped 𝓛 2 (plain (λ _. usize)) yes (λ κs x f. refl), tt)) clauses (WpFn 𝓤 H 𝓣.C 𝓣.Λ here) (WpFn-mono 𝓤 H 𝓛.laws 𝓣 here)
        (walked 𝓛 ended stayed clauses (WpFn 𝓤 H 𝓣.C 𝓣.Λ here) (λ κs. (mut_vals, (uint_vals w64, tt))) (λ κs. (mut_Tells (named 0) κs.0 (Cs E), (uint_Tells w64, tt)))
        (λ κs qs bounds a g are. walk ((κs, qs, bounds, a, (mut_vals a.0, (uint_vals w64 a.1.0, tt))), g) are.1.0.1))

pub get_mut_spec : {M : Type 1} → stated.statement M
unfolding tables_of
get_mut_spec 𝓤 𝓛 𝓜 𝓡 wired X L =
    let E : El = record { row = X; laws = L } in
    let 𝓣 : Tables 𝓤 𝓛.H = tables_of 𝓤 𝓛.H 𝓜 (tables 𝓤 𝓛.H 𝓜 𝓡 𝓡.env) in
    entered 𝓤 𝓛.H (triple_of 𝓛 (F.signature X) (F.spec X 𝓛 𝓜.mem 𝓡.returns)) 𝓣.C 𝓣.Λ (key (args E)) (here E) (code.unfolded 𝓤 𝓛.H 𝓜 𝓡 wired (X, tt))
    (meets E 𝓛 𝓜.mem 𝓡.returns 𝓣)
