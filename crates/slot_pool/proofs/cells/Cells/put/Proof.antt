-- `put` writes a value into an empty cell.
use Rattle.slot_pool.proofs.Steps.{◌≡◌, refl, sym, subst, ℕ, ◌+◌, ◌*◌, ◌<◌, ◌^◌, List, [], ◌∷◌, length, get_or, set, length-set, Ura, SProp, ent, ftrue, froom, flft, Fn, w64, inst_fn, Val, vptr, vint, vunit, Memory, Routine, Env, WpFn, Tables, WpFn-mono, Logic, ‵, raw, ◌⊛◌, at_ret, ◌$◌, ◌∵◌, !, qed, move, keep, drop, use1, use2, split, join, rewrite, fsplit, fsplit3, fjoin, fjoin3, feq_i, suffices, done, whole, sub, look_in, init, stop, fld, load, size_lit, unit_lit, of_opd, bin, assigns_last, first, blocks, exec, returns, enter, alloc_all, pass_all, free_all, look_at, get, through, sets, env, ◌⊑◌, Fun, fact, usize, yes, no, owns, plain, types_at, heard, nothing, Clauses, Ended, closing, Vals, Meets, triple_of, entered, says, Stays, stay_dropped, stay_ref, walk_of, ends_at, Goes-dropped, Goes-ref, walk_Meets, Option, Some, None, El, R, args, el_x, elτ, Good, lawful, one, after, knowing, cell, row, Cells, near}
use contract.Running.{tables, tables_of}
use Rattle.core.proofs.slice.Rows.{el_in}
use Rattle.slot_pool.proofs.Rows.{Cs, sz, others, cell_out, cell_in, cells_open, cells_close}
use Rattle.slot_pool.specs.contracts.cells.Cells.put as F
use Rattle.slot_pool.specs.contracts.cells.Cells.put.Key.{name as key}
use Rattle.slot_pool.proofs.cells.Cells.put.Statement as stated
use Rattle.slot_pool.proofs.cells.Cells.put.Code as code

module _ (E : El) where
  abbrev here : Fn
  here = inst_fn (args E) code.function

  abbrev ended : Ended
  ended = F.ended E.row

  abbrev stayed : Stays ended.signature.params ended.kept
  stayed = (stay_ref (0 ∷ []) tt (plain (λ _. Cs E)), (stay_dropped (plain (λ _. usize)) yes, (stay_dropped (plain (λ _. R E)) no, tt)))

  module _ {M : Type 1} {𝓤 : Ura M} (𝓛 : Logic 𝓤) (at_mem : Memory → SProp 𝓤) (run : Routine → Fun 𝓤) (𝓣 : Tables 𝓤 𝓛.H) where
    open 𝓛 use {H}

    abbrev clauses : Clauses 𝓤 ended
    clauses = F.clauses E.row 𝓛 at_mem run

    abbrev Bound : Type 0
    Bound = (walk_of 𝓛 ended stayed clauses).Ghost

    abbrev Runs : Bound → Type 1
    Runs y = ent 𝓤 ((walk_of 𝓛 ended stayed clauses).pre y) (WpFn 𝓤 H 𝓣.C 𝓣.Λ here ((walk_of 𝓛 ended stayed clauses).args y) ((walk_of 𝓛 ended stayed clauses).post y))

    abbrev with_values : (z : Bound) → Vals ended.signature z.0.0 → Bound
    with_values z vss = ((z.0.0, z.0.1, z.0.2, z.0.3, vss), z.1)

    abbrev passed : Bound → Val → Bound
    passed z v = with_values z (vptr z.0.3.0.ref_ptr.0 z.0.3.0.ref_ptr.1 ∷ [], (vint w64 z.0.3.1.0 ∷ [], (v ∷ [], tt)))

    walk : (z : Bound) → z.0.3.1.0 < 2 ^ 64 → (v : Val) → Good E v → Runs (passed z v)
    walk z fits v good =
        let κ = z.0.0.0 in let κ₁ = z.0.0.1.0 in let q = z.0.1.0 in let q₁ = z.0.1.1.0 in
        let rb : ℕ = z.0.3.0.ref_ptr.0 in let ro : ℕ = z.0.3.0.ref_ptr.1 in let d : Cells (el_x E) = z.0.3.0.now in let i : ℕ = z.0.3.1.0 in let x : el_x E = z.0.3.1.1.0 in
        let Post : Val → SProp 𝓤 = (walk_of 𝓛 ended stayed clauses).post (passed z v) in
        let Asks : Type 0 = (i < length d.held) × (get_or d.held i None ≡ None) in
        let new : Cells (el_x E) = record { start = d.start; held = set d.held i (Some x) } in
        qed 𝓛 (((‵ (flft κ q) ⊛ ‵ (flft κ₁ q₁) ⊛ ‵ ftrue) ⊛ ‵ (owns (types_at ended.signature.params z.0.0) z.0.3 (passed z v).0.4)) ∷ (raw (fact 𝓤 (κ₁ ⊑ E.row.lives)) ⊛ raw (fact 𝓤 Asks)) ∷ []) ∵
        move ! (1 ∷ []) $ split ! $ drop ! $ heard ! Asks (λ asked.
        split ! $ split ! $ move ! (2 ∷ []) $ fsplit3 ! $ fsplit3 ! $ move ! (4 ∷ []) $ fsplit ! $ keep ! (3 ∷ 4 ∷ 6 ∷ 0 ∷ 7 ∷ []) $
        enter ! 𝓣.C 𝓣.Λ here (vptr rb ro ∷ vint w64 i ∷ v ∷ []) _ $ alloc_all ! (λ l. pass_all ! refl ((tt, tt), ((tt, record { fits = fits }), (good, tt))) $
        let En : Env 𝓤 H = env here.locals l in
        cells_open E ! tt d rb ro (λ b o at fit.
        let s = sz E in let small = near i (length d.held) s asked.0 fit in let place = i * s + o in
        use1 𝓛 (‵ (cell (R E) b place (get_or d.held i None)) ⊛ ‵ (others E b o d.held i)) (cell_out E 𝓛 b d.held i o place refl asked.0) $ split ! $
        rewrite ! 0 (λ (c : Option (el_x E)). ‵ (cell (R E) b place c)) asked.1 refl $ use1 𝓛 (‵ (froom (elτ E) b place)) (𝓛.laws.raw-room (elτ E) b place) $
        -- [the room; the other cells; the word; the open borrow; obs; auth; what x owns; the other token]
        first ! $ blocks ! $
        sets ! (of_opd ! (load ! (through ! refl (fld ! refl (stop !))) (look_in ! 2 (sub ! 0 refl (whole !))))) refl (tt, tt) $
        sets ! (bin ! (get ! refl) (size_lit ! (record { fits = small.0 })) (record { fits = small.1 })) refl (tt, record { fits = small.1 }) $
        sets ! (bin ! (get ! refl) (get ! refl) tt) refl (tt, tt) $ sets ! (of_opd ! (get ! refl)) refl good $
        assigns_last ! (of_opd ! (get ! refl)) (through ! refl (stop !)) (init ! 0 refl good) $
        exec ! 𝓣.C 𝓣.Λ En (after 1 here.body) (at_ret En Post) $ sets ! (of_opd ! (unit_lit !)) refl (tt, tt) $
        move ! (0 ∷ 6 ∷ []) $ use2 𝓛 (‵ (cell (R E) b place (Some x))) (el_in E 𝓛 b x place v) $
        use2 𝓛 (‵ (row (R E) b o new.held)) (cell_in E 𝓛 b d.held i o place refl asked.0 (Some x)) $
        cells_close E ! tt new b o rb ro at (subst (λ n. n * s < 2 ^ 63) (sym (length-set d.held i (Some x))) fit) $
        returns ! (look_at ! 0 refl) $ free_all ! refl $
        suffices ! _ (ends_at 𝓛 ended stayed clauses (passed z v) vunit tt (new, (tt, (tt, tt))) (tt, (tt, (tt, tt)))) $ says ! (refl, refl) $
        feq_i ! (List Val) (vptr rb ro ∷ []) (vptr rb ro ∷ []) refl $ fjoin3 ! $ nothing ! $ nothing ! $ fjoin ! $ nothing ! $ fjoin ! $ move ! (1 ∷ 0 ∷ []) $ fjoin ! $
        move ! (1 ∷ 2 ∷ []) $ join ! $ feq_i ! (List Val) (vunit ∷ []) (vunit ∷ []) refl $ keep ! (1 ∷ 2 ∷ 0 ∷ []) $ done !)))

    meets : Meets 𝓛 ended.signature (WpFn 𝓤 H 𝓣.C 𝓣.Λ here) (closing 𝓛 ended clauses)
    meets =
        walk_Meets 𝓛 ended stayed (Goes-ref 𝓛 2 0 tt (plain (λ _. Cs E)), (Goes-dropped 𝓛 2 (plain (λ _. usize)) yes (λ κs x f. refl), (Goes-dropped 𝓛 2 (plain (λ _. R E)) no (λ κs x f. refl), tt))) clauses
        (WpFn 𝓤 H 𝓣.C 𝓣.Λ here) (WpFn-mono 𝓤 H 𝓛.laws 𝓣 here)
        (λ z. let a = z.0.3 in let vss = z.0.4 in
        knowing 𝓛 ended stayed clauses (WpFn 𝓤 H 𝓣.C 𝓣.Λ here) z (λ are.
        let got = one E vss.1.1.0 ((lawful E 𝓛).typed a.1.1.0 vss.1.1.0 are.1.1.0) in
        subst (λ (uss : Vals ended.signature z.0.0). Runs (with_values z uss)) (sym (λ k. (are.0.0 k, (are.1.0.0 k, (got.1 k, tt))))) (walk z are.1.0.1 got.0 got.2)))

pub put_spec : {M : Type 1} → stated.statement M
unfolding tables_of
put_spec 𝓤 𝓛 𝓜 𝓡 wired X L =
    let E : El = record { row = X; laws = L } in
    let 𝓣 : Tables 𝓤 𝓛.H = tables_of 𝓤 𝓛.H 𝓜 (tables 𝓤 𝓛.H 𝓜 𝓡 𝓡.env) in
    entered 𝓤 𝓛.H (triple_of 𝓛 (F.signature X) (F.spec X 𝓛 𝓜.mem 𝓡.returns)) 𝓣.C 𝓣.Λ (key (args E)) (here E) (code.unfolded 𝓤 𝓛.H 𝓜 𝓡 wired (X, tt))
    (meets E 𝓛 𝓜.mem 𝓡.returns 𝓣)
