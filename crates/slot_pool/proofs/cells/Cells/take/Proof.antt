-- `take` moves a value out, and leaves its cell empty.
use Rattle.slot_pool.proofs.Steps.{refl, sym, subst, ℕ, ◌+◌, ◌*◌, ◌<◌, ◌^◌, List, [], ◌∷◌, length, get_or, set, length-set, Ura, full_share, SProp, ent, ftrue, fat, flft, Fn, w64, inst_fn, Val, vptr, vint, Memory, Routine, Env, WpFn, Tables, WpFn-mono, Logic, ‵, raw, ◌⊛◌, some, given, at_ret, ◌$◌, ◌∵◌, !, qed, move, keep, drop, use1, use2, split, join, pick, learn, rewrite, fsplit, fsplit3, fjoin, fjoin3, feq_i, suffices, done, whole, sub, look_in, look, forget, stop, fld, load, size_lit, of_opd, bin, first, blocks, exec, returns, enter, alloc_all, pass_all, free_all, look_at, get, through, sets, sets_last, env, ◌⊑◌, Fun, fact, usize, yes, uint_vals, uint_Tells, owns, mut_vals, mut_Tells, named, plain, types_at, heard, nothing, Clauses, Ended, closing, Meets, triple_of, entered, Stays, stay_dropped, stay_ref, walk_of, ends_at, walked, Goes-dropped, Goes-ref, walk_Meets, Option, None, El, R, args, el_x, elτ, Good, says_two, after, IsHeld, cell, row, Cells, near}
use contract.Running.{tables, tables_of}
use Rattle.core.proofs.slice.Rows.{el_out}
use Rattle.slot_pool.proofs.Rows.{Cs, sz, others, held_within, cell_out, cell_in, cells_open, cells_close}
use Rattle.slot_pool.specs.contracts.cells.Cells.take as F
use Rattle.slot_pool.specs.contracts.cells.Cells.take.Key.{name as key}
use Rattle.slot_pool.proofs.cells.Cells.take.Statement as stated
use Rattle.slot_pool.proofs.cells.Cells.take.Code as code

module _ (E : El) where
  abbrev here : Fn
  here = inst_fn (args E) code.function

  abbrev ended : Ended
  ended = F.ended E.row

  abbrev stayed : Stays ended.signature.params ended.kept
  stayed = (stay_ref (0 ∷ []) tt (plain (λ _. Cs E)), (stay_dropped (plain (λ _. usize)) yes, tt))

  module _ {M : Type 1} {𝓤 : Ura M} (𝓛 : Logic 𝓤) (at_mem : Memory → SProp 𝓤) (run : Routine → Fun 𝓤) (𝓣 : Tables 𝓤 𝓛.H) where
    open 𝓛 use {H}

    abbrev clauses : Clauses 𝓤 ended
    clauses = F.clauses E.row 𝓛 at_mem run

    abbrev Bound : Type 0
    Bound = (walk_of 𝓛 ended stayed clauses).Ghost

    abbrev passed : Bound → Bound
    passed z = ((z.0.0, z.0.1, z.0.2, z.0.3, (mut_vals z.0.3.0, (uint_vals w64 z.0.3.1.0, tt))), z.1)

    walk : (z : Bound) → z.0.3.1.0 < 2 ^ 64
        → ent 𝓤 ((walk_of 𝓛 ended stayed clauses).pre (passed z)) (WpFn 𝓤 H 𝓣.C 𝓣.Λ here ((walk_of 𝓛 ended stayed clauses).args (passed z)) ((walk_of 𝓛 ended stayed clauses).post (passed z)))
    walk z fits =
        let κ = z.0.0.0 in let κ₁ = z.0.0.1.0 in let q = z.0.1.0 in let q₁ = z.0.1.1.0 in
        let rb : ℕ = z.0.3.0.ref_ptr.0 in let ro : ℕ = z.0.3.0.ref_ptr.1 in let d : Cells (el_x E) = z.0.3.0.now in let i : ℕ = z.0.3.1.0 in
        let Post : Val → SProp 𝓤 = (walk_of 𝓛 ended stayed clauses).post (passed z) in
        let new : Cells (el_x E) = record { start = d.start; held = set d.held i None } in
        qed 𝓛 (((‵ (flft κ q) ⊛ ‵ (flft κ₁ q₁) ⊛ ‵ ftrue) ⊛ ‵ (owns (types_at ended.signature.params z.0.0) z.0.3 (passed z).0.4)) ∷ (raw (fact 𝓤 (κ₁ ⊑ E.row.lives)) ⊛ raw (fact 𝓤 (IsHeld d.held i))) ∷ []) ∵
        move ! (1 ∷ []) $ split ! $ drop ! $ heard ! (IsHeld d.held i) (λ asked.
        let x : el_x E = asked.0 in let within = held_within d.held i x asked.1 in
        split ! $ split ! $ move ! (2 ∷ []) $ fsplit ! $ fsplit3 ! $ keep ! (1 ∷ 2 ∷ 4 ∷ 5 ∷ []) $
        enter ! 𝓣.C 𝓣.Λ here (vptr rb ro ∷ vint w64 i ∷ []) _ $ alloc_all ! (λ l. pass_all ! refl ((tt, tt), ((tt, record { fits = fits }), tt)) $
        let En : Env 𝓤 H = env here.locals l in
        cells_open E ! tt d rb ro (λ b o at fit.
        let s = sz E in let small = near i (length d.held) s within fit in let place = i * s + o in
        use1 𝓛 (‵ (cell (R E) b place (get_or d.held i None)) ⊛ ‵ (others E b o d.held i)) (cell_out E 𝓛 b d.held i o place refl within) $ split ! $
        rewrite ! 0 (λ (c : Option (el_x E)). ‵ (cell (R E) b place c)) asked.1 refl $
        use1 𝓛 (some (λ (v : Val). given (Good E v) (‵ (fat full_share (elτ E) b place v) ⊛ ‵ (E.row.own_val x (v ∷ []))))) (el_out E 𝓛 b x place) $
        pick ! (λ v. learn ! (λ good. split ! $
        -- [the value's cell; what it owns; the other cells; the word; the open borrow; obs; auth; the other token]
        first ! $ blocks ! $
        sets ! (of_opd ! (load ! (through ! refl (fld ! refl (stop !))) (look_in ! 3 (sub ! 0 refl (whole !))))) refl (tt, tt) $
        sets ! (bin ! (get ! refl) (size_lit ! (record { fits = small.0 })) (record { fits = small.1 })) refl (tt, record { fits = small.1 }) $
        sets ! (bin ! (get ! refl) (get ! refl) tt) refl (tt, tt) $
        sets_last ! (of_opd ! (load ! (through ! refl (stop !)) (look ! 0 refl))) refl good $
        exec ! 𝓣.C 𝓣.Λ En (after 1 here.body) (at_ret En Post) $ sets ! (of_opd ! (get ! refl)) refl good $
        forget ! 0 refl $ use1 𝓛 (‵ (cell (R E) b place None)) (𝓛.laws.room-raw (elτ E) b place) $ move ! (0 ∷ 2 ∷ []) $
        use2 𝓛 (‵ (row (R E) b o new.held)) (cell_in E 𝓛 b d.held i o place refl within None) $ move ! (0 ∷ 2 ∷ 3 ∷ 4 ∷ 5 ∷ []) $
        cells_close E ! tt new b o rb ro at (subst (λ n. n * s < 2 ^ 63) (sym (length-set d.held i None)) fit) $
        returns ! (look_at ! 0 refl) $ free_all ! refl $
        -- [obs; the borrow; the token; what the value owns; the other token]
        suffices ! _ (ends_at 𝓛 ended stayed clauses (passed z) v x (new, (tt, tt)) (tt, (tt, tt))) $ says_two ! (asked.1, (refl, refl)) $
        feq_i ! (List Val) (vptr rb ro ∷ []) (vptr rb ro ∷ []) refl $ fjoin3 ! $ nothing ! $ nothing ! $ fjoin ! $ move ! (1 ∷ 0 ∷ []) $ fjoin ! $
        move ! (1 ∷ 3 ∷ []) $ join ! $ keep ! (0 ∷ 1 ∷ 2 ∷ []) $ done !)))))

    meets : Meets 𝓛 ended.signature (WpFn 𝓤 H 𝓣.C 𝓣.Λ here) (closing 𝓛 ended clauses)
    meets =
        walk_Meets 𝓛 ended stayed (Goes-ref 𝓛 2 0 tt (plain (λ _. Cs E)), (Goes-dropped 𝓛 2 (plain (λ _. usize)) yes (λ κs x f. refl), tt)) clauses (WpFn 𝓤 H 𝓣.C 𝓣.Λ here) (WpFn-mono 𝓤 H 𝓛.laws 𝓣 here)
        (walked 𝓛 ended stayed clauses (WpFn 𝓤 H 𝓣.C 𝓣.Λ here) (λ κs. (mut_vals, (uint_vals w64, tt))) (λ κs. (mut_Tells (named 0) κs.0 (Cs E), (uint_Tells w64, tt)))
        (λ κs qs bounds a g are. walk ((κs, qs, bounds, a, (mut_vals a.0, (uint_vals w64 a.1.0, tt))), g) are.1.0.1))

pub take_spec : {M : Type 1} → stated.statement M
unfolding tables_of
take_spec 𝓤 𝓛 𝓜 𝓡 wired X L =
    let E : El = record { row = X; laws = L } in
    let 𝓣 : Tables 𝓤 𝓛.H = tables_of 𝓤 𝓛.H 𝓜 (tables 𝓤 𝓛.H 𝓜 𝓡 𝓡.env) in
    entered 𝓤 𝓛.H (triple_of 𝓛 (F.signature X) (F.spec X 𝓛 𝓜.mem 𝓡.returns)) 𝓣.C 𝓣.Λ (key (args E)) (here E) (code.unfolded 𝓤 𝓛.H 𝓜 𝓡 wired (X, tt))
    (meets E 𝓛 𝓜.mem 𝓡.returns 𝓣)
