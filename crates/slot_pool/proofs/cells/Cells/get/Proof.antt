-- `get` hands on the `&` to a value that a `&` to the cells holds.
use Rattle.slot_pool.proofs.Steps.{refl, ℕ, ◌+◌, ◌*◌, ◌<◌, ◌^◌, List, [], ◌∷◌, length, get_or, Ura, SProp, ent, never, id⊢, ftrue, flft, Fn, w64, named, inst_fn, Val, vptr, vint, Memory, Routine, Env, WpFn, Tables, WpFn-mono, Logic, ‵, raw, ◌⊛◌, at_ret, ◌$◌, ◌∵◌, !, qed, move, keep, drop, use1, split, join, rewrite, fsplit, fjoin, feq_i, flt_l, suffices, done, look, stop, fld, load, addr, size_lit, of_opd, bin, first, blocks, exec, returns, enter, alloc_all, pass_all, free_all, look_at, get, through, sets, sets_last, env, ◌⊑◌, Fun, fact, usize, RefOf, yes, hidden_shr, uint_vals, uint_Tells, owns, RawPtr, in_a_block, shr_vals, shr_Tells, plain, types_at, heard, nothing, Clauses, Ended, closing, Meets, triple_of, entered, says, Stays, stay_dropped, walk_of, ends_at, walked, Goes-dropped, walk_Meets, Option, None, El, R, args, el_x, after, IsHeld, Cells, near}
use contract.Running.{tables, tables_of}
use denote.Opens.{hide}
use Rattle.core.proofs.slots.Lent.{pointer_in, pointer_out}
use Rattle.slot_pool.specs.Ownership.{cell_seen, cells_lent}
use Rattle.slot_pool.proofs.Rows.{Cs, sz, held_within, cell_is_seen, cells_seen}
use Rattle.slot_pool.specs.contracts.cells.Cells.get as F
use Rattle.slot_pool.specs.contracts.cells.Cells.get.Key.{name as key}
use Rattle.slot_pool.proofs.cells.Cells.get.Statement as stated
use Rattle.slot_pool.proofs.cells.Cells.get.Code as code

module _ (E : El) where
  abbrev here : Fn
  here = inst_fn (args E) code.function

  abbrev ended : Ended
  ended = F.ended E.row

  abbrev stayed : Stays ended.signature.params ended.kept
  stayed = (stay_dropped (RefOf (0 ∷ []) tt (plain (λ _. Cs E)) (λ _. tt)) yes, (stay_dropped (plain (λ _. usize)) yes, tt))

  module _ {M : Type 1} {𝓤 : Ura M} (𝓛 : Logic 𝓤) (at_mem : Memory → SProp 𝓤) (run : Routine → Fun 𝓤) (𝓣 : Tables 𝓤 𝓛.H) where
    open 𝓛 use {H}

    abbrev clauses : Clauses 𝓤 ended
    clauses = F.clauses E.row 𝓛 at_mem run

    abbrev Bound : Type 0
    Bound = (walk_of 𝓛 ended stayed clauses).Ghost

    abbrev passed : Bound → Bound
    passed z = ((z.0.0, z.0.1, z.0.2, z.0.3, (shr_vals z.0.3.0, (uint_vals w64 z.0.3.1.0, tt))), z.1)

    walk : (z : Bound) → z.0.3.1.0 < 2 ^ 64
        → ent 𝓤 ((walk_of 𝓛 ended stayed clauses).pre (passed z)) (WpFn 𝓤 H 𝓣.C 𝓣.Λ here ((walk_of 𝓛 ended stayed clauses).args (passed z)) ((walk_of 𝓛 ended stayed clauses).post (passed z)))
    walk z fits =
        let κ = z.0.0.0 in let κ₁ = z.0.0.1.0 in let q = z.0.1.0 in let q₁ = z.0.1.1.0 in
        let rb : ℕ = z.0.3.0.ref_ptr.0 in let ro : ℕ = z.0.3.0.ref_ptr.1 in let d : Cells (el_x E) = z.0.3.0.now in let i : ℕ = z.0.3.1.0 in
        let Post : Val → SProp 𝓤 = (walk_of 𝓛 ended stayed clauses).post (passed z) in
        qed 𝓛 (((‵ (flft κ q) ⊛ ‵ (flft κ₁ q₁) ⊛ ‵ ftrue) ⊛ ‵ (owns (types_at ended.signature.params z.0.0) z.0.3 (passed z).0.4)) ∷ (raw (fact 𝓤 (κ₁ ⊑ E.row.lives)) ⊛ raw (fact 𝓤 (IsHeld d.held i))) ∷ []) ∵
        move ! (1 ∷ []) $ split ! $ drop ! $ heard ! (IsHeld d.held i) (λ asked.
        let x : el_x E = asked.0 in let within = held_within d.held i x asked.1 in
        split ! $ split ! $ move ! (2 ∷ []) $ fsplit ! $ fsplit ! $ drop ! $
        use1 𝓛 (‵ (hidden_shr RawPtr κ d.start rb (ro + 0)) ⊛ ‵ (cells_lent (R E) d.start d.held κ)) (cells_seen E 𝓛 κ d rb ro) $ split ! $ move ! (1 ∷ []) $
        in_a_block ! d.start (λ p. cells_lent (R E) p d.held κ) (id⊢ 𝓤 (never 𝓤)) (λ b o at. fsplit ! $ flt_l ! (λ fit.
        let s = sz E in let small = near i (length d.held) s within fit in let place = i * s + o in
        use1 𝓛 (‵ (cell_seen (R E) b place (get_or d.held i None) κ)) (cell_is_seen E 𝓛 b κ d.held i o place refl within) $
        rewrite ! 0 (λ (c : Option (el_x E)). ‵ (cell_seen (R E) b place c κ)) asked.1 refl $ hide ! $ keep ! (1 ∷ 3 ∷ 4 ∷ 0 ∷ []) $
        enter ! 𝓣.C 𝓣.Λ here (vptr rb ro ∷ vint w64 i ∷ []) _ $ alloc_all ! (λ l. pass_all ! refl ((tt, tt), ((tt, record { fits = fits }), tt)) $
        let En : Env 𝓤 H = env here.locals l in
        first ! $ blocks ! $ pointer_in ! tt d.start b o at rb (ro + 0) (λ q'.
        sets ! (of_opd ! (load ! (through ! refl (fld ! refl (stop !))) (look ! 0 refl))) refl (tt, tt) $
        pointer_out ! tt d.start b o at rb (ro + 0) $
        sets ! (bin ! (get ! refl) (size_lit ! (record { fits = small.0 })) (record { fits = small.1 })) refl (tt, record { fits = small.1 }) $
        sets ! (bin ! (get ! refl) (get ! refl) tt) refl (tt, tt) $
        sets_last ! (addr ! (through ! refl (stop !))) refl (tt, tt) $
        exec ! 𝓣.C 𝓣.Λ En (after 1 here.body) (at_ret En Post) $ sets ! (of_opd ! (get ! refl)) refl (tt, tt) $
        returns ! (look_at ! 0 refl) $ free_all ! refl $
        -- [the token; the other token; the value's `&`]
        suffices ! _ (ends_at 𝓛 ended stayed clauses (passed z) (vptr b place) (record { ref_ptr = (b, place); now = x }) (tt, (tt, tt)) (tt, (tt, tt))) $ says ! asked.1 $
        join ! $ move ! (1 ∷ []) $ feq_i ! (List Val) (vptr b place ∷ []) (vptr b place ∷ []) refl $ fjoin ! $
        nothing ! $ nothing ! $ fjoin ! $ nothing ! $ fjoin ! $ keep ! (2 ∷ 0 ∷ 1 ∷ []) $ done !)))))

    meets : Meets 𝓛 ended.signature (WpFn 𝓤 H 𝓣.C 𝓣.Λ here) (closing 𝓛 ended clauses)
    meets =
        walk_Meets 𝓛 ended stayed (Goes-dropped 𝓛 2 (RefOf (0 ∷ []) tt (plain (λ _. Cs E)) (λ _. tt)) yes (λ κs x f. refl), (Goes-dropped 𝓛 2 (plain (λ _. usize)) yes (λ κs x f. refl), tt)) clauses
        (WpFn 𝓤 H 𝓣.C 𝓣.Λ here) (WpFn-mono 𝓤 H 𝓛.laws 𝓣 here)
        (walked 𝓛 ended stayed clauses (WpFn 𝓤 H 𝓣.C 𝓣.Λ here) (λ κs. (shr_vals, (uint_vals w64, tt))) (λ κs. (shr_Tells (named 0) κs.0 (Cs E), (uint_Tells w64, tt)))
        (λ κs qs bounds a g are. walk ((κs, qs, bounds, a, (shr_vals a.0, (uint_vals w64 a.1.0, tt))), g) are.1.0.1))

pub get_spec : {M : Type 1} → stated.statement M
unfolding tables_of
get_spec 𝓤 𝓛 𝓜 𝓡 wired X L =
    let E : El = record { row = X; laws = L } in
    let 𝓣 : Tables 𝓤 𝓛.H = tables_of 𝓤 𝓛.H 𝓜 (tables 𝓤 𝓛.H 𝓜 𝓡 𝓡.env) in
    entered 𝓤 𝓛.H (triple_of 𝓛 (F.signature X) (F.spec X 𝓛 𝓜.mem 𝓡.returns)) 𝓣.C 𝓣.Λ (key (args E)) (here E) (code.unfolded 𝓤 𝓛.H 𝓜 𝓡 wired (X, tt))
    (meets E 𝓛 𝓜.mem 𝓡.returns 𝓣)
