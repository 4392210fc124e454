-- `free` makes one block of the empty cells, and gives it back with the right to free it.
use Rattle.slot_pool.proofs.Steps.{◌≡◌, refl, sym, ap, subst, ◌∙◌, ℕ, ◌*◌, ◌<◌, ◌^◌, arith, List, [], ◌∷◌, ◌++◌, length, replicate, Ura, SProp, ent, id⊢, ftrue, froom, flft, Fn, w64, ty_array, inst_fn, Val, vptr, vint, vunit, Memory, Routine, Env, WpFn, Tables, WpFn-mono, Logic, ‵, raw, ◌⊛◌, given, later, at_ret, ◌$◌, ◌∵◌, !, qed, move, keep, drop, use1, use3, split, join, learn, await, rewrite, fsplit, fsplit3, fjoin, fjoin3, feq_i, feq_l, suffices, done, whole, sub, stop, fld, unit_lit, of_opd, bin, first, blocks, exec, returns, enter, alloc_all, pass_all, free_all, look_at, get, sets, env, ◌⊑◌, Fun, fact, RefOf, yes, no, owns, Ptr, block_ptr, plain, types_at, heard, nothing, Clauses, Ended, closing, Meets, triple_of, entered, Stays, stay_dropped, walk_of, ends_at, Goes-dropped, walk_Meets, None, El, R, elτ, el_x, after, word, row, Cells}
use contract.Running.{tables, tables_of}
use lib.Dec.{T}
use mir.Syntax.{ty_unit}
use mir.Val.{has_ty, WT}
use base.Fml.{Incl-trans}
use prog.Memory.{align, capped}
use prog.Capped.{capped_fits}
use sound.WpLaws.{fm_of}
use types.Run.{lit, size_word, align_word, no_more, and_then}
use types.ByLocal.{get_in, is, lands_last}
use denote.Triple.Call.{calls_at_last}
use denote.Triple.Statement.{Triple}
use Rattle.core.proofs.alloc.Calls.{Al, token, gives_key, Gives, at_gives, Gives-goes, Gives-Gives}
use Rattle.core.proofs.slots.Leases.{uncapped, block_ty, block_size, block_align, args, P}
use Rattle.slot_pool.specs.Ownership.{claim_owns}
use Rattle.slot_pool.proofs.Claims.{Cl, blank, claim_had}
use Rattle.slot_pool.proofs.Rows.{Cs, Held, sz, room_of_row, cells_had}
use Rattle.slot_pool.specs.contracts.cells.free as F
use Rattle.slot_pool.specs.contracts.cells.free.Key.{name as key}
use Rattle.slot_pool.proofs.cells.free.Statement as stated
use Rattle.slot_pool.proofs.cells.free.Code as code

module _ (E : El) (Z : Al) where
  abbrev here : Fn
  here = inst_fn (args E Z) code.function

  abbrev ended : Ended
  ended = F.ended E.row Z.row Z.g Z.d Z.drops

  abbrev stayed : Stays ended.signature.params ended.kept
  stayed = (stay_dropped (RefOf (0 ∷ []) tt (plain (λ _. P E Z)) (λ _. tt)) yes, (stay_dropped (plain (λ _. Cs E)) no, (stay_dropped (plain (λ _. Cl E Z)) no, tt)))

  module _ {M : Type 1} {𝓤 : Ura M} (𝓛 : Logic 𝓤) (at_mem : Memory → SProp 𝓤) (run : Routine → Fun 𝓤) (𝓣 : Tables 𝓤 𝓛.H) (callee : Triple 𝓤 (𝓣.C (gives_key Z)) (Gives Z 𝓛 at_mem run)) where
    open 𝓛 use {H}

    abbrev clauses : Clauses 𝓤 ended
    clauses = F.clauses E.row Z.row Z.g Z.d Z.drops 𝓛 at_mem run

    abbrev Bound : Type 0
    Bound = (walk_of 𝓛 ended stayed clauses).Ghost

    walk : (z : Bound) → ent 𝓤 ((walk_of 𝓛 ended stayed clauses).pre z) (WpFn 𝓤 H 𝓣.C 𝓣.Λ here ((walk_of 𝓛 ended stayed clauses).args z) ((walk_of 𝓛 ended stayed clauses).post z))
    walk z =
        let κ = z.0.0.0 in let κ₁ = z.0.0.1.0 in let κ₂ = z.0.0.1.1.0 in let q = z.0.1.0 in let q₁ = z.0.1.1.0 in let q₂ = z.0.1.1.1.0 in
        let hp : ℕ × ℕ = z.0.3.0.ref_ptr in let a : Z.row.Denot = z.0.3.0.now in let d : Cells (el_x E) = z.0.3.1.0 in let c : (Cl E Z).Denot = z.0.3.1.1.0 in let vss = z.0.4 in
        let Post : Val → SProp 𝓤 = (walk_of 𝓛 ended stayed clauses).post z in
        let Asks : Type 0 = (d.held ≡ replicate 256 None) × (c.start ≡ d.start) × (c.alloc ≡ a) in
        let s : ℕ = sz E in let al : ℕ = capped (align (elτ E)) in
        qed 𝓛 (((‵ (flft κ q) ⊛ ‵ (flft κ₁ q₁) ⊛ ‵ (flft κ₂ q₂) ⊛ ‵ ftrue) ⊛ ‵ (owns (types_at ended.signature.params z.0.0) z.0.3 vss))
        ∷ (raw (fact 𝓤 (κ₁ ⊑ E.row.lives)) ⊛ raw (fact 𝓤 (κ₂ ⊑ Z.row.lives)) ⊛ raw (fact 𝓤 Asks)) ∷ []) ∵
        move ! (1 ∷ []) $ split ! $ drop ! $ split ! $ heard ! (κ₂ ⊑ Z.row.lives) (λ within_a. heard ! Asks (λ asked.
        split ! $ split ! $ move ! (2 ∷ []) $ fsplit3 ! $ fsplit ! $ feq_l ! (λ e₀. move ! (1 ∷ []) $ cells_had E ! d vss.1.0 (λ b o at e₁ fit.
        let small : 256 * s < 2 ^ 63 = subst (λ (cs : Held E). length cs * s < 2 ^ 63) asked.0 fit in let bytes : 256 * s < 2 ^ 64 = omega arith in
        rewrite ! 0 (λ (cs : Held E). ‵ (row (R E) b o cs)) asked.0 refl $ use1 𝓛 (‵ (froom (ty_array (elτ E) 256) b o)) (room_of_row E 𝓛 b 256 o) $
        use1 𝓛 (‵ (froom (block_ty E 256) b o)) (𝓛.laws.room-raw (ty_array (elτ E) 256) b o) $
        move ! (2 ∷ []) $ fsplit ! $ claim_had E Z ! c vss.1.1.0 (λ e₂.
        rewrite ! 0 (λ (k : Z.row.Denot × Ptr). ‵ (claim_owns (R E) (token Z k.0) k.1)) (λ i. (asked.2 i, (asked.1 ∙ at) i)) refl $ keep ! (2 ∷ 0 ∷ 3 ∷ 4 ∷ 5 ∷ []) $
        -- [the room; the right to free it; the handle; its token; the other tokens]
        let us : List Val = vptr hp.0 hp.1 ∷ word (block_ptr b o) ∷ blank ∷ [] in
        let Run : List Val → SProp 𝓤 = λ ws. WpFn 𝓤 H 𝓣.C 𝓣.Λ here ws Post in
        suffices ! (Run us) (subst (λ (ws : List Val). ent 𝓤 (Run us) (Run ws)) (sym (λ k. e₀ k ++ (e₁ k ++ (e₂ k ++ [])))) (id⊢ 𝓤 (Run us))) $
        enter ! 𝓣.C 𝓣.Λ here us Post $ alloc_all ! (λ l. pass_all ! refl ((tt, tt), ((tt, (tt, tt)), ((tt, (tt, tt)), tt))) $
        let En : Env 𝓤 H = env here.locals l in
        let y : (Gives Z 𝓛 at_mem run).Ghost = at_gives Z 𝓛 at_mem run κ q hp a b o (256 * s) al (block_ty E 256) in
        sets ! (of_opd ! (get_in ! (fld ! refl (stop !)) (sub ! 0 refl (whole !)))) refl (tt, tt) $ first ! $ blocks ! $ sets ! (of_opd ! (get ! refl)) refl (tt, tt) $
        sets ! (is ! (bin ! (lit ! tt) (size_word !) (record { fits = subst (λ (k : ℕ). k < 2 ^ 64) (sym (uncapped 256 s bytes)) bytes })) (ap (vint w64) (uncapped 256 s bytes))) refl (tt, record { fits = bytes }) $
        move ! (2 ∷ 3 ∷ []) $ join ! $ move ! (1 ∷ 2 ∷ 0 ∷ []) $ use3 𝓛 (raw ((Gives Z 𝓛 at_mem run).pre y))
        (Gives-goes Z 𝓛 at_mem run κ q hp a (Incl-trans z.0.2.0 within_a) b o (256 * s) al (block_ty E 256) (block_size E 256 bytes) (block_align E 256) bytes (capped_fits (align (elτ E)))) $
        calls_at_last ! (fm_of 𝓤 H 𝓛.laws 𝓣) (Gives Z 𝓛 at_mem run) callee y (and_then ! (get ! refl) (and_then ! (get ! refl) (and_then ! (get ! refl) (and_then ! (align_word !) (no_more !))))) (λ v.
        use1 𝓛 (later (given (v ≡ vunit) (‵ (flft κ q)))) (Gives-Gives Z 𝓛 at_mem run κ q hp a b o (256 * s) al (block_ty E 256) v) $ await ! tt $ learn ! (λ e.
        lands_last ! refl (subst (λ (u : Val). T (has_ty ty_unit u) × WT u) (sym e) (tt, tt)) $ exec ! 𝓣.C 𝓣.Λ En (after 2 here.body) (at_ret En Post) $
        sets ! (of_opd ! (unit_lit !)) refl (tt, tt) $ returns ! (look_at ! 0 refl) $ free_all ! refl $
        suffices ! _ (ends_at 𝓛 ended stayed clauses z vunit tt (tt, (tt, (tt, tt))) (tt, (tt, (tt, tt)))) $
        join ! $ feq_i ! (List Val) (vunit ∷ []) (vunit ∷ []) refl $ nothing ! $ nothing ! $ fjoin ! $ nothing ! $ nothing ! $ fjoin3 ! $ join ! $ move ! (1 ∷ 0 ∷ []) $ join ! $
        nothing ! $ keep ! (1 ∷ 0 ∷ []) $ done !))))))))

    meets : Meets 𝓛 ended.signature (WpFn 𝓤 H 𝓣.C 𝓣.Λ here) (closing 𝓛 ended clauses)
    meets =
        walk_Meets 𝓛 ended stayed (
          Goes-dropped 𝓛 3 (RefOf (0 ∷ []) tt (plain (λ _. P E Z)) (λ _. tt)) yes (λ κs x f. refl),
          (Goes-dropped 𝓛 3 (plain (λ _. Cs E)) no (λ κs x f. refl), (Goes-dropped 𝓛 3 (plain (λ _. Cl E Z)) no (λ κs x f. refl), tt)),
        ) clauses (WpFn 𝓤 H 𝓣.C 𝓣.Λ here) (WpFn-mono 𝓤 H 𝓛.laws 𝓣 here) walk

pub free_spec : {M : Type 1} → stated.statement M
unfolding tables_of
free_spec 𝓤 𝓛 𝓜 𝓡 wired X Y LX LY g d dd met md =
    let E : El = record { row = X; laws = LX } in let Z : Al = record { row = Y; laws = LY; g = g; d = d; drops = dd } in
    let 𝓣 : Tables 𝓤 𝓛.H = tables_of 𝓤 𝓛.H 𝓜 (tables 𝓤 𝓛.H 𝓜 𝓡 𝓡.env) in
    entered 𝓤 𝓛.H (triple_of 𝓛 (ended E Z).signature (F.spec X Y g d dd 𝓛 𝓜.mem 𝓡.returns)) 𝓣.C 𝓣.Λ (key (args E Z)) (here E Z) (code.unfolded 𝓤 𝓛.H 𝓜 𝓡 wired (X, (Y, tt)) d dd)
    (meets E Z 𝓛 𝓜.mem 𝓡.returns 𝓣 (met.deallocate dd))
