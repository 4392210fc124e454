-- `allocate` cuts a new block into empty cells, and keeps the right to free it.
use Rattle.slot_pool.proofs.Steps.{◌≡◌, refl, sym, ap, subst, ℕ, ◌*◌, ◌<◌, ◌^◌, arith, List, [], ◌∷◌, replicate, Ura, SProp, ent, sep, ftrue, froom, flft, Fn, Body, w64, named, ty_array, inst_fn, Val, vptr, vint, Memory, Routine, Env, WpFn, Tables, WpFn-mono, Logic, sem, ‵, raw, ◌⊛◌, later, at_ret, ◌$◌, ◌∵◌, !, qed, by, move, keep, drop, use1, use2, split, join, await, fsplit, fjoin, fjoin3, fpack, feq_i, suffices, done, whole, stop, fld, of_opd, bin, first, exec, returns, enter, alloc_all, pass_all, free_all, look_at, get, sets, sets_last, env, ◌⊑◌, Fun, fact, RefOf, yes, RattleType, owns, Ptr, block_ptr, shr_vals, shr_Tells, plain, types_at, heard, nothing, Clauses, Ended, closing, Meets, triple_of, entered, says, Stays, stay_dropped, walk_of, ends_at, walked, Goes-dropped, walk_Meets, None, El, R, elτ, after, word, row, Cells}
use contract.Running.{tables, tables_of}
use lib.Dec.{lit<}
use mir.Val.{vstruct, vcons, vnil, WT}
use base.Fml.{Incl-trans}
use prog.Memory.{align, capped}
use prog.Capped.{capped_fits}
use prog.Wp.{Wp, after_seq, at_return}
use sound.WpLaws.{fm_of}
use types.Kit.{Post as After, any_q}
use types.Match.{live, vrt, in_variant}
use types.Part.{agg}
use types.Run.{lit, size_word, align_word, no_more, and_then, switches_on}
use types.ByLocal.{get_in, get_tag, is, lands_as}
use denote.Laws.{Is}
use denote.RattleType.{Valss}
use denote.Steps.{owned}
use denote.Struct.Struct.{Struct, Struct-Makes, within}
use denote.Struct.Declared as Declared
use denote.Struct.Tuple.{Tuple, tuple_type}
use denote.Triple.Call.{calls_at}
use denote.Triple.Entry.{alive}
use denote.Triple.Statement.{Triple}
use Rattle.std.specs.Prelude.{IfOk, Ok, Err, true, false}
use Rattle.std.specs.Vec.Ownership.{FitsInBlock}
use Rattle.core.specs.contracts.result.Result as RS
use Rattle.core.specs.contracts.alloc.AllocError as AE
use Rattle.core.proofs.alloc.Calls.{Al, Answer-typed, takes_key, Takes, at_takes, Answered, Takes-goes, Takes-gives, answers}
use Rattle.core.proofs.slots.Bodies.{head, arm_body}
use Rattle.core.proofs.slots.Leases.{uncapped, block_ty, block_size, block_align, args, P}
use Rattle.std_alloc.proofs.ResultValues.{ok_of, err_of}
use Rattle.slot_pool.proofs.Claims.{Cl, blank, claim, claim_made}
use Rattle.slot_pool.proofs.Rows.{Cs, sz, row_of_room, cells_made}
use Rattle.slot_pool.specs.contracts.cells.allocate as F
use Rattle.slot_pool.specs.contracts.cells.allocate.Key.{name as key}
use Rattle.slot_pool.proofs.cells.allocate.Statement as stated
use Rattle.slot_pool.proofs.cells.allocate.Code as code

module _ (E : El) (Z : Al) where
  abbrev here : Fn
  here = inst_fn (args E Z) code.function

  abbrev ended : Ended
  ended = F.ended E.row Z.row Z.g Z.d Z.drops

  abbrev stayed : Stays ended.signature.params ended.kept
  stayed = (stay_dropped (RefOf (0 ∷ []) tt (plain (λ _. P E Z)) (λ _. tt)) yes, tt)

  abbrev Two : RattleType
  Two = Tuple (Cs E ∷ Cl E Z ∷ [])

  abbrev Out : RattleType
  Out = RS.the_row Two AE.the_row

  module _ {M : Type 1} {𝓤 : Ura M} (𝓛 : Logic 𝓤) (at_mem : Memory → SProp 𝓤) (run : Routine → Fun 𝓤) (𝓣 : Tables 𝓤 𝓛.H) (callee : Triple 𝓤 (𝓣.C (takes_key Z)) (Takes Z 𝓛 at_mem run)) where
    open 𝓛 use {H}

    abbrev clauses : Clauses 𝓤 ended
    clauses = F.clauses E.row Z.row Z.g Z.d Z.drops 𝓛 at_mem run

    abbrev Bound : Type 0
    Bound = (walk_of 𝓛 ended stayed clauses).Ghost

    abbrev passed : Bound → Bound
    passed z = ((z.0.0, z.0.1, z.0.2, z.0.3, (shr_vals z.0.3.0, tt)), z.1)

    exits : (z : Bound) (r : Out.Denot) (v : Val) → IfOk r (λ p. (p.0.held ≡ replicate 256 None) × (p.1.start ≡ p.0.start) × (p.1.alloc ≡ z.0.3.0.now))
        → ent 𝓤 (sep 𝓤 (sem 𝓛 (Out.own_val r (v ∷ []))) (alive 𝓛 ended.signature z.0.0 z.0.1)) ((walk_of 𝓛 ended stayed clauses).post (passed z) v)
    exits z r v said =
        qed 𝓛 (‵ (Out.own_val r (v ∷ [])) ∷ raw (alive 𝓛 ended.signature z.0.0 z.0.1) ∷ []) ∵
        suffices ! _ (ends_at 𝓛 ended stayed clauses (passed z) v r (tt, tt) (tt, tt)) $ says ! said $ nothing ! $ nothing ! $ fjoin ! $ move ! (2 ∷ 0 ∷ 1 ∷ []) $ done !

    walk : (z : Bound) → ent 𝓤 ((walk_of 𝓛 ended stayed clauses).pre (passed z)) (WpFn 𝓤 H 𝓣.C 𝓣.Λ here ((walk_of 𝓛 ended stayed clauses).args (passed z)) ((walk_of 𝓛 ended stayed clauses).post (passed z)))
    walk z =
        let κ = z.0.0.0 in let κ₁ = z.0.0.1.0 in let κ₂ = z.0.0.1.1.0 in let q = z.0.1.0 in let q₁ = z.0.1.1.0 in let q₂ = z.0.1.1.1.0 in
        let hp : ℕ × ℕ = z.0.3.0.ref_ptr in let a : Z.row.Denot = z.0.3.0.now in
        let Post : Val → SProp 𝓤 = (walk_of 𝓛 ended stayed clauses).post (passed z) in
        let s : ℕ = sz E in let al : ℕ = capped (align (elτ E)) in
        qed 𝓛 (((‵ (flft κ q) ⊛ ‵ (flft κ₁ q₁) ⊛ ‵ (flft κ₂ q₂) ⊛ ‵ ftrue) ⊛ ‵ (owns (types_at ended.signature.params z.0.0) z.0.3 (passed z).0.4))
        ∷ (raw (fact 𝓤 (κ₁ ⊑ E.row.lives)) ⊛ raw (fact 𝓤 (κ₂ ⊑ Z.row.lives)) ⊛ raw (fact 𝓤 (FitsInBlock (R E) 256))) ∷ []) ∵
        move ! (1 ∷ []) $ split ! $ drop ! $ split ! $ heard ! (κ₂ ⊑ Z.row.lives) (λ within_a. heard ! (FitsInBlock (R E) 256) (λ asked.
        let small : 256 * s < 2 ^ 63 = asked.0 in let bytes : 256 * s < 2 ^ 64 = omega arith in
        split ! $ split ! $ move ! (2 ∷ []) $ fsplit ! $ fsplit ! $ keep ! (1 ∷ 3 ∷ 4 ∷ []) $
        enter ! 𝓣.C 𝓣.Λ here (vptr hp.0 hp.1 ∷ []) _ $ alloc_all ! (λ l. pass_all ! refl ((tt, tt), tt) $
        let En : Env 𝓤 H = env here.locals l in
        let both : Body = head (after 2 here.body) in
        let Then : After 𝓤 H = any_q (after_seq 𝓤 H (Wp 𝓤 H 𝓣.C 𝓣.Λ En (after 3 here.body) (at_return 𝓤 H En Post)) (at_return 𝓤 H En Post)) in
        let y : (Takes Z 𝓛 at_mem run).Ghost = at_takes Z 𝓛 at_mem run κ q hp a (256 * s) al (block_ty E 256) in
        sets ! (is ! (bin ! (lit ! tt) (size_word !) (record { fits = subst (λ (k : ℕ). k < 2 ^ 64) (sym (uncapped 256 s bytes)) bytes })) (ap (vint w64) (uncapped 256 s bytes))) refl (tt, record { fits = bytes }) $
        use2 𝓛 (raw ((Takes Z 𝓛 at_mem run).pre y))
        (Takes-goes Z 𝓛 at_mem run κ q hp a (Incl-trans z.0.2.0 within_a) (256 * s) al (block_ty E 256) (block_size E 256 bytes) (block_align E 256) bytes (capped_fits (align (elτ E)))) $
        calls_at ! (fm_of 𝓤 H 𝓛.laws 𝓣) (Takes Z 𝓛 at_mem run) callee y (and_then ! (get ! refl) (and_then ! (get ! refl) (and_then ! (align_word !) (no_more !)))) (λ v.
        use1 𝓛 (later (raw (Answered Z 𝓛 at_mem run a (block_ty E 256) v) ⊛ ‵ (flft κ q))) (Takes-gives Z 𝓛 at_mem run κ q hp a (256 * s) al (block_ty E 256) v) $ await ! tt $ split ! $
        move ! (1 ∷ 2 ∷ []) $ join ! $ move ! (1 ∷ []) $ answers Z ! at_mem run a (block_ty E 256) v
        (λ b o e.
        let p : Ptr = block_ptr b o in
        let new : Cells E.row.Denot = record { start = p; held = replicate 256 None } in
        let pair : Val = vstruct (vcons (word p) (vcons blank vnil)) in
        let words : WT (word p) = (tt, tt) in let marks : WT blank = (tt, tt) in
        let all : WT (live 0 (vcons pair vnil)) = (record { fits = lit< tt }, ((words, (marks, tt)), tt)) in
        lands_as ! e refl (Answer-typed true b o) $ first ! $ switches_on ! (get_tag ! (vrt ! refl (fld ! refl (stop !))) (whole !)) $ exec ! 𝓣.C 𝓣.Λ En (arm_body 0 both) Then $
        sets ! (of_opd ! (get_in ! (vrt ! refl (fld ! refl (stop !))) (in_variant ! 0 0 refl refl (whole !)))) refl (tt, tt) $ sets ! (of_opd ! (get ! refl)) refl (tt, tt) $
        sets ! (agg ! (and_then ! (get ! refl) (no_more !))) refl (tt, words) $ sets ! (agg ! (no_more !)) refl (tt, tt) $
        sets ! (agg ! (and_then ! (get ! refl) (no_more !))) refl (tt, marks) $
        sets ! (agg ! (and_then ! (get ! refl) (and_then ! (get ! refl) (no_more !)))) refl (tt, (words, (marks, tt))) $
        sets_last ! (agg ! (and_then ! (lit ! tt) (and_then ! (get ! refl) (no_more !)))) refl (tt, all) $
        exec ! 𝓣.C 𝓣.Λ En (after 3 here.body) (at_ret En Post) $ sets ! (of_opd ! (get ! refl)) refl (tt, all) $
        use1 𝓛 (‵ (froom (ty_array (elτ E) 256) b o)) (𝓛.laws.raw-room (ty_array (elτ E) 256) b o) $ use1 𝓛 (‵ (row (R E) b o new.held)) (row_of_room E 𝓛 b 256 o) $ cells_made E ! new b o refl small $
        move ! (1 ∷ []) $ claim_made E Z ! p a $ nothing ! $ move ! (2 ∷ 1 ∷ 0 ∷ []) $ fjoin3 ! $ feq_i ! (List Val) (pair ∷ []) (pair ∷ []) refl $ fjoin ! $
        fpack ! (Valss (Cs E ∷ Cl E Z ∷ [])) (within (Declared.shape (tuple_type (Cs E ∷ Cl E Z ∷ []))) (new, (claim E Z p a, tt)) (pair ∷ [])) (word p ∷ [], (blank ∷ [], tt)) $
        use1 𝓛 (‵ (Out.own_val (Ok (new, claim E Z p a)) (live 0 (vcons pair vnil) ∷ []))) (ok_of 𝓛 Two AE.the_row (new, claim E Z p a) pair) $
        returns ! (look_at ! 0 refl) $ free_all ! refl $ keep ! (0 ∷ 1 ∷ []) $ by ! (exits z (Ok (new, claim E Z p a)) (live 0 (vcons pair vnil)) (refl, refl, refl)))
        (λ e.
        let Refusal : RattleType = Struct (Declared.shape AE.the_type) in
        let none : Val = live 1 (vcons (vstruct vnil) vnil) in
        let typed : WT none = (record { fits = lit< tt }, (tt, tt)) in
        lands_as ! e refl (Answer-typed false 0 0) $ first ! $ switches_on ! (get_tag ! (vrt ! refl (fld ! refl (stop !))) (whole !)) $ exec ! 𝓣.C 𝓣.Λ En (arm_body 1 both) Then $
        sets ! (of_opd ! (get_in ! (vrt ! refl (fld ! refl (stop !))) (in_variant ! 1 0 refl refl (whole !)))) refl (tt, tt) $
        sets_last ! (agg ! (and_then ! (lit ! tt) (and_then ! (get ! refl) (no_more !)))) refl (tt, typed) $
        exec ! 𝓣.C 𝓣.Λ En (after 3 here.body) (at_ret En Post) $ sets ! (of_opd ! (get ! refl)) refl (tt, typed) $
        owned ! Refusal (Is Refusal) (Struct-Makes 𝓛 (Declared.shape AE.the_type) tt) tt (vstruct vnil ∷ []) (tt, (refl, tt)) $
        use1 𝓛 (‵ (Out.own_val (Err (record {})) (none ∷ []))) (err_of 𝓛 Two AE.the_row (record {}) (vstruct vnil)) $
        returns ! (look_at ! 0 refl) $ free_all ! refl $ keep ! (0 ∷ 1 ∷ []) $ by ! (exits z (Err (record {})) none tt))))))

    meets : Meets 𝓛 ended.signature (WpFn 𝓤 H 𝓣.C 𝓣.Λ here) (closing 𝓛 ended clauses)
    meets =
        walk_Meets 𝓛 ended stayed (Goes-dropped 𝓛 3 (RefOf (0 ∷ []) tt (plain (λ _. P E Z)) (λ _. tt)) yes (λ κs x f. refl), tt) clauses (WpFn 𝓤 H 𝓣.C 𝓣.Λ here) (WpFn-mono 𝓤 H 𝓛.laws 𝓣 here)
        (walked 𝓛 ended stayed clauses (WpFn 𝓤 H 𝓣.C 𝓣.Λ here) (λ κs. (shr_vals, tt)) (λ κs. (shr_Tells (named 0) κs.0 (P E Z), tt))
        (λ κs qs bounds a g are. walk ((κs, qs, bounds, a, (shr_vals a.0, tt)), g)))

pub allocate_spec : {M : Type 1} → stated.statement M
unfolding tables_of
allocate_spec 𝓤 𝓛 𝓜 𝓡 wired X Y LX LY g d dd met md =
    let E : El = record { row = X; laws = LX } in let Z : Al = record { row = Y; laws = LY; g = g; d = d; drops = dd } in
    let 𝓣 : Tables 𝓤 𝓛.H = tables_of 𝓤 𝓛.H 𝓜 (tables 𝓤 𝓛.H 𝓜 𝓡 𝓡.env) in
    entered 𝓤 𝓛.H (triple_of 𝓛 (ended E Z).signature (F.spec X Y g d dd 𝓛 𝓜.mem 𝓡.returns)) 𝓣.C 𝓣.Λ (key (args E Z)) (here E Z) (code.unfolded 𝓤 𝓛.H 𝓜 𝓡 wired (X, (Y, tt)) d dd)
    (meets E Z 𝓛 𝓜.mem 𝓡.returns 𝓣 (met.allocate dd))
