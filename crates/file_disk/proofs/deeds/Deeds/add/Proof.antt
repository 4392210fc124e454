-- An empty body. The borrow is opened, and closed at the longer list.
use Rattle.std.proofs.Common.{[], ◌∷◌, ◌++◌, refl}
use Rattle.std.proofs.raw_atomic.Walks.{proved}
use base.Fml.{ftrue, flft}
use base.Logic.{id⊢}
use contract.Running.{tables}
use denote.Builtin.{bool, u8, u32, u64}
use denote.Exit.{yes}
use denote.Plain.{bool_vals, bool_Tells, uint_vals, uint_Tells}
use denote.Ref.{MutRef, mut_vals, mut_Tells}
use denote.Signature.{plain}
use denote.Slice.{ShrSlice, shr_slice_vals, shr_slice_Tells}
use denote.Steps.{nothing, opens, closes}
use denote.Triple.Walked.{Stays, walk_of, says, stay_ref, stay_dropped, stay_none_slice, Goes-ref, Goes-dropped, Goes-none_slice, ends_at}
use mir.Syntax.{named, w32, w64}
use mir.Val.{vunit}
use types.ByLocal.{alloc_all, pass_all, free_all, look_at, sets}
use types.Kit.{‵, ◌⊛◌, ◌$◌, ◌∵◌, !, qed, done, move, keep, use1, drop, split, join, fsplit3, feq_i, suffices, frame, group}
use types.Run.{enter, of_opd, unit_lit, returns}
use Rattle.file_disk.specs.declared.deeds.Deeds.{Deeds}
use Rattle.file_disk.specs.contracts.deeds.Deeds.{the_row as R}
use Rattle.file_disk.specs.contracts.deeds.Deeds.add as f
use Rattle.file_disk.proofs.deeds.Deeds.add.Statement.{statement}
use Rattle.file_disk.proofs.deeds.Deeds.add.Code as code

abbrev stayed : Stays f.ended.signature.params f.ended.kept
stayed = (stay_ref (0 ∷ []) tt (plain (λ _. R)), (stay_dropped _ yes, (stay_dropped _ yes, (stay_dropped _ yes, (stay_dropped _ yes, (stay_none_slice (1 ∷ []) tt (plain (λ _. u8)) yes, tt))))))

pub add_spec : {M : Type 1} → statement M
add_spec 𝓤 𝓛 𝓜 𝓡 wired =
    let c = f.clauses 𝓛 𝓜.mem 𝓡.returns in let W = walk_of 𝓛 f.ended stayed c in let 𝓣 = tables 𝓤 𝓛.H 𝓜 𝓡 𝓡.env in
    let goes = Goes-dropped 𝓛 2 (plain (λ _. u64)) yes (λ κs x w. refl) in
    proved 𝓛 f.ended stayed c 𝓜 𝓡
    (Goes-ref 𝓛 2 0 tt (plain (λ _. R)), (Goes-dropped 𝓛 2 (plain (λ _. u32)) yes (λ κs x w. refl), (goes, (goes, (Goes-dropped 𝓛 2 (plain (λ _. bool)) yes (λ κs x w. refl), (Goes-none_slice 𝓛 2 (1 ∷ []) tt (plain (λ _. u8)) yes, tt))))))
    f.Key.name code.function (code.unfolded 𝓤 𝓛.H 𝓜 𝓡 wired)
    (λ κs. (mut_vals, (uint_vals w32, (uint_vals w64, (uint_vals w64, (bool_vals, (shr_slice_vals, tt)))))))
    (λ κs. (mut_Tells (named 0) κs.0 R, (uint_Tells w32, (uint_Tells w64, (uint_Tells w64, (bool_Tells, (shr_slice_Tells (named 1) κs.1.0 u8, tt)))))))
    (λ κs qs bounds a deed are.
    let b = a.0.ref_ptr.0 in let o = a.0.ref_ptr.1 in let h = a.0.now in let vs = mut_vals a.0 in
    let h' : Deeds = record { marker = h.marker; items = h.items ++ deed ∷ [] } in
    let y : W.Ghost = ((κs, qs, bounds, a, (vs, (uint_vals w32 a.1.0, (uint_vals w64 a.1.1.0, (uint_vals w64 a.1.1.1.0, (bool_vals a.1.1.1.1.0, (shr_slice_vals a.1.1.1.1.1.0, tt))))))), deed) in
    let bytes = a.1.1.1.1.1.0 in
    qed 𝓛 (((‵ (flft κs.0 qs.0) ⊛ (‵ (flft κs.1.0 qs.1.0) ⊛ ‵ ftrue)) ⊛ (‵ ((MutRef (named 0) κs.0 R).own_val a.0 vs)
    ⊛ (‵ (u32.own_val a.1.0 (uint_vals w32 a.1.0)) ⊛ (‵ (u64.own_val a.1.1.0 (uint_vals w64 a.1.1.0)) ⊛ (‵ (u64.own_val a.1.1.1.0 (uint_vals w64 a.1.1.1.0))
    ⊛ (‵ (bool.own_val a.1.1.1.1.0 (bool_vals a.1.1.1.1.0)) ⊛ (‵ ((ShrSlice (named 1) κs.1.0 u8).own_val bytes (shr_slice_vals bytes)) ⊛ ‵ ftrue))))))) ∷ ‵ ftrue ∷ []) ∵
    split ! $ split ! $ move ! (2 ∷ []) $ split ! $ keep ! (1 ∷ 0 ∷ 2 ∷ 3 ∷ []) $
    split ! $ drop ! $ split ! $ drop ! $ split ! $ drop ! $ split ! $ drop ! $ keep ! (1 ∷ 2 ∷ 3 ∷ 0 ∷ []) $
    -- [self; its token; the token of the bytes; the bytes]
    enter ! _ _ _ _ _ $
    alloc_all ! (λ l. pass_all ! refl ((tt, tt), ((tt, record { fits = are.1.0.1 }), ((tt, record { fits = are.1.1.0.1 }), ((tt, record { fits = are.1.1.1.0.1 }), ((tt, tt), ((tt, (tt, (record { fits = are.1.1.1.1.1.0.0.1.0 }, tt))), tt)))))) $
    fsplit3 ! $ move ! (1 ∷ 2 ∷ 3 ∷ []) $ opens ! tt R b o (λ us.
    sets ! (of_opd ! (unit_lit !)) refl (tt, tt) $
    move ! (1 ∷ []) $ use1 𝓛 (‵ (R.own_val h' us)) (id⊢ 𝓤 _) $ move ! (1 ∷ 0 ∷ []) $ closes ! tt R h' us b o $
    -- [two parts of self; its token; self's first part; the token of the bytes; the bytes]
    returns ! (look_at ! 0 refl) $ free_all ! refl $ move ! (3 ∷ []) $
    suffices ! _ (ends_at 𝓛 f.ended stayed c y vunit tt (h', (tt, (tt, (tt, (tt, (tt, tt)))))) (tt, (tt, (tt, (tt, (tt, (tt, tt))))))) $ says ! refl $
    group ! 3 $ move ! (3 ∷ []) $ nothing ! $ join ! $ nothing ! $ join ! $ nothing ! $ join ! $ nothing ! $ join ! $ move ! (1 ∷ 0 ∷ []) $ join ! $
    move ! (1 ∷ 2 ∷ []) $ join ! $ frame ! $ frame ! $
    feq_i ! _ (vunit ∷ []) _ refl $ done !)))
