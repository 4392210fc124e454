-- What a `Claim` owns is taken apart and made.
use mathlib.Core.Path.{◌≡◌, refl, subst}
use mathlib.Core.List.{List, [], ◌∷◌, ◌++◌}
use seplogic.Ra.Ura.{Ura}
use mir.Val.{Val, vstruct, vcons, vnil, of_list}
use types.Logic.{Logic}
use types.Kit.{Goal, Step, step, Seq, Item, ‵, ◌$◌, drop, fsplit, fjoin, fpick, feq_l}
use denote.RattleType.{RattleType}
use denote.RawPtr.{Ptr}
use denote.Shadow.{pure_i}
use denote.Struct.Struct.{Struct}
use denote.Struct.Owning.{shape}
use Rattle.core.proofs.alloc.Calls.{Al, token}
use Rattle.core.proofs.mem.Param.{El, R}
use Rattle.core.proofs.slots.Leases.{P}
use Rattle.slot_pool.specs.Ownership.{claim_owns}
use Rattle.slot_pool.specs.contracts.cells.Claim as C

-- the value of a struct whose one field takes no bytes
abbrev pub blank : Val
blank = vstruct (vcons (vstruct vnil) vnil)

module _ (E : El) (Z : Al) where
  abbrev pub Cl : RattleType
  Cl = C.the_row (R E) (P E Z) Z.g

  abbrev pub claim : Ptr → Z.row.Denot → Cl.Denot
  claim p a = record { mark = record {}; start = p; alloc = a }

module _ (E : El) (Z : Al) {M : Type 1} {𝓤 : Ura M} {𝓛 : Logic 𝓤} {K : Type 0} {Γ : List (Item 𝓤)} {G : Goal 𝓤 𝓛.H} where
  pub claim_had : K → (c : (Cl E Z).Denot) (vs : List Val)
      → (vs ≡ blank ∷ [] → Seq K 𝓛 (‵ (claim_owns (R E) (token Z c.alloc) c.start) ∷ Γ) G) → Seq K 𝓛 (‵ ((Cl E Z).own_val c vs) ∷ Γ) G
  claim_had t c vs k =
      fsplit t $ fpick t (λ vss. fsplit t $ feq_l t (λ whole. fsplit t $ fpick t (λ none. fsplit t $ feq_l t (λ part. drop t $ drop t $
      k (subst (λ (ws : List Val). vs ≡ vstruct (of_list (ws ++ [])) ∷ []) part whole)))))

  pub claim_made : K → (p : Ptr) (a : Z.row.Denot) → Step K 𝓛 (‵ ((Cl E Z).own_val (claim E Z p a) (blank ∷ [])) ∷ Γ) G (‵ (claim_owns (R E) (token Z a) p) ∷ Γ) G
  claim_made t p a = step (λ s.
      pure_i t ((Struct (shape (C.the_type (R E) (P E Z) Z.g))).own_val (tt, tt) (blank ∷ [])) (λ vss. (tt, ((λ uss. (tt, tt)), tt)))
      ((vstruct vnil ∷ [], tt), (refl, ((tt, (refl, tt)), tt))) $ fjoin t $ s)
