-- A pool gives up its values, place by place.
use Rattle.std.proofs.Common.{◌≡◌, ◌⊎◌, inl, inr, ◌+◌, ◌-◌, ◌<◌, ◌≤◌, ℕ, zero, suc, false, cond, List, [], ◌∷◌, length, get_or, Option, Some, None, IsSome, is_some, refl, sym, ap, ◌∙◌, subst, arith}
use Rattle.std.proofs.lemmas.Bool.{cases_eq, cases_lt}
use Rattle.std.specs.Cmp.{nat_cmp_total}
use Rattle.std.specs.FinMap.{get, empty, remove, len, len-remove, len-empty, get-empty, same_map, nat_cmp-IsAntisymmetric}
use Rattle.std.specs.Ordering.{nat_cmp}
use borrow.Author.Count.{below_more}
use Rattle.slot_pool.specs.Pool.{Contents, contents}
use Rattle.slot_pool.specs.Layout.{places_of, map_from, IsPool}
use Rattle.slot_pool.proofs.Layouts.{get-map}
use Rattle.slot_pool.proofs.Pools.{counts}
use Rattle.slot_pool.proofs.SlotLaws.{removed_here, removed_off, positive}
use Rattle.slot_pool.proofs.Layouts.{length-places_of}

module _ {T : Type 0} where
  beyond : (cs : List (Option T)) (k : ℕ) → length cs ≤ k → get_or cs k None ≡ None
  beyond [] k le = refl
  beyond (c ∷ cs) zero le = absurd (omega arith)
  beyond (c ∷ cs) (suc k) le = beyond cs k (omega arith)

  -- the places below this one are empty, and as many values as at first are held or fit
  pub record Emptying (place all : ℕ) (p : Contents T) : Type 0 where
    pub gone : (k : ℕ) → k < place → get p.values k ≡ None
    pub rest : (k : ℕ) → all ≤ k → get p.values k ≡ None
    pub total : len p.values + p.spare ≡ all

  pub emptying_first : (css : List (List (Option T))) (vs : List ℕ) (room n : ℕ) → IsPool css vs room → n ≡ length vs → (p : Contents T) → contents (map_from 0 (places_of css)) n ≡ p → Emptying 0 (len p.values + p.spare) p
  emptying_first css vs room n h e p view = subst (λ (c : Contents T). Emptying 0 (len c.values + c.spare) c) view (record {
    gone = λ k lt. absurd (omega arith);
    rest = λ k le. get-map (places_of css) k ∙ beyond (places_of css) k (omega (arith, counts css vs room h, length-places_of css h.whole, e, le));
    total = refl;
  })

  module _ (place all : ℕ) (p : Contents T) (e : Emptying place all p) where
    pub emptying_taken : (q : Contents T) → IsSome (get p.values place) → q ≡ contents (remove p.values place) (p.spare + 1) → Emptying (place + 1) all q
    emptying_taken q has is = subst (Emptying (place + 1) all) (sym is) (record {
      gone = below_more (λ k. get (remove p.values place) k ≡ None) place (λ k lt. removed_off p.values place k (omega arith) ∙ e.gone k lt) (removed_here p.values place);
      rest = λ k le. go k le (cases_eq k place);
      total = omega (arith, e.total, positive p.values place has, len-remove nat_cmp_total p.values place ∙ ap (λ b. cond b (len p.values - 1) (len p.values)) has);
    }) where
      go : (k : ℕ) → all ≤ k → (k ≡ place) ⊎ (k ≡ place → ⊥) → get (remove p.values place) k ≡ None
      go k le (inl f) = ap (get (remove p.values place)) f ∙ removed_here p.values place
      go k le (inr ne) = removed_off p.values place k ne ∙ e.rest k le

    pub emptying_skipped : (q : Contents T) → is_some (get p.values place) ≡ false → q ≡ p → Emptying (place + 1) all q
    emptying_skipped q free is = subst (Emptying (place + 1) all) (sym is) (record {
      gone = below_more (λ k. get p.values k ≡ None) place e.gone (none (get p.values place) free);
      rest = e.rest;
      total = e.total;
    }) where
      none : (o : Option T) → is_some o ≡ false → o ≡ None
      none None f = refl
      none (Some x) f = cc

    pub emptied : all ≤ place → p ≡ contents empty all
    emptied le = λ i. contents (nothing i) (size i) where
      nothing : p.values ≡ empty
      nothing = same_map nat_cmp_total nat_cmp-IsAntisymmetric _ _ (λ k. go k (cases_lt k place) ∙ sym (get-empty nat_cmp k)) where
        go : (k : ℕ) → (k < place) ⊎ (place ≤ k) → get p.values k ≡ None
        go k (inl lt) = e.gone k lt
        go k (inr ge) = e.rest k (omega (arith, ge, le))

      size : p.spare ≡ all
      size = omega (arith, e.total, ap len nothing ∙ len-empty nat_cmp T)
