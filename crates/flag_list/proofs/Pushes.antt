-- A slot is put at the end of a list.
use Rattle.std.proofs.Common.{◌≡◌, ◌≢◌, ◌++◌, ℕ, inl, inr, List, [], ◌∷◌, Some, None, refl, sym, ap, ◌∙◌, subst}
use Rattle.std.specs.FinMap.{get, insert}
use Rattle.slot_pool.specs.Pool.{Contents, with_value}
use Rattle.slot_pool.specs.Slots.{first_or, IsIn, IsDistinct}
use Rattle.slot_pool.proofs.SlotLaws.{get_off, in_middle, not_before, distinct_push, first-append, last-append, empty_last, some_last}
use Rattle.flag_list.specs.declared.linked.Links.{Links}
use Rattle.flag_list.specs.declared.list.FlagList.{FlagList}
use Rattle.flag_list.specs.List.{HasLinks, AreLinked, IsList}
use Rattle.flag_list.proofs.Neighbours.{member, has_off, has_here, linked_off, linked_join, after_set}

-- n: the pool once the slot has the last slot before it
module _ {T : Type 0} (links : T → Links) (with : T → Links → T) (set : (x : T) (l : Links) → links (with x l) ≡ l) (p n : Contents T) (l : FlagList) (ss : List ℕ) (slot : ℕ) (x : T)
    (h : IsList links p.values l ss) (out : ¬ IsIn slot ss) (e : n ≡ with_value p slot (with x (record { before = l.last; after = None }))) where
  here : HasLinks links n.values slot (record { before = l.last; after = None })
  here = subst (λ (c : Contents T). HasLinks links c.values slot (record { before = l.last; after = None })) (sym e) (has_here links with set p.values slot x (record { before = l.last; after = None }))

  pub pushed_first : (k : Contents T) (f : FlagList) → l.last ≡ None → k ≡ n → f ≡ record l { first = Some slot } → IsList links k.values (record { first = f.first; last = Some slot }) (ss ++ slot ∷ [])
  pushed_first k f none ke fe =
      let empty : ss ≡ [] = empty_last ss (sym h.last ∙ none) in
      let linked : HasLinks links k.values slot (record { before = None; after = None }) =
      subst (λ (c : Contents T). HasLinks links c.values slot (record { before = None; after = None })) (sym ke) (subst (HasLinks links n.values slot) (λ i. record { before = none i; after = None }) here) in
      subst (λ s. IsList links k.values (record { first = f.first; last = Some slot }) (s ++ slot ∷ [])) (sym empty)
      (record { first = ap (λ (g : FlagList). g.first) fe; last = refl; linked = (linked, tt); distinct = (λ i. i, tt) })

  module _ (t : ℕ) (is : l.last ≡ Some t) where
    split : (xs : List ℕ) × (ss ≡ xs ++ t ∷ [])
    split = some_last ss t (sym h.last ∙ is)

    apart : t ≢ slot
    apart f = out (subst (λ k. IsIn k ss) f (subst (IsIn t) (sym split.1) (in_middle split.0 t [])))

    -- the last slot holds a value
    pub last_has : (y : T) × (get n.values t ≡ Some y)
    last_has =
        let k = member links p.values l split.0 t [] (subst (IsList links p.values l) split.1 h) in
        (k.0, ap (λ (c : Contents T). get c.values t) e ∙ get_off p.values slot _ t apart ∙ k.1)

    pub pushed_behind : (k : Contents T) (f : FlagList) (y : T) → get n.values t ≡ Some y → k ≡ with_value n t (with y (record (links y) { after = Some slot })) → f ≡ l
        → IsList links k.values (record { first = f.first; last = Some slot }) (ss ++ slot ∷ [])
    pushed_behind k f y at ke fe =
        let xs = split.0 in let w = with y (record (links y) { after = Some slot }) in let v = with x (record { before = l.last; after = None }) in
        let d : IsDistinct (xs ++ t ∷ []) = subst IsDistinct split.1 h.distinct in
        let before : AreLinked links n.values None (xs ++ t ∷ []) None = subst (λ (c : Contents T). AreLinked links c.values None (xs ++ t ∷ []) None) (sym e)
        (linked_off links p.values slot v None (xs ++ t ∷ []) None (λ i. out (subst (IsIn slot) (sym split.1) i)) (subst (λ s. AreLinked links p.values None s None) split.1 h.linked)) in
        let after : AreLinked links (insert n.values t w) None (xs ++ t ∷ []) (Some slot) = after_set links with set n.values None xs t None (Some slot) y at (not_before xs t [] d) before in
        let end : HasLinks links (insert n.values t w) slot (record { before = l.last; after = None }) = has_off links n.values t w slot _ (λ f. apart (sym f)) here in
        subst (λ (c : Contents T). IsList links c.values (record { first = f.first; last = Some slot }) (ss ++ slot ∷ [])) (sym ke) (record {
          first = ap (λ (g : FlagList). g.first) fe ∙ h.first ∙ ap (first_or None) split.1 ∙ first-append None xs (t ∷ []) ∙ sym (first-append (Some slot) xs (t ∷ [])) ∙ sym (ap (first_or (Some slot)) split.1) ∙ sym (first-append None ss (slot ∷ []));
          last = sym (last-append None ss (slot ∷ []));
          linked = linked_join links (insert n.values t w) None ss (slot ∷ []) None (subst (λ s. AreLinked links (insert n.values t w) None s (Some slot)) (sym split.1) after)
              (subst (λ b. HasLinks links (insert n.values t w) slot (record { before = b; after = None })) h.last end, tt);
          distinct = distinct_push ss slot h.distinct out;
        })

pub out_of_one : (s t : ℕ) → s ≢ t → ¬ IsIn s (t ∷ [])
out_of_one s t ne (inl e) = ne e
out_of_one s t ne (inr i) = i
