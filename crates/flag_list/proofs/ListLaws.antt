-- Laws of a list and its pool.
use Rattle.std.proofs.Common.{◌≡◌, ◌⊎◌, inl, inr, ℕ, true, false, List, [], ◌∷◌, Option, Some, None, IsSome, is_some, refl, sym, ap, subst, ◌∙◌}
use Rattle.std.specs.Ordering.{nat_cmp}
use Rattle.std.specs.FinMap.{FinMap, get, insert, remove}
use Rattle.std.proofs.lemmas.Bool.{cases_eq}
use Rattle.slot_pool.proofs.ChangeLaws.{kept_value}
use Rattle.slot_pool.specs.Changes.{ChangesOnly}
use Rattle.slot_pool.specs.Pool.{Contents}
use Rattle.slot_pool.proofs.SlotLaws.{get_here, get_off, get_beside, removed_off}
use Rattle.slot_pool.specs.Slots.{first_or, IsIn}
use Rattle.flag_list.specs.declared.linked.Links.{Links}
use Rattle.flag_list.specs.declared.list.FlagList.{FlagList}
use Rattle.flag_list.specs.List.{no_list, AreLinked, IsList}

module _ {T : Type 0} (links : T → Links) where
  -- a new list has no slot
  pub new_list : (m : FinMap nat_cmp T) (l : FlagList) → l ≡ no_list → IsList links m l []
  new_list m l e = subst (λ k. IsList links m k []) (sym e) (record { first = refl; last = refl; linked = tt; distinct = tt })

  linked_kept : (m n : FinMap nat_cmp T) (b : Option ℕ) (ss : List ℕ) (a : Option ℕ) → ((s : ℕ) (x : T) → IsIn s ss → get m s ≡ Some x → (y : T) × (get n s ≡ Some y) × (links y ≡ links x))
      → AreLinked links m b ss a → AreLinked links n b ss a
  linked_kept m n b [] a same h = tt
  linked_kept m n b (s ∷ ss) a same h =
      let y = same s h.0.0 (inl refl) h.0.1 in ((y.0, y.1, y.2 ∙ h.0.2), linked_kept m n (Some s) ss a (λ t x i. same t x (inr i)) h.1)

  -- a list stays where its slots keep their links, whatever else changes in the pool
  pub list_kept : (m n : FinMap nat_cmp T) (l : FlagList) (ss : List ℕ) → ((s : ℕ) (x : T) → IsIn s ss → get m s ≡ Some x → (y : T) × (get n s ≡ Some y) × (links y ≡ links x))
      → IsList links m l ss → IsList links n l ss
  list_kept m n l ss same h = record { first = h.first; last = h.last; linked = linked_kept m n None ss None same h.linked; distinct = h.distinct }

  module _ (m : FinMap nat_cmp T) (l : FlagList) (ss : List ℕ) (h : IsList links m l ss) where
    -- a value is put into a new slot
    pub list_put : (t : ℕ) (w : T) → get m t ≡ None → IsList links (insert m t w) l ss
    list_put t w new = list_kept m (insert m t w) l ss (λ s x i e. (x, get_beside m t w s x new e, refl)) h

    -- a value is taken out of a slot that isn't in the list
    pub list_take : (t : ℕ) → ¬ IsIn t ss → IsList links (remove m t) l ss
    list_take t out = list_kept m (remove m t) l ss (λ s x i e. (x, removed_off m t s (λ f. out (subst (λ k. IsIn k ss) f i)) ∙ e, refl)) h

    -- a value is written over one with the same links
    pub list_write : (t : ℕ) (x w : T) → get m t ≡ Some x → links w ≡ links x → IsList links (insert m t w) l ss
    list_write t x w at same = list_kept m (insert m t w) l ss (λ s y i e. go s y e (cases_eq s t)) h where
      go : (s : ℕ) (y : T) → get m s ≡ Some y → (s ≡ t) ⊎ (s ≡ t → ⊥) → (z : T) × (get (insert m t w) s ≡ Some z) × (links z ≡ links y)
      go s y e (inl f) = let one : x ≡ y = cc (at, e, f) in (w, ap (get (insert m t w)) f ∙ get_here m t w, same ∙ ap links one)
      go s y e (inr ne) = (y, get_off m t w s ne ∙ e, refl)

  -- another structure changes its part of the values, which isn't the links
  pub list_beside : {L : Type 0} (set : T → L → T) → ((x : T) (c : L) → links (set x c) ≡ links x) → (p n : Contents T) → ChangesOnly set p n → (l : FlagList) (ss : List ℕ) → IsList links p.values l ss → IsList links n.values l ss
  list_beside set other p n c l ss = list_kept p.values n.values l ss (λ s x i e. let k = kept_value set p n s x c e in (set x k.0, k.1, other x k.0))

  linked_held : (m : FinMap nat_cmp T) (b : Option ℕ) (ss : List ℕ) (a : Option ℕ) (s : ℕ) → AreLinked links m b ss a → IsIn s ss → IsSome (get m s)
  linked_held m b [] a s h i = absurd i
  linked_held m b (t ∷ ss) a s h (inl e) = ap (λ k. is_some (get m k)) e ∙ ap is_some h.0.1
  linked_held m b (t ∷ ss) a s h (inr i) = linked_held m (Some t) ss a s h.1 i

  -- each slot of a list holds a value
  pub list_held : (m : FinMap nat_cmp T) (l : FlagList) (ss : List ℕ) (s : ℕ) → IsList links m l ss → IsIn s ss → IsSome (get m s)
  list_held m l ss s h i = linked_held m None ss None s h.linked i

  -- a slot without a value is in no list
  pub new_out : (m : FinMap nat_cmp T) (l : FlagList) (ss : List ℕ) (s : ℕ) → IsList links m l ss → get m s ≡ None → ¬ IsIn s ss
  new_out m l ss s h e i = let f : false ≡ true = sym (ap is_some e) ∙ list_held m l ss s h i in cc

  linked_once : (m : FinMap nat_cmp T) (b : Option ℕ) (ss ts : List ℕ) → AreLinked links m b ss None → AreLinked links m b ts None → first_or None ss ≡ first_or None ts → ss ≡ ts
  linked_once m b [] [] h k e = refl
  linked_once m b [] (t ∷ ts) h k e = cc
  linked_once m b (s ∷ ss) [] h k e = cc
  linked_once m b (s ∷ ss) (t ∷ ts) h k e =
      let one : s ≡ t = cc e in let x : h.0.0 ≡ k.0.0 = cc (h.0.1, k.0.1, one) in
      let next : first_or None ss ≡ first_or None ts = ap (λ (l : Links). l.after) (sym h.0.2 ∙ ap links x ∙ k.0.2) in
      λ i. one i ∷ linked_once m (Some s) ss ts h.1 (subst (λ r. AreLinked links m (Some r) ts None) (sym one) k.1) next i

  -- a list over a pool lists one list of slots
  pub list_once : (m : FinMap nat_cmp T) (l : FlagList) (ss ts : List ℕ) → IsList links m l ss → IsList links m l ts → ss ≡ ts
  list_once m l ss ts h k = linked_once m None ss ts h.linked k.linked (sym h.first ∙ k.first)
