-- The links of a run of slots: cut, joined, and after a write to one slot.
use Rattle.std.proofs.Common.{◌≡◌, ◌≢◌, ◌++◌, ℕ, inl, inr, List, [], ◌∷◌, Option, Some, None, IsSome, is_some, sym, ap, ◌∙◌, subst}
use Rattle.std.specs.Ordering.{nat_cmp}
use Rattle.std.specs.FinMap.{FinMap, get, insert}
use Rattle.slot_pool.specs.Slots.{first_or, last_or, IsIn}
use Rattle.slot_pool.proofs.SlotLaws.{get_here, get_off, first-append, some_last, some_first}
use Rattle.flag_list.specs.declared.linked.Links.{Links}
use Rattle.flag_list.specs.declared.list.FlagList.{FlagList}
use Rattle.flag_list.specs.List.{HasLinks, AreLinked, IsList}

module _ {T : Type 0} (links : T → Links) where
  pub linked_cut : (m : FinMap nat_cmp T) (b : Option ℕ) (xs ys : List ℕ) (a : Option ℕ) → AreLinked links m b (xs ++ ys) a → AreLinked links m b xs (first_or a ys) × AreLinked links m (last_or b xs) ys a
  linked_cut m b [] ys a h = (tt, h)
  linked_cut m b (x ∷ xs) ys a h =
      let r = linked_cut m (Some x) xs ys a h.1 in ((subst (λ f. HasLinks links m x (record { before = b; after = f })) (first-append a xs ys) h.0, r.0), r.1)

  pub linked_join : (m : FinMap nat_cmp T) (b : Option ℕ) (xs ys : List ℕ) (a : Option ℕ) → AreLinked links m b xs (first_or a ys) → AreLinked links m (last_or b xs) ys a → AreLinked links m b (xs ++ ys) a
  linked_join m b [] ys a h k = k
  linked_join m b (x ∷ xs) ys a h k = (subst (λ f. HasLinks links m x (record { before = b; after = f })) (sym (first-append a xs ys)) h.0, linked_join m (Some x) xs ys a h.1 k)

  -- the links of one slot of a list
  pub member : (m : FinMap nat_cmp T) (l : FlagList) (xs : List ℕ) (t : ℕ) (ys : List ℕ) → IsList links m l (xs ++ t ∷ ys) → HasLinks links m t (record { before = last_or None xs; after = first_or None ys })
  member m l xs t ys h = (linked_cut m None xs (t ∷ ys) None h.linked).1.0

  pub is_there : (m : FinMap nat_cmp T) (t : ℕ) (k : Links) → HasLinks links m t k → IsSome (get m t)
  is_there m t k h = ap is_some h.1

  -- the links that the code reads
  pub neighbours : (m : FinMap nat_cmp T) (l : FlagList) (xs : List ℕ) (t : ℕ) (ys : List ℕ) (x : T) (r : Links) → IsList links m l (xs ++ t ∷ ys) → get m t ≡ Some x → r ≡ links x → (r.before ≡ last_or None xs) × (r.after ≡ first_or None ys)
  neighbours m l xs t ys x r h e is =
      let k = member m l xs t ys h in let same : x ≡ k.0 = cc (e, k.1) in let all : r ≡ record { before = last_or None xs; after = first_or None ys } = is ∙ ap links same ∙ k.2 in
      (ap (λ (k : Links). k.before) all, ap (λ (k : Links). k.after) all)

  -- a write to a slot that isn't among them
  pub has_off : (m : FinMap nat_cmp T) (t : ℕ) (w : T) (s : ℕ) (l : Links) → s ≢ t → HasLinks links m s l → HasLinks links (insert m t w) s l
  has_off m t w s l ne h = (h.0, get_off m t w s ne ∙ h.1, h.2)

  pub linked_off : (m : FinMap nat_cmp T) (t : ℕ) (w : T) (b : Option ℕ) (ss : List ℕ) (a : Option ℕ) → ¬ IsIn t ss → AreLinked links m b ss a → AreLinked links (insert m t w) b ss a
  linked_off m t w b [] a o h = tt
  linked_off m t w b (s ∷ ss) a o h = (has_off m t w s _ (λ e. o (inl (sym e))) h.0, linked_off m t w (Some s) ss a (λ i. o (inr i)) h.1)

  module _ (with : T → Links → T) (set : (x : T) (l : Links) → links (with x l) ≡ l) where
    pub has_here : (m : FinMap nat_cmp T) (t : ℕ) (x : T) (l : Links) → HasLinks links (insert m t (with x l)) t l
    has_here m t x l = (with x l, get_here m t (with x l), set x l)

    -- the last slot gets another neighbour behind it
    pub after_set : (m : FinMap nat_cmp T) (b : Option ℕ) (xs : List ℕ) (t : ℕ) (a a' : Option ℕ) (x : T) → get m t ≡ Some x → ¬ IsIn t xs
        → AreLinked links m b (xs ++ t ∷ []) a → AreLinked links (insert m t (with x (record (links x) { after = a' }))) b (xs ++ t ∷ []) a'
    after_set m b xs t a a' x e o h =
        let r = linked_cut m b xs (t ∷ []) a h in let n = insert m t (with x (record (links x) { after = a' })) in
        let same : x ≡ r.1.0.0 = cc (e, r.1.0.1) in
        let own : links x ≡ record { before = last_or b xs; after = a } = ap links same ∙ r.1.0.2 in
        linked_join n b xs (t ∷ []) a' (linked_off m t _ b xs (Some t) o r.0)
        (subst (HasLinks links n t) (ap (λ (l : Links). record l { after = a' }) own) (has_here m t x (record (links x) { after = a' })), tt)

    -- the first slot gets another neighbour before it
    pub before_set : (m : FinMap nat_cmp T) (b b' : Option ℕ) (t : ℕ) (ys : List ℕ) (a : Option ℕ) (x : T) → get m t ≡ Some x → ¬ IsIn t ys
        → AreLinked links m b (t ∷ ys) a → AreLinked links (insert m t (with x (record (links x) { before = b' }))) b' (t ∷ ys) a
    before_set m b b' t ys a x e o h =
        let n = insert m t (with x (record (links x) { before = b' })) in
        let same : x ≡ h.0.0 = cc (e, h.0.1) in
        let own : links x ≡ record { before = b; after = first_or a ys } = ap links same ∙ h.0.2 in
        (subst (HasLinks links n t) (ap (λ (l : Links). record l { before = b' }) own) (has_here m t x (record (links x) { before = b' })), linked_off m t _ (Some t) ys a o h.1)

  -- the slots beside one of a list hold values
  pub before_has : (m : FinMap nat_cmp T) (l : FlagList) (xs : List ℕ) (slot : ℕ) (ys : List ℕ) → IsList links m l (xs ++ slot ∷ ys) → (t : ℕ) → last_or None xs ≡ Some t → (y : T) × (get m t ≡ Some y)
  before_has m l xs slot ys h t e =
      let s = some_last xs t e in let c = linked_cut m None xs (slot ∷ ys) None h.linked in
      let k = linked_cut m None s.0 (t ∷ []) (Some slot) (subst (λ l. AreLinked links m None l (Some slot)) s.1 c.0) in (k.1.0.0, k.1.0.1)

  pub after_has : (m : FinMap nat_cmp T) (b : Option ℕ) (ys : List ℕ) (u : ℕ) → AreLinked links m b ys None → first_or None ys ≡ Some u → (z : T) × (get m u ≡ Some z)
  after_has m b ys u h e = let s = some_first ys u e in let k = subst (λ s. AreLinked links m b s None) s.1 h in (k.0.0, k.0.1)
