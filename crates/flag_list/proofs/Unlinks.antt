-- A slot is taken out of a list.
use Rattle.std.proofs.Common.{◌≡◌, ◌⊎◌, ◌++◌, ℕ, inl, inr, List, [], ◌∷◌, Option, Some, None, sym, ap, ◌∙◌, subst, append_assoc}
use Rattle.std.specs.Ordering.{nat_cmp}
use Rattle.std.specs.FinMap.{FinMap, get, insert}
use Rattle.slot_pool.specs.Changes.{ChangesOnly}
use Rattle.slot_pool.specs.Pool.{Contents, with_value}
use Rattle.slot_pool.specs.Slots.{first_or, last_or, IsDistinct}
use Rattle.slot_pool.proofs.ChangeLaws.{changes_none, changes_one, changes_then}
use Rattle.slot_pool.proofs.SlotLaws.{not_before, not_after, distinct_without, last-append, first_some, empty_last, some_last, empty_first, some_first}
use Rattle.flag_list.specs.declared.linked.Links.{Links}
use Rattle.flag_list.specs.declared.list.FlagList.{FlagList}
use Rattle.flag_list.specs.List.{AreLinked, IsList}
use Rattle.flag_list.proofs.Neighbours.{linked_cut, linked_join, linked_off, after_set, before_set, neighbours, before_has, after_has}

-- once the slot before leads past the slot: the list begins with `first`, and the slots behind still name the slot
pub record IsPassed {T : Type 0} (links : T → Links) (m : FinMap nat_cmp T) (first : Option ℕ) (xs : List ℕ) (slot : ℕ) (ys : List ℕ) : Type 0 where
  pub left : AreLinked links m None xs (first_or None ys)
  pub right : AreLinked links m (Some slot) ys None
  pub begins : first ≡ first_or None (xs ++ ys)

module _ {T : Type 0} (links : T → Links) (with : T → Links → T) (set : (x : T) (l : Links) → links (with x l) ≡ l) (own : (x : T) → with x (links x) ≡ x) (twice : (x : T) (l k : Links) → with (with x l) k ≡ with x k) (p : Contents T) (l : FlagList) (xs : List ℕ) (slot : ℕ) (ys : List ℕ) (h : IsList links p.values l (xs ++ slot ∷ ys))
    (x : T) (at : get p.values slot ≡ Some x) (r : Links) (is : r ≡ links x) where
  near : (r.before ≡ last_or None xs) × (r.after ≡ first_or None ys)
  near = neighbours links p.values l xs slot ys x r h at is

  parts : AreLinked links p.values None xs (Some slot) × AreLinked links p.values (last_or None xs) (slot ∷ ys) None
  parts = linked_cut links p.values None xs (slot ∷ ys) None h.linked

  passed_first : (n : Contents T) (f : FlagList) → r.before ≡ None → n ≡ p → f ≡ record l { first = r.after } → IsPassed links n.values f.first xs slot ys × (f.last ≡ l.last)
  passed_first n f none ne fe =
      let empty = empty_last xs (sym near.0 ∙ none) in (
        subst (λ (c : Contents T). IsPassed links c.values f.first xs slot ys) (sym ne) (record {
          left = subst (λ s. AreLinked links p.values None s (first_or None ys)) (sym empty) tt;
          right = parts.1.1;
          begins = ap (λ (g : FlagList). g.first) fe ∙ near.1 ∙ ap (λ s. first_or None (s ++ ys)) (sym empty);
        }),
        ap (λ (g : FlagList). g.last) fe,
      )

  pub before_there : (t : ℕ) → r.before ≡ Some t → (y : T) × (get p.values t ≡ Some y)
  before_there t e = before_has links p.values l xs slot ys h t (sym near.0 ∙ e)

  passed_by : (n : Contents T) (f : FlagList) (t : ℕ) (y : T) → r.before ≡ Some t → get p.values t ≡ Some y → n ≡ with_value p t (with y (record (links y) { after = r.after })) → f ≡ l
      → IsPassed links n.values f.first xs slot ys × (f.last ≡ l.last)
  passed_by n f t y e yt ne fe =
      let s = some_last xs t (sym near.0 ∙ e) in let us = s.0 in let w = with y (record (links y) { after = r.after }) in
      let d : IsDistinct (us ++ t ∷ (slot ∷ ys)) = subst IsDistinct (ap (λ s. s ++ slot ∷ ys) s.1 ∙ append_assoc us (t ∷ []) (slot ∷ ys)) h.distinct in
      let was : AreLinked links p.values None (us ++ t ∷ []) (Some slot) = subst (λ s. AreLinked links p.values None s (Some slot)) s.1 parts.0 in
      let now : AreLinked links (insert p.values t w) None (us ++ t ∷ []) r.after = after_set links with set p.values None us t (Some slot) r.after y yt (not_before us t (slot ∷ ys) d) was in (
        subst (λ (c : Contents T). IsPassed links c.values f.first xs slot ys) (sym ne) (record {
          left = subst (λ s. AreLinked links (insert p.values t w) None s (first_or None ys)) (sym s.1) (subst (λ a. AreLinked links (insert p.values t w) None (us ++ t ∷ []) a) near.1 now);
          right = linked_off links p.values t w (Some slot) ys None (λ i. not_after us t (slot ∷ ys) d (inr i)) parts.1.1;
          begins = ap (λ (g : FlagList). g.first) fe ∙ h.first ∙ ap (λ s. first_or None (s ++ slot ∷ ys)) s.1 ∙ first_some us t (slot ∷ ys) ys ∙ sym (ap (λ s. first_or None (s ++ ys)) s.1);
        }),
        ap (λ (g : FlagList). g.last) fe,
      )

  -- the list begins behind the slot, or the slot before it leads past it
  pub passed : (n : Contents T) (f : FlagList)
      → ((r.before ≡ None) × (n ≡ p) × (f ≡ record l { first = r.after })) ⊎ ((t : ℕ) × (r.before ≡ Some t) × ((y : T) → get p.values t ≡ Some y → n ≡ with_value p t (with y (record (links y) { after = r.after }))) × (f ≡ l))
      → (IsPassed links n.values f.first xs slot ys × (f.last ≡ l.last)) × ChangesOnly with p n
  passed n f (inl s) = (passed_first n f s.0 s.1 s.2, subst (ChangesOnly with p) (sym s.1) (changes_none links with own twice p))
  passed n f (inr s) = let y = before_there s.0 s.1 in let e = s.2 y.0 y.1 in (passed_by n f s.0 y.0 s.1 y.1 e s.3, changes_one links with own twice p n s.0 y.0 _ y.1 e)

  module _ (n : Contents T) (f : FlagList) (s : (IsPassed links n.values f.first xs slot ys × (f.last ≡ l.last)) × ChangesOnly with p n) where
    abbrev b : IsPassed links n.values f.first xs slot ys × (f.last ≡ l.last)
    b = s.0

    pub unlinked_last : (k : FlagList) → r.after ≡ None → k ≡ record f { last = r.before } → IsList links n.values k (xs ++ ys)
    unlinked_last k none ke =
        let empty = empty_first ys (sym near.1 ∙ none) in
        subst (λ (g : FlagList). IsList links n.values g (xs ++ ys)) (sym ke) (record {
          first = b.0.begins;
          last = near.0 ∙ sym (ap (λ s. last_or (last_or None xs) s) empty) ∙ sym (last-append None xs ys);
          linked = linked_join links n.values None xs ys None b.0.left (subst (λ s. AreLinked links n.values (last_or None xs) s None) (sym empty) tt);
          distinct = distinct_without xs slot ys h.distinct;
        })

    pub after_there : (u : ℕ) → r.after ≡ Some u → (z : T) × (get n.values u ≡ Some z)
    after_there u e = after_has links n.values (Some slot) ys u b.0.right (sym near.1 ∙ e)

    unlinked_before : (k : Contents T) (u : ℕ) (z : T) → r.after ≡ Some u → get n.values u ≡ Some z → k ≡ with_value n u (with z (record (links z) { before = r.before })) → IsList links k.values f (xs ++ ys)
    unlinked_before k u z e zt ke =
        let s = some_first ys u (sym near.1 ∙ e) in let vs = s.0 in let w = with z (record (links z) { before = r.before }) in let m = insert n.values u w in
        let d : IsDistinct (xs ++ u ∷ vs) = subst (λ s. IsDistinct (xs ++ s)) s.1 (distinct_without xs slot ys h.distinct) in
        let was : AreLinked links n.values (Some slot) (u ∷ vs) None = subst (λ s. AreLinked links n.values (Some slot) s None) s.1 b.0.right in
        let now : AreLinked links m r.before (u ∷ vs) None = before_set links with set n.values (Some slot) r.before u vs None z zt (not_after xs u vs d) was in
        let right : AreLinked links m (last_or None xs) ys None = subst (λ s. AreLinked links m (last_or None xs) s None) (sym s.1) (subst (λ a. AreLinked links m a (u ∷ vs) None) near.0 now) in
        subst (λ (c : Contents T). IsList links c.values f (xs ++ ys)) (sym ke) (record {
          first = b.0.begins;
          last = b.1 ∙ h.last ∙ last-append None xs (slot ∷ ys) ∙ ap (λ s. last_or (Some slot) s) s.1 ∙ sym (ap (λ s. last_or (last_or None xs) s) s.1) ∙ sym (last-append None xs ys);
          linked = linked_join links m None xs ys None (linked_off links n.values u w None xs (first_or None ys) (not_before xs u vs d) b.0.left) right;
          distinct = distinct_without xs slot ys h.distinct;
        })

    -- and the slot behind it leads back past it
    pub changed_between : (k : Contents T) (u : ℕ) → r.after ≡ Some u → ((z : T) → get n.values u ≡ Some z → k ≡ with_value n u (with z (record (links z) { before = r.before }))) → ChangesOnly with p k
    changed_between k u e ke = let z = after_there u e in changes_then links with own twice p n k s.1 (changes_one links with own twice n k u z.0 _ z.1 (ke z.0 z.1))

    pub unlinked_between : (k : Contents T) (u : ℕ) → r.after ≡ Some u → ((z : T) → get n.values u ≡ Some z → k ≡ with_value n u (with z (record (links z) { before = r.before }))) → IsList links k.values f (xs ++ ys)
    unlinked_between k u e ke = let z = after_there u e in unlinked_before k u z.0 e z.1 (ke z.0 z.1)
