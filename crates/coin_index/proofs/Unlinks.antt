-- A slot is taken out of its bucket's chain.
use Rattle.std.proofs.Common.{◌≡◌, ◌≢◌, ◌⊎◌, inl, inr, ◌++◌, ◌<◌, ℕ, List, [], ◌∷◌, length, get_or, set, Option, Some, None, refl, sym, ap, ◌∙◌, subst, arith, length-set}
use Rattle.std.proofs.lemmas.Bool.{cases_eq}
use Rattle.std.proofs.lemmas.List.{get_or_default, map-set, get_or-set_same, get_or-set_other, set-get_or}
use Rattle.std.specs.Ordering.{nat_cmp}
use Rattle.std.specs.FinMap.{FinMap, get, insert, remove}
use Rattle.slot_pool.specs.Pool.{Contents, with_value}
use Rattle.slot_pool.specs.Slots.{first_or, last_or, IsIn, IsDistinct}
use Rattle.slot_pool.proofs.SlotLaws.{get_here, get_off, in_left, in_middle, cut_at, in_without, in_but, not_left, distinct_without, first_some, empty_last, some_last}
use Rattle.base_types.specs.Keys.{outpoint_cmp}
use Rattle.base_types.specs.declared.hash.OutPoint.{OutPoint}
use Rattle.base_types.specs.declared.program.Salt.{Salt}
use Rattle.coin_index.specs.declared.index.Index.{Index}
use Rattle.coin_index.specs.Hash.{bucket_of}
use Rattle.coin_index.specs.Index.{AreChained, IsIndex}
use Rattle.coin_index.proofs.IndexLaws.{same_key_or_not, gone_here, gone_off, get_or-map_first, chains_count}
use Rattle.coin_index.proofs.Chains.{chained_off}

module _ {T : Type 0} (key : T → OutPoint) (chain : T → Option ℕ) where
  -- one chain leads past the slot now, other chains stay, and every value keeps its key
  pub record LeadsPast (m n : FinMap nat_cmp T) (xs : List ℕ) (slot : ℕ) (ys : List ℕ) : Type 0 where
    pub chained : AreChained key chain n (xs ++ ys)
    pub others : (ss : List ℕ) → ((s : ℕ) → IsIn s ss → ¬ IsIn s xs) → AreChained key chain m ss → AreChained key chain n ss
    pub keys : (s : ℕ) (x : T) → get m s ≡ Some x → (y : T) × (get n s ≡ Some y) × (key y ≡ key x)

  module _ (m : FinMap nat_cmp T) (i : Index) (found : FinMap outpoint_cmp ℕ) (h : IsIndex key chain m i found) (slot b : ℕ) (x : T) (at : get m slot ≡ Some x) (is_found : get found (key x) ≡ Some slot)
      (is : b ≡ bucket_of i.salt (length i.buckets.items) (key x)) (below : b < length i.buckets.items) where
    place : bucket_of i.salt (length h.chains) (key x) ≡ b
    place = ap (λ c. bucket_of i.salt c (key x)) (chains_count key chain m i found h) ∙ sym is

    -- the chain, cut at the slot
    pub parts : (xs ys : List ℕ) × (get_or h.chains b [] ≡ xs ++ slot ∷ ys)
    parts = cut_at (get_or h.chains b []) slot (subst (λ c. IsIn slot (get_or h.chains c [])) place (h.present (key x) slot is_found).0)

    within : b < length h.chains
    within = omega (arith, below, chains_count key chain m i found h)

    pub unlinked : (n : FinMap nat_cmp T) (xs ys : List ℕ) → get_or h.chains b [] ≡ xs ++ slot ∷ ys → LeadsPast m n xs slot ys → (j : Index) → j.buckets.items ≡ set i.buckets.items b (first_or None (xs ++ ys)) → j.salt ≡ i.salt
        → IsIndex key chain n j (remove found (key x))
    unlinked n xs ys split past j items salt = record {
      chains = set h.chains b (xs ++ ys);
      heads = items ∙ ap (λ l. set l b (first_or None (xs ++ ys))) h.heads ∙ sym (map-set (first_or None) h.chains b (xs ++ ys));
      chained = λ c. chained_at c (cases_eq c b);
      distinct = λ c. distinct_at c (cases_eq c b);
      listed = λ c s i'. listed_at c s i' (cases_eq c b);
      present = λ k s e. present_at k s e (same_key_or_not k (key x));
    } where
      same_bucket : get_or (set h.chains b (xs ++ ys)) b [] ≡ xs ++ ys
      same_bucket = get_or-set_same h.chains b (xs ++ ys) [] within

      other_bucket : (c : ℕ) → c ≢ b → get_or (set h.chains b (xs ++ ys)) c [] ≡ get_or h.chains c []
      other_bucket c ne = get_or-set_other h.chains b c (xs ++ ys) [] ne

      count : length (set h.chains b (xs ++ ys)) ≡ length h.chains
      count = length-set h.chains b (xs ++ ys)

      split_at : (c s : ℕ) → c ≡ b → IsIn s (get_or h.chains c []) → IsIn s (xs ++ slot ∷ ys)
      split_at c s e i' = subst (IsIn s) (ap (λ k. get_or h.chains k []) e ∙ split) i'

      join_at : (c s : ℕ) → c ≡ b → IsIn s (xs ++ slot ∷ ys) → IsIn s (get_or h.chains c [])
      join_at c s e i' = subst (IsIn s) (sym (ap (λ k. get_or h.chains k []) e ∙ split)) i'

      distinct_all : IsDistinct (xs ++ slot ∷ ys)
      distinct_all = subst IsDistinct split (h.distinct b)

      -- a slot has one bucket
      apart : (c s : ℕ) → IsIn s (get_or h.chains c []) → IsIn s (get_or h.chains b []) → c ≡ b
      apart c s i' k' = let l = h.listed c s i' in let r = h.listed b s k' in let same : l.0 ≡ r.0 = cc (l.1, r.1) in sym l.2 ∙ ap (λ y. bucket_of i.salt (length h.chains) (key y)) same ∙ r.2

      chained_at : (c : ℕ) → (c ≡ b) ⊎ (c ≡ b → ⊥) → AreChained key chain n (get_or (set h.chains b (xs ++ ys)) c [])
      chained_at c (inl e) = subst (AreChained key chain n) (sym (ap (λ k. get_or (set h.chains b (xs ++ ys)) k []) e ∙ same_bucket)) past.chained
      chained_at c (inr ne) = subst (AreChained key chain n) (sym (other_bucket c ne)) (past.others (get_or h.chains c []) (λ s i' k'. ne (apart c s i' (join_at b s refl (in_left s xs (slot ∷ ys) k')))) (h.chained c))

      distinct_at : (c : ℕ) → (c ≡ b) ⊎ (c ≡ b → ⊥) → IsDistinct (get_or (set h.chains b (xs ++ ys)) c [])
      distinct_at c (inl e) = subst IsDistinct (sym (ap (λ k. get_or (set h.chains b (xs ++ ys)) k []) e ∙ same_bucket)) (distinct_without xs slot ys distinct_all)
      distinct_at c (inr ne) = subst IsDistinct (sym (other_bucket c ne)) (h.distinct c)

      kept_at : (c s : ℕ) → IsIn s (get_or h.chains c []) → s ≢ slot → (y : T) × (get n s ≡ Some y) × (bucket_of j.salt (length (set h.chains b (xs ++ ys))) (key y) ≡ c) × (get (remove found (key x)) (key y) ≡ Some s)
      kept_at c s i' ne =
          let l = h.listed c s i' in let k = past.keys s l.0 l.1 in
          let off : key k.0 ≡ key x → ⊥ = λ e. let f : Some s ≡ Some slot = sym l.3 ∙ ap (get found) (sym k.2 ∙ e) ∙ is_found in let g : s ≡ slot = cc f in ne g in (
            k.0,
            k.1,
            ap (λ (t : Salt). bucket_of t (length (set h.chains b (xs ++ ys))) (key k.0)) salt ∙ ap (bucket_of i.salt (length (set h.chains b (xs ++ ys)))) k.2 ∙ ap (λ q. bucket_of i.salt q (key l.0)) count ∙ l.2,
            gone_off found (key x) (key k.0) off ∙ ap (get found) k.2 ∙ l.3,
          )

      listed_at : (c s : ℕ) → IsIn s (get_or (set h.chains b (xs ++ ys)) c []) → (c ≡ b) ⊎ (c ≡ b → ⊥) → (y : T) × (get n s ≡ Some y) × (bucket_of j.salt (length (set h.chains b (xs ++ ys))) (key y) ≡ c) × (get (remove found (key x)) (key y) ≡ Some s)
      listed_at c s i' (inl e) =
          let r : IsIn s (xs ++ ys) = subst (IsIn s) (ap (λ k. get_or (set h.chains b (xs ++ ys)) k []) e ∙ same_bucket) i' in
          kept_at c s (join_at c s e (in_without s slot xs ys r)) (λ f. not_left xs slot ys distinct_all (subst (λ k. IsIn k (xs ++ ys)) f r))
      listed_at c s i' (inr ne) =
          let r : IsIn s (get_or h.chains c []) = subst (IsIn s) (other_bucket c ne) i' in
          kept_at c s r (λ f. ne (apart c s r (join_at b s refl (subst (λ k. IsIn k (xs ++ slot ∷ ys)) (sym f) (in_middle xs slot ys)))))

      present_at : (k : OutPoint) (s : ℕ) → get (remove found (key x)) k ≡ Some s → (k ≡ key x) ⊎ (k ≡ key x → ⊥) → IsIn s (get_or (set h.chains b (xs ++ ys)) (bucket_of j.salt (length (set h.chains b (xs ++ ys))) k) []) × ((y : T) × (get n s ≡ Some y) × (key y ≡ k))
      present_at k s e (inl f) = let g : None ≡ Some s = sym (gone_here found (key x)) ∙ ap (get (remove found (key x))) (sym f) ∙ e in cc
      present_at k s e (inr ne) =
          let p = h.present k s (sym (gone_off found (key x) k ne) ∙ e) in let q = past.keys s p.1.0 p.1.1 in
          let off : s ≢ slot = λ f. let same : p.1.0 ≡ x = cc (p.1.1, at, f) in ne (sym p.1.2 ∙ ap key same) in
          let c0 = bucket_of i.salt (length h.chains) k in
          let there : bucket_of j.salt (length (set h.chains b (xs ++ ys))) k ≡ c0 = ap (λ (t : Salt). bucket_of t (length (set h.chains b (xs ++ ys))) k) salt ∙ ap (λ c. bucket_of i.salt c k) count in
          (subst (λ c. IsIn s (get_or (set h.chains b (xs ++ ys)) c [])) (sym there) (stays c0 (cases_eq c0 b) p.0 off), (q.0, q.1, q.2 ∙ p.1.2)) where
            stays : (c : ℕ) → (c ≡ b) ⊎ (c ≡ b → ⊥) → IsIn s (get_or h.chains c []) → s ≢ slot → IsIn s (get_or (set h.chains b (xs ++ ys)) c [])
            stays c (inl f) i' off = subst (IsIn s) (sym (ap (λ k. get_or (set h.chains b (xs ++ ys)) k []) f ∙ same_bucket)) (in_but s slot xs ys off (split_at c s f i'))
            stays c (inr f) i' off = subst (IsIn s) (sym (other_bucket c f)) i'

  -- the first slot of a chain leads to the others already
  pub past_first : (m : FinMap nat_cmp T) (slot : ℕ) (ys : List ℕ) → AreChained key chain m (slot ∷ ys) → LeadsPast m m [] slot ys
  past_first m slot ys h = record { chained = h.3; others = λ ss f k. k; keys = λ s x e. (x, e, refl) }

  -- the link that leads past the slot
  pub link_of : (m : FinMap nat_cmp T) (xs : List ℕ) (slot : ℕ) (ys : List ℕ) (x : T) → get m slot ≡ Some x → AreChained key chain m (xs ++ slot ∷ ys) → chain x ≡ first_or None ys
  link_of m [] slot ys x at h = let same : x ≡ h.0 = cc (at, h.1) in ap chain same ∙ h.2
  link_of m (u ∷ xs) slot ys x at h = link_of m xs slot ys x at h.3

  value_of : (m : FinMap nat_cmp T) (us : List ℕ) (t : ℕ) (zs : List ℕ) → AreChained key chain m ((us ++ t ∷ []) ++ zs) → (y : T) × (get m t ≡ Some y)
  value_of m [] t zs h = (h.0, h.1)
  value_of m (u ∷ us) t zs h = value_of m us t zs h.3

  module _ (with : T → Option ℕ → T) (set' : (x : T) (n : Option ℕ) → chain (with x n) ≡ n) (kept : (x : T) (n : Option ℕ) → key (with x n) ≡ key x) where
    relinked : (m : FinMap nat_cmp T) (us : List ℕ) (t slot : ℕ) (ys : List ℕ) (y : T) (next : Option ℕ) → next ≡ first_or None ys → IsDistinct ((us ++ t ∷ []) ++ slot ∷ ys) → AreChained key chain m ((us ++ t ∷ []) ++ slot ∷ ys)
        → AreChained key chain (insert m t (with y next)) ((us ++ t ∷ []) ++ ys)
    relinked m [] t slot ys y next e d h = (with y next, get_here m t (with y next), set' y next ∙ e, chained_off key chain m t (with y next) ys (λ i. d.0 (inr i)) h.3.3)
    relinked m (u ∷ us) t slot ys y next e d h =
        let ne : u ≢ t = λ f. d.0 (subst (λ k. IsIn k ((us ++ t ∷ []) ++ slot ∷ ys)) (sym f) (in_left t (us ++ t ∷ []) (slot ∷ ys) (in_middle us t []))) in
        (h.0, get_off m t (with y next) u ne ∙ h.1, h.2 ∙ first_some us t (slot ∷ ys) ys, relinked m us t slot ys y next e d.1 h.3)

    -- the slot before another is linked past it
    pub past_next : (m : FinMap nat_cmp T) (us : List ℕ) (t slot : ℕ) (ys : List ℕ) (y : T) (next : Option ℕ) → get m t ≡ Some y → next ≡ first_or None ys → IsDistinct ((us ++ t ∷ []) ++ slot ∷ ys) → AreChained key chain m ((us ++ t ∷ []) ++ slot ∷ ys)
        → LeadsPast m (insert m t (with y next)) (us ++ t ∷ []) slot ys
    past_next m us t slot ys y next at e d h = record {
      chained = relinked m us t slot ys y next e d h;
      others = λ ss f k. chained_off key chain m t (with y next) ss (λ i. f t i (in_middle us t [])) k;
      keys = λ s x is. keys s x is (cases_eq s t);
    } where
      keys : (s : ℕ) (x : T) → get m s ≡ Some x → (s ≡ t) ⊎ (s ≡ t → ⊥) → (z : T) × (get (insert m t (with y next)) s ≡ Some z) × (key z ≡ key x)
      keys s x is (inl f) = let same : y ≡ x = cc (at, is, f) in (with y next, ap (get (insert m t (with y next))) f ∙ get_here m t (with y next), kept y next ∙ ap key same)
      keys s x is (inr ne) = (x, get_off m t (with y next) s ne ∙ is, refl)

    -- the whole call, from what its steps say
    module _ (p : Contents T) (i : Index) (found : FinMap outpoint_cmp ℕ) (h : IsIndex key chain p.values i found) (slot b : ℕ) (x : T) (at : get p.values slot ≡ Some x) (is_found : get found (key x) ≡ Some slot)
        (y : T) (got : get p.values slot ≡ Some y) (k : OutPoint) (k_is : k ≡ key y) (bucket_is : b ≡ bucket_of i.salt (length i.buckets.items) k) (below : b < length i.buckets.items) (head : Option ℕ) (head_at : head ≡ get_or i.buckets.items b head) where
      is : b ≡ bucket_of i.salt (length i.buckets.items) (key x)
      is = let same : y ≡ x = cc (got, at) in bucket_is ∙ ap (bucket_of i.salt (length i.buckets.items)) (k_is ∙ ap key same)

      head_is : head ≡ get_or i.buckets.items b None
      head_is = head_at ∙ get_or_default i.buckets.items b head None below

      pub asks : (xs ys : List ℕ) × AreChained key chain p.values (xs ++ slot ∷ ys) × IsDistinct (xs ++ slot ∷ ys) × (head ≡ first_or None (xs ++ slot ∷ ys)) × (get_or h.chains b [] ≡ xs ++ slot ∷ ys)
      asks =
          let c = parts p.values i found h slot b x at is_found is below in (
            c.0,
            c.1,
            subst (AreChained key chain p.values) c.2 (h.chained b),
            subst IsDistinct c.2 (h.distinct b),
            head_is ∙ ap (λ l. get_or l b None) h.heads ∙ get_or-map_first h.chains b ∙ ap (first_or None) c.2,
            c.2,
          )

      -- what `before` answers
      abbrev pub Before : Option ℕ → Type 0
      Before o = (xs ys : List ℕ) → AreChained key chain p.values (xs ++ slot ∷ ys) → IsDistinct (xs ++ slot ∷ ys) → head ≡ first_or None (xs ++ slot ∷ ys) → o ≡ last_or None xs

      pub last_there : (o : Option ℕ) (t : ℕ) → o ≡ Some t → Before o → (z : T) × (get p.values t ≡ Some z)
      last_there o t is_t before = let e = sym is_t ∙ before asks.0 asks.1 asks.2 asks.3 asks.4 in let s = some_last asks.0 t (sym e) in value_of p.values s.0 t (slot ∷ asks.1) (subst (λ l. AreChained key chain p.values (l ++ slot ∷ asks.1)) s.1 asks.2)

      pub unlinked_first : (o : Option ℕ) → o ≡ None → Before o → (z : T) → get p.values slot ≡ Some z → (next : Option ℕ) → next ≡ chain z → (j : Index) → j.buckets.items ≡ set i.buckets.items b next → j.salt ≡ i.salt → IsIndex key chain p.values j (remove found (key x))
      unlinked_first o none' before z got' next next_is j items salt =
          let e = sym none' ∙ before asks.0 asks.1 asks.2 asks.3 asks.4 in let one : z ≡ x = cc (got', at) in let ne = next_is ∙ ap chain one in
          let none = empty_last asks.0 (sym e) in let ys = asks.1 in
          let all : AreChained key chain p.values (slot ∷ ys) = subst (λ l. AreChained key chain p.values (l ++ slot ∷ ys)) none asks.2 in
          let link : next ≡ first_or None ys = ne ∙ link_of p.values [] slot ys x at all in
          unlinked p.values i found h slot b x at is_found is below p.values [] ys (asks.5 ∙ ap (λ l. l ++ slot ∷ ys) none) (past_first p.values slot ys all) j (items ∙ ap (set i.buckets.items b) link) salt

      pub unlinked_next : (o : Option ℕ) (t : ℕ) → o ≡ Some t → Before o → (z : T) → get p.values slot ≡ Some z → (next : Option ℕ) → next ≡ chain z → (n : Contents T) → ((v : T) → get p.values t ≡ Some v → n ≡ with_value p t (with v next)) → IsIndex key chain n.values i (remove found (key x))
      unlinked_next o t is_t before z got' next next_is n set_is =
          let e = sym is_t ∙ before asks.0 asks.1 asks.2 asks.3 asks.4 in let one : z ≡ x = cc (got', at) in let ne = next_is ∙ ap chain one in let v = last_there o t is_t before in let ns = set_is v.0 v.1 in
          let s = some_last asks.0 t (sym e) in let us = s.0 in let ys = asks.1 in
          let all : AreChained key chain p.values ((us ++ t ∷ []) ++ slot ∷ ys) = subst (λ l. AreChained key chain p.values (l ++ slot ∷ ys)) s.1 asks.2 in
          let apart : IsDistinct ((us ++ t ∷ []) ++ slot ∷ ys) = subst (λ l. IsDistinct (l ++ slot ∷ ys)) s.1 asks.3 in
          let link : next ≡ first_or None ys = ne ∙ link_of p.values (us ++ t ∷ []) slot ys x at all in
          let front : get_or i.buckets.items b None ≡ first_or None ((us ++ t ∷ []) ++ ys) = sym head_is ∙ asks.4 ∙ ap (λ l. first_or None (l ++ slot ∷ ys)) s.1 ∙ first_some us t (slot ∷ ys) ys in
          subst (λ (c : Contents T). IsIndex key chain c.values i (remove found (key x))) (sym ns)
          (unlinked p.values i found h slot b x at is_found is below (insert p.values t (with v.0 next)) (us ++ t ∷ []) ys (asks.5 ∙ ap (λ l. l ++ slot ∷ ys) s.1)
          (past_next p.values us t slot ys v.0 next v.1 link apart all) i (sym (ap (set i.buckets.items b) (sym front) ∙ set-get_or i.buckets.items b None)) refl)
