-- A slot is put at the head of its bucket's chain.
use Rattle.std.proofs.Common.{◌≡◌, ◌≢◌, ◌⊎◌, inl, inr, ◌<◌, ℕ, List, [], ◌∷◌, length, get_or, set, Option, Some, None, sym, ap, ◌∙◌, subst, arith, length-set}
use Rattle.std.proofs.lemmas.Bool.{cases_eq}
use Rattle.std.proofs.lemmas.List.{map-set, get_or-set_same, get_or-set_other}
use Rattle.std.specs.Ordering.{nat_cmp}
use Rattle.std.specs.FinMap.{FinMap, get, insert}
use Rattle.slot_pool.specs.Pool.{Contents, with_value}
use Rattle.slot_pool.specs.Slots.{first_or, IsIn, IsDistinct}
use Rattle.slot_pool.proofs.SlotLaws.{get_here, get_off}
use Rattle.base_types.specs.Keys.{outpoint_cmp}
use Rattle.base_types.specs.declared.hash.OutPoint.{OutPoint}
use Rattle.base_types.specs.declared.program.Salt.{Salt}
use Rattle.coin_index.specs.declared.index.Index.{Index}
use Rattle.coin_index.specs.Hash.{bucket_of}
use Rattle.coin_index.specs.Index.{AreChained, IsIndex}
use Rattle.coin_index.proofs.IndexLaws.{same_key_or_not, found_here, found_off, get_or-map_first, chains_count}
use Rattle.coin_index.proofs.Chains.{chained_off}

module _ {T : Type 0} (key : T → OutPoint) (chain : T → Option ℕ) (with : T → Option ℕ → T) (set' : (x : T) (n : Option ℕ) → chain (with x n) ≡ n) (kept : (x : T) (n : Option ℕ) → key (with x n) ≡ key x)
    (m : FinMap nat_cmp T) (i : Index) (found : FinMap outpoint_cmp ℕ) (h : IsIndex key chain m i found) (slot b : ℕ) (x : T) (at : get m slot ≡ Some x) (new : get found (key x) ≡ None)
    (is : b ≡ bucket_of i.salt (length i.buckets.items) (key x)) (below : b < length i.buckets.items) (next : Option ℕ) (head : next ≡ get_or i.buckets.items b None) where
  cs : List ℕ
  cs = get_or h.chains b []

  css : List (List ℕ)
  unfolding cs
  css = set h.chains b (slot ∷ cs)

  w : T
  w = with x next

  n : FinMap nat_cmp T
  unfolding w
  n = insert m slot w

  -- the slot is in no chain yet
  off : (c : ℕ) → ¬ IsIn slot (get_or h.chains c [])
  off c i' = let l = h.listed c slot i' in let same : x ≡ l.0 = cc (at, l.1) in let f : None ≡ Some slot = sym new ∙ ap (λ y. get found (key y)) same ∙ l.3 in cc

  within : b < length h.chains
  within = omega (arith, below, chains_count key chain m i found h)

  same_bucket : get_or css b [] ≡ slot ∷ cs
  unfolding css
  same_bucket = get_or-set_same h.chains b (slot ∷ cs) [] within

  other_bucket : (c : ℕ) → c ≢ b → get_or css c [] ≡ get_or h.chains c []
  unfolding css
  other_bucket c ne = get_or-set_other h.chains b c (slot ∷ cs) [] ne

  count : length css ≡ length h.chains
  unfolding css
  count = length-set h.chains b (slot ∷ cs)

  not_slot : (c s : ℕ) → IsIn s (get_or h.chains c []) → s ≢ slot
  not_slot c s i' e = off c (subst (λ k. IsIn k (get_or h.chains c [])) e i')

  old_listed : (c s : ℕ) → IsIn s (get_or h.chains c []) → (y : T) × (get n s ≡ Some y) × (bucket_of i.salt (length css) (key y) ≡ c) × (get (insert found (key x) slot) (key y) ≡ Some s)
  unfolding n
  old_listed c s is' =
      let l = h.listed c s is' in
      let ne : key l.0 ≢ key x = λ e. let f : None ≡ Some s = sym new ∙ sym (ap (get found) e) ∙ l.3 in cc in
      (l.0, get_off m slot w s (not_slot c s is') ∙ l.1, ap (λ k. bucket_of i.salt k (key l.0)) count ∙ l.2, found_off found (key x) slot (key l.0) ne ∙ l.3)

  into : (c s : ℕ) → IsIn s (get_or h.chains c []) → IsIn s (get_or css c [])
  unfolding cs
  into c s is' = go (cases_eq c b) where
    go : (c ≡ b) ⊎ (c ≡ b → ⊥) → IsIn s (get_or css c [])
    go (inl e) = subst (IsIn s) (sym (ap (λ k. get_or css k []) e ∙ same_bucket)) (inr (subst (λ k. IsIn s (get_or h.chains k [])) e is'))
    go (inr ne) = subst (IsIn s) (sym (other_bucket c ne)) is'

  linked : (j : Index) → j.buckets.items ≡ set i.buckets.items b (Some slot) → j.salt ≡ i.salt → IsIndex key chain (insert m slot (with x next)) j (insert found (key x) slot)
  unfolding cs css w n
  linked j items salt = record {
    chains = css;
    heads = items ∙ ap (λ l. set l b (Some slot)) h.heads ∙ sym (map-set (first_or None) h.chains b (slot ∷ cs));
    chained = λ c. chained_at c (cases_eq c b);
    distinct = λ c. distinct_at c (cases_eq c b);
    listed = λ c s is'. let l = listed_at c s is' (cases_eq c b) in (l.0, l.1, ap (λ (t : Salt). bucket_of t (length css) (key l.0)) salt ∙ l.2, l.3);
    present = λ k s e. present_at k s e (same_key_or_not k (key x));
  } where
    chained_at : (c : ℕ) → (c ≡ b) ⊎ (c ≡ b → ⊥) → AreChained key chain n (get_or css c [])
    chained_at c (inl e) = subst (AreChained key chain n) (sym (ap (λ k. get_or css k []) e ∙ same_bucket))
        (w, get_here m slot w, set' x next ∙ head ∙ ap (λ l. get_or l b None) h.heads ∙ get_or-map_first h.chains b, chained_off key chain m slot w cs (off b) (h.chained b))
    chained_at c (inr ne) = subst (AreChained key chain n) (sym (other_bucket c ne)) (chained_off key chain m slot w (get_or h.chains c []) (off c) (h.chained c))

    distinct_at : (c : ℕ) → (c ≡ b) ⊎ (c ≡ b → ⊥) → IsDistinct (get_or css c [])
    distinct_at c (inl e) = subst IsDistinct (sym (ap (λ k. get_or css k []) e ∙ same_bucket)) (off b, h.distinct b)
    distinct_at c (inr ne) = subst IsDistinct (sym (other_bucket c ne)) (h.distinct c)

    listed_at : (c s : ℕ) → IsIn s (get_or css c []) → (c ≡ b) ⊎ (c ≡ b → ⊥) → (y : T) × (get n s ≡ Some y) × (bucket_of i.salt (length css) (key y) ≡ c) × (get (insert found (key x) slot) (key y) ≡ Some s)
    listed_at c s is' (inr ne) = old_listed c s (subst (IsIn s) (other_bucket c ne) is')
    listed_at c s is' (inl e) = head_or (subst (IsIn s) (ap (λ k. get_or css k []) e ∙ same_bucket) is') where
      head_or : (s ≡ slot) ⊎ IsIn s cs → (y : T) × (get n s ≡ Some y) × (bucket_of i.salt (length css) (key y) ≡ c) × (get (insert found (key x) slot) (key y) ≡ Some s)
      head_or (inl f) = (
        w,
        ap (get n) f ∙ get_here m slot w,
        ap (bucket_of i.salt (length css)) (kept x next) ∙ ap (λ k. bucket_of i.salt k (key x)) (count ∙ chains_count key chain m i found h) ∙ sym is ∙ sym e,
        ap (get (insert found (key x) slot)) (kept x next) ∙ found_here found (key x) slot ∙ ap Some (sym f),
      )
      head_or (inr r) = old_listed c s (subst (λ k. IsIn s (get_or h.chains k [])) (sym e) r)

    present_at : (k : OutPoint) (s : ℕ) → get (insert found (key x) slot) k ≡ Some s → (k ≡ key x) ⊎ (k ≡ key x → ⊥) → IsIn s (get_or css (bucket_of j.salt (length css) k) []) × ((y : T) × (get n s ≡ Some y) × (key y ≡ k))
    present_at k s e (inl f) =
        let one : slot ≡ s = cc (sym (found_here found (key x) slot) ∙ ap (get (insert found (key x) slot)) (sym f) ∙ e) in
        let place : bucket_of j.salt (length css) k ≡ b = ap (λ (t : Salt). bucket_of t (length css) k) salt ∙ ap (bucket_of i.salt (length css)) f ∙ ap (λ c. bucket_of i.salt c (key x)) (count ∙ chains_count key chain m i found h) ∙ sym is in
        (subst (IsIn s) (sym (ap (λ c. get_or css c []) place ∙ same_bucket)) (inl (sym one)), (w, ap (get n) (sym one) ∙ get_here m slot w, kept x next ∙ sym f))
    present_at k s e (inr ne) =
        let p = h.present k s (sym (found_off found (key x) slot k ne) ∙ e) in
        let place : bucket_of i.salt (length h.chains) k ≡ bucket_of j.salt (length css) k = ap (λ c. bucket_of i.salt c k) (sym count) ∙ ap (λ (t : Salt). bucket_of t (length css) k) (sym salt) in
        (subst (λ c. IsIn s (get_or css c [])) place (into (bucket_of i.salt (length h.chains) k) s p.0), (p.1.0, get_off m slot w s (not_slot _ s p.0) ∙ p.1.1, p.1.2))

-- the same, as the steps of the code give it
pub linked_pool : {T : Type 0} (key : T → OutPoint) (chain : T → Option ℕ) (with : T → Option ℕ → T) → ((x : T) (n : Option ℕ) → chain (with x n) ≡ n) → ((x : T) (n : Option ℕ) → key (with x n) ≡ key x)
    → (p n : Contents T) (i : Index) (found : FinMap outpoint_cmp ℕ) → IsIndex key chain p.values i found → (slot b : ℕ) (x : T) → get p.values slot ≡ Some x → get found (key x) ≡ None
    → b ≡ bucket_of i.salt (length i.buckets.items) (key x) → b < length i.buckets.items → (next : Option ℕ) → next ≡ get_or i.buckets.items b None
    → n ≡ with_value p slot (with x next) → (j : Index) → j.buckets.items ≡ set i.buckets.items b (Some slot) → j.salt ≡ i.salt → IsIndex key chain n.values j (insert found (key x) slot)
linked_pool key chain with set' kept p n i found h slot b x at new is below next head e j items salt =
    subst (λ (c : Contents _). IsIndex key chain c.values j (insert found (key x) slot)) (sym e) (linked key chain with set' kept p.values i found h slot b x at new is below next head j items salt)
