-- Laws of an index and its pool.
use Rattle.std.proofs.Common.{◌≡◌, ◌≢◌, ◌⊎◌, inl, inr, ◌<◌, ℕ, zero, suc, cond, List, [], ◌∷◌, map, length, get_or, Option, Some, None, refl, sym, ap, ◌∙◌, subst, arith}
use Rattle.std.specs.Ordering.{nat_cmp}
use Rattle.std.specs.FinMap.{FinMap, get, empty, insert, remove, get-empty, get-insert, get-remove, same_map}
use Rattle.std.proofs.lemmas.Bool.{cases_eq}
use Rattle.slot_pool.proofs.ChangeLaws.{kept_value}
use Rattle.slot_pool.specs.Changes.{ChangesOnly}
use Rattle.slot_pool.specs.Pool.{Contents}
use Rattle.slot_pool.proofs.SlotLaws.{get_here, get_off, get_beside, removed_off}
use Rattle.slot_pool.specs.Slots.{first_or, IsIn}
use Rattle.base_types.specs.Keys.{outpoint_cmp}
use Rattle.base_types.proofs.KeyOrders.{outpoint_cmp_total, outpoint_cmp-IsAntisymmetric, outpoint_ties, tied_same, tied_not, cases_key}
use Rattle.base_types.specs.declared.hash.OutPoint.{OutPoint}
use Rattle.base_types.specs.declared.program.Salt.{Salt}
use Rattle.coin_index.specs.declared.index.Index.{Index}
use Rattle.coin_index.specs.Hash.{bucket_of}
use Rattle.coin_index.specs.Index.{IsNew, AreChained, IsIndex, bucket_count}

-- maps from outpoints

pub same_key_or_not : (x y : OutPoint) → (x ≡ y) ⊎ (x ≡ y → ⊥)
same_key_or_not = cases_key outpoint_cmp outpoint_ties outpoint_cmp-IsAntisymmetric

module _ (found : FinMap outpoint_cmp ℕ) (k : OutPoint) where
  pub found_here : (s : ℕ) → get (insert found k s) k ≡ Some s
  found_here s = get-insert outpoint_cmp_total found k s k ∙ ap (λ b. cond b (Some s) (get found k)) (tied_same outpoint_cmp outpoint_ties outpoint_cmp-IsAntisymmetric k)

  pub found_off : (s : ℕ) (q : OutPoint) → q ≢ k → get (insert found k s) q ≡ get found q
  found_off s q ne = get-insert outpoint_cmp_total found k s q ∙ ap (λ b. cond b (Some s) (get found q)) (tied_not outpoint_cmp outpoint_ties outpoint_cmp-IsAntisymmetric q k ne)

  pub gone_here : get (remove found k) k ≡ None
  gone_here = get-remove outpoint_cmp_total found k k ∙ ap (λ b. cond b None (get found k)) (tied_same outpoint_cmp outpoint_ties outpoint_cmp-IsAntisymmetric k)

  pub gone_off : (q : OutPoint) → q ≢ k → get (remove found k) q ≡ get found q
  gone_off q ne = get-remove outpoint_cmp_total found k q ∙ ap (λ b. cond b None (get found q)) (tied_not outpoint_cmp outpoint_ties outpoint_cmp-IsAntisymmetric q k ne)

pub same_found : (f g : FinMap outpoint_cmp ℕ) → ((k : OutPoint) → get f k ≡ get g k) → f ≡ g
same_found = same_map outpoint_cmp_total outpoint_cmp-IsAntisymmetric

-- an index and its pool

-- an index without buckets finds nothing
pub new_index : {T : Type 0} (key : T → OutPoint) (chain : T → Option ℕ) (m : FinMap nat_cmp T) (i : Index) (salt : Salt) → IsNew i salt → IsIndex key chain m i empty
new_index key chain m i salt h = record {
  chains = [];
  heads = h.0;
  chained = λ b. tt;
  distinct = λ b. tt;
  listed = λ b s is. absurd is;
  present = λ k s e. let f : None ≡ Some s = sym (get-empty outpoint_cmp k) ∙ e in cc;
}

module _ {T : Type 0} (key : T → OutPoint) (chain : T → Option ℕ) where
  -- an index stays where the slots that it finds keep their keys and links, whatever else changes in the pool
  module _ (m n : FinMap nat_cmp T) (i : Index) (found : FinMap outpoint_cmp ℕ) (h : IsIndex key chain m i found)
      (same : (k : OutPoint) (s : ℕ) (x : T) → get found k ≡ Some s → get m s ≡ Some x → (y : T) × (get n s ≡ Some y) × (key y ≡ key x) × (chain y ≡ chain x)) where
    value_kept : (b s : ℕ) (x : T) → IsIn s (get_or h.chains b []) → get m s ≡ Some x → (y : T) × (get n s ≡ Some y) × (key y ≡ key x) × (chain y ≡ chain x)
    value_kept b s x is e = same (key (h.listed b s is).0) s x (h.listed b s is).3 e

    chained_kept : (b : ℕ) (ss : List ℕ) → ((s : ℕ) → IsIn s ss → IsIn s (get_or h.chains b [])) → AreChained key chain m ss → AreChained key chain n ss
    chained_kept b [] within c = tt
    chained_kept b (s ∷ ss) within c = let y = value_kept b s c.0 (within s (inl refl)) c.1 in (y.0, y.1, y.3 ∙ c.2, chained_kept b ss (λ t is. within t (inr is)) c.3)

    pub index_kept : IsIndex key chain n i found
    index_kept = record {
      chains = h.chains;
      heads = h.heads;
      chained = λ b. chained_kept b (get_or h.chains b []) (λ s is. is) (h.chained b);
      distinct = h.distinct;
      listed = λ b s is. let l = h.listed b s is in let y = value_kept b s l.0 is l.1 in (y.0, y.1, ap (bucket_of i.salt (length h.chains)) y.2 ∙ l.2, ap (get found) y.2 ∙ l.3);
      present = λ k s e. let p = h.present k s e in let y = same k s p.1.0 e p.1.1 in (p.0, (y.0, y.1, y.2 ∙ p.1.2));
    }

  module _ (m : FinMap nat_cmp T) (i : Index) (found : FinMap outpoint_cmp ℕ) (h : IsIndex key chain m i found) where
    -- a value is put into a new slot
    pub index_put : (t : ℕ) (w : T) → get m t ≡ None → IsIndex key chain (insert m t w) i found
    index_put t w new = index_kept m (insert m t w) i found h (λ k s x f e. (x, get_beside m t w s x new e, refl, refl))

    -- and may then be linked, where its key isn't found
    pub link_ready : (t : ℕ) (w : T) → get m t ≡ None → get found (key w) ≡ None → (x : T) → get (insert m t w) t ≡ Some x → get found (key x) ≡ None
    link_ready t w new none x e = let one : w ≡ x = cc (get_here m t w, e) in ap (λ y. get found (key y)) (sym one) ∙ none

    -- both, as a pool's `put` gives them
    pub put_ready : (n : FinMap nat_cmp T) (t : ℕ) (w : T) → get m t ≡ None → get found (key w) ≡ None → n ≡ insert m t w → IsIndex key chain n i found × ((x : T) → get n t ≡ Some x → get found (key x) ≡ None)
    put_ready n t w new none e = subst (λ (k : FinMap nat_cmp T). IsIndex key chain k i found × ((x : T) → get k t ≡ Some x → get found (key x) ≡ None)) (sym e) (index_put t w new, link_ready t w new none)

    -- a value is taken out of a slot that isn't found
    pub index_take : (t : ℕ) → ((k : OutPoint) → get found k ≢ Some t) → IsIndex key chain (remove m t) i found
    index_take t out = index_kept m (remove m t) i found h (λ k s x f e. (x, removed_off m t s (λ g. out k (f ∙ ap Some g)) ∙ e, refl, refl))

    -- a value is written over one with the same key and link
    pub index_write : (t : ℕ) (x w : T) → get m t ≡ Some x → key w ≡ key x → chain w ≡ chain x → IsIndex key chain (insert m t w) i found
    index_write t x w at same link = index_kept m (insert m t w) i found h (λ k s y f e. go s y e (cases_eq s t)) where
      go : (s : ℕ) (y : T) → get m s ≡ Some y → (s ≡ t) ⊎ (s ≡ t → ⊥) → (z : T) × (get (insert m t w) s ≡ Some z) × (key z ≡ key y) × (chain z ≡ chain y)
      go s y e (inl f) = let one : x ≡ y = cc (at, e, f) in (w, ap (get (insert m t w)) f ∙ get_here m t w, same ∙ ap key one, link ∙ ap chain one)
      go s y e (inr ne) = (y, get_off m t w s ne ∙ e, refl, refl)

  -- another structure changes its part of the values, which is neither the key nor the link
  pub index_beside : {L : Type 0} (set : T → L → T) → ((x : T) (l : L) → key (set x l) ≡ key x) → ((x : T) (l : L) → chain (set x l) ≡ chain x) → (p n : Contents T) → ChangesOnly set p n → (i : Index) (found : FinMap outpoint_cmp ℕ) → IsIndex key chain p.values i found → IsIndex key chain n.values i found
  index_beside set same link p n c i found h = index_kept p.values n.values i found h (λ k s x f e. let v = kept_value set p n s x c e in (set x v.0, v.1, same x v.0, link x v.0))

  -- what is found holds a value with that key
  pub found_held : (m : FinMap nat_cmp T) (i : Index) (found : FinMap outpoint_cmp ℕ) (k : OutPoint) (s : ℕ) → IsIndex key chain m i found → get found k ≡ Some s → (x : T) × (get m s ≡ Some x) × (key x ≡ k)
  found_held m i found k s h e = (h.present k s e).1

  module _ (m : FinMap nat_cmp T) (i : Index) (found : FinMap outpoint_cmp ℕ) (h : IsIndex key chain m i found) where
    -- a slot is found by one key
    pub key_once : (k q : OutPoint) (s : ℕ) → get found k ≡ Some s → get found q ≡ Some s → q ≡ k
    key_once k q s e f =
        let x = found_held m i found k s h e in let y = found_held m i found q s h f in let one : x.0 ≡ y.0 = cc (x.1, y.1) in
        sym y.2 ∙ sym (ap key one) ∙ x.2

    -- and by none where that key is taken away
    pub found_no_more : (k : OutPoint) (s : ℕ) → get found k ≡ Some s → (q : OutPoint) → get (remove found k) q ≢ Some s
    found_no_more k s e q f = go (same_key_or_not q k) where
      go : (q ≡ k) ⊎ (q ≡ k → ⊥) → ⊥
      go (inl one) = let c : None ≡ Some s = sym (gone_here found k) ∙ ap (get (remove found k)) (sym one) ∙ f in cc
      go (inr ne) = ne (key_once k q s e (sym (gone_off found k q ne) ∙ f))

  chains_once : (m : FinMap nat_cmp T) (ss ts : List ℕ) → AreChained key chain m ss → AreChained key chain m ts → first_or None ss ≡ first_or None ts → ss ≡ ts
  chains_once m [] [] h k e = refl
  chains_once m [] (t ∷ ts) h k e = cc
  chains_once m (s ∷ ss) [] h k e = cc
  chains_once m (s ∷ ss) (t ∷ ts) h k e =
      let one : s ≡ t = cc e in let x : h.0 ≡ k.0 = cc (h.1, k.1, one) in
      let next : first_or None ss ≡ first_or None ts = sym h.2 ∙ ap chain x ∙ k.2 in
      λ i. one i ∷ chains_once m ss ts h.3 k.3 next i

  pub same_chain : (m : FinMap nat_cmp T) (ss ts : List ℕ) → AreChained key chain m ss → AreChained key chain m ts → first_or None ss ≡ first_or None ts → ss ≡ ts
  same_chain = chains_once

pub get_or-map_first : (css : List (List ℕ)) (b : ℕ) → get_or (map (first_or None) css) b None ≡ first_or None (get_or css b [])
get_or-map_first [] b = refl
get_or-map_first (c ∷ css) zero = refl
get_or-map_first (c ∷ css) (suc b) = get_or-map_first css b

pub length-map_first : (css : List (List ℕ)) → length (map (first_or None) css) ≡ length css
length-map_first [] = refl
length-map_first (c ∷ css) = ap suc (length-map_first css)

within_bucket : (css : List (List ℕ)) (b s : ℕ) → IsIn s (get_or css b []) → 0 < length css
within_bucket [] b s i = absurd i
within_bucket (c ∷ css) b s i = omega arith

module _ {T : Type 0} (key : T → OutPoint) (chain : T → Option ℕ) (m : FinMap nat_cmp T) (i : Index) where
  pub chains_count : (f : FinMap outpoint_cmp ℕ) (h : IsIndex key chain m i f) → length h.chains ≡ length i.buckets.items
  chains_count f h = sym (ap length h.heads ∙ length-map_first h.chains)

  -- an index that finds something has buckets
  pub found_buckets : (f : FinMap outpoint_cmp ℕ) (h : IsIndex key chain m i f) (k : OutPoint) (s : ℕ) → get f k ≡ Some s → 0 < bucket_count i
  found_buckets f h k s e = omega (arith, i.buckets.ok.0, chains_count f h, within_bucket h.chains (bucket_of i.salt (length h.chains) k) s (h.present k s e).0)

  -- two maps that an index finds have one chain in each bucket
  pub bucket_same : (f g : FinMap outpoint_cmp ℕ) (h : IsIndex key chain m i f) (h' : IsIndex key chain m i g) (b : ℕ) → get_or h'.chains b [] ≡ get_or h.chains b []
  bucket_same f g h h' b =
      same_chain key chain m _ _ (h'.chained b) (h.chained b) (sym (get_or-map_first h'.chains b) ∙ ap (λ l. get_or l b None) (sym h'.heads ∙ h.heads) ∙ get_or-map_first h.chains b)

  found_in : (f g : FinMap outpoint_cmp ℕ) → IsIndex key chain m i f → IsIndex key chain m i g → (k : OutPoint) (s : ℕ) → get f k ≡ Some s → get g k ≡ Some s
  found_in f g h h' k s e =
      let p = h.present k s e in let b = bucket_of i.salt (length h.chains) k in
      let l = h'.listed b s (subst (IsIn s) (sym (bucket_same f g h h' b)) p.0) in let same : l.0 ≡ p.1.0 = cc (l.1, p.1.1) in
      sym (ap (get g) (ap key same ∙ p.1.2)) ∙ l.3

  -- an index over a pool finds one map
  pub index_once : (f g : FinMap outpoint_cmp ℕ) → IsIndex key chain m i f → IsIndex key chain m i g → f ≡ g
  index_once f g h h' = same_found f g (λ k. at k (get f k) refl) where
    at : (k : OutPoint) (o : Option ℕ) → get f k ≡ o → get f k ≡ get g k
    at k (Some s) e = e ∙ sym (found_in f g h h' k s e)
    at k None e = none (get g k) refl where
      none : (p : Option ℕ) → get g k ≡ p → get f k ≡ get g k
      none None d = e ∙ sym d
      none (Some s) d = let c : None ≡ Some s = sym e ∙ found_in g f h' h k s d in cc
