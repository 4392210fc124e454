-- The slots of an index move to one with more buckets.
use Rattle.std.proofs.Common.{◌≡◌, ◌≢◌, ◌⊎◌, inl, inr, ◌+◌, ◌<◌, ◌≤◌, ℕ, zero, suc, List, [], ◌∷◌, map, length, get_or, set, replicate, Option, Some, None, IsSome, is_some, refl, sym, ap, ◌∙◌, subst, arith, length-set}
use Rattle.std.proofs.lemmas.List.{get_or-set_same, length-replicate}
use Rattle.std.specs.Ordering.{nat_cmp}
use Rattle.std.specs.FinMap.{FinMap, get, empty, insert, remove, get-empty}
use Rattle.slot_pool.specs.Slots.{first_or, IsIn, IsDistinct}
use Rattle.base_types.specs.Keys.{outpoint_cmp}
use Rattle.base_types.specs.declared.hash.OutPoint.{OutPoint}
use Rattle.coin_index.specs.declared.index.Index.{Index}
use Rattle.coin_index.specs.Hash.{bucket_of}
use Rattle.coin_index.specs.Index.{AreChained, HasEmptyBuckets, IsIndex, bucket_count}
use Rattle.coin_index.proofs.IndexLaws.{same_key_or_not, found_here, found_off, gone_here, gone_off, same_found, index_kept, found_held, get_or-map_first, chains_count}
use Rattle.coin_index.specs.Rehash.{IsSplit, AreSplit}
use Rattle.coin_index.proofs.Chains.{ahead, ahead-chain, chain_short}
use Rattle.coin_index.proofs.Unlinks.{past_first, unlinked}

some_first : (ss : List ℕ) (s : ℕ) → first_or None ss ≡ Some s → (ts : List ℕ) × (ss ≡ s ∷ ts)
some_first [] s e = cc
some_first (t ∷ ss) s e = let f : t ≡ s = cc e in (ss, ap (λ k. k ∷ ss) f)

empty_first : (ss : List ℕ) → first_or None ss ≡ None → ss ≡ []
empty_first [] e = refl
empty_first (s ∷ ss) e = cc

-- a slot of the key k moves
split_moved : (all rest moved : FinMap outpoint_cmp ℕ) (k : OutPoint) (s : ℕ) → get rest k ≡ Some s → IsSplit all rest moved → IsSplit all (remove rest k) (insert moved k s)
split_moved all rest moved k s e split q = go (same_key_or_not q k) (split q) where
  go : (q ≡ k) ⊎ (q ≡ k → ⊥) → ((get rest q ≡ get all q) × (get moved q ≡ None)) ⊎ ((get rest q ≡ None) × (get moved q ≡ get all q))
      → ((get (remove rest k) q ≡ get all q) × (get (insert moved k s) q ≡ None)) ⊎ ((get (remove rest k) q ≡ None) × (get (insert moved k s) q ≡ get all q))
  go (inl f) (inl l) = inr (ap (get (remove rest k)) f ∙ gone_here rest k, ap (get (insert moved k s)) f ∙ found_here moved k s ∙ sym e ∙ sym (ap (get rest) f) ∙ l.0)
  go (inl f) (inr r) = let c : Some s ≡ None = sym e ∙ sym (ap (get rest) f) ∙ r.0 in cc
  go (inr ne) (inl l) = inl (gone_off rest k q ne ∙ l.0, found_off moved k s q ne ∙ l.1)
  go (inr ne) (inr r) = inr (gone_off rest k q ne ∙ r.0, found_off moved k s q ne ∙ r.1)

-- what hasn't moved isn't among what has
not_moved : (all rest moved : FinMap outpoint_cmp ℕ) (k : OutPoint) (s : ℕ) → IsSplit all rest moved → get rest k ≡ Some s → get moved k ≡ None
not_moved all rest moved k s split e = go (split k) where
  go : ((get rest k ≡ get all k) × (get moved k ≡ None)) ⊎ ((get rest k ≡ None) × (get moved k ≡ get all k)) → get moved k ≡ None
  go (inl l) = l.1
  go (inr r) = let c : Some s ≡ None = sym e ∙ r.0 in cc

module _ {T : Type 0} (key : T → OutPoint) (chain : T → Option ℕ) where
  -- the first slot of bucket b leaves it
  module _ (m : FinMap nat_cmp T) (i j : Index) (all : FinMap outpoint_cmp ℕ) (h : AreSplit key chain m i j all) (b slot : ℕ) (below : b < length i.buckets.items) (head : get_or i.buckets.items b None ≡ Some slot) where
    cut : (ys : List ℕ) × (get_or h.old.chains b [] ≡ slot ∷ ys)
    cut = some_first (get_or h.old.chains b []) slot (sym (get_or-map_first h.old.chains b) ∙ sym (ap (λ l. get_or l b None) h.old.heads) ∙ head)

    first_in : IsIn slot (get_or h.old.chains b [])
    first_in = subst (IsIn slot) (sym cut.1) (inl refl)

    row : AreChained key chain m (slot ∷ cut.0)
    row = subst (AreChained key chain m) cut.1 (h.old.chained b)

    apart : IsDistinct (slot ∷ cut.0)
    apart = subst IsDistinct cut.1 (h.old.distinct b)

    pub first_held : IsSome (get m slot)
    first_held = ap is_some row.1

    module _ (x : T) (at : get m slot ≡ Some x) where
      same : row.0 ≡ x
      same = cc (row.1, at)

      found_first : get h.rest (key x) ≡ Some slot
      found_first = let l = h.old.listed b slot first_in in let one : l.0 ≡ x = cc (l.1, at) in sym (ap (get h.rest) (ap key one)) ∙ l.3

      -- its key is new to the other index
      pub first_new : get h.moved (key x) ≡ None
      first_new = not_moved all h.rest h.moved (key x) slot h.split found_first

      module _ (i' : Index) (items : i'.buckets.items ≡ set i.buckets.items b (chain x)) (salt : i'.salt ≡ i.salt) where
        link : chain x ≡ first_or None cut.0
        link = sym (ap chain same) ∙ row.2

        left : IsIndex key chain m i' (remove h.rest (key x))
        left =
            let l = h.old.listed b slot first_in in let one : l.0 ≡ x = cc (l.1, at) in
            let is : b ≡ bucket_of i.salt (length i.buckets.items) (key x) = sym (ap (λ c. bucket_of i.salt c (key x)) (sym (chains_count key chain m i h.rest h.old)) ∙ sym (ap (λ y. bucket_of i.salt (length h.old.chains) (key y)) one) ∙ l.2) in
            unlinked key chain m i h.rest h.old slot b x at found_first is below m [] cut.0 cut.1 (past_first key chain m slot cut.0 row) i' (items ∙ ap (set i.buckets.items b) link) salt

        -- and it is linked into the other index, which writes no other slot
        module _ (n : FinMap nat_cmp T) (others : (s : ℕ) → s ≢ slot → get n s ≡ get m s) where
          pub moved_first : (j' : Index) → IsIndex key chain n j' (insert h.moved (key x) slot) → AreSplit key chain n i' j' all
          moved_first j' new = record {
            rest = remove h.rest (key x);
            moved = insert h.moved (key x) slot;
            split = split_moved all h.rest h.moved (key x) slot found_first h.split;
            old = index_kept key chain m n i' (remove h.rest (key x)) left (λ k s y e is. (y, others s (other k s e) ∙ is, refl, refl));
            new = new;
          } where
            other : (k : OutPoint) (s : ℕ) → get (remove h.rest (key x)) k ≡ Some s → s ≢ slot
            other k s e f =
                let v = found_held key chain m i' (remove h.rest (key x)) k s left e in let one : v.0 ≡ x = cc (v.1, at, f) in
                let c : None ≡ Some s = sym (gone_here h.rest (key x)) ∙ ap (get (remove h.rest (key x))) (sym (ap key one) ∙ v.2) ∙ e in cc

      kept_row : (n : FinMap nat_cmp T) → ((s : ℕ) → s ≢ slot → get n s ≡ get m s) → (ss : List ℕ) → ¬ IsIn slot ss → AreChained key chain m ss → AreChained key chain n ss
      kept_row n others [] out c = tt
      kept_row n others (s ∷ ss) out c = (c.0, others s (λ e. out (inl (sym e))) ∙ c.1, c.2, kept_row n others ss (λ i. out (inr i)) c.3)

      -- fewer slots are left in the bucket
      pub moved_less : (os : List (Option ℕ)) → os ≡ set i.buckets.items b (chain x) → (n : FinMap nat_cmp T) → ((s : ℕ) → s ≢ slot → get n s ≡ get m s) → ahead chain n (get_or os b None) < ahead chain m (get_or i.buckets.items b None)
      moved_less os items n others =
          let now : get_or os b None ≡ first_or None cut.0 = ap (λ l. get_or l b None) items ∙ get_or-set_same i.buckets.items b (chain x) None below ∙ sym (ap chain same) ∙ row.2 in
          let rest = kept_row n others cut.0 apart.0 row.3 in
          let less = ahead-chain key chain n cut.0 _ rest now (chain_short key chain n cut.0 rest apart.1) in
          let more = ahead-chain key chain m (slot ∷ cut.0) _ row head (chain_short key chain m (slot ∷ cut.0) row apart) in
          omega (arith, less, more)

  -- an index whose buckets are empty finds nothing
  pub fresh_index : (m : FinMap nat_cmp T) (j : Index) (n : ℕ) → j.buckets.items ≡ replicate n None → IsIndex key chain m j empty
  fresh_index m j n e = record {
    chains = replicate n [];
    heads = e ∙ none n;
    chained = λ b. subst (AreChained key chain m) (sym (no_chain n b)) tt;
    distinct = λ b. subst IsDistinct (sym (no_chain n b)) tt;
    listed = λ b s is. absurd (subst (IsIn s) (no_chain n b) is);
    present = λ k s f. let c : None ≡ Some s = sym (get-empty outpoint_cmp k) ∙ f in cc;
  } where
    none : (n : ℕ) → replicate {A = Option ℕ} n None ≡ map (first_or None) (replicate n [])
    none zero = refl
    none (suc n) = ap (λ l. None ∷ l) (none n)

    no_chain : (n b : ℕ) → get_or {A = List ℕ} (replicate n []) b [] ≡ []
    no_chain zero b = refl
    no_chain (suc n) zero = refl
    no_chain (suc n) (suc b) = no_chain n b

  pub split_first : (m : FinMap nat_cmp T) (i j : Index) (all : FinMap outpoint_cmp ℕ) (n : ℕ) → j.buckets.items ≡ replicate n None → IsIndex key chain m i all → AreSplit key chain m i j all
  split_first m i j all n e h = record { rest = all; moved = empty; split = λ k. inl (refl, get-empty outpoint_cmp k); old = h; new = fresh_index m j n e }

  -- once no bucket has a slot, the other index finds all
  pub split_last : (m : FinMap nat_cmp T) (i j : Index) (all : FinMap outpoint_cmp ℕ) → ((c : ℕ) → get_or i.buckets.items c None ≡ None) → AreSplit key chain m i j all → IsIndex key chain m j all
  split_last m i j all none h = subst (IsIndex key chain m j) (same_found h.moved all (λ k. at k (h.split k))) h.new where
    nothing : (k : OutPoint) (o : Option ℕ) → get h.rest k ≡ o → get h.rest k ≡ None
    nothing k None e = e
    nothing k (Some s) e =
        let b = bucket_of i.salt (length h.old.chains) k in
        absurd (subst (IsIn s) (empty_first _ (sym (get_or-map_first h.old.chains b) ∙ sym (ap (λ l. get_or l b None) h.old.heads) ∙ none b)) (h.old.present k s e).0)

    at : (k : OutPoint) → ((get h.rest k ≡ get all k) × (get h.moved k ≡ None)) ⊎ ((get h.rest k ≡ None) × (get h.moved k ≡ get all k)) → get h.moved k ≡ get all k
    at k (inl l) = l.1 ∙ sym (nothing k (get h.rest k) refl) ∙ l.0
    at k (inr r) = r.1

-- and keeps so many buckets
pub empty_count : (i : Index) (n : ℕ) → HasEmptyBuckets i n → bucket_count i ≡ n
empty_count i n e = i.buckets.ok.0 ∙ ap length e ∙ length-replicate n None

-- buckets are emptied from the first on
pub emptied_more : (os ns : List (Option ℕ)) (b : ℕ) → ns ≡ set os b None → ((c : ℕ) → c < b → get_or os c None ≡ None) → (c : ℕ) → c < b + 1 → get_or ns c None ≡ None
emptied_more os ns b e less c lt = ap (λ l. get_or l c None) e ∙ go os b c less lt where
  go : (os : List (Option ℕ)) (b c : ℕ) → ((c : ℕ) → c < b → get_or os c None ≡ None) → c < b + 1 → get_or (set os b None) c None ≡ None
  go [] b c less lt = refl
  go (o ∷ os) zero zero less lt = refl
  go (o ∷ os) zero (suc c) less lt = absurd (omega arith)
  go (o ∷ os) (suc b) zero less lt = less 0 (omega arith)
  go (o ∷ os) (suc b) (suc c) less lt = go os b c (λ d l. less (suc d) (omega arith)) (omega arith)

pub emptied_all : (os : List (Option ℕ)) (b : ℕ) → length os ≤ b → ((c : ℕ) → c < b → get_or os c None ≡ None) → (c : ℕ) → get_or os c None ≡ None
emptied_all [] b le less c = refl
emptied_all (o ∷ os) zero le less c = absurd (omega arith)
emptied_all (o ∷ os) (suc b) le less zero = less 0 (omega arith)
emptied_all (o ∷ os) (suc b) le less (suc c) = emptied_all os b (omega arith) (λ d l. less (suc d) (omega arith)) c

-- a second write to one bucket
pub set_again : (os ns : List (Option ℕ)) (b : ℕ) (o : Option ℕ) → b < length os → ns ≡ set os b (get_or ns b None) → set ns b o ≡ set os b (get_or (set ns b o) b None)
set_again os ns b o below e =
    let here : get_or (set ns b o) b None ≡ o = get_or-set_same ns b o None (omega (arith, below, ap length e, length-set os b (get_or ns b None))) in
    ap (λ l. set l b o) e ∙ twice os b (get_or ns b None) o ∙ sym (ap (set os b) here) where
      twice : (os : List (Option ℕ)) (b : ℕ) (p o : Option ℕ) → set (set os b p) b o ≡ set os b o
      twice [] b p o = refl
      twice (q ∷ os) zero p o = refl
      twice (q ∷ os) (suc b) p o = ap (λ l. q ∷ l) (twice os b p o)
