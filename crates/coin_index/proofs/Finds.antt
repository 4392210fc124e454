-- What a walk along a bucket's chain knows of the key that is sought.
use Rattle.std.proofs.Common.{◌≡◌, ◌≢◌, inl, inr, ◌<◌, ◌≤◌, ℕ, List, [], ◌∷◌, length, get_or, Option, Some, None, sym, refl, ap, ◌∙◌, subst, arith}
use Rattle.std.specs.Ordering.{nat_cmp}
use Rattle.std.specs.FinMap.{FinMap, get, len}
use Rattle.slot_pool.specs.Slots.{first_or, IsIn}
use Rattle.base_types.specs.Keys.{outpoint_cmp}
use Rattle.base_types.specs.declared.hash.OutPoint.{OutPoint}
use Rattle.coin_index.specs.declared.index.Index.{Index}
use Rattle.coin_index.specs.Hash.{bucket_of}
use Rattle.coin_index.specs.Index.{AreChained, IsIndex}
use Rattle.coin_index.proofs.IndexLaws.{get_or-map_first, chains_count, bucket_same}
use Rattle.coin_index.proofs.Chains.{ahead, ahead-chain, chain_short}

none_of : (o : Option ℕ) → ((s : ℕ) → o ≡ Some s → ⊥) → None ≡ o
none_of None f = refl
none_of (Some s) f = absurd (f s refl)

module _ {T : Type 0} (key : T → OutPoint) (chain : T → Option ℕ) (m : FinMap nat_cmp T) (i : Index) (k : OutPoint) where
  -- the slots ss are still to come: the key's slot is among them, if it has one, and each is found by its own key
  pub record Holds (ss : List ℕ) (found : FinMap outpoint_cmp ℕ) : Type 0 where
    pub sought : (s : ℕ) → get found k ≡ Some s → IsIn s ss × ((x : T) × (get m s ≡ Some x) × (key x ≡ k))
    pub listed : (s : ℕ) → IsIn s ss → (x : T) × (get m s ≡ Some x) × (get found (key x) ≡ Some s)

  pub record Seeks (at : Option ℕ) : Type 0 where
    pub ss : List ℕ
    pub chained : AreChained key chain m ss
    pub stands : at ≡ first_or None ss
    pub short : length ss ≤ len m
    pub holds : (found : FinMap outpoint_cmp ℕ) → IsIndex key chain m i found → Holds ss found

  pub begins : (f : FinMap outpoint_cmp ℕ) (h : IsIndex key chain m i f) (b : ℕ) (at : Option ℕ) → b ≡ bucket_of i.salt (length i.buckets.items) k → at ≡ get_or i.buckets.items b None → Seeks at
  begins f h b at e a = record {
    ss = get_or h.chains b [];
    chained = h.chained b;
    stands = a ∙ ap (λ l. get_or l b None) h.heads ∙ get_or-map_first h.chains b;
    short = chain_short key chain m _ (h.chained b) (h.distinct b);
    holds = λ found h'. let same = bucket_same key chain m i f found h h' b in let n = chains_count key chain m i found h' in record {
      sought = λ s is. let p = h'.present k s is in
          (subst (IsIn s) (ap (λ c. get_or h'.chains c []) (ap (λ c. bucket_of i.salt c k) n ∙ sym e) ∙ same) p.0, p.1);
      listed = λ s is. let l = h'.listed b s (subst (IsIn s) (sym same) is) in (l.0, l.1, l.3);
    };
  }

  pub passes : (s : ℕ) (x : T) (at : Option ℕ) → get m s ≡ Some x → key x ≢ k → at ≡ chain x → Seeks (Some s) → Seeks at
  passes s x at e ne a t = go t.ss t.chained t.stands t.short t.holds where
    go : (ss : List ℕ) → AreChained key chain m ss → Some s ≡ first_or None ss → length ss ≤ len m → ((found : FinMap outpoint_cmp ℕ) → IsIndex key chain m i found → Holds ss found) → Seeks at
    go [] c f le holds = cc
    go (r ∷ ss) c f le holds =
        let one : s ≡ r = cc f in let same : x ≡ c.0 = cc (e, c.1, one) in record {
          ss = ss;
          chained = c.3;
          stands = a ∙ ap chain same ∙ c.2;
          short = omega (arith, le);
          holds = λ found h. let q = holds found h in record {
            sought = λ t is. let p = q.sought t is in (later t p.0 p.1, p.1);
            listed = λ t is. q.listed t (inr is);
          };
        } where
          later : (t : ℕ) → IsIn t (r ∷ ss) → ((y : T) × (get m t ≡ Some y) × (key y ≡ k)) → IsIn t ss
          later t (inr i) y = i
          later t (inl w) y = let one : s ≡ r = cc f in let z : x ≡ y.0 = cc (e, y.1, w, one) in absurd (ne (ap key z ∙ y.2))

  pub arrives : (s : ℕ) (x : T) → get m s ≡ Some x → key x ≡ k → Seeks (Some s) → (found : FinMap outpoint_cmp ℕ) → IsIndex key chain m i found → Some s ≡ get found k
  arrives s x e ke t found h = go t.ss t.stands t.holds where
    go : (ss : List ℕ) → Some s ≡ first_or None ss → ((found : FinMap outpoint_cmp ℕ) → IsIndex key chain m i found → Holds ss found) → Some s ≡ get found k
    go [] f holds = cc
    go (r ∷ ss) f holds =
        let one : s ≡ r = cc f in let l = (holds found h).listed s (inl one) in let same : x ≡ l.0 = cc (e, l.1) in
        sym (ap (get found) (sym ke ∙ ap key same) ∙ l.2)

  pub ends : (at : Option ℕ) → at ≡ None → Seeks at → (found : FinMap outpoint_cmp ℕ) → IsIndex key chain m i found → None ≡ get found k
  ends at none t found h = go t.ss (sym none ∙ t.stands) t.holds where
    go : (ss : List ℕ) → None ≡ first_or None ss → ((found : FinMap outpoint_cmp ℕ) → IsIndex key chain m i found → Holds ss found) → None ≡ get found k
    go [] f holds = none_of (get found k) (λ s e. ((holds found h).sought s e).0)
    go (r ∷ ss) f holds = cc

  pub no_buckets : length i.buckets.items ≡ 0 → (found : FinMap outpoint_cmp ℕ) → IsIndex key chain m i found → None ≡ get found k
  no_buckets e found h = none_of (get found k) (λ s is. go h.chains (chains_count key chain m i found h ∙ e) s (h.present k s is).0) where
    go : (css : List (List ℕ)) → length css ≡ 0 → (s : ℕ) → IsIn s (get_or css (bucket_of i.salt (length css) k) []) → ⊥
    go [] e s i = i
    go (c ∷ css) e s i = absurd (omega arith)

  -- fewer slots are ahead after each step
  pub nears : (s : ℕ) (x : T) (at : Option ℕ) → get m s ≡ Some x → at ≡ chain x → Seeks (Some s) → ahead chain m at < ahead chain m (Some s)
  nears s x at e a t = go t.ss t.chained t.stands t.short where
    go : (ss : List ℕ) → AreChained key chain m ss → Some s ≡ first_or None ss → length ss ≤ len m → ahead chain m at < ahead chain m (Some s)
    go [] c f le = cc
    go (r ∷ ss) c f le =
        let one : s ≡ r = cc f in let same : x ≡ c.0 = cc (e, c.1, one) in
        let now = ahead-chain key chain m (r ∷ ss) (Some s) c f le in
        let next = ahead-chain key chain m ss at c.3 (a ∙ ap chain same ∙ c.2) (omega (arith, le)) in omega (arith, now, next)
