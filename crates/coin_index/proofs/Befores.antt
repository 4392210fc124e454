-- The walk to the slot before one.
use Rattle.std.proofs.Common.{◌≡◌, ◌≢◌, ◌++◌, ◌<◌, ◌≤◌, ℕ, List, [], ◌∷◌, length, Option, Some, None, is_some, IsSome, refl, sym, ap, ◌∙◌, subst, arith, append_assoc}
use Rattle.std.specs.Ordering.{nat_cmp}
use Rattle.std.specs.FinMap.{FinMap, get, len}
use Rattle.slot_pool.specs.Slots.{first_or, last_or, IsIn, IsDistinct}
use Rattle.slot_pool.proofs.SlotLaws.{in_middle, distinct_right, one_place, last-append}
use Rattle.base_types.specs.declared.hash.OutPoint.{OutPoint}
use Rattle.coin_index.specs.Index.{AreChained}
use Rattle.coin_index.proofs.IndexLaws.{same_chain}
use Rattle.coin_index.proofs.Chains.{ahead, ahead-chain, chain_short}

module _ {T : Type 0} (key : T → OutPoint) (chain : T → Option ℕ) (m : FinMap nat_cmp T) (slot : ℕ) where
  -- the walk has passed `done`, and the slot is still to come
  pub record Toward (head last at : Option ℕ) : Type 0 where
    pub done : List ℕ
    pub left : List ℕ
    pub ys : List ℕ
    pub all : AreChained key chain m (done ++ (left ++ slot ∷ ys))
    pub rest : AreChained key chain m (left ++ slot ∷ ys)
    pub distinct : IsDistinct (done ++ (left ++ slot ∷ ys))
    pub starts : head ≡ first_or None (done ++ (left ++ slot ∷ ys))
    pub stands : at ≡ first_or None (left ++ slot ∷ ys)
    pub behind : last ≡ last_or None done
    pub short : length (left ++ slot ∷ ys) ≤ len m

  pub sets_out : (head : Option ℕ) (xs ys : List ℕ) → AreChained key chain m (xs ++ slot ∷ ys) → IsDistinct (xs ++ slot ∷ ys) → head ≡ first_or None (xs ++ slot ∷ ys) → Toward head None head
  sets_out head xs ys a d e = record { done = []; left = xs; ys = ys; all = a; rest = a; distinct = d; starts = e; stands = e; behind = refl; short = chain_short key chain m (xs ++ slot ∷ ys) a d }

  -- the slot here holds a value
  pub there : (head last : Option ℕ) (s : ℕ) → Toward head last (Some s) → IsSome (get m s)
  there head last s t = go t.left t.rest t.stands where
    go : (left : List ℕ) → AreChained key chain m (left ++ slot ∷ t.ys) → Some s ≡ first_or None (left ++ slot ∷ t.ys) → IsSome (get m s)
    go [] a e = let one : s ≡ slot = cc e in ap (λ k. is_some (get m k)) one ∙ ap is_some a.1
    go (r ∷ left) a e = let one : s ≡ r = cc e in ap (λ k. is_some (get m k)) one ∙ ap is_some a.1

  pub passes : (head last : Option ℕ) (s : ℕ) (x : T) (at : Option ℕ) → get m s ≡ Some x → at ≡ chain x → s ≢ slot → Toward head last (Some s) → Toward head (Some s) at
  passes head last s x at e a ne t = go t.done t.left t.ys t.all t.rest t.distinct t.starts t.stands t.short where
    go : (done left ys : List ℕ) → AreChained key chain m (done ++ (left ++ slot ∷ ys)) → AreChained key chain m (left ++ slot ∷ ys) → IsDistinct (done ++ (left ++ slot ∷ ys)) → head ≡ first_or None (done ++ (left ++ slot ∷ ys))
        → Some s ≡ first_or None (left ++ slot ∷ ys) → length (left ++ slot ∷ ys) ≤ len m → Toward head (Some s) at
    go done [] ys all rest d st f le = let one : s ≡ slot = cc f in absurd (ne one)
    go done (r ∷ left) ys all rest d st f le =
        let one : s ≡ r = cc f in let same : x ≡ rest.0 = cc (e, rest.1, one) in
        let shift : done ++ (r ∷ left ++ slot ∷ ys) ≡ (done ++ r ∷ []) ++ (left ++ slot ∷ ys) = sym (append_assoc done (r ∷ []) (left ++ slot ∷ ys)) in record {
          done = done ++ r ∷ [];
          left = left;
          ys = ys;
          all = subst (AreChained key chain m) shift all;
          rest = rest.3;
          distinct = subst IsDistinct shift d;
          starts = st ∙ ap (first_or None) shift;
          stands = a ∙ ap chain same ∙ rest.2;
          behind = ap Some one ∙ sym (last-append None done (r ∷ []));
          short = omega (arith, le);
        }

  pub nears : (head last : Option ℕ) (s : ℕ) (x : T) (at : Option ℕ) → get m s ≡ Some x → at ≡ chain x → s ≢ slot → Toward head last (Some s) → ahead chain m at < ahead chain m (Some s)
  nears head last s x at e a ne t = go t.left t.rest t.stands t.short where
    go : (left : List ℕ) → AreChained key chain m (left ++ slot ∷ t.ys) → Some s ≡ first_or None (left ++ slot ∷ t.ys) → length (left ++ slot ∷ t.ys) ≤ len m → ahead chain m at < ahead chain m (Some s)
    go [] rest f le = let one : s ≡ slot = cc f in absurd (ne one)
    go (r ∷ left) rest f le =
        let one : s ≡ r = cc f in let same : x ≡ rest.0 = cc (e, rest.1, one) in
        let now = ahead-chain key chain m (r ∷ left ++ slot ∷ t.ys) (Some s) rest f le in
        let next = ahead-chain key chain m (left ++ slot ∷ t.ys) at rest.3 (a ∙ ap chain same ∙ rest.2) (omega (arith, le)) in omega (arith, now, next)

  -- however the chain is cut at the slot, what was passed stands before it
  pub arrives : (head last : Option ℕ) → Toward head last (Some slot) → (xs ys : List ℕ) → AreChained key chain m (xs ++ slot ∷ ys) → IsDistinct (xs ++ slot ∷ ys) → head ≡ first_or None (xs ++ slot ∷ ys) → last ≡ last_or None xs
  arrives head last t xs ys a d e = go t.left t.all t.distinct t.starts t.stands where
    go : (left : List ℕ) → AreChained key chain m (t.done ++ (left ++ slot ∷ t.ys)) → IsDistinct (t.done ++ (left ++ slot ∷ t.ys)) → head ≡ first_or None (t.done ++ (left ++ slot ∷ t.ys)) → Some slot ≡ first_or None (left ++ slot ∷ t.ys) → last ≡ last_or None xs
    go [] all dd st f =
        let one = same_chain key chain m (t.done ++ slot ∷ t.ys) (xs ++ slot ∷ ys) all a (sym st ∙ e) in
        t.behind ∙ ap (last_or None) (one_place t.done t.ys xs ys slot dd one).0
    go (r ∷ left) all dd st f =
        let here : slot ≡ r = cc f in
        absurd ((distinct_right t.done (r ∷ left ++ slot ∷ t.ys) dd).0 (subst (λ k. IsIn k (left ++ slot ∷ t.ys)) here (in_middle left slot t.ys)))

  pub not_lost : (head last at : Option ℕ) → at ≡ None → Toward head last at → ⊥
  not_lost head last at none t = go t.left (sym none ∙ t.stands) where
    go : (left : List ℕ) → None ≡ first_or None (left ++ slot ∷ t.ys) → ⊥
    go [] f = cc
    go (r ∷ left) f = cc
