-- A child's changes are taken over one by one, and flags are taken away one by one.
use Rattle.std.proofs.Common.{◌≡◌, ◌≢◌, ◌⊎◌, inl, inr, ◌&&◌, not, Bool, true, false, [], Option, Some, None, is_some, refl, sym, ap, ◌∙◌, subst}
use Rattle.std.specs.Prelude.{if◌then◌else◌}
use Rattle.std.specs.FinMap.{get, insert, remove, contains_key}
use Rattle.slot_pool.specs.Slots.{IsIn}
use Rattle.base_types.specs.Coins.{Coins}
use Rattle.base_types.specs.declared.coin.Coin.{Coin}
use Rattle.base_types.specs.declared.hash.OutPoint.{OutPoint}
use Rattle.coin_index.proofs.IndexLaws.{same_key_or_not}
use Rattle.coin_cache.specs.Contents.{Entry, Contents}
use Rattle.coin_cache.specs.Entries.{Entries, entries_of, laid, means, changed, merged, merged_over, IsMerged, IsSettled, AreTrueOf, StandsOver, IsSound, AddsNone}
use Rattle.coin_cache.proofs.Lookups.{key_here, key_off, key_gone, key_rest, same_keys, coin_over, get-laid, entry_from}
use Rattle.coin_cache.proofs.Meanings.{true_put, true_take}

-- an entry after another was written, or taken out
put_or : (e : Entries) (k : OutPoint) (w : Entry) (q : OutPoint) (z : Entry) → get (insert e k w) q ≡ Some z → ((q ≡ k) × (z ≡ w)) ⊎ ((q ≢ k) × (get e q ≡ Some z))
put_or e k w q z at = go (same_key_or_not q k) where
  go : (q ≡ k) ⊎ (q ≡ k → ⊥) → ((q ≡ k) × (z ≡ w)) ⊎ ((q ≢ k) × (get e q ≡ Some z))
  go (inl f) = let s : Some z ≡ Some w = sym at ∙ ap (get (insert e k w)) f ∙ key_here e k w in inl (f, cc)
  go (inr ne) = inr (ne, sym (key_off e k w q ne) ∙ at)

taken_off : (e : Entries) (k q : OutPoint) (z : Entry) → get (remove e k) q ≡ Some z → (q ≢ k) × (get e q ≡ Some z)
taken_off e k q z at = go (same_key_or_not q k) where
  go : (q ≡ k) ⊎ (q ≡ k → ⊥) → (q ≢ k) × (get e q ≡ Some z)
  go (inl f) = let s : None ≡ Some z = sym (key_gone e k) ∙ ap (get (remove e k)) (sym f) ∙ at in cc
  go (inr ne) = (ne, sym (key_rest e k q ne) ∙ at)

-- no entry is dirty once no slot is flagged
pub all_clean : (c : Contents) → IsSound c → c.changes ≡ [] → (k : OutPoint) (x : Entry) → get (entries_of c) k ≡ Some x → x.dirty ≡ false
all_clean c h none k x at = go x.dirty refl where
  go : (b : Bool) → x.dirty ≡ b → x.dirty ≡ false
  go false e = e
  go true e = let s = entry_from c k x at in absurd (subst (IsIn s.0) none (h.flagged s.0 x s.1 e))

-- flags are taken away

-- each entry that is left has its coin, and one without a flag had none
abbrev pub Settles : Entries → Entries → Type 0
Settles old new = (k : OutPoint) (x : Entry) → get new k ≡ Some x → (y : Entry) × (get old k ≡ Some y) × (x.coin ≡ y.coin) × (x.dirty ≡ false → x.fresh ≡ true → (y.dirty ≡ false) × (y.fresh ≡ true))

pub settles_none : (e : Entries) → Settles e e
settles_none e k x at = (x, at, refl, λ d f. (d, f))

pub settles_one : (old e new : Entries) (x : Entry) → get e x.key ≡ Some x → Settles old e → IsSettled x e new → Settles old new
settles_one old e new x has all (inl s) k z at = let t = taken_off e x.key k z (sym (ap (λ m. get m k) s.1) ∙ at) in all k z t.1
settles_one old e new x has all (inr s) k z at = go (put_or e x.key (record x { dirty = false; fresh = false }) k z (sym (ap (λ m. get m k) s) ∙ at)) (all k z) (all x.key x has) where
  go : ((k ≡ x.key) × (z ≡ record x { dirty = false; fresh = false })) ⊎ ((k ≢ x.key) × (get e k ≡ Some z)) → (get e k ≡ Some z → (y : Entry) × (get old k ≡ Some y) × (z.coin ≡ y.coin) × (z.dirty ≡ false → z.fresh ≡ true → (y.dirty ≡ false) × (y.fresh ≡ true)))
      → (y : Entry) × (get old x.key ≡ Some y) × (x.coin ≡ y.coin) × (x.dirty ≡ false → x.fresh ≡ true → (y.dirty ≡ false) × (y.fresh ≡ true))
      → (y : Entry) × (get old k ≡ Some y) × (z.coin ≡ y.coin) × (z.dirty ≡ false → z.fresh ≡ true → (y.dirty ≡ false) × (y.fresh ≡ true))
  go (inl a) rest own = (own.0, ap (get old) a.0 ∙ own.1, ap (λ (r : Entry). r.coin) a.1 ∙ own.2, λ d f. let g : false ≡ true = sym (ap (λ (r : Entry). r.fresh) a.1) ∙ f in cc)
  go (inr a) rest own = rest a.1

module _ (old new : Entries) (all : Settles old new) (clean : (k : OutPoint) (x : Entry) → get new k ≡ Some x → x.dirty ≡ false) (m : Coins) (h : AreTrueOf m old) where
  coin_of : (k : OutPoint) (x : Entry) → get new k ≡ Some x → x.coin ≡ get (laid old m) k
  coin_of k x at = let y = all k x at in y.2 ∙ sym (get-laid old m k ∙ ap (λ o. coin_over o (get m k)) y.1)

  pub settled_true : AreTrueOf (laid old m) new
  settled_true k x at =
      let y = all k x at in record {
        clean = λ d. coin_of k x at;
        fresh = λ f. let b = y.3 (clean k x at) f in let t = h k y.0 y.1 in sym (coin_of k x at) ∙ y.2 ∙ t.clean b.0 ∙ t.fresh b.1;
      }

  pub settled_laid : laid new (laid old m) ≡ laid old m
  settled_laid = same_keys _ _ (λ k. get-laid new (laid old m) k ∙ go k (get new k) refl) where
    go : (k : OutPoint) (o : Option Entry) → get new k ≡ o → coin_over o (get (laid old m) k) ≡ get (laid old m) k
    go k None at = refl
    go k (Some x) at = coin_of k x at

pub settled_means : (c d : Contents) → Settles (entries_of c) (entries_of d) → IsSound d → d.changes ≡ [] → (told : Option Coins) → StandsOver c told → (means d (means c told) ≡ means c told) × StandsOver d (means c told)
settled_means c d all sound none None h = (refl, λ m t. let e : None ≡ Some m = t in cc)
settled_means c d all sound none (Some m) h = (
  ap Some (settled_laid (entries_of c) (entries_of d) all (all_clean d sound none) m (h m refl)),
  λ n t. let e : laid (entries_of c) m ≡ n = cc t in subst (λ k. AreTrueOf k (entries_of d)) e (settled_true (entries_of c) (entries_of d) all (all_clean d sound none) m (h m refl)),
)

pub settled_adds : (c d : Contents) → Settles (entries_of c) (entries_of d) → AddsNone c d
settled_adds c d all k has = go (get (entries_of d) k) refl where
  go : (o : Option Entry) → get (entries_of d) k ≡ o → contains_key (entries_of c) k ≡ true
  go None e = let f : false ≡ true = sym (ap is_some e) ∙ has in cc
  go (Some x) e = ap is_some (all k x e).1

-- a child's entry is taken over

module _ (e g f : Entries) (k : OutPoint) (x : Entry) (has : get f k ≡ Some x) (key : x.key ≡ k) (s : IsMerged k x.coin x.fresh e g) where
  merged_off : (q : OutPoint) → q ≢ k → get g q ≡ get e q
  merged_off q ne = go s where
    go : IsMerged k x.coin x.fresh e g → get g q ≡ get e q
    go (inl a) = ap (λ m. get m q) a.1 ∙ key_off e k (changed k x.coin x.fresh) q ne
    go (inr (y, at, inl a)) = ap (λ m. get m q) a.2 ∙ key_rest e k q ne
    go (inr (y, at, inr a)) = ap (λ m. get m q) a.1 ∙ key_off e k (changed k x.coin y.fresh) q ne

  module _ (m : Coins) (te : AreTrueOf m e) (tf : AreTrueOf (laid e m) f) where
    coin_at : get (laid g m) k ≡ x.coin
    coin_at = get-laid g m k ∙ go s where
      go : IsMerged k x.coin x.fresh e g → coin_over (get g k) (get m k) ≡ x.coin
      go (inl a) = ap (λ o. coin_over o (get m k)) (ap (λ n. get n k) a.1 ∙ key_here e k (changed k x.coin x.fresh))
      go (inr (y, at, inl a)) = ap (λ o. coin_over o (get m k)) (ap (λ n. get n k) a.2 ∙ key_gone e k) ∙ (te k y at).fresh a.1 ∙ sym a.0
      go (inr (y, at, inr a)) = ap (λ o. coin_over o (get m k)) (ap (λ n. get n k) a.1 ∙ key_here e k (changed k x.coin y.fresh))

    coin_off : (q : OutPoint) → q ≢ k → get (laid g m) q ≡ get (laid e m) q
    coin_off q ne = get-laid g m q ∙ ap (λ o. coin_over o (get m q)) (merged_off q ne) ∙ sym (get-laid e m q)

    pub merged_true : AreTrueOf m g
    merged_true = go s where
      go : IsMerged k x.coin x.fresh e g → AreTrueOf m g
      go (inl a) = subst (AreTrueOf m) (sym a.1) (true_put m e k (changed k x.coin x.fresh) te (record {
        clean = λ d. let b : true ≡ false = d in cc;
        fresh = λ b. sym (get-laid e m k ∙ ap (λ o. coin_over o (get m k)) a.0) ∙ (tf k x has).fresh b;
      }))
      go (inr (y, at, inl a)) = subst (AreTrueOf m) (sym a.2) (true_take m e k te)
      go (inr (y, at, inr a)) = subst (AreTrueOf m) (sym a.1) (true_put m e k (changed k x.coin y.fresh) te (record { clean = λ d. let b : true ≡ false = d in cc; fresh = λ b. (te k y at).fresh b }))

    pub rest_true : AreTrueOf (laid g m) (remove f k)
    rest_true q z at =
        let t = taken_off f k q z at in let old = tf q z t.1 in
        record { clean = λ d. old.clean d ∙ sym (coin_off q t.0); fresh = λ b. coin_off q t.0 ∙ old.fresh b }

    pub merged_laid : laid (remove f k) (laid g m) ≡ laid f (laid e m)
    merged_laid = same_keys _ _ (λ q. go q (same_key_or_not q k)) where
      go : (q : OutPoint) → (q ≡ k) ⊎ (q ≡ k → ⊥) → get (laid (remove f k) (laid g m)) q ≡ get (laid f (laid e m)) q
      go q (inl a) = ap (get (laid (remove f k) (laid g m))) a ∙ get-laid (remove f k) (laid g m) k ∙ ap (λ o. coin_over o (get (laid g m) k)) (key_gone f k) ∙ coin_at
          ∙ sym (ap (get (laid f (laid e m))) a ∙ get-laid f (laid e m) k ∙ ap (λ o. coin_over o (get (laid e m) k)) has)
      go q (inr ne) = get-laid (remove f k) (laid g m) q ∙ ap (λ o. coin_over o (get (laid g m) q)) (key_rest f k q ne) ∙ ap (coin_over (get f q)) (coin_off q ne) ∙ sym (get-laid f (laid e m) q)

  -- as a function of the two
  merged_at : get g k ≡ merged_over (get e k) x
  merged_at = go s where
    some_or : (o : Option Coin) (b : Bool) (w : Option Entry) → (o ≡ None → b ≡ false) → w ≡ (if not (is_some o) && b then None else w)
    some_or None true w h = let c : true ≡ false = h refl in cc
    some_or None false w h = refl
    some_or (Some v) b w h = refl

    go : IsMerged k x.coin x.fresh e g → get g k ≡ merged_over (get e k) x
    go (inl a) = ap (λ n. get n k) a.1 ∙ key_here e k (changed k x.coin x.fresh) ∙ (λ i. Some (changed (sym key i) x.coin x.fresh)) ∙ sym (ap (λ o. merged_over o x) a.0)
    go (inr (y, at, inl a)) = ap (λ n. get n k) a.2 ∙ key_gone e k ∙ sym (ap (λ o. if not (is_some o) && y.fresh then None else Some (changed x.key x.coin y.fresh)) a.0 ∙ ap (λ b. if b then None else Some (changed x.key x.coin y.fresh)) a.1) ∙ sym (ap (λ o. merged_over o x) at)
    go (inr (y, at, inr a)) = ap (λ n. get n k) a.1 ∙ key_here e k (changed k x.coin y.fresh) ∙ (λ i. Some (changed (sym key i) x.coin y.fresh)) ∙ some_or x.coin y.fresh (Some (changed x.key x.coin y.fresh)) a.0 ∙ sym (ap (λ o. merged_over o x) at)

-- what holds between the steps: e and f were the entries of the cache and of its child, g and r are those now
pub record Merging (e f g r : Entries) : Type 0 where
  pub means : (m : Coins) → AreTrueOf m e → AreTrueOf (laid e m) f → AreTrueOf m g × AreTrueOf (laid g m) r × (laid r (laid g m) ≡ laid f (laid e m))
  pub rest : (k : OutPoint) (x : Entry) → get r k ≡ Some x → get f k ≡ Some x
  pub each : (k : OutPoint) → ((get r k ≡ get f k) × (get g k ≡ get e k)) ⊎ ((get r k ≡ None) × ((x : Entry) × (get f k ≡ Some x) × (x.dirty ≡ true) × (get g k ≡ merged_over (get e k) x)))
  pub adds : (k : OutPoint) → contains_key g k ≡ true → (contains_key e k ≡ true) ⊎ ((x : Entry) × (get f k ≡ Some x))

pub merging_none : (e f : Entries) → Merging e f e f
merging_none e f = record { means = λ m te tf. (te, tf, refl); rest = λ k x at. at; each = λ k. inl (refl, refl); adds = λ k has. inl has }

pub merging_one : (e f g r h s : Entries) (x : Entry) → Merging e f g r → x.dirty ≡ true → get r x.key ≡ Some x → IsMerged x.key x.coin x.fresh g h → s ≡ remove r x.key → Merging e f h s
merging_one e f g r h s x all dirty has step gone = record {
  means = λ m te tf. let a = all.means m te tf in (
    merged_true g h r x.key x has refl step m a.0 a.1,
    subst (AreTrueOf (laid h m)) (sym gone) (rest_true g h r x.key x has refl step m a.0 a.1),
    ap (λ n. laid n (laid h m)) gone ∙ merged_laid g h r x.key x has refl step m a.0 a.1 ∙ a.2,
  );
  rest = λ k z at. all.rest k z (taken_off r x.key k z (sym (ap (λ n. get n k) gone) ∙ at)).1;
  each = λ k. each k (same_key_or_not k x.key) (all.each k);
  adds = λ k at. adds k at (same_key_or_not k x.key);
} where
  each : (k : OutPoint) → (k ≡ x.key) ⊎ (k ≡ x.key → ⊥) → ((get r k ≡ get f k) × (get g k ≡ get e k)) ⊎ ((get r k ≡ None) × ((z : Entry) × (get f k ≡ Some z) × (z.dirty ≡ true) × (get g k ≡ merged_over (get e k) z)))
      → ((get s k ≡ get f k) × (get h k ≡ get e k)) ⊎ ((get s k ≡ None) × ((z : Entry) × (get f k ≡ Some z) × (z.dirty ≡ true) × (get h k ≡ merged_over (get e k) z)))
  each k (inl a) (inl b) = inr (
    ap (get s) a ∙ ap (λ n. get n x.key) gone ∙ key_gone r x.key,
    (x, sym b.0 ∙ ap (get r) a ∙ has, dirty, ap (get h) a ∙ merged_at g h r x.key x has refl step ∙ ap (λ o. merged_over o x) (sym (ap (get g) a) ∙ b.1)),
  )
  each k (inl a) (inr b) = let c : None ≡ Some x = sym b.0 ∙ ap (get r) a ∙ has in cc
  each k (inr ne) (inl b) = inl (ap (λ n. get n k) gone ∙ key_rest r x.key k ne ∙ b.0, merged_off g h r x.key x has refl step k ne ∙ b.1)
  each k (inr ne) (inr b) = inr (ap (λ n. get n k) gone ∙ key_rest r x.key k ne ∙ b.0, (b.1.0, b.1.1, b.1.2, merged_off g h r x.key x has refl step k ne ∙ b.1.3))

  adds : (k : OutPoint) → contains_key h k ≡ true → (k ≡ x.key) ⊎ (k ≡ x.key → ⊥) → (contains_key e k ≡ true) ⊎ ((z : Entry) × (get f k ≡ Some z))
  adds k at (inl a) = inr (x, ap (get f) a ∙ all.rest x.key x has)
  adds k at (inr ne) = all.adds k (sym (ap is_some (merged_off g h r x.key x has refl step k ne)) ∙ at)

pub merged_means : (c k d j : Contents) → Merging (entries_of c) (entries_of k) (entries_of d) (entries_of j) → IsSound j → j.changes ≡ [] → (told : Option Coins) → StandsOver c told → StandsOver k (means c told)
    → (means d told ≡ means k (means c told)) × StandsOver d told
merged_means c k d j all sound none None h i = (refl, λ m t. let e : None ≡ Some m = t in cc)
merged_means c k d j all sound none (Some m) h i =
    let a = all.means m (h m refl) (i (laid (entries_of c) m) refl) in (
      ap Some (sym (same_keys _ _ (λ q. get-laid (entries_of j) (laid (entries_of d) m) q ∙ go q a.1 (get (entries_of j) q) refl)) ∙ a.2),
      λ n t. let e : m ≡ n = cc t in subst (λ o. AreTrueOf o (entries_of d)) e a.0,
    ) where
      go : (q : OutPoint) → AreTrueOf (laid (entries_of d) m) (entries_of j) → (o : Option Entry) → get (entries_of j) q ≡ o → coin_over o (get (laid (entries_of d) m) q) ≡ get (laid (entries_of d) m) q
      go q t None at = refl
      go q t (Some x) at = (t q x at).clean (all_clean j sound none q x at)

-- what each outpoint has in the end
pub merged_each : (c k d j : Contents) → Merging (entries_of c) (entries_of k) (entries_of d) (entries_of j) → IsSound j → j.changes ≡ [] → (q : OutPoint) → get (entries_of d) q ≡ merged (get (entries_of c) q) (get (entries_of k) q)
merged_each c k d j all sound none q = go (get (entries_of k) q) refl (all.each q) where
  dirty_or : (b : Bool) (v w : Option Entry) → b ≡ false → w ≡ (if b then v else w)
  dirty_or true v w e = cc
  dirty_or false v w e = refl

  go : (o : Option Entry) → get (entries_of k) q ≡ o
      → ((get (entries_of j) q ≡ get (entries_of k) q) × (get (entries_of d) q ≡ get (entries_of c) q)) ⊎ ((get (entries_of j) q ≡ None) × ((x : Entry) × (get (entries_of k) q ≡ Some x) × (x.dirty ≡ true) × (get (entries_of d) q ≡ merged_over (get (entries_of c) q) x)))
      → get (entries_of d) q ≡ merged (get (entries_of c) q) (get (entries_of k) q)
  go None at (inl a) = a.1 ∙ sym (ap (merged (get (entries_of c) q)) at)
  go (Some x) at (inl a) = a.1 ∙ dirty_or x.dirty (merged_over (get (entries_of c) q) x) (get (entries_of c) q) (all_clean j sound none q x (a.0 ∙ at)) ∙ sym (ap (merged (get (entries_of c) q)) at)
  go o at (inr a) = a.1.3 ∙ sym (ap (λ b. if b then merged_over (get (entries_of c) q) a.1.0 else get (entries_of c) q) a.1.2) ∙ sym (ap (merged (get (entries_of c) q)) a.1.1)
