-- The order of the flags after a step.
use Rattle.std.proofs.Common.{◌≡◌, ◌≢◌, ◌⊎◌, inl, inr, ◌++◌, ℕ, Bool, true, false, List, [], ◌∷◌, Option, Some, None, is_some, refl, sym, ap, ◌∙◌, subst}
use Rattle.std.specs.Prelude.{if◌then◌else◌}
use Rattle.std.proofs.lemmas.Bool.{cases_eq}
use Rattle.std.specs.Ordering.{nat_cmp, eq_by_cmp}
use Rattle.std.specs.FinMap.{FinMap, get, insert, remove}
use Rattle.slot_pool.specs.Slots.{IsIn, IsDistinct}
use Rattle.slot_pool.proofs.SlotLaws.{get_here, get_off, removed_here, removed_off}
use Rattle.base_types.specs.Keys.{outpoint_cmp}
use Rattle.base_types.proofs.KeyOrders.{outpoint_cmp-IsAntisymmetric, outpoint_ties, tied_same, tied_not}
use Rattle.base_types.specs.declared.hash.OutPoint.{OutPoint}
use Rattle.base_types.specs.declared.program.Salt.{Salt}
use Rattle.coin_cache.specs.Contents.{Entry, Contents}
use Rattle.coin_cache.specs.Entries.{Entries, entries_of, merged, merged_over, IsSound, KeepsEntries}
use Rattle.coin_cache.specs.Flags.{key_before, keys_in, flagged, is_flagged, without, flags_after, ChangesOne, flags_merged}
use Rattle.coin_cache.proofs.Lookups.{key_off, key_gone, key_rest, entry_at, entry_none, entries_put, entries_take}
use Rattle.coin_cache.proofs.Meanings.{same_entries}
use Rattle.coin_cache.proofs.Merges.{Merging}

-- an outpoint at the head of a list that is to be without one
without_same : (k : OutPoint) (others : List OutPoint) → without (k ∷ others) k ≡ without others k
without_same k others = ap (λ b. if b then without others k else k ∷ without others k) (tied_same outpoint_cmp outpoint_ties outpoint_cmp-IsAntisymmetric k)

without_other : (q k : OutPoint) (others : List OutPoint) → q ≢ k → without (q ∷ others) k ≡ q ∷ without others k
without_other q k others ne = ap (λ b. if b then without others k else q ∷ without others k) (tied_not outpoint_cmp outpoint_ties outpoint_cmp-IsAntisymmetric q k ne)

module _ (m : FinMap nat_cmp Entry) where
  -- an entry is written over one of its outpoint, or into a slot that isn't listed
  keys_put : (s : ℕ) (w : Entry) (ss : List ℕ) → (IsIn s ss → (x : Entry) × (get m s ≡ Some x) × (x.key ≡ w.key)) → keys_in (insert m s w) ss ≡ keys_in m ss
  keys_put s w [] own = refl
  keys_put s w (t ∷ ss) own = go (cases_eq t s) (keys_put s w ss (λ i. own (inr i))) where
    go : (t ≡ s) ⊎ (t ≡ s → ⊥) → keys_in (insert m s w) ss ≡ keys_in m ss → keys_in (insert m s w) (t ∷ ss) ≡ keys_in m (t ∷ ss)
    go (inl e) rest =
        let x = own (inl (sym e)) in ap (λ o. key_before o (keys_in (insert m s w) ss)) (ap (get (insert m s w)) e ∙ get_here m s w) ∙ (λ i. sym x.2 i ∷ rest i)
        ∙ sym (ap (λ o. key_before o (keys_in m ss)) (ap (get m) e ∙ x.1))
    go (inr ne) rest = λ i. key_before (get_off m s w t ne i) (rest i)

  keys_append : (ss : List ℕ) (s : ℕ) (x : Entry) → get m s ≡ Some x → keys_in m (ss ++ s ∷ []) ≡ keys_in m ss ++ x.key ∷ []
  keys_append [] s x at = ap (λ o. key_before o []) at
  keys_append (t ∷ ss) s x at = ap (key_before (get m t)) (keys_append ss s x at) ∙ over (get m t) where
    over : (o : Option Entry) → key_before o (keys_in m ss ++ x.key ∷ []) ≡ key_before o (keys_in m ss) ++ x.key ∷ []
    over None = refl
    over (Some y) = refl

  -- an outpoint that no listed slot has
  without_none : (k : OutPoint) (ss : List ℕ) → ((t : ℕ) (y : Entry) → IsIn t ss → get m t ≡ Some y → y.key ≢ k) → without (keys_in m ss) k ≡ keys_in m ss
  without_none k [] off = refl
  without_none k (t ∷ ss) off = go (get m t) refl (without_none k ss (λ u y i. off u y (inr i))) where
    go : (o : Option Entry) → get m t ≡ o → without (keys_in m ss) k ≡ keys_in m ss → without (key_before o (keys_in m ss)) k ≡ key_before o (keys_in m ss)
    go None at rest = rest
    go (Some y) at rest = without_other y.key k (keys_in m ss) (off t y (inl refl) at) ∙ ap (λ l. y.key ∷ l) rest

  -- an entry is taken out
  keys_taken : (s : ℕ) (x : Entry) (ss : List ℕ) → get m s ≡ Some x → ((t : ℕ) (y : Entry) → get m t ≡ Some y → y.key ≡ x.key → t ≡ s) → keys_in (remove m s) ss ≡ without (keys_in m ss) x.key
  keys_taken s x [] at once = refl
  keys_taken s x (t ∷ ss) at once = go (cases_eq t s) (keys_taken s x ss at once) where
    over : t ≢ s → (o : Option Entry) → get m t ≡ o → keys_in (remove m s) ss ≡ without (keys_in m ss) x.key → key_before o (keys_in (remove m s) ss) ≡ without (key_before o (keys_in m ss)) x.key
    over ne None e rest = rest
    over ne (Some y) e rest = ap (λ l. y.key ∷ l) rest ∙ sym (without_other y.key x.key (keys_in m ss) (λ f. ne (once t y e f)))

    go : (t ≡ s) ⊎ (t ≡ s → ⊥) → keys_in (remove m s) ss ≡ without (keys_in m ss) x.key → keys_in (remove m s) (t ∷ ss) ≡ without (keys_in m (t ∷ ss)) x.key
    go (inl e) rest =
        ap (λ o. key_before o (keys_in (remove m s) ss)) (ap (get (remove m s)) e ∙ removed_here m s) ∙ rest
        ∙ sym (ap (λ o. without (key_before o (keys_in m ss)) x.key) (ap (get m) e ∙ at) ∙ without_same x.key (keys_in m ss))
    go (inr ne) rest = ap (λ o. key_before o (keys_in (remove m s) ss)) (removed_off m s t ne) ∙ over ne (get m t) refl rest

  -- a slot without an entry
  keys_gap : (s : ℕ) (xs ys : List ℕ) → get m s ≡ None → keys_in m (xs ++ s ∷ ys) ≡ keys_in m (xs ++ ys)
  keys_gap s [] ys none = ap (λ o. key_before o (keys_in m ys)) none
  keys_gap s (x ∷ xs) ys none = ap (key_before (get m x)) (keys_gap s xs ys none)

module _ (c d : Contents) (h : IsSound c) (j : IsSound d) (salt : d.salt ≡ c.salt) where
  -- an entry is flagged, or stays flagged, with another coin
  pub one_set : (s : ℕ) (x w : Entry) → get c.slots s ≡ Some x → d.slots ≡ insert c.slots s w → w.key ≡ x.key → w.dirty ≡ true → (x.dirty ≡ false → d.changes ≡ c.changes ++ s ∷ []) → (x.dirty ≡ true → d.changes ≡ c.changes) → ChangesOne x.key c d
  one_set s x w at is key dirty clean same = record { others = λ q ne. ap (λ e. get e q) entries ∙ key_off (entries_of c) w.key w q (λ f. ne (f ∙ key)); order = go x.dirty refl; salt = salt } where
    entries : entries_of d ≡ insert (entries_of c) w.key w
    entries = entries_put c d h j s w is (λ y f. let one : x ≡ y = cc (at, f) in ap (λ (e : Entry). e.key) (sym one) ∙ sym key)

    here : get d.slots s ≡ Some w
    here = ap (λ m. get m s) is ∙ get_here c.slots s w

    after : get (entries_of d) x.key ≡ Some w
    after = ap (get (entries_of d)) (sym key) ∙ entry_at d j s w here

    kept : keys_in d.slots c.changes ≡ flagged c
    kept = ap (λ m. keys_in m c.changes) is ∙ keys_put c.slots s w c.changes (λ i. (x, at, sym key))

    value : (b : Bool) → x.dirty ≡ b → flags_after (flagged c) x.key (get (entries_of c) x.key) (get (entries_of d) x.key) ≡ (if b then flagged c else flagged c ++ x.key ∷ [])
    value b e =
        ap (flags_after (flagged c) x.key (get (entries_of c) x.key)) after ∙ ap (λ o. flags_after (flagged c) x.key o (Some w)) (entry_at c h s x at)
        ∙ ap (λ a. if a then (if x.dirty then flagged c else flagged c ++ x.key ∷ []) else without (flagged c) x.key) dirty ∙ ap (λ a. if a then flagged c else flagged c ++ x.key ∷ []) e

    go : (b : Bool) → x.dirty ≡ b → flagged d ≡ flags_after (flagged c) x.key (get (entries_of c) x.key) (get (entries_of d) x.key)
    go true e = ap (keys_in d.slots) (same e) ∙ kept ∙ sym (value true e)
    go false e = ap (keys_in d.slots) (clean e) ∙ keys_append d.slots c.changes s w here ∙ (λ i. kept i ++ key i ∷ []) ∙ sym (value false e)

  -- an outpoint without an entry gets one
  pub one_new : (s : ℕ) (w : Entry) → get c.slots s ≡ None → ((t : ℕ) (y : Entry) → get c.slots t ≡ Some y → y.key ≢ w.key) → d.slots ≡ insert c.slots s w → (w.dirty ≡ true → d.changes ≡ c.changes ++ s ∷ []) → (w.dirty ≡ false → d.changes ≡ c.changes) → ChangesOne w.key c d
  one_new s w none free is dirty clean = record { others = λ q ne. ap (λ e. get e q) entries ∙ key_off (entries_of c) w.key w q ne; order = go w.dirty refl; salt = salt } where
    entries : entries_of d ≡ insert (entries_of c) w.key w
    entries = entries_put c d h j s w is (λ y f. let e : None ≡ Some y = sym none ∙ f in cc)

    here : get d.slots s ≡ Some w
    here = ap (λ m. get m s) is ∙ get_here c.slots s w

    kept : keys_in d.slots c.changes ≡ flagged c
    kept = ap (λ m. keys_in m c.changes) is ∙ keys_put c.slots s w c.changes (λ i. let x = h.dirty s i in let e : None ≡ Some x.0 = sym none ∙ x.1 in cc)

    value : (b : Bool) → w.dirty ≡ b → flags_after (flagged c) w.key (get (entries_of c) w.key) (get (entries_of d) w.key) ≡ (if b then flagged c ++ w.key ∷ [] else without (flagged c) w.key)
    value b e =
        ap (flags_after (flagged c) w.key (get (entries_of c) w.key)) (entry_at d j s w here) ∙ ap (λ o. flags_after (flagged c) w.key o (Some w)) (entry_none c w.key free)
        ∙ ap (λ a. if a then flagged c ++ w.key ∷ [] else without (flagged c) w.key) e

    go : (b : Bool) → w.dirty ≡ b → flagged d ≡ flags_after (flagged c) w.key (get (entries_of c) w.key) (get (entries_of d) w.key)
    go true e = ap (keys_in d.slots) (dirty e) ∙ keys_append d.slots c.changes s w here ∙ ap (λ l. l ++ w.key ∷ []) kept ∙ sym (value true e)
    go false e = ap (keys_in d.slots) (clean e) ∙ kept ∙ sym (without_none c.slots w.key c.changes (λ t y i. free t y)) ∙ sym (value false e)

  -- an entry is taken out
  pub one_gone : (s : ℕ) (x : Entry) → get c.slots s ≡ Some x → d.slots ≡ remove c.slots s → (x.dirty ≡ true → (xs ys : List ℕ) × (c.changes ≡ xs ++ s ∷ ys) × (d.changes ≡ xs ++ ys)) → (x.dirty ≡ false → d.changes ≡ c.changes) → ChangesOne x.key c d
  one_gone s x at is cut same = record { others = λ q ne. ap (λ e. get e q) entries ∙ key_rest (entries_of c) x.key q ne; order = go x.dirty refl ∙ sym value; salt = salt } where
    entries : entries_of d ≡ remove (entries_of c) x.key
    entries = entries_take c d h j s x at is

    value : flags_after (flagged c) x.key (get (entries_of c) x.key) (get (entries_of d) x.key) ≡ without (flagged c) x.key
    value = ap (flags_after (flagged c) x.key (get (entries_of c) x.key)) (ap (λ e. get e x.key) entries ∙ key_gone (entries_of c) x.key)

    taken : keys_in d.slots c.changes ≡ without (flagged c) x.key
    taken = ap (λ m. keys_in m c.changes) is ∙ keys_taken c.slots s x c.changes at (λ t y e f. h.once t s y x e at f)

    go : (b : Bool) → x.dirty ≡ b → flagged d ≡ without (flagged c) x.key
    go true e = let p = cut e in ap (keys_in d.slots) p.3 ∙ sym (keys_gap d.slots s p.0 p.1 (ap (λ m. get m s) is ∙ removed_here c.slots s)) ∙ ap (keys_in d.slots) (sym p.2) ∙ taken
    go false e = ap (keys_in d.slots) (same e) ∙ taken

-- nothing changes
pub one_same : (c : Contents) → IsSound c → (k : OutPoint) → ChangesOne k c c
one_same c h k = record { others = λ q ne. refl; order = go (get (entries_of c) k) refl; salt = refl } where
  clean : (b : Bool) (x : Entry) → get (entries_of c) k ≡ Some x → x.dirty ≡ b → flagged c ≡ (if b then (if b then flagged c else flagged c ++ k ∷ []) else without (flagged c) k)
  clean true x at e = refl
  clean false x at e = sym (without_none c.slots k c.changes (λ t y i f g.
      let z = h.dirty t i in let here : get (entries_of c) k ≡ Some y = ap (get (entries_of c)) (sym g) ∙ entry_at c h t y f in
      let one : x ≡ y = cc (at, here) in let two : y ≡ z.0 = cc (f, z.1) in
      let b : false ≡ true = sym e ∙ ap (λ (v : Entry). v.dirty) (one ∙ two) ∙ z.2 in cc))

  go : (o : Option Entry) → get (entries_of c) k ≡ o → flagged c ≡ flags_after (flagged c) k (get (entries_of c) k) (get (entries_of c) k)
  go None at = sym (ap (λ o. flags_after (flagged c) k o o) at ∙ without_none c.slots k c.changes (λ t y i f g.
      let e : None ≡ Some y = sym at ∙ ap (get (entries_of c)) (sym g) ∙ entry_at c h t y f in cc))
  go (Some x) at = clean x.dirty x at refl ∙ sym (ap (λ o. flags_after (flagged c) k o o) at)

-- room is made, or nothing changes but the room
module _ (c m : Contents) (keeps : KeepsEntries c m) where
  pub same_flags : flagged m ≡ flagged c
  same_flags = λ i. keys_in (keeps.slots i) (keeps.changes i)

  module _ (k : OutPoint) where
    pub one_after : (d : Contents) → ChangesOne k m d → ChangesOne k c d
    one_after d one = record {
      others = λ q ne. one.others q ne ∙ ap (λ e. get e q) (same_entries c m keeps);
      order = one.order ∙ (λ i. flags_after (same_flags i) k (get (same_entries c m keeps i) k) (get (entries_of d) k));
      salt = one.salt ∙ keeps.salt;
    }

    pub one_keeps : IsSound c → ChangesOne k c m
    one_keeps h = let one = one_same c h k in record {
      others = λ q ne. ap (λ e. get e q) (same_entries c m keeps);
      order = same_flags ∙ one.order ∙ ap (λ e. flags_after (flagged c) k (get (entries_of c) k) (get e k)) (sym (same_entries c m keeps));
      salt = keeps.salt;
    }

-- a child's first flagged entry is taken over
module _ (e f : Entries) (c d j l : Contents) (x : Entry) (before : Merging e f (entries_of c) (entries_of d)) (after : Merging e f (entries_of j) (entries_of l)) (dirty : x.dirty ≡ true) (has : get (entries_of d) x.key ≡ Some x) (gone : get (entries_of l) x.key ≡ None) where
  was : get (entries_of c) x.key ≡ get e x.key
  was = go (before.each x.key) where
    go : ((get (entries_of d) x.key ≡ get f x.key) × (get (entries_of c) x.key ≡ get e x.key)) ⊎ ((get (entries_of d) x.key ≡ None) × ((z : Entry) × (get f x.key ≡ Some z) × (z.dirty ≡ true) × (get (entries_of c) x.key ≡ merged_over (get e x.key) z))) → get (entries_of c) x.key ≡ get e x.key
    go (inl a) = a.1
    go (inr a) = let g : None ≡ Some x = sym a.0 ∙ has in cc

  own : get f x.key ≡ Some x
  own = before.rest x.key x has

  becomes : get (entries_of j) x.key ≡ merged (get e x.key) (get f x.key)
  becomes = go (after.each x.key) where
    go : ((get (entries_of l) x.key ≡ get f x.key) × (get (entries_of j) x.key ≡ get e x.key)) ⊎ ((get (entries_of l) x.key ≡ None) × ((z : Entry) × (get f x.key ≡ Some z) × (z.dirty ≡ true) × (get (entries_of j) x.key ≡ merged_over (get e x.key) z))) → get (entries_of j) x.key ≡ merged (get e x.key) (get f x.key)
    go (inl a) = let g : None ≡ Some x = sym gone ∙ a.0 ∙ own in cc
    go (inr a) = a.1.3 ∙ sym (ap (λ b. if b then merged_over (get e x.key) a.1.0 else get e x.key) a.1.2) ∙ sym (ap (merged (get e x.key)) a.1.1)

  module _ (s : ℕ) (vs : List ℕ) (sound : IsSound d) (first : d.changes ≡ s ∷ vs) (at : get d.slots s ≡ Some x) (one : ChangesOne x.key c j) (two : ChangesOne x.key d l) where
    tail : flagged d ≡ x.key ∷ keys_in d.slots vs
    tail = ap (keys_in d.slots) first ∙ ap (λ o. key_before o (keys_in d.slots vs)) at

    rest : flagged l ≡ keys_in d.slots vs
    rest =
        two.order ∙ ap (flags_after (flagged d) x.key (get (entries_of d) x.key)) gone ∙ ap (λ k. without k x.key) tail ∙ without_same x.key (keys_in d.slots vs)
        ∙ without_none d.slots x.key vs (λ t y i g same. (subst IsDistinct first sound.distinct).0 (subst (λ u. IsIn u vs) (sound.once t s y x g at same) i))

    pub flags_one : flags_merged e f (flagged l) (flagged j) ≡ flags_merged e f (flagged d) (flagged c)
    flags_one =
        ap (flags_merged e f (flagged l)) (one.order ∙ (λ i. flags_after (flagged c) x.key (was i) (becomes i)))
        ∙ ap (λ k. flags_merged e f k (flags_after (flagged c) x.key (get e x.key) (merged (get e x.key) (get f x.key)))) rest
        ∙ sym (ap (λ k. flags_merged e f k (flagged c)) tail)
