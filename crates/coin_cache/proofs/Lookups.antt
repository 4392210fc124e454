-- Entries by their outpoints, and the coins that they are laid over.
use Rattle.std.proofs.Common.{◌≡◌, ◌≢◌, ◌⊎◌, inl, inr, ◌||◌, ℕ, Bool, true, false, cond, List, [], ◌∷◌, Option, Some, None, IsSome, is_some, refl, sym, ap, ◌∙◌, subst}
use Rattle.std.specs.List.{list_any}
use Rattle.std.proofs.Common.{arith}
use Rattle.std.specs.Cmp.{nat_cmp_total, unsigned_tied}
use Rattle.std.specs.Ordering.{nat_cmp, eq_by_cmp}
use Rattle.std.specs.FinMap.{FinMap, get, insert, remove, keys, find, same_map, get-from_entries, get-insert, get-remove, contains_key-keys, nat_cmp-IsAntisymmetric}
use Rattle.std.proofs.lemmas.Bool.{cases_eq}
use Rattle.base_types.specs.Coins.{Coins}
use Rattle.base_types.specs.Keys.{outpoint_cmp}
use Rattle.base_types.proofs.KeyOrders.{outpoint_cmp_total, outpoint_cmp-IsAntisymmetric, outpoint_ties, tied_same, tied_not}
use Rattle.base_types.specs.declared.coin.Coin.{Coin}
use Rattle.base_types.specs.declared.hash.OutPoint.{OutPoint}
use Rattle.slot_pool.proofs.SlotLaws.{get_here, get_off, removed_here, removed_off}
use Rattle.coin_index.proofs.IndexLaws.{same_key_or_not}
use Rattle.coin_cache.specs.Contents.{Entry, Contents}
use Rattle.coin_cache.specs.Entries.{Entries, before_others, by_outpoint, entries_of, laid_one, laid_at, laid, IsSound}

module _ {X : Type 0} (m : FinMap outpoint_cmp X) (k : OutPoint) where
  pub key_here : (v : X) → get (insert m k v) k ≡ Some v
  key_here v = get-insert outpoint_cmp_total m k v k ∙ ap (λ b. cond b (Some v) (get m k)) (tied_same outpoint_cmp outpoint_ties outpoint_cmp-IsAntisymmetric k)

  pub key_off : (v : X) (q : OutPoint) → q ≢ k → get (insert m k v) q ≡ get m q
  key_off v q ne = get-insert outpoint_cmp_total m k v q ∙ ap (λ b. cond b (Some v) (get m q)) (tied_not outpoint_cmp outpoint_ties outpoint_cmp-IsAntisymmetric q k ne)

  pub key_gone : get (remove m k) k ≡ None
  key_gone = get-remove outpoint_cmp_total m k k ∙ ap (λ b. cond b None (get m k)) (tied_same outpoint_cmp outpoint_ties outpoint_cmp-IsAntisymmetric k)

  pub key_rest : (q : OutPoint) → q ≢ k → get (remove m k) q ≡ get m q
  key_rest q ne = get-remove outpoint_cmp_total m k q ∙ ap (λ b. cond b None (get m q)) (tied_not outpoint_cmp outpoint_ties outpoint_cmp-IsAntisymmetric q k ne)

pub same_keys : {X : Type 0} (m n : FinMap outpoint_cmp X) → ((q : OutPoint) → get m q ≡ get n q) → m ≡ n
same_keys = same_map outpoint_cmp_total outpoint_cmp-IsAntisymmetric

-- the entry that is found comes from a slot
found_from : (m : FinMap nat_cmp Entry) (k : OutPoint) (ss : List ℕ) (x : Entry) → find outpoint_cmp k (by_outpoint m ss) ≡ Some x → (s : ℕ) × (get m s ≡ Some x) × (x.key ≡ k)
found_from m k [] x e = cc
found_from m k (s ∷ ss) x e = go (get m s) refl e (found_from m k ss x) where
  go : (o : Option Entry) → get m s ≡ o → find outpoint_cmp k (before_others o (by_outpoint m ss)) ≡ Some x → (find outpoint_cmp k (by_outpoint m ss) ≡ Some x → (s : ℕ) × (get m s ≡ Some x) × (x.key ≡ k)) → (s : ℕ) × (get m s ≡ Some x) × (x.key ≡ k)
  go None at f more = more f
  go (Some y) at f more = pick (same_key_or_not k y.key) where
    pick : (k ≡ y.key) ⊎ (k ≡ y.key → ⊥) → (s : ℕ) × (get m s ≡ Some x) × (x.key ≡ k)
    pick (inl same) =
        let t : eq_by_cmp outpoint_cmp k y.key ≡ true = ap (λ q. eq_by_cmp outpoint_cmp q y.key) same ∙ tied_same outpoint_cmp outpoint_ties outpoint_cmp-IsAntisymmetric y.key in
        let one : Some y ≡ Some x = sym (ap (λ b. cond b (Some y) (find outpoint_cmp k (by_outpoint m ss))) t) ∙ f in let two : y ≡ x = cc one in
        (s, at ∙ one, ap (λ (e : Entry). e.key) (sym two) ∙ sym same)
    pick (inr ne) = more (sym (ap (λ b. cond b (Some y) (find outpoint_cmp k (by_outpoint m ss))) (tied_not outpoint_cmp outpoint_ties outpoint_cmp-IsAntisymmetric k y.key ne)) ∙ f)

some_cond : {X : Type 0} (b : Bool) (v : X) (o : Option X) → IsSome o → IsSome (cond b (Some v) o)
some_cond true v o h = refl
some_cond false v o h = h

tied_off : (s t : ℕ) → s ≢ t → eq_by_cmp nat_cmp s t ≡ false
tied_off s t ne = unsigned_tied s t ∙ grind (arith)

-- an entry of a slot is found
found_some : (m : FinMap nat_cmp Entry) (s : ℕ) (x : Entry) (ss : List ℕ) → get m s ≡ Some x → list_any (eq_by_cmp nat_cmp s) ss ≡ true → IsSome (find outpoint_cmp x.key (by_outpoint m ss))
found_some m s x [] at any = cc
found_some m s x (t ∷ ss) at any = go (cases_eq s t) (found_some m s x ss at) where
  more : (o : Option Entry) → IsSome (find outpoint_cmp x.key (by_outpoint m ss)) → IsSome (find outpoint_cmp x.key (before_others o (by_outpoint m ss)))
  more None h = h
  more (Some y) h = some_cond (eq_by_cmp outpoint_cmp x.key y.key) y (find outpoint_cmp x.key (by_outpoint m ss)) h

  go : (s ≡ t) ⊎ (s ≡ t → ⊥) → (list_any (eq_by_cmp nat_cmp s) ss ≡ true → IsSome (find outpoint_cmp x.key (by_outpoint m ss))) → IsSome (find outpoint_cmp x.key (by_outpoint m (t ∷ ss)))
  go (inl e) rest = subst (λ (o : Option Entry). IsSome (find outpoint_cmp x.key (before_others o (by_outpoint m ss)))) (sym (ap (get m) (sym e) ∙ at))
      (ap (λ b. is_some (cond b (Some x) (find outpoint_cmp x.key (by_outpoint m ss)))) (tied_same outpoint_cmp outpoint_ties outpoint_cmp-IsAntisymmetric x.key))
  go (inr ne) rest = more (get m t) (rest (sym (ap (λ b. b || list_any (eq_by_cmp nat_cmp s) ss) (tied_off s t ne)) ∙ any))

module _ (c : Contents) where
  get-entries : (k : OutPoint) → get (entries_of c) k ≡ find outpoint_cmp k (by_outpoint c.slots (keys c.slots))
  get-entries k = get-from_entries outpoint_cmp_total (by_outpoint c.slots (keys c.slots)) k

  -- the slot of an entry
  pub entry_from : (k : OutPoint) (x : Entry) → get (entries_of c) k ≡ Some x → (s : ℕ) × (get c.slots s ≡ Some x) × (x.key ≡ k)
  entry_from k x e = found_from c.slots k (keys c.slots) x (sym (get-entries k) ∙ e)

  pub entry_none : (k : OutPoint) → ((s : ℕ) (x : Entry) → get c.slots s ≡ Some x → x.key ≢ k) → get (entries_of c) k ≡ None
  entry_none k free = go (get (entries_of c) k) refl where
    go : (o : Option Entry) → get (entries_of c) k ≡ o → get (entries_of c) k ≡ None
    go None e = e
    go (Some x) e = let s = entry_from k x e in absurd (free s.0 x s.1 s.2)

  pub entry_at : IsSound c → (s : ℕ) (x : Entry) → get c.slots s ≡ Some x → get (entries_of c) x.key ≡ Some x
  entry_at h s x at = go (get (entries_of c) x.key) refl where
    held : IsSome (get (entries_of c) x.key)
    held = ap is_some (get-entries x.key) ∙ found_some c.slots s x (keys c.slots) at (sym (contains_key-keys c.slots s) ∙ ap is_some at)

    go : (o : Option Entry) → get (entries_of c) x.key ≡ o → get (entries_of c) x.key ≡ Some x
    go None e = let f : false ≡ true = sym (ap is_some e) ∙ held in cc
    go (Some y) e = let t = entry_from x.key y e in let same = h.once t.0 s y x t.1 at t.2 in let one : y ≡ x = cc (t.1, at, same) in e ∙ ap Some one

-- entries of one outpoint that are the same in both
same_entry : (c d : Contents) → IsSound c → IsSound d → (q : OutPoint) → ((s : ℕ) (x : Entry) → get c.slots s ≡ Some x → x.key ≡ q → get d.slots s ≡ Some x) → ((s : ℕ) (x : Entry) → get d.slots s ≡ Some x → x.key ≡ q → get c.slots s ≡ Some x)
    → get (entries_of d) q ≡ get (entries_of c) q
same_entry c d h k q there back = go (get (entries_of c) q) refl where
  go : (o : Option Entry) → get (entries_of c) q ≡ o → get (entries_of d) q ≡ get (entries_of c) q
  go (Some x) e = let s = entry_from c q x e in ap (get (entries_of d)) (sym s.2) ∙ entry_at d k s.0 x (there s.0 x s.1 s.2) ∙ sym e
  go None e = entry_none d q (λ s x at same. let f : None ≡ Some x = sym e ∙ ap (get (entries_of c)) (sym same) ∙ entry_at c h s x (back s x at same) in cc) ∙ sym e

-- an entry is written into a slot that had none of another outpoint
pub entries_put : (c d : Contents) → IsSound c → IsSound d → (s : ℕ) (w : Entry) → d.slots ≡ insert c.slots s w → ((x : Entry) → get c.slots s ≡ Some x → x.key ≡ w.key) → entries_of d ≡ insert (entries_of c) w.key w
entries_put c d h k s w is own = same_keys _ _ (λ q. at q (same_key_or_not q w.key)) where
  at : (q : OutPoint) → (q ≡ w.key) ⊎ (q ≡ w.key → ⊥) → get (entries_of d) q ≡ get (insert (entries_of c) w.key w) q
  at q (inl e) = ap (get (entries_of d)) e ∙ entry_at d k s w (ap (λ m. get m s) is ∙ get_here c.slots s w) ∙ sym (key_here (entries_of c) w.key w) ∙ ap (get (insert (entries_of c) w.key w)) (sym e)
  at q (inr ne) = same_entry c d h k q (λ t x e f. there t x e f (cases_eq t s)) (λ t x e f. back t x e f (cases_eq t s)) ∙ sym (key_off (entries_of c) w.key w q ne) where
    there : (t : ℕ) (x : Entry) → get c.slots t ≡ Some x → x.key ≡ q → (t ≡ s) ⊎ (t ≡ s → ⊥) → get d.slots t ≡ Some x
    there t x e f (inl g) = absurd (ne (sym f ∙ own x (ap (get c.slots) (sym g) ∙ e)))
    there t x e f (inr off) = ap (λ m. get m t) is ∙ get_off c.slots s w t off ∙ e

    back : (t : ℕ) (x : Entry) → get d.slots t ≡ Some x → x.key ≡ q → (t ≡ s) ⊎ (t ≡ s → ⊥) → get c.slots t ≡ Some x
    back t x e f (inl g) = let one : Some w ≡ Some x = sym (ap (λ m. get m s) is ∙ get_here c.slots s w) ∙ ap (get d.slots) (sym g) ∙ e in let two : w ≡ x = cc one in absurd (ne (sym f ∙ ap (λ (y : Entry). y.key) (sym two)))
    back t x e f (inr off) = sym (ap (λ m. get m t) is ∙ get_off c.slots s w t off) ∙ e

-- an entry is taken out
pub entries_take : (c d : Contents) → IsSound c → IsSound d → (s : ℕ) (x : Entry) → get c.slots s ≡ Some x → d.slots ≡ remove c.slots s → entries_of d ≡ remove (entries_of c) x.key
entries_take c d h k s x has is = same_keys _ _ (λ q. at q (same_key_or_not q x.key)) where
  apart : (t : ℕ) (y : Entry) → get d.slots t ≡ Some y → (t ≢ s) × (get c.slots t ≡ Some y)
  apart t y e = go (cases_eq t s) where
    go : (t ≡ s) ⊎ (t ≡ s → ⊥) → (t ≢ s) × (get c.slots t ≡ Some y)
    go (inl g) = let f : None ≡ Some y = sym (ap (λ m. get m s) is ∙ removed_here c.slots s) ∙ ap (get d.slots) (sym g) ∙ e in cc
    go (inr off) = (off, sym (ap (λ m. get m t) is ∙ removed_off c.slots s t off) ∙ e)

  at : (q : OutPoint) → (q ≡ x.key) ⊎ (q ≡ x.key → ⊥) → get (entries_of d) q ≡ get (remove (entries_of c) x.key) q
  at q (inl e) = ap (get (entries_of d)) e ∙ entry_none d x.key (λ t y f g. let a = apart t y f in a.0 (h.once t s y x a.1 has g)) ∙ sym (key_gone (entries_of c) x.key) ∙ ap (get (remove (entries_of c) x.key)) (sym e)
  at q (inr ne) = same_entry c d h k q (λ t y e f. there t y e f (cases_eq t s)) (λ t y e f. (apart t y e).1) ∙ sym (key_rest (entries_of c) x.key q ne) where
    there : (t : ℕ) (y : Entry) → get c.slots t ≡ Some y → y.key ≡ q → (t ≡ s) ⊎ (t ≡ s → ⊥) → get d.slots t ≡ Some y
    there t y e f (inl g) = let one : y ≡ x = cc (e, has, g) in absurd (ne (sym f ∙ ap (λ (z : Entry). z.key) one))
    there t y e f (inr off) = ap (λ m. get m t) is ∙ removed_off c.slots s t off ∙ e

-- the coin of an outpoint: the entry's, or else the parent's
abbrev pub coin_over : Option Entry → Option Coin → Option Coin
coin_over None coin = coin
coin_over (Some entry) coin = entry.coin

pub one_here : (o : Option Entry) (k : OutPoint) (m : Coins) → get (laid_one o k m) k ≡ coin_over o (get m k)
one_here None k m = refl
one_here (Some x) k m = go x.coin where
  go : (o : Option Coin) → get (laid_one (Some (record x { coin = o })) k m) k ≡ o
  go None = key_gone m k
  go (Some v) = key_here m k v

pub one_off : (o : Option Entry) (k : OutPoint) (m : Coins) (q : OutPoint) → q ≢ k → get (laid_one o k m) q ≡ get m q
one_off None k m q ne = refl
one_off (Some x) k m q ne = go x.coin where
  go : (o : Option Coin) → get (laid_one (Some (record x { coin = o })) k m) q ≡ get m q
  go None = key_rest m k q ne
  go (Some v) = key_off m k v q ne

module _ (e : Entries) (m : Coins) (k : OutPoint) where
  laid_some : (ks : List OutPoint) → get (laid_at e m ks) k ≡ cond (list_any (eq_by_cmp outpoint_cmp k) ks) (coin_over (get e k) (get m k)) (get m k)
  laid_some [] = refl
  laid_some (q ∷ ks) = go (same_key_or_not k q) (laid_some ks) where
    settled : (o : Option Entry) (b : Bool) → get e k ≡ o → coin_over o (cond b (coin_over o (get m k)) (get m k)) ≡ coin_over o (get m k)
    settled None true at = refl
    settled None false at = refl
    settled (Some x) b at = refl

    go : (k ≡ q) ⊎ (k ≡ q → ⊥) → get (laid_at e m ks) k ≡ cond (list_any (eq_by_cmp outpoint_cmp k) ks) (coin_over (get e k) (get m k)) (get m k) → get (laid_at e m (q ∷ ks)) k ≡ cond (eq_by_cmp outpoint_cmp k q || list_any (eq_by_cmp outpoint_cmp k) ks) (coin_over (get e k) (get m k)) (get m k)
    go (inl same) more =
        ap (λ r. get (laid_one (get e r) r (laid_at e m ks)) k) (sym same) ∙ one_here (get e k) k (laid_at e m ks) ∙ ap (coin_over (get e k)) (more) ∙ settled (get e k) (list_any (eq_by_cmp outpoint_cmp k) ks) refl
        ∙ sym (ap (λ b. cond (b || list_any (eq_by_cmp outpoint_cmp k) ks) (coin_over (get e k) (get m k)) (get m k)) (ap (eq_by_cmp outpoint_cmp k) (sym same) ∙ tied_same outpoint_cmp outpoint_ties outpoint_cmp-IsAntisymmetric k))
    go (inr ne) more = one_off (get e q) q (laid_at e m ks) k ne ∙ more
        ∙ sym (ap (λ b. cond (b || list_any (eq_by_cmp outpoint_cmp k) ks) (coin_over (get e k) (get m k)) (get m k)) (tied_not outpoint_cmp outpoint_ties outpoint_cmp-IsAntisymmetric k q ne))

  pub get-laid : get (laid e m) k ≡ coin_over (get e k) (get m k)
  get-laid = laid_some (keys e) ∙ ap (λ b. cond b (coin_over (get e k) (get m k)) (get m k)) (sym (contains_key-keys e k)) ∙ go (get e k) where
    go : (o : Option Entry) → cond (is_some o) (coin_over o (get m k)) (get m k) ≡ coin_over o (get m k)
    go None = refl
    go (Some x) = refl

-- the same entry is written again
pub same_slot : (m : FinMap nat_cmp Entry) (s : ℕ) (x w : Entry) → get m s ≡ Some x → w ≡ x → m ≡ insert m s w
same_slot m s x w at is = same_map nat_cmp_total nat_cmp-IsAntisymmetric _ _ (λ t. go t (cases_eq t s)) where
  go : (t : ℕ) → (t ≡ s) ⊎ (t ≡ s → ⊥) → get m t ≡ get (insert m s w) t
  go t (inl e) = ap (get m) e ∙ at ∙ ap Some (sym is) ∙ sym (get_here m s w) ∙ ap (get (insert m s w)) (sym e)
  go t (inr ne) = sym (get_off m s w t ne)

-- two writes into one slot
pub slots_again : (m : FinMap nat_cmp Entry) (s : ℕ) (v w : Entry) → insert (insert m s v) s w ≡ insert m s w
slots_again m s v w = same_map nat_cmp_total nat_cmp-IsAntisymmetric _ _ (λ t. go t (cases_eq t s)) where
  go : (t : ℕ) → (t ≡ s) ⊎ (t ≡ s → ⊥) → get (insert (insert m s v) s w) t ≡ get (insert m s w) t
  go t (inl e) = ap (get (insert (insert m s v) s w)) e ∙ get_here (insert m s v) s w ∙ sym (get_here m s w) ∙ ap (get (insert m s w)) (sym e)
  go t (inr ne) = get_off (insert m s v) s w t ne ∙ get_off m s v t ne ∙ sym (get_off m s w t ne)

pub entries_again : (c d : Contents) → IsSound c → IsSound d → (s : ℕ) (v w : Entry) → d.slots ≡ insert (insert c.slots s v) s w → v.key ≡ w.key → ((x : Entry) → get c.slots s ≡ Some x → x.key ≡ w.key) → entries_of d ≡ insert (entries_of c) w.key w
entries_again c d h k s v w is same own = entries_put c d h k s w (is ∙ slots_again c.slots s v w) own

-- what was written before it is taken out doesn't matter
pub remove_over : (m : FinMap nat_cmp Entry) (s : ℕ) (w : Entry) → remove (insert m s w) s ≡ remove m s
remove_over m s w = same_map nat_cmp_total nat_cmp-IsAntisymmetric _ _ (λ t. go t (cases_eq t s)) where
  go : (t : ℕ) → (t ≡ s) ⊎ (t ≡ s → ⊥) → get (remove (insert m s w) s) t ≡ get (remove m s) t
  go t (inl e) = ap (get (remove (insert m s w) s)) e ∙ removed_here (insert m s w) s ∙ sym (removed_here m s) ∙ ap (get (remove m s)) (sym e)
  go t (inr ne) = removed_off (insert m s w) s t ne ∙ get_off m s w t ne ∙ sym (removed_off m s t ne)
