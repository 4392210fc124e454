-- The nodes of a pool, as the entries in its slots.
use Rattle.std.proofs.Common.{◌≡◌, ◌⊎◌, inl, inr, ◌+◌, ◌-◌, ◌≤◌, ◌&&◌, ℕ, zero, suc, Bool, true, false, cond, T, List, [], ◌∷◌, map, length, Option, Some, None, IsSome, is_some, option_map, refl, sym, ap, ◌∙◌, subst, arith}
use Rattle.std.specs.Ordering.{nat_cmp, eq_by_cmp, is_lt}
use Rattle.std.specs.Cmp.{nat_cmp_total}
use Rattle.std.specs.FinMap.{FinMap, get, empty, get-empty, insert, remove, entries, len, find, is_sorted, same_map, get-entries, get-from_sorted, entries-from_sorted, entries_sorted, len-entries, len-insert, len-remove, nat_cmp-IsAntisymmetric}
use Rattle.std.specs.FinMap.Entries.{below_all}
use Rattle.std.proofs.lemmas.Bool.{cases_eq}
use Rattle.std.proofs.lemmas.List.{length-map}
use Rattle.slot_pool.specs.Pool.{Contents}
use Rattle.slot_pool.specs.Slots.{first_or}
use Rattle.slot_pool.specs.Changes.{ChangesOnly, SameBut}
use Rattle.slot_pool.proofs.SlotLaws.{get_here, get_off, removed_here, removed_off, pigeon}
use Rattle.flag_list.specs.declared.linked.Links.{Links}
use Rattle.flag_list.specs.declared.list.FlagList.{FlagList}
use Rattle.flag_list.specs.List.{AreLinked, IsList, start_of}
use Rattle.flag_list.proofs.ListLaws.{list_held}
use Rattle.coin_cache.specs.declared.node.Node.{Node}
use Rattle.coin_cache.specs.Contents.{Entry}
use Rattle.coin_cache.specs.Inside.{entry_of, links_of, slots_of, walked, after_of}

abbrev seen : ℕ × Node → ℕ × Entry
seen p = (p.0, entry_of p.1)

below_seen : (s : ℕ) (es : List (ℕ × Node)) → below_all nat_cmp s (map seen es) ≡ below_all nat_cmp s es
below_seen s [] = refl
below_seen s (e ∷ es) = ap (λ b. is_lt (nat_cmp s e.0) && b) (below_seen s es)

sorted_seen : (es : List (ℕ × Node)) → is_sorted nat_cmp (map seen es) ≡ is_sorted nat_cmp es
sorted_seen [] = refl
sorted_seen (e ∷ es) = λ i. below_seen e.0 es i && sorted_seen es i

find_seen : (s : ℕ) (es : List (ℕ × Node)) → find nat_cmp s (map seen es) ≡ option_map entry_of (find nat_cmp s es)
find_seen s [] = refl
find_seen s (e ∷ es) = ap (cond (eq_by_cmp nat_cmp s e.0) (Some (entry_of e.1))) (find_seen s es) ∙ turn (eq_by_cmp nat_cmp s e.0) where
  turn : (b : Bool) → cond b (Some (entry_of e.1)) (option_map entry_of (find nat_cmp s es)) ≡ option_map entry_of (cond b (Some e.1) (find nat_cmp s es))
  turn true = refl
  turn false = refl

module _ (m : FinMap nat_cmp Node) where
  is_seen : T (is_sorted nat_cmp (map seen (entries m)))
  is_seen = subst T (sym (sorted_seen (entries m))) (entries_sorted m)

  pub get-slots : (s : ℕ) → get (slots_of m) s ≡ option_map entry_of (get m s)
  get-slots s = get-from_sorted nat_cmp (map seen (entries m)) s is_seen ∙ find_seen s (entries m) ∙ ap (option_map entry_of) (sym (get-entries m s))

  pub len-slots : len (slots_of m) ≡ len m
  len-slots = len-entries (slots_of m) ∙ ap length (entries-from_sorted nat_cmp (map seen (entries m)) is_seen) ∙ length-map (entries m) seen ∙ sym (len-entries m)

  pub slot_seen : (s : ℕ) (x : Node) → get m s ≡ Some x → get (slots_of m) s ≡ Some (entry_of x)
  slot_seen s x e = get-slots s ∙ ap (option_map entry_of) e

  pub slot_none : (s : ℕ) → get m s ≡ None → get (slots_of m) s ≡ None
  slot_none s e = get-slots s ∙ ap (option_map entry_of) e

  -- the node of an entry
  pub node_at : (s : ℕ) (e : Entry) → get (slots_of m) s ≡ Some e → (x : Node) × (get m s ≡ Some x) × (entry_of x ≡ e)
  node_at s e is = go (get m s) refl where
    go : (o : Option Node) → get m s ≡ o → (x : Node) × (get m s ≡ Some x) × (entry_of x ≡ e)
    go None n = let c : None ≡ Some e = sym (slot_none s n) ∙ is in cc
    go (Some x) n = let c : Some (entry_of x) ≡ Some e = sym (slot_seen s x n) ∙ is in (x, n, cc)

  pub node_held : (s : ℕ) → IsSome (get (slots_of m) s) → IsSome (get m s)
  node_held s h = go (get m s) refl where
    go : (o : Option Node) → get m s ≡ o → IsSome (get m s)
    go None n = let c : false ≡ true = sym (ap is_some (slot_none s n)) ∙ h in cc
    go (Some x) n = ap is_some n

-- two pools with the same entries
pub same_slots : (m n : FinMap nat_cmp Node) → ((s : ℕ) → option_map entry_of (get n s) ≡ option_map entry_of (get m s)) → slots_of n ≡ slots_of m
same_slots m n same = same_map nat_cmp_total nat_cmp-IsAntisymmetric _ _ (λ s. get-slots n s ∙ same s ∙ sym (get-slots m s))

pub same_len : (m n : FinMap nat_cmp Node) → slots_of n ≡ slots_of m → len n ≡ len m
same_len m n e = sym (len-slots n) ∙ ap len e ∙ len-slots m

-- another structure changes its part of the nodes, which isn't the entry
pub slots_beside : {L : Type 0} (set : Node → L → Node) → ((x : Node) (l : L) → entry_of (set x l) ≡ entry_of x) → (p n : Contents Node) → ChangesOnly set p n → slots_of n.values ≡ slots_of p.values
slots_beside set kept p n c = same_slots p.values n.values (λ s. go (get p.values s) (get n.values s) (c.values s)) where
  go : (o q : Option Node) → SameBut set o q → option_map entry_of q ≡ option_map entry_of o
  go None q h = ap (option_map entry_of) h
  go (Some x) q h = ap (option_map entry_of) h.1 ∙ ap Some (kept x h.0)

pub slots_put : (m : FinMap nat_cmp Node) (s : ℕ) (x : Node) → slots_of (insert m s x) ≡ insert (slots_of m) s (entry_of x)
slots_put m s x = same_map nat_cmp_total nat_cmp-IsAntisymmetric _ _ (λ t. go t (cases_eq t s)) where
  go : (t : ℕ) → (t ≡ s) ⊎ (t ≡ s → ⊥) → get (slots_of (insert m s x)) t ≡ get (insert (slots_of m) s (entry_of x)) t
  go t (inl e) = ap (get (slots_of (insert m s x))) e ∙ slot_seen (insert m s x) s x (get_here m s x) ∙ sym (get_here (slots_of m) s (entry_of x)) ∙ ap (get (insert (slots_of m) s (entry_of x))) (sym e)
  go t (inr ne) = get-slots (insert m s x) t ∙ ap (option_map entry_of) (get_off m s x t ne) ∙ sym (get-slots m t) ∙ sym (get_off (slots_of m) s (entry_of x) t ne)

pub slots_take : (m : FinMap nat_cmp Node) (s : ℕ) → slots_of (remove m s) ≡ remove (slots_of m) s
slots_take m s = same_map nat_cmp_total nat_cmp-IsAntisymmetric _ _ (λ t. go t (cases_eq t s)) where
  go : (t : ℕ) → (t ≡ s) ⊎ (t ≡ s → ⊥) → get (slots_of (remove m s)) t ≡ get (remove (slots_of m) s) t
  go t (inl e) = ap (get (slots_of (remove m s))) e ∙ slot_none (remove m s) s (removed_here m s) ∙ sym (removed_here (slots_of m) s) ∙ ap (get (remove (slots_of m) s)) (sym e)
  go t (inr ne) = get-slots (remove m s) t ∙ ap (option_map entry_of) (removed_off m s t ne) ∙ sym (get-slots m t) ∙ sym (removed_off (slots_of m) s t ne)

-- one more entry, and one less
pub len_put : {X : Type 0} (m : FinMap nat_cmp X) (s : ℕ) (x : X) → get m s ≡ None → len (insert m s x) ≡ len m + 1
len_put m s x e = len-insert nat_cmp_total m s x ∙ ap (λ o. cond (is_some o) (len m) (len m + 1)) e

pub len_over : {X : Type 0} (m : FinMap nat_cmp X) (s : ℕ) (x : X) → IsSome (get m s) → len (insert m s x) ≡ len m
len_over m s x e = len-insert nat_cmp_total m s x ∙ ap (λ b. cond b (len m) (len m + 1)) e

pub len_take : {X : Type 0} (m : FinMap nat_cmp X) (s : ℕ) → IsSome (get m s) → len (remove m s) ≡ len m - 1
len_take m s e = len-remove nat_cmp_total m s ∙ ap (λ b. cond b (len m - 1) (len m)) e

walks : (m : FinMap nat_cmp Node) (n : ℕ) (b : Option ℕ) (ss : List ℕ) → length ss ≤ n → AreLinked links_of m b ss None → walked m n (first_or None ss) ≡ ss
walks m n b [] le h = refl
walks m zero b (s ∷ ss) le h = absurd (omega arith)
walks m (suc n) b (s ∷ ss) le h = ap (λ o. s ∷ walked m n (after_of o)) h.0.1 ∙ ap (λ (l : Links). s ∷ walked m n l.after) h.0.2 ∙ ap (λ l. s ∷ l) (walks m n (Some s) ss (omega (arith, le)) h.1)

-- the walk gives the slots that are listed
pub walk_is : (m : FinMap nat_cmp Node) (l : FlagList) (ss : List ℕ) → IsList links_of m l ss → walked m (len (slots_of m)) (start_of l) ≡ ss
walk_is m l ss h = ap (λ n. walked m n (start_of l)) (len-slots m) ∙ ap (walked m (len m)) h.first ∙ walks m (len m) None ss (pigeon ss m h.distinct (λ s i. list_held links_of m l ss s h i)) h.linked

pub nothing_in : {X : Type 0} (m : FinMap nat_cmp X) (s : ℕ) (x : X) → m ≡ empty → get m s ≡ Some x → ⊥
nothing_in m s x e f = let c : None ≡ Some x = sym (get-empty nat_cmp s) ∙ ap (λ k. get k s) (sym e) ∙ f in cc

pub no_slots : (m : FinMap nat_cmp Node) → m ≡ empty → slots_of m ≡ empty
no_slots m e = same_map nat_cmp_total nat_cmp-IsAntisymmetric _ _ (λ s. slot_none m s (ap (λ k. get k s) e ∙ get-empty nat_cmp s) ∙ sym (get-empty nat_cmp s))
