-- What each step on an entry leaves of the fields.
use Rattle.std.proofs.Common.{◌≡◌, ◌⊎◌, inl, inr, ◌+◌, ◌-◌, ◌^◌, ◌<◌, ◌≤◌, ◌++◌, min, ℕ, true, false, List, [], ◌∷◌, length, Option, Some, None, is_some, refl, sym, ap, subst, ◌∙◌, arith}
use Rattle.std.specs.Prelude.{IfSome}
use Rattle.std.specs.Ordering.{nat_cmp}
use Rattle.std.specs.Cmp.{nat_cmp_total}
use Rattle.std.specs.FinMap.{FinMap, get, empty, get-empty, insert, remove, len, len-empty, same_map, nat_cmp-IsAntisymmetric}
use Rattle.std.proofs.lemmas.Bool.{cases_lt}
use Rattle.std.proofs.lemmas.List.{length-append}
use Rattle.slot_pool.specs.Changes.{ChangesOnly}
use Rattle.slot_pool.specs.Pool.{Contents as Pooled, contents as pooled, with_value}
use Rattle.slot_pool.specs.Slots.{IsIn}
use Rattle.slot_pool.proofs.SlotLaws.{pigeon}
use Rattle.flag_list.specs.declared.linked.Links.{Links}
use Rattle.flag_list.specs.declared.list.FlagList.{FlagList}
use Rattle.flag_list.specs.List.{IsList}
use Rattle.flag_list.proofs.ListLaws.{list_beside, list_write, list_take}
use Rattle.coin_index.specs.Index.{IsIndex, bucket_count, salt_of}
use Rattle.coin_index.specs.declared.index.Index.{Index}
use Rattle.coin_index.proofs.IndexLaws.{index_beside, index_write, index_take, found_no_more, found_buckets}
use Rattle.base_types.specs.Coins.{CoinFits}
use Rattle.base_types.specs.Keys.{outpoint_cmp}
use Rattle.base_types.specs.Views.{max_entries}
use Rattle.coin_cache.specs.declared.node.Node.{Node}
use Rattle.coin_cache.specs.declared.cache.Cache.TheInside.{Inside}
use Rattle.coin_cache.specs.Contents.{Entry, Contents, contents}
use Rattle.coin_cache.specs.Entries.{AreSound}
use Rattle.coin_cache.specs.Inside.{entry_of, key_of, chain_of, links_of, slots_of, contents_of, FindsEach, IsInside}
use Rattle.coin_cache.proofs.Nodes.{len-slots, slots_beside, slots_put, slots_take, slot_seen, len_over, len_take}
use Rattle.coin_cache.proofs.Puts.{with_chain}
use Rattle.coin_cache.proofs.Sound.{sound_write, sound_flag, sound_unflag, sound_take, not_flagged, each_over, each_take}
use Rattle.coin_cache.proofs.Views.{view_as, slots_are, changes_are, spare_is, salt_is}

-- the node with other links of the list
abbrev pub with_links : Node → Links → Node
with_links n links = record n { links = links }

-- the parts of a cache's fields
pub inside_of : (i : Inside) (m : FinMap nat_cmp Entry) (found : FinMap outpoint_cmp ℕ) (flagged : List ℕ) → slots_of i.pool.values ≡ m → IsIndex key_of chain_of i.pool.values i.index found → IsList links_of i.pool.values i.flags flagged
    → FindsEach m found → AreSound m flagged → i.count ≡ len m → i.changes ≡ length flagged → len m ≤ max_entries → (0 < i.pool.spare → 0 < bucket_count i.index) → IsInside i
inside_of i m found flagged is index list each sound count changes few buckets = record {
  found = found;
  flagged = flagged;
  index = index;
  list = list;
  each = subst (λ q. FindsEach q found) (sym is) each;
  sound = subst (λ q. AreSound q flagged) (sym is) sound;
  count = count ∙ ap len (sym is);
  changes = changes;
  few = subst (λ q. len q ≤ max_entries) (sym is) few;
  buckets = buckets;
}

module _ (i : Inside) (h : IsInside i) (c : Contents) (is : contents_of i ≡ c) where
  abbrev old : FinMap nat_cmp Entry
  old = slots_of i.pool.values

  -- a node is written over one with the same links
  module _ (s : ℕ) (n w : Node) (at : get i.pool.values s ≡ Some n) (key : w.key ≡ n.key) (chain : w.chain ≡ n.chain) (links : w.links ≡ n.links) where
    over_slots : slots_of (insert i.pool.values s w) ≡ insert old s (entry_of w)
    over_slots = slots_put i.pool.values s w

    over_len : len (insert old s (entry_of w)) ≡ len old
    over_len = len_over old s (entry_of w) (ap is_some (slot_seen i.pool.values s n at))

    over_index : IsIndex key_of chain_of (insert i.pool.values s w) i.index h.found
    over_index = index_write key_of chain_of i.pool.values i.index h.found h.index s n w at key chain

    over_list : IsList links_of (insert i.pool.values s w) i.flags h.flagged
    over_list = list_write links_of i.pool.values i.flags h.flagged h.list s n w at links

    over_each : IfSome w.coin CoinFits → FindsEach (insert old s (entry_of w)) h.found
    over_each fits = each_over old h.flagged h.sound s (entry_of n) (entry_of w) (slot_seen i.pool.values s n at) key fits h.found h.each

    -- the flag stays
    pub write_inside : w.dirty ≡ n.dirty → IfSome w.coin CoinFits → IsInside (record i { pool = with_value i.pool s w })
    write_inside flag fits = inside_of _ (insert old s (entry_of w)) h.found h.flagged over_slots over_index over_list (over_each fits)
        (sound_write old h.flagged h.sound s (entry_of n) (entry_of w) (slot_seen i.pool.values s n at) key fits flag) (h.count ∙ sym over_len) h.changes (omega (arith, h.few, over_len)) h.buckets

    pub write_view : contents_of (record i { pool = with_value i.pool s w }) ≡ contents (insert c.slots s (entry_of w)) c.changes c.spare c.salt
    write_view = view_as (with_value i.pool s w) i.flags _ _ _ _ _ (over_slots ∙ ap (λ q. insert q s (entry_of w)) (sym (slots_are i h c is)))
        (subst (λ l. IsList links_of (insert i.pool.values s w) i.flags l) (sym (changes_are i h c is)) over_list)
        (ap (λ q. min i.pool.spare (max_entries - q)) (ap len over_slots ∙ over_len) ∙ sym (spare_is i h c is)) (sym (salt_is i h c is))

    -- the flag is set, and the slot is pushed
    module _ (clean : n.dirty ≡ false) (flag : w.dirty ≡ true) (coin : w.coin ≡ n.coin) where
      pub push_out : ¬ IsIn s h.flagged
      push_out = not_flagged old h.flagged h.sound s (entry_of n) (entry_of w) (slot_seen i.pool.values s n at) key
          (subst (λ o. IfSome o CoinFits) (sym coin) (h.sound.fits s (entry_of n) (slot_seen i.pool.values s n at))) clean

      fits' : IfSome w.coin CoinFits
      fits' = subst (λ o. IfSome o CoinFits) (sym coin) (h.sound.fits s (entry_of n) (slot_seen i.pool.values s n at))

      pub push_ready : IsList links_of (insert i.pool.values s w) i.flags h.flagged
      push_ready = over_list

      module _ (m : Pooled Node) (l : FlagList) (changes : ChangesOnly with_links (with_value i.pool s w) m)
          (list : (ss : List ℕ) → IsList links_of (insert i.pool.values s w) i.flags ss → ¬ IsIn s ss → IsList links_of m.values l (ss ++ s ∷ [])) where
        flag_slots : slots_of m.values ≡ insert old s (entry_of w)
        flag_slots = slots_beside with_links (λ x k. refl) (with_value i.pool s w) m changes ∙ over_slots

        pub flag_inside : (count : ℕ) → count ≡ i.changes + 1 → IsInside (record i { pool = m; flags = l; changes = count })
        flag_inside count more = inside_of _ (insert old s (entry_of w)) h.found (h.flagged ++ s ∷ []) flag_slots
            (index_beside key_of chain_of with_links (λ x k. refl) (λ x k. refl) (with_value i.pool s w) m changes i.index h.found over_index) (list h.flagged over_list push_out) (over_each fits')
            (sound_flag old h.flagged h.sound s (entry_of n) (entry_of w) (slot_seen i.pool.values s n at) key fits' flag clean) (h.count ∙ sym over_len)
            (omega (arith, more, h.changes, length-append h.flagged (s ∷ []))) (omega (arith, h.few, over_len)) (λ some. h.buckets (subst (λ k. 0 < k) changes.spare some))

        pub flag_view : (count : ℕ) → contents_of (record i { pool = m; flags = l; changes = count }) ≡ contents (insert c.slots s (entry_of w)) (c.changes ++ s ∷ []) c.spare c.salt
        flag_view count = view_as m l _ _ _ _ _ (flag_slots ∙ ap (λ q. insert q s (entry_of w)) (sym (slots_are i h c is)))
            (subst (λ k. IsList links_of m.values l (k ++ s ∷ [])) (sym (changes_are i h c is)) (list h.flagged over_list push_out))
            ((λ k. min (changes.spare k) (max_entries - (ap len flag_slots ∙ over_len) k)) ∙ sym (spare_is i h c is)) (sym (salt_is i h c is))

  few_changes : length h.flagged ≤ len old
  few_changes = pigeon h.flagged old h.sound.distinct (λ s i'. let x = h.sound.dirty s i' in ap is_some x.1)

  pub fits_more : i.changes + 1 < 2 ^ 32
  fits_more = omega (arith, few_changes, h.few, h.changes)

  -- the flag is taken away
  module _ (s : ℕ) (n : Pooled Node) (l : FlagList) (changes : ChangesOnly with_links i.pool n)
      (list : (xs ys : List ℕ) → IsList links_of i.pool.values i.flags (xs ++ s ∷ ys) → IsList links_of n.values l (xs ++ ys)) where
    same : slots_of n.values ≡ old
    same = slots_beside with_links (λ x k. refl) i.pool n changes

    pub unflag_seen : (y : Node) → get n.values s ≡ Some y → get old s ≡ Some (entry_of y)
    unflag_seen y at = ap (λ q. get q s) (sym same) ∙ slot_seen n.values s y at

    module _ (y : Node) (at : get n.values s ≡ Some y) (xs ys : List ℕ) (split : h.flagged ≡ xs ++ s ∷ ys) where
      abbrev w : Node
      w = record y { dirty = false; fresh = false }

      seen : get old s ≡ Some (entry_of y)
      seen = unflag_seen y at

      unflag_slots : slots_of (insert n.values s w) ≡ insert old s (entry_of w)
      unflag_slots = slots_put n.values s w ∙ ap (λ q. insert q s (entry_of w)) same

      unflag_len : len (insert old s (entry_of w)) ≡ len old
      unflag_len = len_over old s (entry_of w) (ap is_some seen)

      unflag_list : IsList links_of (insert n.values s w) l (xs ++ ys)
      unflag_list = list_write links_of n.values l (xs ++ ys) (list xs ys (subst (IsList links_of i.pool.values i.flags) split h.list)) s y w at refl

      pub unflag_inside : (count : ℕ) → count ≡ i.changes - 1 → IsInside (record i { pool = with_value n s w; flags = l; changes = count })
      unflag_inside count less = inside_of _ (insert old s (entry_of w)) h.found (xs ++ ys) unflag_slots
          (index_write key_of chain_of n.values i.index h.found (index_beside key_of chain_of with_links (λ x k. refl) (λ x k. refl) i.pool n changes i.index h.found h.index) s y w at refl refl) unflag_list
          (each_over old h.flagged h.sound s (entry_of y) (entry_of w) seen refl (h.sound.fits s (entry_of y) seen) h.found h.each)
          (sound_unflag old h.flagged h.sound s (entry_of y) (entry_of w) seen refl (h.sound.fits s (entry_of y) seen) refl xs ys split) (h.count ∙ sym unflag_len)
          (omega (arith, less, h.changes, ap length split, length-append xs (s ∷ ys), length-append xs ys)) (omega (arith, h.few, unflag_len)) (λ some. h.buckets (subst (λ k. 0 < k) changes.spare some))

      pub unflag_view : (count : ℕ) → contents_of (record i { pool = with_value n s w; flags = l; changes = count }) ≡ contents (insert c.slots s (entry_of w)) (xs ++ ys) c.spare c.salt
      unflag_view count = view_as (with_value n s w) l _ _ _ _ _ (unflag_slots ∙ ap (λ q. insert q s (entry_of w)) (sym (slots_are i h c is))) unflag_list
          ((λ k. min (changes.spare k) (max_entries - (ap len unflag_slots ∙ unflag_len) k)) ∙ sym (spare_is i h c is)) (sym (salt_is i h c is))

  -- an entry without a flag is taken out
  module _ (s : ℕ) (x : Entry) (has : get old s ≡ Some x) (clean : x.dirty ≡ false) where
    pub take_key : get h.found x.key ≡ Some s
    take_key = h.each s x has

    off_list : ¬ IsIn s h.flagged
    off_list i' = let y = h.sound.dirty s i' in let one : y.0 ≡ x = cc (y.1, has) in let f : true ≡ false = sym y.2 ∙ ap (λ (e : Entry). e.dirty) one ∙ clean in cc

    some : 1 ≤ len old
    some = pigeon (s ∷ []) old ((λ i'. i'), tt) (λ t i'. one t i') where
      one : (t : ℕ) → IsIn t (s ∷ []) → is_some (get old t) ≡ true
      one t (inl e) = ap (λ k. is_some (get old k)) e ∙ ap is_some has
      one t (inr e) = absurd e

    pub less : 0 < i.count
    less = omega (arith, some, h.count)

    module _ (n m : Pooled Node) (j : Index) (changes : ChangesOnly with_chain i.pool n) (index : IsIndex key_of chain_of n.values j (remove h.found x.key)) (rest : m ≡ pooled (remove n.values s) (n.spare + 1))
        (buckets : bucket_count j ≡ bucket_count i.index) (salt : salt_of j ≡ salt_of i.index) where
      take_slots : slots_of m.values ≡ remove old s
      take_slots = ap (λ (p : Pooled Node). slots_of p.values) rest ∙ slots_take n.values s ∙ ap (λ q. remove q s) (slots_beside with_chain (λ y k. refl) i.pool n changes)

      take_len : len (remove old s) ≡ len old - 1
      take_len = len_take old s (ap is_some has)

      take_list : IsList links_of m.values i.flags h.flagged
      take_list = subst (λ (p : Pooled Node). IsList links_of p.values i.flags h.flagged) (sym rest)
          (list_take links_of n.values i.flags h.flagged (list_beside links_of with_chain (λ y k. refl) i.pool n changes i.flags h.flagged h.list) s off_list)

      take_spare : m.spare ≡ i.pool.spare + 1
      take_spare = ap (λ (p : Pooled Node). p.spare) rest ∙ ap (λ k. k + 1) changes.spare

      pub take_inside : (count : ℕ) → count ≡ i.count - 1 → IsInside (record i { pool = m; index = j; count = count })
      take_inside count fewer = inside_of _ (remove old s) (remove h.found x.key) h.flagged take_slots
          (subst (λ (p : Pooled Node). IsIndex key_of chain_of p.values j (remove h.found x.key)) (sym rest)
          (index_take key_of chain_of n.values j (remove h.found x.key) index s (found_no_more key_of chain_of i.pool.values i.index h.found h.index x.key s take_key)))
          take_list (each_take old h.flagged h.sound s x has h.found h.each) (sound_take old h.flagged h.sound s x has clean)
          (omega (arith, fewer, h.count, take_len)) h.changes (omega (arith, h.few, take_len)) (λ _. omega (arith, found_buckets key_of chain_of i.pool.values i.index h.found h.index x.key s take_key, buckets))

      pub take_view : (count : ℕ) → contents_of (record i { pool = m; index = j; count = count }) ≡ contents (remove c.slots s) c.changes (c.spare + 1) c.salt
      take_view count = view_as m i.flags _ _ _ _ _ (take_slots ∙ ap (λ q. remove q s) (sym (slots_are i h c is))) (subst (λ l. IsList links_of m.values i.flags l) (sym (changes_are i h c is)) take_list)
          (omega (arith, take_spare, ap len take_slots, take_len, some, h.few, spare_is i h c is)) (salt ∙ sym (salt_is i h c is))

  -- more room
  module _ (n m : Pooled Node) (j : Index) (changes : ChangesOnly with_chain i.pool n) (index : IsIndex key_of chain_of n.values j h.found) (values : m.values ≡ n.values) (buckets : 0 < m.spare → 0 < bucket_count j) (salt : salt_of j ≡ salt_of i.index) where
    keep_slots : slots_of m.values ≡ old
    keep_slots = ap slots_of values ∙ slots_beside with_chain (λ y k. refl) i.pool n changes

    keep_list : IsList links_of m.values i.flags h.flagged
    keep_list = subst (λ q. IsList links_of q i.flags h.flagged) (sym values) (list_beside links_of with_chain (λ y k. refl) i.pool n changes i.flags h.flagged h.list)

    pub keep_inside : IsInside (record i { pool = m; index = j })
    keep_inside = inside_of _ old h.found h.flagged keep_slots (subst (λ q. IsIndex key_of chain_of q j h.found) (sym values) index) keep_list h.each h.sound h.count h.changes h.few buckets

    pub keep_view : contents_of (record i { pool = m; index = j }) ≡ contents c.slots c.changes (min m.spare (max_entries - len c.slots)) c.salt
    keep_view = view_as m i.flags _ _ _ _ _ (keep_slots ∙ sym (slots_are i h c is)) (subst (λ l. IsList links_of m.values i.flags l) (sym (changes_are i h c is)) keep_list)
        (ap (λ q. min m.spare (max_entries - q)) (ap len keep_slots ∙ sym (ap len (slots_are i h c is)))) (salt ∙ sym (salt_is i h c is))

-- a cache with entries, or with room for some, has buckets
pub some_buckets : (i : Inside) → IsInside i → 0 < i.pool.spare + len i.pool.values → 0 < bucket_count i.index
some_buckets i h some = go (cases_lt 0 (bucket_count i.index)) where
  old : FinMap nat_cmp Entry
  old = slots_of i.pool.values

  none : bucket_count i.index ≤ 0 → (s : ℕ) (o : Option Entry) → get old s ≡ o → get old s ≡ None
  none le s None at = at
  none le s (Some x) at = absurd (omega (arith, le, found_buckets key_of chain_of i.pool.values i.index h.found h.index x.key s (h.each s x at)))

  empty_old : bucket_count i.index ≤ 0 → old ≡ empty
  empty_old le = same_map nat_cmp_total nat_cmp-IsAntisymmetric _ _ (λ s. none le s (get old s) refl ∙ sym (get-empty nat_cmp s))

  no_room : bucket_count i.index ≤ 0 → i.pool.spare ≤ 0
  no_room le = go (cases_lt 0 i.pool.spare) where
    go : (0 < i.pool.spare) ⊎ (i.pool.spare ≤ 0) → i.pool.spare ≤ 0
    go (inl lt) = absurd (omega (arith, le, h.buckets lt))
    go (inr ge) = ge

  go : (0 < bucket_count i.index) ⊎ (bucket_count i.index ≤ 0) → 0 < bucket_count i.index
  go (inl lt) = lt
  go (inr le) = absurd (omega (arith, some, no_room le, len-slots i.pool.values, ap len (empty_old le) ∙ len-empty nat_cmp Entry))
