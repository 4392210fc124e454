-- What a contract sees of the fields.
use Rattle.std.proofs.Common.{◌≡◌, ◌≢◌, ◌-◌, min, ℕ, List, Option, Some, None, IsSome, is_some, refl, sym, ap, subst, ◌∙◌}
use Rattle.std.specs.Ordering.{nat_cmp}
use Rattle.std.specs.FinMap.{FinMap, get, len}
use Rattle.base_types.specs.Views.{max_entries}
use Rattle.base_types.specs.declared.hash.OutPoint.{OutPoint}
use Rattle.base_types.specs.declared.program.Salt.{Salt}
use Rattle.slot_pool.specs.Pool.{Contents as Pooled}
use Rattle.flag_list.specs.declared.list.FlagList.{FlagList}
use Rattle.flag_list.specs.List.{IsList, start_of}
use Rattle.coin_index.specs.Index.{salt_of}
use Rattle.coin_index.proofs.IndexLaws.{found_held}
use Rattle.coin_cache.specs.declared.node.Node.{Node}
use Rattle.coin_cache.specs.declared.cache.Cache.TheInside.{Inside}
use Rattle.coin_cache.specs.Contents.{Entry, Contents, contents}
use Rattle.coin_cache.specs.Entries.{AreSound, IsSound}
use Rattle.coin_cache.specs.Inside.{entry_of, key_of, chain_of, links_of, slots_of, walked, contents_of, IsInside}
use Rattle.coin_cache.proofs.Nodes.{walk_is, node_at, node_held, slot_seen}

-- fields by which a contract sees these contents
pub view_as : (p : Pooled Node) (l : FlagList) (salt : Salt) (slots : FinMap nat_cmp Entry) (changes : List ℕ) (spare : ℕ) (salt' : Salt) → slots_of p.values ≡ slots → IsList links_of p.values l changes
    → min p.spare (max_entries - len (slots_of p.values)) ≡ spare → salt ≡ salt' → contents (slots_of p.values) (walked p.values (len (slots_of p.values)) (start_of l)) (min p.spare (max_entries - len (slots_of p.values))) salt ≡ contents slots changes spare salt'
view_as p l salt slots changes spare salt' a b c d = λ k. contents (a k) (walk_is p.values l changes b k) (c k) (d k)

module _ (i : Inside) (h : IsInside i) where
  pub view_is : contents_of i ≡ contents (slots_of i.pool.values) h.flagged (min i.pool.spare (max_entries - len (slots_of i.pool.values))) (salt_of i.index)
  view_is = ap (λ l. contents (slots_of i.pool.values) l (min i.pool.spare (max_entries - len (slots_of i.pool.values))) (salt_of i.index)) (walk_is i.pool.values i.flags h.flagged h.list)

  -- and of a cache with these fields
  module _ (c : Contents) (is : contents_of i ≡ c) where
    pub slots_are : c.slots ≡ slots_of i.pool.values
    slots_are = sym (ap (λ (d : Contents). d.slots) is)

    pub changes_are : c.changes ≡ h.flagged
    changes_are = sym (ap (λ (d : Contents). d.changes) is) ∙ ap (λ (d : Contents). d.changes) view_is

    pub spare_is : c.spare ≡ min i.pool.spare (max_entries - len (slots_of i.pool.values))
    spare_is = sym (ap (λ (d : Contents). d.spare) is)

    pub salt_is : c.salt ≡ salt_of i.index
    salt_is = sym (ap (λ (d : Contents). d.salt) is)

    pub sound_is : IsSound c
    sound_is = subst (λ (p : FinMap nat_cmp Entry × List ℕ). AreSound p.0 p.1) (λ k. (sym slots_are k, sym changes_are k)) h.sound

    pub slot_in : (s : ℕ) (x : Entry) → get c.slots s ≡ Some x → get (slots_of i.pool.values) s ≡ Some x
    slot_in s x e = sym (ap (λ m. get m s) slots_are) ∙ e

    pub node_in : (s : ℕ) (x : Entry) → get c.slots s ≡ Some x → (n : Node) × (get i.pool.values s ≡ Some n) × (entry_of n ≡ x)
    node_in s x e = node_at i.pool.values s x (slot_in s x e)

    pub held_in : (s : ℕ) → IsSome (get c.slots s) → IsSome (get i.pool.values s)
    held_in s e = node_held i.pool.values s (sym (ap (λ m. is_some (get m s)) slots_are) ∙ e)

    -- what a search of the index answers
    pub not_found : (k : OutPoint) → get h.found k ≡ None → (s : ℕ) (x : Entry) → get c.slots s ≡ Some x → x.key ≢ k
    not_found k e s x at same = let d : None ≡ Some s = sym e ∙ ap (get h.found) (sym same) ∙ h.each s x (slot_in s x at) in cc

    pub is_found : (k : OutPoint) (s : ℕ) → get h.found k ≡ Some s → (x : Entry) × (get c.slots s ≡ Some x) × (x.key ≡ k)
    is_found k s e =
        let n = found_held key_of chain_of i.pool.values i.index h.found k s h.index e in
        (entry_of n.0, ap (λ m. get m s) slots_are ∙ slot_seen i.pool.values s n.0 n.1, n.2)

    -- an outpoint without an entry is found nowhere
    pub free_key : (k : OutPoint) → ((s : ℕ) (x : Entry) → get c.slots s ≡ Some x → x.key ≢ k) → get h.found k ≡ None
    free_key k free = go (get h.found k) refl where
      go : (o : Option ℕ) → get h.found k ≡ o → get h.found k ≡ None
      go None e = e
      go (Some s) e = let x = is_found k s e in absurd (free s x.0 x.1 x.2)
