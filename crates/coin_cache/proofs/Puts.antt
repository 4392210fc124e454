-- An entry is put into a slot of its own.
use Rattle.std.proofs.Common.{◌≡◌, ◌≢◌, ◌+◌, ◌-◌, ◌<◌, ℕ, false, Bool, Option, Some, None, refl, sym, ap, subst, ◌∙◌, arith}
use Rattle.std.specs.Prelude.{IfSome}
use Rattle.std.specs.FinMap.{FinMap, get, insert, len}
use Rattle.slot_pool.specs.Changes.{ChangesOnly}
use Rattle.slot_pool.specs.Pool.{Contents as Pooled, contents as pooled}
use Rattle.flag_list.specs.List.{IsList}
use Rattle.flag_list.proofs.ListLaws.{list_put, list_beside}
use Rattle.coin_index.specs.Index.{IsIndex, bucket_count, salt_of}
use Rattle.coin_index.specs.declared.index.Index.{Index}
use Rattle.coin_index.proofs.IndexLaws.{put_ready}
use Rattle.base_types.specs.Coins.{CoinFits}
use Rattle.base_types.specs.Keys.{outpoint_cmp}
use Rattle.base_types.specs.declared.coin.Coin.{Coin}
use Rattle.base_types.specs.declared.hash.OutPoint.{OutPoint}
use Rattle.coin_cache.specs.declared.node.Node.{Node}
use Rattle.coin_cache.specs.declared.cache.Cache.TheInside.{Inside}
use Rattle.coin_cache.specs.Contents.{Entry, Contents, contents, entry_without_flag}
use Rattle.coin_cache.specs.Entries.{AreSound}
use Rattle.coin_cache.specs.Inside.{key_of, chain_of, links_of, slots_of, contents_of, FindsEach, IsInside}
use Rattle.coin_cache.proofs.Nodes.{slots_beside, slots_put, slot_none, len_put}
use Rattle.coin_cache.proofs.Sound.{sound_put, each_put}
use Rattle.coin_cache.proofs.Views.{view_as, slots_are, changes_are, spare_is, salt_is, free_key}

-- the node with another link of its chain
abbrev pub with_chain : Node → Option ℕ → Node
with_chain n next = record n { chain = next }

module _ (i : Inside) (h : IsInside i) (c : Contents) (is : contents_of i ≡ c) (s : ℕ) (w : Node) (k : OutPoint) (coin : Option Coin) (fresh : Bool) (made : (w.key ≡ k) × (w.coin ≡ coin) × (w.dirty ≡ false) × (w.fresh ≡ fresh))
    (new : get i.pool.values s ≡ None) (free : (t : ℕ) (x : Entry) → get c.slots t ≡ Some x → x.key ≢ k) (n : Pooled Node) (stored : n ≡ pooled (insert i.pool.values s w) (i.pool.spare - 1)) where
  no_key : get h.found w.key ≡ None
  no_key = ap (get h.found) made.0 ∙ free_key i h c is k free

  pub ready : IsIndex key_of chain_of n.values i.index h.found × ((x : Node) → get n.values s ≡ Some x → get h.found x.key ≡ None)
  ready = put_ready key_of chain_of i.pool.values i.index h.found h.index n.values s w new no_key (ap (λ (p : Pooled Node). p.values) stored)

  module _ (held : get n.values s ≡ Some w) (m : Pooled Node) (j : Index) (changes : ChangesOnly with_chain n m)
      (linked : (found : FinMap outpoint_cmp ℕ) (x : Node) → IsIndex key_of chain_of n.values i.index found → get n.values s ≡ Some x → get found x.key ≡ None → IsIndex key_of chain_of m.values j (insert found x.key s))
      (buckets : bucket_count j ≡ bucket_count i.index) (salt : salt_of j ≡ salt_of i.index) (fits : IfSome coin CoinFits) (room : 0 < c.spare) where
    e : Entry
    e = entry_without_flag k coin fresh

    slots_now : slots_of m.values ≡ insert (slots_of i.pool.values) s e
    unfolding e
    slots_now = slots_beside with_chain (λ x l. refl) n m changes ∙ ap (λ (p : Pooled Node). slots_of p.values) stored ∙ slots_put i.pool.values s w
        ∙ (λ t. insert (slots_of i.pool.values) s (record { key = made.0 t; coin = made.1 t; dirty = made.2 t; fresh = made.3 t }))

    len_now : len (slots_of m.values) ≡ len (slots_of i.pool.values) + 1
    len_now = ap len slots_now ∙ len_put (slots_of i.pool.values) s e (slot_none i.pool.values s new)

    list_now : IsList links_of m.values i.flags h.flagged
    list_now = list_beside links_of with_chain (λ x l. refl) n m changes i.flags h.flagged
        (subst (λ (p : Pooled Node). IsList links_of p.values i.flags h.flagged) (sym stored) (list_put links_of i.pool.values i.flags h.flagged h.list s w new))

    free' : (t : ℕ) (x : Entry) → get (slots_of i.pool.values) t ≡ Some x → x.key ≢ k
    free' t x at = free t x (ap (λ m. get m t) (slots_are i h c is) ∙ at)

    pub put_inside : (count : ℕ) → count ≡ i.count + 1 → IsInside (record i { pool = m; index = j; count = count })
    unfolding e
    put_inside count more = record {
      found = insert h.found w.key s;
      flagged = h.flagged;
      index = linked h.found w ready.0 held no_key;
      list = list_now;
      each = subst (λ q. FindsEach q (insert h.found w.key s)) (sym slots_now) (subst (λ q. FindsEach (insert (slots_of i.pool.values) s (entry_without_flag k coin fresh)) (insert h.found q s)) (sym made.0)
          (each_put (slots_of i.pool.values) h.flagged h.sound s k coin fresh (slot_none i.pool.values s new) free' fits h.found h.each));
      sound = subst (λ q. AreSound q h.flagged) (sym slots_now) (sound_put (slots_of i.pool.values) h.flagged h.sound s k coin fresh (slot_none i.pool.values s new) free' fits);
      count = omega (arith, more, h.count, len_now);
      changes = h.changes;
      few = omega (arith, len_now, room, spare_is i h c is);
      buckets = λ some. let b = h.buckets (omega (arith, room, spare_is i h c is)) in omega (arith, b, buckets);
    }

    pub put_view : (count : ℕ) → contents_of (record i { pool = m; index = j; count = count }) ≡ contents (insert c.slots s (entry_without_flag k coin fresh)) c.changes (c.spare - 1) c.salt
    unfolding e
    put_view count = view_as m i.flags _ _ _ _ _ (slots_now ∙ ap (λ q. insert q s (entry_without_flag k coin fresh)) (sym (slots_are i h c is))) (subst (λ l. IsList links_of m.values i.flags l) (sym (changes_are i h c is)) list_now)
        (let a = ap (λ (p : Pooled Node). p.spare) stored in let b = changes.spare in omega (arith, a, b, len_now, spare_is i h c is, room)) (salt ∙ sym (salt_is i h c is))
