-- What holds of the fields of a cache.
use Rattle.std.specs.Prelude.{◌≡◌, ℕ, zero, suc, ◌-◌, ◌<◌, ◌≤◌, min, List, [], ◌∷◌, map, length, Option, Some, None}
use Rattle.std.specs.Ordering.{nat_cmp}
use Rattle.std.specs.FinMap.{FinMap, get, entries, from_sorted, len}
use Rattle.flag_list.specs.List.{IsList, start_of}
use Rattle.flag_list.specs.declared.linked.Links.{Links}
use Rattle.coin_index.specs.Index.{IsIndex, bucket_count, salt_of}
use Rattle.base_types.specs.Keys.{outpoint_cmp}
use Rattle.base_types.specs.Views.{max_entries}
use Rattle.base_types.specs.declared.hash.OutPoint.{OutPoint}
use Rattle.coin_cache.specs.declared.node.Node.{Node}
use Rattle.coin_cache.specs.declared.cache.Cache.TheInside.{Inside}
use Rattle.coin_cache.specs.Contents.{Entry, Contents, contents}
use Rattle.coin_cache.specs.Entries.{AreSound}

-- a node without its links
abbrev pub entry_of : Node → Entry
entry_of n = record { key = n.key; coin = n.coin; dirty = n.dirty; fresh = n.fresh }

abbrev pub key_of : Node → OutPoint
key_of n = n.key

abbrev pub chain_of : Node → Option ℕ
chain_of n = n.chain

abbrev pub links_of : Node → Links
links_of n = n.links

abbrev pub slots_of : FinMap nat_cmp Node → FinMap nat_cmp Entry
slots_of nodes = from_sorted (map (λ p. (p.0, entry_of p.1)) (entries nodes))

abbrev pub after_of : Option Node → Option ℕ
after_of None = None
after_of (Some node) = node.links.after

-- the slots that the links of nodes lead through, at most so many
abbrev pub walked : FinMap nat_cmp Node → ℕ → Option ℕ → List ℕ
walked nodes n None = []
walked nodes zero (Some slot) = []
walked nodes (suc n) (Some slot) = slot ∷ walked nodes n (after_of (get nodes slot))

-- each entry is found by its outpoint
abbrev pub FindsEach : FinMap nat_cmp Entry → FinMap outpoint_cmp ℕ → Type 0
FindsEach slots found = (s : ℕ) (x : Entry) → get slots s ≡ Some x → get found x.key ≡ Some s

-- what a contract sees of the fields
abbrev pub contents_of : Inside → Contents
contents_of i = contents (slots_of i.pool.values) (walked i.pool.values (len (slots_of i.pool.values)) (start_of i.flags)) (min i.pool.spare (max_entries - len (slots_of i.pool.values))) (salt_of i.index)

-- the index finds each entry by its outpoint, and the list has the dirty ones
pub record IsInside (i : Inside) : Type 0 where
  pub found : FinMap outpoint_cmp ℕ
  pub flagged : List ℕ
  pub index : IsIndex key_of chain_of i.pool.values i.index found
  pub list : IsList links_of i.pool.values i.flags flagged
  pub each : FindsEach (slots_of i.pool.values) found
  pub sound : AreSound (slots_of i.pool.values) flagged
  pub count : i.count ≡ len (slots_of i.pool.values)
  pub changes : i.changes ≡ length flagged
  pub few : len (slots_of i.pool.values) ≤ max_entries
  -- where there is room, there are buckets
  pub buckets : 0 < i.pool.spare → 0 < bucket_count i.index
