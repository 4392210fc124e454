-- The order in which entries were flagged.
use Rattle.std.specs.Prelude.{◌≡◌, ◌≢◌, ◌++◌, ◌∷◌, [], if◌then◌else◌, ℕ, Bool, false, List, Option, Some, None}
use Rattle.std.specs.Ordering.{nat_cmp, eq_by_cmp}
use Rattle.std.specs.FinMap.{FinMap, get}
use Rattle.base_types.specs.Keys.{outpoint_cmp}
use Rattle.base_types.specs.declared.hash.OutPoint.{OutPoint}
use Rattle.coin_cache.specs.Contents.{Entry, Contents}
use Rattle.coin_cache.specs.Entries.{Entries, entries_of, merged}

-- the outpoint of this entry goes before others
abbrev pub key_before : Option Entry → List OutPoint → List OutPoint
key_before None others = others
key_before (Some entry) others = entry.key ∷ others

-- the outpoints of the entries in these slots
abbrev pub keys_in : FinMap nat_cmp Entry → List ℕ → List OutPoint
keys_in slots [] = []
keys_in slots (slot ∷ others) = key_before (get slots slot) (keys_in slots others)

-- the outpoints of the dirty entries, in the order in which they were flagged
abbrev pub flagged : Contents → List OutPoint
flagged cache = keys_in cache.slots cache.changes

abbrev pub is_flagged : Option Entry → Bool
is_flagged None = false
is_flagged (Some entry) = entry.dirty

-- the list without this outpoint
abbrev pub without : List OutPoint → OutPoint → List OutPoint
without [] key = []
without (k ∷ others) key = if eq_by_cmp outpoint_cmp k key then without others key else k ∷ without others key

-- the list once an outpoint has another entry, or none: one that was flagged keeps its place, one that is newly flagged
-- comes last, and one that isn't flagged any more goes out
abbrev pub flags_after : List OutPoint → OutPoint → Option Entry → Option Entry → List OutPoint
flags_after flags key old new = if is_flagged new then (if is_flagged old then flags else flags ++ key ∷ []) else without flags key

-- the entry of this outpoint alone can have changed, and the flagged ones stand in their order
pub record ChangesOne (key : OutPoint) (old new : Contents) : Type 0 where
  pub others : (q : OutPoint) → q ≢ key → get (entries_of new) q ≡ get (entries_of old) q
  pub order : flagged new ≡ flags_after (flagged old) key (get (entries_of old) key) (get (entries_of new) key)
  pub salt : new.salt ≡ old.salt

-- a child's flagged entries come over those of a cache one by one, in the child's order
abbrev pub flags_merged : Entries → Entries → List OutPoint → List OutPoint → List OutPoint
flags_merged over child [] flags = flags
flags_merged over child (key ∷ others) flags = flags_merged over child others (flags_after flags key (get over key) (merged (get over key) (get child key)))
