-- What a cache means: its entries, laid over the coins of a parent.
use Rattle.std.specs.Prelude.{◌≡◌, ◌⊎◌, ◌||◌, ◌&&◌, not, is_some, if◌then◌else◌, ℕ, max, Bool, true, false, List, [], ◌∷◌, Option, Some, None, IfSome, Contains, option_map}
use Rattle.std.specs.Ordering.{nat_cmp}
use Rattle.std.specs.FinMap.{FinMap, get, contains_key, insert, remove, keys, from_entries, len}
use Rattle.slot_pool.specs.Slots.{IsIn, IsDistinct}
use Rattle.base_types.specs.Coins.{Coins, CoinFits}
use Rattle.base_types.specs.Keys.{outpoint_cmp}
use Rattle.base_types.specs.Views.{ViewCounts}
use Rattle.base_types.specs.declared.coin.Coin.{Coin}
use Rattle.base_types.specs.declared.hash.OutPoint.{OutPoint}
use Rattle.coin_cache.specs.Contents.{Entry, Contents}

abbrev pub Entries : Type 0
Entries = FinMap outpoint_cmp Entry

-- the entry of this slot goes before others
abbrev pub before_others : Option Entry → List (OutPoint × Entry) → List (OutPoint × Entry)
before_others None others = others
before_others (Some entry) others = (entry.key, entry) ∷ others

-- the entries of these slots, each under its outpoint
abbrev pub by_outpoint : FinMap nat_cmp Entry → List ℕ → List (OutPoint × Entry)
by_outpoint slots [] = []
by_outpoint slots (slot ∷ others) = before_others (get slots slot) (by_outpoint slots others)

-- the entries of a cache, by their outpoints
abbrev pub entries_of : Contents → Entries
entries_of cache = from_entries (by_outpoint cache.slots (keys cache.slots))

-- the coins, where this entry decides of its outpoint
abbrev pub laid_one : Option Entry → OutPoint → Coins → Coins
laid_one None key coins = coins
laid_one (Some entry) key coins = at entry.coin where
  at : Option Coin → Coins
  at None = remove coins key
  at (Some coin) = insert coins key coin

abbrev pub laid_at : Entries → Coins → List OutPoint → Coins
laid_at over coins [] = coins
laid_at over coins (key ∷ others) = laid_one (get over key) key (laid_at over coins others)

-- the coins with entries laid over them
abbrev pub laid : Entries → Coins → Coins
laid over coins = laid_at over coins (keys over)

-- the coins that a cache means over those of its parent, where that tells them
abbrev pub means : Contents → Option Coins → Option Coins
means cache told = option_map (laid (entries_of cache)) told

-- what the entry of an outpoint says of the parent's coins: without a flag it has the parent's, and where it is fresh the
-- parent has none
pub record IsTrueOf (coins : Coins) (key : OutPoint) (entry : Entry) : Type 0 where
  pub clean : entry.dirty ≡ false → entry.coin ≡ get coins key
  pub fresh : entry.fresh ≡ true → get coins key ≡ None

abbrev pub AreTrueOf : Coins → Entries → Type 0
AreTrueOf coins over = (key : OutPoint) (entry : Entry) → get over key ≡ Some entry → IsTrueOf coins key entry

-- each entry is true of the parent's coins, where it tells them
abbrev pub StandsOver : Contents → Option Coins → Type 0
StandsOver cache told = (coins : Coins) → told ≡ Some coins → AreTrueOf coins (entries_of cache)

-- only these outpoints can have got an entry
abbrev pub AddsOnly : List OutPoint → Contents → Contents → Type 0
AddsOnly keys old new = (key : OutPoint) → contains_key (entries_of new) key ≡ true → (contains_key (entries_of old) key ≡ true) ⊎ Contains keys key

-- no outpoint can have got an entry
abbrev pub AddsNone : Contents → Contents → Type 0
AddsNone old new = (key : OutPoint) → contains_key (entries_of new) key ≡ true → contains_key (entries_of old) key ≡ true

-- a dirty entry
abbrev pub changed : OutPoint → Option Coin → Bool → Entry
changed key coin fresh = record { key = key; coin = coin; dirty = true; fresh = fresh }

-- an entry is spent: it was before; or it is taken out, where it was fresh; or it has no coin any more
abbrev pub IsSpent : Entry → Entries → Entries → Type 0
IsSpent x old new = ((x.coin ≡ None) × (new ≡ old)) ⊎ (((x.fresh ≡ true) × (new ≡ remove old x.key)) ⊎ ((x.fresh ≡ false) × (new ≡ insert old x.key (changed x.key None false))))

-- whether an added coin is fresh: where it may not overwrite, and there was no dirty entry; or where the entry was fresh
abbrev pub is_fresh : Bool → Option Entry → Bool
is_fresh may_overwrite None = not may_overwrite
is_fresh may_overwrite (Some entry) = entry.fresh || (not may_overwrite && not entry.dirty)

-- a child's dirty entry comes over an outpoint of the cache below: it is new there, and takes the child's fresh; or it is
-- spent over a fresh one, which is taken out; or it takes the place of one, which stays fresh if it was
abbrev pub IsMerged : OutPoint → Option Coin → Bool → Entries → Entries → Type 0
IsMerged key coin fresh old new =
    ((get old key ≡ None) × (new ≡ insert old key (changed key coin fresh)))
    ⊎ ((x : Entry) × (get old key ≡ Some x) × (((coin ≡ None) × (x.fresh ≡ true) × (new ≡ remove old key)) ⊎ ((coin ≡ None → x.fresh ≡ false) × (new ≡ insert old key (changed key coin x.fresh)))))

-- the entry of an outpoint over which a child's dirty one comes
abbrev pub merged_over : Option Entry → Entry → Option Entry
merged_over None child = Some (changed child.key child.coin child.fresh)
merged_over (Some entry) child = if not (is_some child.coin) && entry.fresh then None else Some (changed child.key child.coin entry.fresh)

-- and over which a child's entry comes, if the child has one
abbrev pub merged : Option Entry → Option Entry → Option Entry
merged entry None = entry
merged entry (Some child) = if child.dirty then merged_over entry child else entry

-- the flags of an entry are taken away; where it has no coin, it is taken out
abbrev pub IsSettled : Entry → Entries → Entries → Type 0
IsSettled x old new = ((x.coin ≡ None) × (new ≡ remove old x.key)) ⊎ (new ≡ insert old x.key (record x { dirty = false; fresh = false }))

-- the entries and flags stay, whatever room was made
pub record KeepsEntries (old new : Contents) : Type 0 where
  pub slots : new.slots ≡ old.slots
  pub changes : new.changes ≡ old.changes
  pub salt : new.salt ≡ old.salt

-- the counts of a cache over a view
abbrev pub counts_over : Contents → ViewCounts → ViewCounts
counts_over cache counts = record counts { entries = max (len cache.slots) counts.entries }

-- what holds of every cache: an outpoint has one slot, the flagged slots are those of the dirty entries, each once, and
-- each coin has a text
pub record AreSound (slots : FinMap nat_cmp Entry) (changes : List ℕ) : Type 0 where
  pub once : (s t : ℕ) (x y : Entry) → get slots s ≡ Some x → get slots t ≡ Some y → x.key ≡ y.key → s ≡ t
  pub flagged : (s : ℕ) (x : Entry) → get slots s ≡ Some x → x.dirty ≡ true → IsIn s changes
  pub dirty : (s : ℕ) → IsIn s changes → (x : Entry) × (get slots s ≡ Some x) × (x.dirty ≡ true)
  pub distinct : IsDistinct changes
  pub fits : (s : ℕ) (x : Entry) → get slots s ≡ Some x → IfSome x.coin CoinFits

abbrev pub IsSound : Contents → Type 0
IsSound cache = AreSound cache.slots cache.changes
