-- The one snapshot of coins that a dump writes: a group for each transaction, and all coins in the order of their keys.
use Rattle.std.specs.Prelude.{◌≡◌, ℕ, ◌^◌, ◌<◌, ◌≤◌, T, List, [], ◌∷◌, ◌++◌, length, map, if◌then◌else◌, bytes_eq}
use Rattle.std.specs.List.{flat_map, AllByRecursion}
use Rattle.std.specs.List.Sorted.{IsStrictlySortedBy}
use Rattle.std.specs.Ordering.{nat_cmp}
use Rattle.std.specs.Cmp.Lexicographic.{slice_cmp}
use Rattle.std.specs.FinMap.{FinMap, entries, from_entries, find, is_sorted}
use Rattle.base_types.specs.Coins.{Coins}
use Rattle.base_types.specs.Keys.{hash_cmp}
use Rattle.base_types.specs.Parameters.{max_size}
use Rattle.base_types.specs.declared.hash.Hash32.{Hash32}
use Rattle.base_types.specs.declared.hash.OutPoint.{OutPoint}
use Rattle.base_types.specs.declared.coin.Coin.{Coin}
use Rattle.base_types.specs.Coins.{CoinFits}
use Rattle.coin_codec.specs.KeyText.{key_text}
use Rattle.snapshot_file.specs.Text.{Group, head_text, group_head_text, group_text, member_text, coins_of, IsSnapshot}

-- each coin with the text of its outpoint, by whose bytes the stores order coins
abbrev pub with_keys : List (OutPoint × Coin) → List (List ℕ × (OutPoint × Coin))
with_keys coins = map (λ e. (key_text e.0, e)) coins

-- coins in the order of their keys' bytes
abbrev pub by_key : Coins → FinMap (slice_cmp nat_cmp) (OutPoint × Coin)
by_key coins = from_entries (with_keys (entries coins))

unfoldable pub dump_coins : Coins → List (OutPoint × Coin)
dump_coins coins = map (λ e. e.1) (entries (by_key coins))

abbrev pub group_of_one : OutPoint × Coin → Group
group_of_one e = record { txid = e.0.txid; members = (e.0.index, e.1) ∷ [] }

-- a coin before these, in the first group if that is of its transaction
abbrev pub put_first : OutPoint × Coin → List Group → List Group
put_first e [] = group_of_one e ∷ []
put_first e (group ∷ groups) =
    if bytes_eq e.0.txid.bytes group.txid.bytes then record { txid = group.txid; members = (e.0.index, e.1) ∷ group.members } ∷ groups else group_of_one e ∷ group ∷ groups

-- coins as groups: those of one transaction that follow each other are one
unfoldable pub groups_of : List (OutPoint × Coin) → List Group
groups_of [] = []
groups_of (e ∷ es) = put_first e (groups_of es)

abbrev pub dump_groups : Coins → List Group
dump_groups coins = groups_of (dump_coins coins)

-- the bytes of the file
unfoldable pub dump_text : Hash32 → Coins → List ℕ
dump_text base coins = head_text base (length (dump_coins coins)) ++ flat_map group_text (dump_groups coins)

-- a coin that a reader takes
pub record EntryFits (e : OutPoint × Coin) : Type 0 where
  pub txid : length e.0.txid.bytes ≡ 32
  pub index : e.0.index ≤ max_size
  pub coin : CoinFits e.1

-- the keys strictly rise
abbrev pub InKeyOrder : List (OutPoint × Coin) → Type 0
InKeyOrder coins = T (is_sorted (slice_cmp nat_cmp) (with_keys coins))

-- at each key both have the same coin, or none
abbrev pub SameCoins : List (OutPoint × Coin) → List (OutPoint × Coin) → Type 0
SameCoins a b = (key : List ℕ) → find (slice_cmp nat_cmp) key (with_keys a) ≡ find (slice_cmp nat_cmp) key (with_keys b)

-- the hash of the transaction has 32 bytes, as every `Hash32` of the program has
abbrev pub HasWholeTxid : OutPoint × Coin → Type 0
HasWholeTxid e = length e.0.txid.bytes ≡ 32

abbrev pub HasMembers : Group → Type 0
HasMembers group = 0 < length group.members

-- by the bytes of their transactions' hashes the groups strictly rise, so each transaction has one
abbrev pub TxidsRise : List Group → Type 0
TxidsRise groups = IsStrictlySortedBy hash_cmp (map (λ group. group.txid) groups)

-- What a dump is: the texts that writing the metadata, and then each group's head and its coins, appends; the coins are
-- those that are given, in the order of their keys, and no other list in that order has them; the groups hold these
-- coins in this order, each some of them, with one group for each transaction, and no other groups do; and where a
-- reader takes each of the coins, it is a snapshot of them.
pub record IsDump (base : Hash32) (coins : Coins) : Type 0 where
  pub written : dump_text base coins ≡ head_text base (length (dump_coins coins)) ++ flat_map (λ group. group_head_text group.txid (length group.members) ++ flat_map member_text group.members) (dump_groups coins)
  pub ordered : InKeyOrder (dump_coins coins)
  pub same : SameCoins (dump_coins coins) (entries coins)
  pub only : (others : List (OutPoint × Coin)) → InKeyOrder others → SameCoins others (entries coins) → others ≡ dump_coins coins
  pub grouped : coins_of (dump_groups coins) ≡ dump_coins coins
  pub members : AllByRecursion HasMembers (dump_groups coins)
  pub rising : AllByRecursion HasWholeTxid (entries coins) → TxidsRise (dump_groups coins)
  pub only_groups : (others : List Group) → AllByRecursion HasMembers others → TxidsRise others → coins_of others ≡ dump_coins coins → others ≡ dump_groups coins
  pub snapshot : length base.bytes ≡ 32 → length (dump_coins coins) < 2 ^ 64 → AllByRecursion EntryFits (entries coins) → IsSnapshot (dump_text base coins) base (dump_coins coins)
