-- The texts of a snapshot file (`SnapshotMetadata` in Bitcoin Core's `node/utxo_snapshot.h`, and `WriteUTXOSnapshot` in its `rpc/blockchain.cpp`).
use Rattle.std.specs.Prelude.{◌≡◌, ℕ, ◌^◌, ◌<◌, ◌≤◌, List, [], ◌∷◌, ◌++◌, length, map}
use Rattle.std.specs.Int.{w64}
use Rattle.std.specs.List.{flat_map, AllByRecursion}
use Rattle.base_types.specs.Bytes.{compact, number_text}
use Rattle.base_types.specs.Parameters.{message_start, max_size}
use Rattle.base_types.specs.declared.hash.Hash32.{Hash32}
use Rattle.base_types.specs.declared.hash.OutPoint.{OutPoint}
use Rattle.base_types.specs.declared.coin.Coin.{Coin}
use Rattle.coin_codec.specs.CoinText.{coin_text}
use Rattle.base_types.specs.Coins.{CoinFits}

-- the first five bytes
abbrev pub magic : List ℕ
magic = 0x75 ∷ 0x74 ∷ 0x78 ∷ 0x6f ∷ 0xff ∷ []

-- the version, 2
abbrev pub version : List ℕ
version = 2 ∷ 0 ∷ []

-- the metadata: these, the bytes of the network, the hash of the base block and the number of coins
unfoldable pub head_text : Hash32 → ℕ → List ℕ
head_text base count = magic ++ version ++ message_start ++ base.bytes ++ number_text w64 count

-- before the coins of one transaction: its hash, and how many follow
unfoldable pub group_head_text : Hash32 → ℕ → List ℕ
group_head_text txid count = txid.bytes ++ compact count

-- one of them: the number of the output, and the coin
unfoldable pub member_text : ℕ × Coin → List ℕ
member_text member = compact member.0 ++ coin_text member.1

-- coins of one transaction, each with the number of its output
pub record Group : Type 0 where
  pub txid : Hash32
  pub members : List (ℕ × Coin)

unfoldable pub group_text : Group → List ℕ
group_text group = group_head_text group.txid (length group.members) ++ flat_map member_text group.members

abbrev pub entry_of : Hash32 → ℕ × Coin → OutPoint × Coin
entry_of txid member = (record { txid = txid; index = member.0 }, member.1)

-- the coins of groups, in their order
unfoldable pub coins_of : List Group → List (OutPoint × Coin)
coins_of groups = flat_map (λ group. map (entry_of group.txid) group.members) groups

-- what a reader takes: it refuses a greater number of an output
pub record MemberFits (member : ℕ × Coin) : Type 0 where
  pub index : member.0 ≤ max_size
  pub coin : CoinFits member.1

-- a group has a coin
pub record GroupFits (group : Group) : Type 0 where
  pub txid : length group.txid.bytes ≡ 32
  pub some : 0 < length group.members
  pub members : AllByRecursion MemberFits group.members

-- The bytes are a snapshot of these coins, in the order in which they stand, at this base. The groups may come in any
-- order, and a transaction may have several; nothing is said here of outpoints that stand twice.
pub record IsSnapshot (bytes : List ℕ) (base : Hash32) (coins : List (OutPoint × Coin)) : Type 0 where
  pub groups : List Group
  pub fits : AllByRecursion GroupFits groups
  pub base_fits : length base.bytes ≡ 32
  pub count_fits : length coins < 2 ^ 64
  pub text : bytes ≡ head_text base (length coins) ++ flat_map group_text groups
  pub are : coins ≡ coins_of groups
