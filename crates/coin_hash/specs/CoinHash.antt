-- The hash of coins.
use Rattle.std.specs.Prelude.{ℕ, List, ◌++◌, length}
use Rattle.std.specs.Int.{w32, w64}
use Rattle.std.specs.List.{flat_map}
use Rattle.std.specs.FinMap.{entries}
use Rattle.sha2.specs.Hashers.{Holds256}
use Rattle.base_types.specs.Bytes.{compact, number_text, hash_twice}
use Rattle.base_types.specs.Coins.{Coins, height_code}
use Rattle.base_types.specs.declared.hash.Hash32.{Hash32}
use Rattle.base_types.specs.declared.hash.OutPoint.{OutPoint}
use Rattle.base_types.specs.declared.coin.Coin.{Coin}
use Rattle.coin_hash.specs.declared.hasher.Hasher.{Hasher}

-- what is hashed of a coin: the transaction's hash, the number of the output, the height, the value, and the script with its length
unfoldable pub coin_part : OutPoint × Coin → List ℕ
coin_part entry =
    entry.0.txid.bytes ++ number_text w32 entry.0.index ++
    number_text w32 (height_code entry.1) ++ number_text w64 entry.1.value ++
    compact (length entry.1.script) ++ entry.1.script

-- what is hashed of coins, in their order
abbrev pub hash_text : List (OutPoint × Coin) → List ℕ
hash_text coins = flat_map coin_part coins

-- the hash of coins in this order
abbrev pub hash_of : List (OutPoint × Coin) → Hash32
hash_of coins = record { bytes = hash_twice (hash_text coins) }

-- the hash of coins, by the bytes of the transaction's hash and then by the number of the output
abbrev pub coin_hash : Coins → Hash32
coin_hash coins = hash_of (entries coins)

-- the hasher was given these coins, in this order
abbrev pub Holds : Hasher → List (OutPoint × Coin) → Type 0
Holds hasher coins = Holds256 hasher.state (hash_text coins)
