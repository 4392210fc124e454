-- What one flush of a cache does to a file of coins.
use Rattle.std.specs.Prelude.{◌≡◌, ◌⊎◌, ℕ, List, [], ◌∷◌, ◌++◌, Option, Some}
use Rattle.disk_model.specs.Disk.{Image}
use Rattle.base_types.specs.Coins.{Coins}
use Rattle.base_types.specs.Flushes.{begun_flush, done_at}
use Rattle.base_types.specs.declared.flushes.Chain.TheVariants.{Full}
use Rattle.base_types.specs.declared.flushes.Flushed.{Flushed}
use Rattle.base_types.specs.declared.flushes.Why.{Why}
use Rattle.base_types.specs.declared.hash.Hash32.{Hash32}
use Rattle.base_types.specs.declared.hash.OutPoint.{OutPoint}
use Rattle.block_store.specs.OpenStore.{OpenStore}
use Rattle.chain_model.specs.Choice.{coins_at}
use Rattle.coin_cache.specs.Contents.{Contents}
use Rattle.coin_cache.specs.Entries.{StandsOver, means}
use Rattle.coin_store.specs.declared.marker.Marker.TheVariants.{At}
use Rattle.coin_store.specs.declared.store.CoinStore.{CoinStore}
use Rattle.machine.specs.State.{Flush}
use Rattle.store_state.specs.State.{StoreState, choice_of}
use Rattle.store_writes.specs.OnDisk.{OnDisk}
use Rattle.store_writes.specs.Written.{Writes, WritesPart}

-- the store with these coins as its rows `At` a tip
abbrev pub kept_with : Hash32 → Coins → StoreState → StoreState
kept_with tip coins store = record store { active = record store.active { marker = At tip; coins = coins } }

-- a flush of a tip, and one that is done
abbrev pub begins_at : Hash32 → Why → ℕ → Flushed
begins_at tip why begun = begun_flush Full tip why begun

abbrev pub ends_at : Hash32 → Why → ℕ → ℕ → Flushed
ends_at tip why begun done = done_at done (begins_at tip why begun)

-- a cache over the rows of a store means these coins, which are those of replaying the blocks to a tip
pub record LeadsTo (cache : Contents) (coins : CoinStore) (store : StoreState) (tip : Hash32) (meant : Coins) : Type 0 where
  pub stands : StandsOver cache (Some store.active.coins)
  pub meaning : means cache (Some store.active.coins) ≡ Some meant
  pub replay : coins_at (choice_of store store.active) tip ≡ Some meant
  pub begun : coins.start ≡ At store.active.start

-- the flush was made: the coins are the rows
pub record IsMade (limit : ℕ) (past left : ℕ → Image → Type 0) (entered ended : ℕ) (before now : Option Image) (blocks : OpenStore) (coins : CoinStore) (store : StoreState) (tip : Hash32) (meant : Coins) (why : Why) (touched : List OutPoint) (flushes_before flushes_after : List Flushed) : Type 0 where
  pub added : flushes_after ≡ flushes_before ++ ends_at tip why entered ended ∷ []
  pub writes : Writes limit past left entered ended before now (ends_at tip why entered ended ∷ []) (Flush Full tip why touched) store (kept_with tip meant store)
  pub files : OnDisk limit now (left ended) blocks coins (kept_with tip meant store)

-- the flush was cut
pub record IsCut (limit : ℕ) (past left : ℕ → Image → Type 0) (entered ended : ℕ) (before now : Option Image) (store : StoreState) (tip : Hash32) (why : Why) (touched : List OutPoint) (flushes_before flushes_after : List Flushed) : Type 0 where
  pub members : List Flushed
  pub added : flushes_after ≡ flushes_before ++ members
  pub at_most_one : (members ≡ []) ⊎ (members ≡ begins_at tip why entered ∷ [])
  pub writes : WritesPart limit past left entered ended before now members (Flush Full tip why touched) store
