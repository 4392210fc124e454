-- A chainstate that is flushed.
use Rattle.std.specs.Prelude.{⊤, ◌≡◌, ◌≢◌, ◌⊎◌, ℕ, ◌+◌, true, List, [], ◌∷◌, ◌++◌, length, All, AllPairs, IfSome, Option}
use Rattle.std.specs.FinMap.{get, contains_key}
use Rattle.disk_model.specs.Disk.{Image, Rose}
use Rattle.base_types.specs.Flushes.{begun_flush, done_at}
use Rattle.base_types.specs.declared.fault.StoreFault.{StoreFault}
use Rattle.base_types.specs.declared.fault.StoreFault.TheVariants.{NoMemory, DiskFailed, Damaged, Full as FullFile, CacheFull}
use Rattle.base_types.specs.declared.flushes.Chain.TheVariants.{Full}
use Rattle.base_types.specs.declared.flushes.Flushed.{Flushed}
use Rattle.base_types.specs.declared.flushes.Why.{Why}
use Rattle.base_types.specs.declared.hash.Hash32.{Hash32}
use Rattle.batch_log.specs.OpenLog.{IsOver}
use Rattle.chain_state.specs.Standing.{IsStanding}
use Rattle.chain_state.specs.declared.state.ChainState.{ChainState}
use Rattle.chain_state.specs.declared.state.Shared.{Shared}
use Rattle.coin_cache.specs.Contents.{Contents}
use Rattle.coin_cache.specs.Entries.{entries_of}
use Rattle.coin_store.specs.Batches.{Row, batch_text}
use Rattle.coin_store.specs.declared.marker.Marker.TheVariants.{At}
use Rattle.coin_store.specs.declared.store.CoinStore.{CoinStore}
use Rattle.coin_views.specs.Layers.{tip_of}
use Rattle.machine.specs.Moves.{flush}
use Rattle.machine.specs.State.{State, Event, Flush, active_coins}
use Rattle.store_state.specs.Settled.{IsSettled}
use Rattle.store_state.specs.State.{StoreState}
use Rattle.store_writes.specs.Written.{Writes, WritesPart}

-- the store with the coins at the active tip as its rows
abbrev pub kept_at : State → StoreState → StoreState
kept_at state store = record store { active = record store.active { marker = At state.active.tip; coins = active_coins state } }

-- the machine's event of a flush of the active chainstate
abbrev pub flush_of : State → Why → Event
flush_of state why = Flush Full state.active.tip why state.active.touched

-- the flush that began at one reading of the clock and was done at another
abbrev pub member_of : State → Why → ℕ → ℕ → Flushed
member_of state why begun done = done_at done (begun_flush Full state.active.tip why begun)

-- the flush was made: one member was added to those of the run, the event is in each image, and all stands so
pub record HasFlushed (limit : ℕ) (past left : ℕ → Image → Type 0) (entered ended : ℕ) (before now : Option Image) (shared : Shared) (chain : ChainState) (state : State) (store : StoreState) (why : Why) (flushes_before flushes_after : List Flushed) : Type 0 where
  pub added : flushes_after ≡ flushes_before ++ member_of state why entered ended ∷ []
  pub writes : Writes limit past left entered ended before now (member_of state why entered ended ∷ []) (flush_of state why) store (kept_at state store)
  pub settled : IsSettled (kept_at state store)
  pub stands : IsStanding limit now (left ended) shared chain (flush why state).state (kept_at state store)

-- the flush was cut: it may have begun, and the event may be in an image or not
pub record HasFailedToFlush (limit : ℕ) (past left : ℕ → Image → Type 0) (entered ended : ℕ) (before now : Option Image) (state : State) (store : StoreState) (why : Why) (flushes_before flushes_after : List Flushed) : Type 0 where
  pub members : List Flushed
  pub added : flushes_after ≡ flushes_before ++ members
  pub at_most_one : (members ≡ []) ⊎ (members ≡ begun_flush Full state.active.tip why entered ∷ [])
  pub writes : WritesPart limit past left entered ended before now members (flush_of state why) store

-- a row for each entry that changed since the last flush, with the entry's coin
pub record AreChanges (cache : Contents) (rows : List Row) : Type 0 where
  pub all : All (λ row. IfSome (get (entries_of cache) row.key) (λ entry. (entry.dirty ≡ true) × (entry.coin ≡ row.coin))) rows
  pub named : All (λ row. contains_key (entries_of cache) row.key ≡ true) rows
  pub count : length rows ≡ length cache.changes
  pub distinct : AllPairs (λ a b. a.key ≢ b.key) rows

-- why the changes of a cache may not be written `At` a tip: `Full` where their payload would let the file of coins grow beyond
-- its limit
abbrev pub PayloadFails : CoinStore → Contents → Hash32 → ℕ → ℕ → StoreFault → Type 0
PayloadFails coins cache tip before now NoMemory = ⊤
PayloadFails coins cache tip before now DiskFailed = Rose before now
PayloadFails coins cache tip before now (FullFile file) =
    (file ≡ coins.log.file) × ((rows : List Row) × AreChanges cache rows × IsOver coins.log (5 + length (batch_text coins.mask (record { marker = At tip; rows = rows }))))
PayloadFails coins cache tip before now (Damaged file at) = ⊥
PayloadFails coins cache tip before now CacheFull = ⊥

-- why a chainstate may not be flushed
abbrev pub FlushFails : ChainState → ℕ → ℕ → StoreFault → Type 0
FlushFails chain before now fault = PayloadFails chain.store (tip_of chain.layers) chain.tip before now fault
