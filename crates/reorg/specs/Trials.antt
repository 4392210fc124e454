-- A block that is tried on the coins at the tip.
use Rattle.std.specs.Prelude.{⊤, ◌≡◌, ℕ, List, [], ◌∷◌, Option, Some, None, Result, Ok, Err}
use Rattle.disk_model.specs.Disk.{Image, Rose}
use Rattle.base_types.specs.Coins.{Coins}
use Rattle.base_types.specs.declared.fault.StoreFault.{StoreFault}
use Rattle.base_types.specs.declared.fault.StoreFault.TheVariants.{NoMemory, DiskFailed, Damaged, Full, CacheFull}
use Rattle.base_types.specs.declared.flushes.Chain.TheVariants.{Full as FromGenesis}
use Rattle.base_types.specs.declared.hash.Hash32.{Hash32}
use Rattle.base_types.specs.declared.refused.CoinRefused.{CoinRefused}
use Rattle.chain_model.specs.declared.fault.ConnectFault.{ConnectFault}
use Rattle.chain_model.specs.declared.fault.ConnectFault.TheVariants.{Refused, Store}
use Rattle.chain_state.specs.Standing.{Carry, IsStanding}
use Rattle.chain_state.specs.declared.state.ChainState.{ChainState}
use Rattle.chain_state.specs.declared.state.Shared.{Shared}
use Rattle.coin_cache.specs.Entries.{StandsOver}
use Rattle.coin_views.specs.Layers.{block_of, tip_means, tip_of}
use Rattle.coin_views.specs.declared.layers.Layers.{Layers}
use Rattle.command_text.specs.declared.reply.Reply.{Reply}
use Rattle.command_text.specs.declared.reply.Reply.TheVariants.{BlockOf}
use Rattle.machine.specs.Moves.{trial_of}
use Rattle.machine.specs.State.{State}
use Rattle.store_state.specs.State.{StoreState, coin_file}

-- a block was connected in the block view, or given up: the tip cache means what it meant, and goes on standing over the rows,
-- as the block view over the tip cache
pub record KeepsTip (old new : Layers) (told : Option Coins) : Type 0 where
  pub means : tip_means new told ≡ tip_means old told
  pub stands : StandsOver (tip_of old) told → StandsOver (tip_of new) told
  pub over_tip : StandsOver (block_of new) (tip_means new told)

-- why a block isn't connected over the rows of a file
abbrev pub ConnectFails : {A : Type 0} → ℕ → ℕ → Result A ConnectFault → Type 0
ConnectFails before now (Ok undo) = ⊤
ConnectFails before now (Err (Refused rule)) = ⊤
ConnectFails before now (Err (Store NoMemory)) = ⊤
ConnectFails before now (Err (Store DiskFailed)) = Rose before now
ConnectFails before now (Err (Store (Damaged file at))) = ⊤
ConnectFails before now (Err (Store (Full file))) = ⊥
ConnectFails before now (Err (Store CacheFull)) = ⊤

-- no record was found broken
abbrev pub NoneBroken : {A : Type 0} → Result A ConnectFault → Type 0
NoneBroken (Ok undo) = ⊤
NoneBroken (Err (Refused rule)) = ⊤
NoneBroken (Err (Store NoMemory)) = ⊤
NoneBroken (Err (Store DiskFailed)) = ⊤
NoneBroken (Err (Store (Damaged file at))) = ⊥
NoneBroken (Err (Store (Full file))) = ⊥
NoneBroken (Err (Store CacheFull)) = ⊤

-- a fault under a block, as it is told: a broken record is one of the file of coins, and a full cache is want of memory
abbrev pub told_fault : StoreFault → StoreFault
told_fault NoMemory = NoMemory
told_fault DiskFailed = DiskFailed
told_fault (Damaged file at) = Damaged coin_file at
told_fault (Full file) = NoMemory
told_fault CacheFull = NoMemory

-- the tip cache means the coins after the block, or those before it and the block breaks this rule
abbrev pub IsTried : Layers → Coins → Coins → Result Coins CoinRefused → Option CoinRefused → Type 0
IsTried layers rows before outcome None = (after : Coins) × (outcome ≡ Ok after) × Carry layers rows after
IsTried layers rows before outcome (Some rule) = (outcome ≡ Err rule) × Carry layers rows before

-- the line that tells of a block which was tried
abbrev pub told_of : Hash32 → Option CoinRefused → List Reply
told_of hash None = []
told_of hash (Some why) = BlockOf FromGenesis hash why ∷ []

-- a child of the tip was tried, as the machine tries it
pub record HasTried (limit : ℕ) (contents : Option Image) (images : Image → Type 0) (shared : Shared) (chain : ChainState) (state : State) (store : StoreState) (hash : Hash32) (refused : Option CoinRefused) : Type 0 where
  pub replies : (trial_of state hash).replies ≡ told_of hash refused
  pub stands : IsStanding limit contents images shared chain (trial_of state hash).state store
