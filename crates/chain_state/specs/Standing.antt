-- Where an open store stands.
use Rattle.std.specs.Prelude.{◌≡◌, ℕ, Option, Some}
use Rattle.std.specs.FinMap.{empty}
use Rattle.disk_model.specs.Disk.{Image}
use Rattle.base_types.specs.Coins.{Coins}
use Rattle.chain_model.specs.Choice.{coins_at}
use Rattle.chain_model.specs.HeaderRules.{IsTree}
use Rattle.chain_state.specs.Waiting.{AreWaiting}
use Rattle.chain_state.specs.declared.state.ChainState.{ChainState}
use Rattle.chain_state.specs.declared.state.Shared.{Shared}
use Rattle.coin_views.specs.Layers.{LayersStand, block_of, tip_means}
use Rattle.coin_store.specs.declared.marker.Marker.TheVariants.{At}
use Rattle.coin_views.specs.declared.layers.Layers.{Layers}
use Rattle.machine.specs.State.{State, active_coins, choice_of}
use Rattle.store_state.specs.Roles.{Alone}
use Rattle.store_state.specs.Settled.{IsSettled}
use Rattle.store_state.specs.State.{StoreState, blocks_in, tip_of}
use Rattle.store_writes.specs.OnDisk.{OnDisk}

-- the tip cache, laid over the coins of the rows, means these coins, and nothing stands over it
pub record Carry (layers : Layers) (rows coins : Coins) : Type 0 where
  pub stand : LayersStand layers (Some rows)
  pub tip : tip_means layers (Some rows) ≡ Some coins
  pub top : (block_of layers).slots ≡ empty

-- the coins at the tip are those of replaying the blocks to it, and the blocks that aren't connected wait
pub record HasCoins (chain : ChainState) (state : State) (store : StoreState) : Type 0 where
  pub valid : coins_at (choice_of state state.active) state.active.tip ≡ Some (active_coins state)
  pub carry : Carry chain.layers store.active.coins (active_coins state)
  pub waiting : AreWaiting chain.waiting state

-- The files are those of a store, as each image stands for it, and the machine stands on it: with its tree and bodies, at the
-- chainstate's tip, with the coins of replaying the blocks to it. A file of coins without a batch stands at the start.
pub record IsStanding (limit : ℕ) (contents : Option Image) (images : Image → Type 0) (shared : Shared) (chain : ChainState) (state : State) (store : StoreState) : Type 0 where
  pub files : OnDisk limit contents images shared.blocks chain.store store
  pub headers : shared.tree.tree ≡ store.tree
  pub most : shared.tree.limit ≡ limit
  pub grown : IsTree limit store.tree
  pub tree : state.tree ≡ store.tree
  pub bodies : state.bodies ≡ blocks_in empty store.bodies
  pub start : state.active.start ≡ store.active.start
  pub start_coins : state.active.start_coins ≡ store.active.start_coins
  pub begun : chain.store.start ≡ At store.active.start
  pub kept : state.active.kept ≡ tip_of store.active
  pub tip : chain.tip ≡ state.active.tip
  pub role : state.role ≡ Alone
  pub coins : IsSettled store → HasCoins chain state store
