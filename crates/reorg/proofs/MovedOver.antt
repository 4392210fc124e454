-- What a trial of a stored child of the tip takes for granted, and where the chainstate stands after it.
use Rattle.std.proofs.Common.{◌≡◌, ℕ, ◌&&◌, Bool, true, false, not, List, [], Option, Some, None, refl, sym, ap, subst, ◌∙◌}
use Rattle.std.specs.Prelude.{is_some}
use Rattle.std.specs.FinMap.{empty, get}
use Rattle.std.specs.List.{list_any}
use Rattle.base_types.specs.Coins.{Coins}
use Rattle.base_types.specs.declared.hash.Hash32.{Hash32}
use Rattle.base_types.specs.declared.refused.CoinRefused.{CoinRefused}
use Rattle.block_checks.specs.Unpayable.{is_unpayable}
use Rattle.block_codec.specs.Text.{same_hash}
use Rattle.block_codec.specs.declared.block.Block.{Block}
use Rattle.chain_model.specs.Apply.{outcome}
use Rattle.chain_model.specs.Choice.{Bodies}
use Rattle.chain_model.specs.Tree.{Tree}
use Rattle.chain_state.specs.Standing.{Carry, IsStanding}
use Rattle.chain_state.specs.Waiting.{IsOpenBlock, waits}
use Rattle.chain_state.specs.declared.state.ChainState.{ChainState}
use Rattle.chain_state.specs.declared.state.Shared.{Shared}
use Rattle.coin_store.specs.Behind.{AllRead}
use Rattle.coin_store.specs.Viewing.{coins_seen}
use Rattle.coin_store.proofs.HeldCoins.{held_coins, held_reads}
use Rattle.disk_model.specs.Disk.{Image}
use Rattle.machine.specs.State.{State, active_coins}
use Rattle.reorg.specs.Trials.{HasTried, IsTried}
use Rattle.reorg.proofs.BodyReads.{pays}
use Rattle.reorg.proofs.StoredBodies.{rows_are}
use Rattle.reorg.proofs.Tried.{has_tried, tip_after}
use Rattle.store_state.specs.Settled.{IsSettled}
use Rattle.store_state.specs.State.{StoreState, blocks_in}

-- the child is the tip where no rule was broken
pub tip_moves : (refused : Option CoinRefused) → is_some refused ≡ false → (tip hash : Hash32) → hash ≡ tip_after tip hash refused
tip_moves None none tip hash = refl
tip_moves (Some rule) none tip hash = absurd cc

pub tip_stays : (refused : Option CoinRefused) → is_some refused ≡ true → (tip hash : Hash32) → tip ≡ tip_after tip hash refused
tip_stays None some tip hash = absurd cc
tip_stays (Some rule) some tip hash = refl

-- an open child is stored
pub stored_block : (state : State) (parent hash : Hash32) → IsOpenBlock state parent hash → (block : Block) × (get state.bodies hash ≡ Some block)
stored_block state parent hash one = go (get state.bodies hash) refl one.stored
  where
    go : (o : Option Block) → get state.bodies hash ≡ o → is_some o ≡ true → (block : Block) × (get state.bodies hash ≡ Some block)
    go (Some block) is e = (block, is)
    go None is e = absurd cc

module _ (limit : ℕ) (contents : Option Image) (images : Image → Type 0) (shared : Shared) (chain : ChainState) (state : State) (store : StoreState) (stands : IsStanding limit contents images shared chain state store) where
  pub stored_in : (hash : Hash32) (block : Block) → get state.bodies hash ≡ Some block → get (blocks_in empty store.bodies) hash ≡ Some block
  stored_in hash block stored = ap (λ (bodies : Bodies). get bodies hash) (sym stands.bodies) ∙ stored

  pub can_pay : IsSettled store → (hash : Hash32) (block : Block) → get state.bodies hash ≡ Some block → list_any is_unpayable block.txs ≡ false
  can_pay settled hash block stored = pays limit contents images shared.blocks chain.store store stands.files settled.bodies hash block (stored_in hash block stored)

  pub rows_seen : coins_seen chain.store.mask chain.store.index contents ≡ Some store.active.coins
  rows_seen =
      held_coins contents images chain.store [] stands.files.batches stands.files.coin_rows
      ∙ ap (λ (coins : Coins). Some coins) (rows_are limit contents images shared.blocks chain.store store stands.files)

  pub rows_read : (image : Image) → contents ≡ Some image → AllRead chain.store.mask chain.store.index image
  rows_read = held_reads contents images chain.store [] stands.files.batches stands.files.coin_rows

  pub carries : IsSettled store → Carry chain.layers store.active.coins (active_coins state)
  carries settled = (stands.coins settled).carry

  pub stands_tried : IsSettled store → (hash : Hash32) → IsOpenBlock state state.active.tip hash → (block : Block) → get state.bodies hash ≡ Some block → (new : ChainState) → new.store ≡ chain.store
      → ((p h : Hash32) → waits new.waiting p h ≡ (waits chain.waiting p h && not (same_hash p chain.tip && same_hash h hash)))
      → (refused : Option CoinRefused) → new.tip ≡ tip_after chain.tip hash refused → IsTried new.layers store.active.coins (active_coins state) (outcome shared.tree.tree (active_coins state) block) refused
      → HasTried limit contents images shared new state store hash refused
  stands_tried settled hash child block stored new same_store removed refused tip tried =
      has_tried limit contents images shared chain state store stands settled hash child block stored new same_store removed refused tip
      (subst (λ (tree : Tree). IsTried new.layers store.active.coins (active_coins state) (outcome tree (active_coins state) block) refused) (stands.headers ∙ sym stands.tree) tried)
