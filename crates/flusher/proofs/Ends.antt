-- Where a flush ends.
use Rattle.std.proofs.Common.{◌≡◌, ◌⊎◌, ℕ, List, [], ◌∷◌, ◌++◌, Option, Some, refl, sym, ap, subst, ◌∙◌}
use Rattle.std.specs.FinMap.{empty}
use Rattle.disk_model.specs.Disk.{Image}
use Rattle.base_types.specs.Coins.{Coins}
use Rattle.base_types.specs.declared.flushes.Chain.TheVariants.{Full}
use Rattle.base_types.specs.declared.flushes.Flushed.{Flushed}
use Rattle.base_types.specs.declared.flushes.Why.{Why}
use Rattle.base_types.specs.declared.hash.Hash32.{Hash32}
use Rattle.chain_state.specs.Standing.{Carry, IsStanding}
use Rattle.chain_state.specs.Waiting.{AreWaiting}
use Rattle.chain_state.specs.declared.state.ChainState.{ChainState}
use Rattle.chain_state.specs.declared.state.Shared.{Shared}
use Rattle.chain_state.specs.declared.waiting.Waiting.{Waiting}
use Rattle.chain_state.proofs.Alike.{waiting_alike}
use Rattle.coin_cache.specs.Contents.{Contents}
use Rattle.coin_cache.specs.Entries.{StandsOver, means}
use Rattle.coin_cache.proofs.Meanings.{means_parent}
use Rattle.coin_store.specs.Staging.{SameStore}
use Rattle.coin_views.specs.Layers.{block_of, tip_means, tip_of}
use Rattle.coin_views.specs.declared.layers.Layers.{Layers}
use Rattle.flusher.specs.Flushing.{HasFailedToFlush, HasFlushed}
use Rattle.flusher.specs.Writing.{IsCut, IsMade, begins_at, ends_at, kept_with}
use Rattle.flusher.proofs.Begins.{leads}
use Rattle.machine.specs.Moves.{flush, flushed}
use Rattle.machine.specs.State.{Flush, State, active_coins}
use Rattle.store_state.specs.Roles.{beside}
use Rattle.store_state.specs.Settled.{IsSettled}
use Rattle.store_state.specs.State.{StoreState}
use Rattle.store_state.proofs.Settling.{settled_at}
use Rattle.store_writes.specs.OnDisk.{OnDisk}
use Rattle.store_writes.specs.Written.{Writes, WritesPart}

-- the tip cache without its flags, over rows that are the coins that it meant
pub carries : (layers : Layers) (old new : Contents) (told : Option Coins) (meant : Coins) → tip_of layers ≡ new → (block_of layers).slots ≡ empty → means old told ≡ Some meant
    → (means new (means old told) ≡ means old told) × StandsOver new (means old told) → Carry layers meant meant
carries layers old new told meant tip top is clean =
    let now = subst (λ (c : Contents). (means c (means old told) ≡ means old told) × StandsOver c (means old told)) (sym tip) clean in
    let here = subst (λ (o : Option Coins). (means (tip_of layers) o ≡ o) × StandsOver (tip_of layers) o) is now in
    record {
      stand = record { over_parent = here.1; over_tip = (means_parent (block_of layers) top (tip_means layers (Some meant))).1 };
      tip = here.0;
      top = top;
    }

module _ (limit : ℕ) (past left : ℕ → Image → Type 0) (entered ended : ℕ) (before now : Option Image) (shared : Shared) (chain : ChainState) (state : State) (store : StoreState) (why : Why) (flushes flushes_after : List Flushed)
    (stands : IsStanding limit before (past entered) shared chain state store) (settled : IsSettled store) where
  -- the flush was made
  pub has_flushed : (new : ChainState) → new.tip ≡ chain.tip → new.waiting ≡ chain.waiting → SameStore chain.store new.store → Carry new.layers (active_coins state) (active_coins state)
      → IsMade limit past left entered ended before now shared.blocks new.store store chain.tip (active_coins state) why state.active.touched flushes flushes_after
      → HasFlushed limit past left entered ended before now shared new state store why flushes flushes_after
  has_flushed new tip waiting same carry made =
      let has = stands.coins settled in
      let leading = leads limit before (past entered) shared chain state store stands settled in
      record {
        added = subst (λ (h : Hash32). flushes_after ≡ flushes ++ ends_at h why entered ended ∷ []) stands.tip made.added;
        writes = subst (λ (h : Hash32). Writes limit past left entered ended before now (ends_at h why entered ended ∷ []) (Flush Full h why state.active.touched) store (kept_with h (active_coins state) store)) stands.tip made.writes;
        settled = subst (λ (h : Hash32). IsSettled (kept_with h (active_coins state) store)) stands.tip (settled_at store chain.tip (active_coins state) leading.replay settled);
        stands = record {
          files = subst (λ (h : Hash32). OnDisk limit now (left ended) shared.blocks new.store (kept_with h (active_coins state) store)) stands.tip made.files;
          headers = stands.headers;
          most = stands.most;
          grown = stands.grown;
          tree = stands.tree;
          bodies = stands.bodies;
          start = stands.start;
          start_coins = stands.start_coins;
          begun = same.start ∙ stands.begun;
          kept = refl;
          tip = tip ∙ stands.tip;
          role = ap (beside flushed) stands.role;
          coins = λ kept. record {
            valid = has.valid;
            carry = carry;
            waiting = waiting_alike new.waiting state (flush why state).state refl refl refl refl (subst (λ (w : Waiting). AreWaiting w state) (sym waiting) has.waiting);
          };
        };
      }

  -- the flush was cut
  pub has_failed : IsCut limit past left entered ended before now store chain.tip why state.active.touched flushes flushes_after → HasFailedToFlush limit past left entered ended before now state store why flushes flushes_after
  has_failed cut = record {
    members = cut.members;
    added = cut.added;
    at_most_one = subst (λ (h : Hash32). (cut.members ≡ []) ⊎ (cut.members ≡ begins_at h why entered ∷ [])) stands.tip cut.at_most_one;
    writes = subst (λ (h : Hash32). WritesPart limit past left entered ended before now cut.members (Flush Full h why state.active.touched) store) stands.tip cut.writes;
  }
