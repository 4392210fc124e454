-- A flush that was made, or cut.
use Rattle.std.proofs.Common.{◌≡◌, ◌⊎◌, inl, ℕ, ◌≤◌, false, List, [], ◌∷◌, ◌++◌, Option, Some, None, is_some, refl, sym, subst, ◌∙◌, append-nil}
use Rattle.std.specs.List.Sorted.{IsPermutation}
use Rattle.std.proofs.lemmas.List.Sorted.{IsPermutation-refl}
use Rattle.disk_model.specs.Disk.{Image}
use Rattle.slot_pool.specs.Slots.{first_or}
use Rattle.slot_pool.proofs.SlotLaws.{empty_first}
use Rattle.base_types.specs.Coins.{Coins}
use Rattle.base_types.specs.declared.flushes.Chain.TheVariants.{Full}
use Rattle.base_types.specs.declared.flushes.Flushed.{Flushed}
use Rattle.base_types.specs.declared.flushes.Why.{Why}
use Rattle.base_types.specs.declared.hash.Hash32.{Hash32}
use Rattle.base_types.specs.declared.hash.OutPoint.{OutPoint}
use Rattle.block_store.specs.OpenStore.{OpenStore}
use Rattle.coin_cache.specs.Contents.{Contents}
use Rattle.coin_cache.specs.Entries.{IsSound, StandsOver, means}
use Rattle.coin_store.specs.Batches.{Row}
use Rattle.coin_store.specs.Places.{coins_after_rows}
use Rattle.coin_store.specs.declared.store.CoinStore.{CoinStore}
use Rattle.flusher.specs.Writing.{IsCut, IsMade, begins_at, ends_at, kept_with}
use Rattle.flusher.proofs.Meant.{rows_mean}
use Rattle.machine.specs.State.{Flush}
use Rattle.store_state.specs.State.{StoreState}
use Rattle.store_writes.specs.OnDisk.{OnDisk}
use Rattle.store_writes.specs.Written.{Writes, WritesPart, flushed_to}
use Rattle.store_writes.proofs.Events.{nothing_begun}

module _ (limit : ℕ) (past left : ℕ → Image → Type 0) (entered ended : ℕ) (before now : Option Image) (store : StoreState) (tip : Hash32) (why : Why) (touched : List OutPoint) (flushes after : List Flushed) where
  pub is_made : (blocks : OpenStore) (coins : CoinStore) (rows : List Row) (meant : Coins) → coins_after_rows store.active.coins rows ≡ meant
      → (after ≡ flushes ++ ends_at tip why entered ended ∷ []) × Writes limit past left entered ended before now (ends_at tip why entered ended ∷ []) (Flush Full tip why touched) store (flushed_to tip rows store)
      × OnDisk limit now (left ended) blocks coins (flushed_to tip rows store)
      → IsMade limit past left entered ended before now blocks coins store tip meant why touched flushes after
  is_made blocks coins rows meant mean made = record {
    added = made.0;
    writes = subst (λ (k : Coins). Writes limit past left entered ended before now (ends_at tip why entered ended ∷ []) (Flush Full tip why touched) store (kept_with tip k store)) mean made.1;
    files = subst (λ (k : Coins). OnDisk limit now (left ended) blocks coins (kept_with tip k store)) mean made.2;
  }

  pub is_cut : (members : List Flushed) × (after ≡ flushes ++ members) × ((members ≡ []) ⊎ (members ≡ begins_at tip why entered ∷ [])) × WritesPart limit past left entered ended before now members (Flush Full tip why touched) store
      → IsCut limit past left entered ended before now store tip why touched flushes after
  is_cut cut = record { members = cut.0; added = cut.1; at_most_one = cut.2; writes = cut.3 }

-- the flush never began
pub not_begun : (limit : ℕ) (past : ℕ → Image → Type 0) (t : ℕ) (contents : Option Image) (blocks : OpenStore) (coins : CoinStore) (store : StoreState) (tip : Hash32) (why : Why) (touched : List OutPoint) (flushes after : List Flushed)
    → ((u v : ℕ) (c : Image) → u ≤ v → v ≤ t → past v c → past u c) → OnDisk limit contents (past t) blocks coins store → after ≡ flushes → IsCut limit past past t t contents contents store tip why touched flushes after
not_begun limit past t contents blocks coins store tip why touched flushes after earlier on same = record {
  members = [];
  added = same ∙ sym (append-nil flushes);
  at_most_one = inl refl;
  writes = nothing_begun limit past t contents blocks coins store (Flush Full tip why touched) earlier on;
}

-- ---- nothing changed

pub none_changed : (changes : List ℕ) (first : Option ℕ) → first ≡ first_or None changes → is_some first ≡ false → changes ≡ []
none_changed changes None is none = empty_first changes (sym is)
none_changed changes (Some slot) is none = absurd cc

pub nothing_changed : (c : Contents) (rows meant : Coins) → IsSound c → c.changes ≡ [] → StandsOver c (Some rows) → means c (Some rows) ≡ Some meant → rows ≡ meant
nothing_changed c rows meant sound none stands is = rows_mean c [] rows meant sound (subst (λ (l : List ℕ). IsPermutation l []) (sym none) (IsPermutation-refl [])) stands is
