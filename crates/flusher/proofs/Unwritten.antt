-- A flush that has nothing to write.
use Rattle.std.proofs.Common.{◌≡◌, inl, inr, ℕ, ◌<◌, ◌≤◌, Bool, false, List, [], ◌∷◌, ◌++◌, Option, refl, sym, ap, subst, ◌∙◌, arith, le_refl, nat_le}
use Rattle.std.proofs.lemmas.Bool.Decides.{nat_tests}
use Rattle.disk_model.specs.Disk.{Image}
use Rattle.base_types.specs.Coins.{Coins}
use Rattle.base_types.specs.declared.flushes.Chain.TheVariants.{Full}
use Rattle.base_types.specs.declared.flushes.Flushed.{Flushed}
use Rattle.base_types.specs.declared.flushes.Why.{Why}
use Rattle.base_types.specs.declared.hash.Hash32.{Hash32}
use Rattle.base_types.specs.declared.hash.OutPoint.{OutPoint}
use Rattle.block_store.specs.OpenStore.{OpenStore}
use Rattle.coin_store.specs.declared.marker.Marker.TheVariants.{At}
use Rattle.coin_store.specs.declared.store.CoinStore.{CoinStore}
use Rattle.flusher.specs.Writing.{IsMade, ends_at, kept_with}
use Rattle.machine.specs.State.{Event, Flush}
use Rattle.machine.specs.Tips.{stored_chain, stored_in, with_event, with_later, with_tip}
use Rattle.machine.proofs.Appending.{AddsEvent, event_done}
use Rattle.store_state.specs.Roles.{Alone, Role, beside}
use Rattle.store_state.specs.State.{Chainstate, StoreState, first_rules, tip_of, tip_of_marker}
use Rattle.store_writes.specs.OnDisk.{OnDisk}
use Rattle.store_writes.specs.Written.{Writes, event_call}
use Rattle.store_writes.proofs.Images.{all_read}

not_yet : (t d : ℕ) → t < d → nat_le d t ≡ false
not_yet t d early = grind (arith, nat_tests)

module _ (limit : ℕ) (past : ℕ → Image → Type 0) (t : ℕ) (contents : Option Image) (blocks : OpenStore) (coins : CoinStore) (store : StoreState) (tip : Hash32) (meant : Coins) (why : Why) (touched : List OutPoint)
    (earlier : (u v : ℕ) (c : Image) → u ≤ v → v ≤ t → past v c → past u c) (on : OnDisk limit contents (past t) blocks coins store) (marker : store.active.marker ≡ At tip) (rows : store.active.coins ≡ meant) where
  abbrev event : Event
  event = Flush Full tip why touched

  abbrev members : List Flushed
  members = ends_at tip why t t ∷ []

  same_store : store ≡ kept_with tip meant store
  same_store = λ i. record store { active = record store.active { marker = marker i; coins = rows i } }

  -- the flush leaves what is stored
  stays : stored_in store ≡ with_event event (stored_in store)
  stays =
      let role = (all_read limit contents (past t) blocks coins store on).role in
      let tip_is : tip_of store.active ≡ tip = ap tip_of_marker marker in
      (λ i. record (stored_in store) { role = beside stored_chain (role i) })
      ∙ (λ i. record (stored_in store) { active = with_tip (tip_is i) (stored_chain store.active); role = beside stored_chain Alone })
      ∙ sym (ap (λ (r : Role Chainstate). with_event event (record (stored_in store) { role = beside stored_chain r })) role)

  adds : AddsEvent limit first_rules past past (event_call t t on.image on.image members event) event store store
  adds = record {
    events = refl;
    later = le_refl t;
    reads = on.is_open.reads;
    reads_after = on.is_open.reads;
    earlier = earlier;
    stands = on.is_open.all;
    since = λ u c early l. inl l;
    settles = λ settled. settled;
    stored = stays;
    count = refl;
    unkept = λ u early. ap (λ (b : Bool). with_later b 0) (not_yet u t early);
    kept = inr on.is_open.all;
    in_order = ((le_refl t, le_refl t, λ d e. (let same : t ≡ d = cc in (omega (arith, same), omega (arith, same))), λ e. absurd cc), tt);
  }

  writes : Writes limit past past t t contents contents members event store store
  writes = record {
    contents = on.image;
    was = on.told;
    after = on.image;
    told = on.told;
    whole = event_done limit first_rules past past (event_call t t on.image on.image members event) event store store adds on.is_open.all;
  }

  pub unwritten : (before after : List Flushed) → after ≡ before ++ members → IsMade limit past past t t contents contents blocks coins store tip meant why touched before after
  unwritten before after added = record {
    added = added;
    writes = subst (λ (s : StoreState). Writes limit past past t t contents contents members event store s) same_store writes;
    files = subst (OnDisk limit contents (past t) blocks coins) same_store on;
  }
