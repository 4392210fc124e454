-- Pieces of work on an open store that follow each other.
use Rattle.std.proofs.Common.{◌≡◌, inl, ℕ, ◌≤◌, List, [], Option, Some, refl, sym, ap, subst, ◌∙◌, arith, le_refl, append-nil}
use Rattle.disk_model.specs.Disk.{Image, Quiet}
use Rattle.disk_model.proofs.Moments.{IsSinceEarlier}
use Rattle.base_types.specs.declared.flushes.Flushed.{Flushed}
use Rattle.block_store.specs.OpenStore.{OpenStore}
use Rattle.coin_store.specs.declared.store.CoinStore.{CoinStore}
use Rattle.machine.specs.Calls.{AllStand, IsOpen, IsWhole, nothing_at}
use Rattle.machine.specs.State.{Event}
use Rattle.machine.specs.Tips.{AllSettled, Stored, stored_after, stored_in}
use Rattle.machine.proofs.Joining.{all_stored, nothing_done, whole_both}
use Rattle.machine.proofs.Telling.{more_events}
use Rattle.store_state.specs.Settled.{IsSettled}
use Rattle.store_state.specs.State.{StoreState, state_of, first_rules}
use Rattle.store_writes.specs.OnDisk.{OnDisk}
use Rattle.store_writes.specs.Written.{WritesAll, WritesSome, events_call}

same_some : {A : Type 0} (a b : A) → Some a ≡ Some b → a ≡ b
same_some a b e = cc

-- ---- nothing is written

module _ (limit : ℕ) (past : ℕ → Image → Type 0) (t : ℕ) (contents : Option Image) (open_blocks : OpenStore) (open_coins : CoinStore) (from : StoreState)
    (earlier : (u v : ℕ) (c : Image) → u ≤ v → v ≤ t → past v c → past u c) (on_disk : OnDisk limit contents (past t) open_blocks open_coins from) where
  pub none_to_write : WritesAll limit past past t t contents contents [] [] from from
  none_to_write = record {
    contents = on_disk.image;
    was = on_disk.told;
    after = on_disk.image;
    told = on_disk.told;
    whole = nothing_done limit first_rules past t on_disk.image from earlier on_disk.is_open;
  }

  -- of these events
  pub none_written : (events : List Event) → WritesSome limit past past t t contents contents [] events from
  none_written events = record {
    contents = on_disk.image;
    was = on_disk.told;
    after = on_disk.image;
    told = on_disk.told;
    meets = more_events limit first_rules past past (nothing_at t on_disk.image) events from (nothing_done limit first_rules past t on_disk.image from earlier on_disk.is_open).meets;
  }

-- ---- all that was written

pub written_in_part : (limit : ℕ) (past left : ℕ → Image → Type 0) (entered ended : ℕ) (before now : Option Image) (flushes : List Flushed) (events : List Event) (from on : StoreState)
    → WritesAll limit past left entered ended before now flushes events from on → WritesSome limit past left entered ended before now flushes events from
written_in_part limit past left entered ended before now flushes events from on all = record { contents = all.contents; was = all.was; after = all.after; told = all.told; meets = all.whole.meets }

module _ (limit : ℕ) (past left : ℕ → Image → Type 0) (entered ended : ℕ) (before now : Option Image) (flushes : List Flushed) (events : List Event) (from on : StoreState)
    (all : WritesAll limit past left entered ended before now flushes events from on) where
  -- a store that was settled before is so after it
  pub settled_on : AllStand limit first_rules (past entered) from → IsSettled from → IsSettled on
  settled_on stand settled =
      let each : AllSettled limit first_rules (past entered) = λ c was. record { state = from; stands_for = stand c was; settled = settled } in
      let since = all.whole.meets.disk.earlier entered ended all.after all.whole.meets.disk.later (le_refl _) all.whole.meets.disk.reads_after in
      let after = all.whole.meets.settled each all.after since in
      subst IsSettled (same_some after.state on (sym after.stands_for ∙ all.whole.ends.all all.after all.whole.ends.reads)) after.settled

  -- its blocks are those that the events make
  pub blocks_on : (stored_in on).bodies ≡ (stored_after events (stored_in from)).bodies
  blocks_on = ap (λ (s : Stored). s.bodies) (all_stored limit first_rules past left (events_call entered ended all.contents all.after flushes events) from on all.whole)

-- ---- calls that change nothing

module _ {D : Type 0} (time : D → ℕ) (left : D → ℕ → Image → Type 0) (contents : D → Option Image) (earlier : IsSinceEarlier time left)
    (reads_as : (disk : D) (m : Image) → contents disk ≡ Some m → left disk (time disk) m) (mid new : D) (limit : ℕ) (on : StoreState) (quiet : Quiet time left mid new) (same : contents new ≡ contents mid) where
  still_left : (t : ℕ) (c : Image) → time mid ≤ t → t ≤ time new → left new t c → left mid (time mid) c
  still_left t c low high l = quiet.since (time mid) c (le_refl _) (earlier new (time mid) t c low high l)

  quiet_call : (image : Image) → contents mid ≡ Some image → IsOpen limit first_rules (left mid (time mid)) image on
      → IsWhole limit first_rules (left mid) (left new) (events_call (time mid) (time new) image image [] []) on on
  quiet_call image told is_open =
      let only : (c : Image) (s : StoreState) → left mid (time mid) c → state_of limit first_rules c ≡ Some s → s ≡ on = λ c s l is. same_some s on (sym is ∙ is_open.all c l) in
      let reads = reads_as new image (same ∙ told) in
      record {
        meets = record {
          disk = record { later = quiet.later; reads = is_open.reads; reads_after = reads; earlier = λ t u c low high l. earlier new t u c low high l };
          stands_for = is_open.all image is_open.reads;
          settled = λ settled c l. settled c (quiet.since (time mid) c (le_refl _) l);
          before = λ settled t c less l. inl (quiet.since t c (omega arith) l);
          leaves = λ settled t c s low high l is. record {
            first = [];
            rest = [];
            parts = refl;
            enough = omega arith;
            made = omega arith;
            stored = ap stored_in (only c s (still_left t c low high l) is);
          };
          in_order = tt;
        };
        well = record { stored = λ c s l is. ap stored_in (only c s (still_left (time new) c quiet.later (le_refl _) l) is); flushed = refl };
        ends = record { reads = reads; all = λ c l. is_open.all c (still_left (time new) c quiet.later (le_refl _) l) };
      }

  -- calls after what was written
  pub written_then : (old : D) (events : List Event) (from : StoreState) → WritesAll limit (left old) (left mid) (time old) (time mid) (contents old) (contents mid) [] events from on
      → WritesAll limit (left old) (left new) (time old) (time new) (contents old) (contents new) [] events from on
  written_then old events from all =
      let call = quiet_call all.after all.told all.whole.ends in
      record {
        contents = all.contents;
        was = all.was;
        after = all.after;
        told = same ∙ all.told;
        whole = subst (λ (es : List Event). IsWhole limit first_rules (left old) (left new) (events_call (time old) (time new) all.contents all.after [] es) from on) (append-nil events)
            (whole_both limit first_rules (left old) (left mid) (left new) (events_call (time old) (time mid) all.contents all.after [] events) (events_call (time mid) (time new) all.after all.after [] []) from on on
            all.whole call (record { time = refl; contents = refl }));
      }
