-- A record that was added to a file, as an event of the store.
use Rattle.std.proofs.Common.{◌≡◌, ◌≢◌, ◌⊎◌, inl, inr, ⊎_elim, ℕ, ◌<◌, ◌≤◌, Bool, false, List, [], ◌∷◌, ◌++◌, length, Option, Some, None, refl, sym, ap, subst, ◌∙◌, arith, nat_le, is_some, fold}
use Rattle.std.proofs.lemmas.Bool.Decides.{nat_tests}
use Rattle.std.specs.List.{AllByRecursion}
use Rattle.std.specs.FinMap.{get}
use Rattle.std.proofs.lemmas.Option.{same_Some, none-some}
use Rattle.base_types.specs.declared.refused.HeaderRefused.{HeaderRefused}
use Rattle.disk_model.specs.Disk.{Image, At, Leaves, OthersKept, BothTold}
use Rattle.disk_model.proofs.Moments.{IsSinceEarlier}
use Rattle.batch_log.specs.Records.{WithOrWithout}
use Rattle.batch_log.proofs.OtherLogs.{other_stands}
use Rattle.base_types.specs.Flushes.{begun_flush, done_at}
use Rattle.base_types.specs.declared.flushes.Chain.TheVariants.{Full}
use Rattle.base_types.specs.declared.flushes.Flushed.{Flushed}
use Rattle.base_types.specs.declared.flushes.Why.{Why}
use Rattle.base_types.specs.declared.hash.Hash32.{Hash32}
use Rattle.base_types.specs.declared.hash.OutPoint.{OutPoint}
use Rattle.block_codec.specs.Genesis.{genesis_hash}
use Rattle.block_codec.specs.declared.block.Block.{Block}
use Rattle.block_codec.specs.declared.block.Header.{Header}
use Rattle.block_store.specs.Bodies.{body_hash, body_of, body_text}
use Rattle.block_store.specs.Headers.{headers_of, headers_text}
use Rattle.block_store.specs.OpenStore.{OpenStore, Payloads, Holds, with_headers, with_body}
use Rattle.block_store.proofs.StoreLaws.{KeepsStore, beside_holds}
use Rattle.chain_model.specs.BodyRules.{body_broken, place_below}
use Rattle.chain_model.specs.Choice.{Bodies, coins_at}
use Rattle.chain_model.specs.HeaderRules.{tree_with, with_header, header_broken, and_header, and_then}
use Rattle.chain_model.specs.Tree.{Tree}
use Rattle.chain_model.proofs.Growth.{grows_by}
use Rattle.coin_store.specs.Batches.{Row, Batch, BatchFits, batch_text}
use Rattle.coin_store.specs.Places.{coins_after_rows}
use Rattle.coin_store.specs.Store as coins
use Rattle.coin_store.specs.Store.{texts}
use Rattle.coin_store.specs.declared.marker.Marker.TheVariants.{At as AtTip}
use Rattle.coin_store.specs.declared.store.CoinStore.{CoinStore}
use Rattle.coin_store.proofs.BatchLaws.{batch_again}
use Rattle.machine.specs.Calls.{AllStand, nothing_at}
use Rattle.machine.specs.Clauses.{ReadsWithin}
use Rattle.machine.specs.State.{Event, HeadersStored, BodyStored, Flush}
use Rattle.machine.specs.Tips.{stored_in, stored_chain, with_event, kept_count, with_later, flush_count}
use Rattle.machine.proofs.Appending.{AddsEvent, event_is_call, event_done}
use Rattle.machine.proofs.Joining.{nothing_done}
use Rattle.machine.proofs.Telling.{more_events}
use Rattle.store_state.specs.Roles.{Role, beside}
use Rattle.store_state.specs.Settled.{IsSettled, IsBody}
use Rattle.store_state.specs.State.{StoreState, Chainstate, header_file, body_file, coin_file, first_key, first_rules, choice_of, has_record}
use Rattle.store_state.proofs.Appending.{Logs, HasLogs, IsRead, stands_for_read, tree_is_read, headers_added, body_added, batch_added}
use Rattle.store_state.proofs.Settling.{settled_with_headers, settled_with_body, settled_at, blocks_with}
use Rattle.store_writes.specs.OnDisk.{OnDisk}
use Rattle.store_writes.specs.Written.{Writes, WritesPart, event_call, with_tree, with_stored, body_as_stored, flushed_to}
use Rattle.store_writes.proofs.Images.{logs_of, holds_logs, each_has, all_read, headers_step, bodies_step, coins_step, IsReached, tip_reached}

told_then : (Related : Image → Image → Type 0) (old new : Option Image) (m : Image) → BothTold Related old new → old ≡ Some m → (n : Image) × (new ≡ Some n) × Related m n
told_then Related None None m both is = absurd cc
told_then Related None (Some n) m both is = absurd both
told_then Related (Some l) None m both is = absurd both
told_then Related (Some l) (Some n) m both is = let same : l ≡ m = cc in (n, refl, subst (λ (i : Image). Related i n) same both)

both_told : (old new : Option Image) (m n : Image) → old ≡ Some m → new ≡ Some n → KeepsStore m n → BothTold KeepsStore old new
both_told old new m n was is keeps = subst (λ (o : Option Image). BothTold KeepsStore o new) (sym was) (subst (λ (o : Option Image). BothTold KeepsStore (Some m) o) (sym is) keeps)

-- the events of a store leave what they make of it
abbrev pub Leads : Event → StoreState → StoreState → Type 0
Leads event from on = (IsSettled from → IsSettled on) × (stored_in on ≡ with_event event (stored_in from))

-- which flushes belong to the event
pub record Flushes (entered ended : ℕ) (event : Event) (flushes : List Flushed) : Type 0 where
  pub count : flush_count (event ∷ []) ≡ length flushes
  pub unkept : (t : ℕ) → t < ended → kept_count t flushes ≡ 0
  pub in_order : AllByRecursion (ReadsWithin entered ended) flushes

no_flush : {entered ended : ℕ} (event : Event) → flush_count (event ∷ []) ≡ 0 → Flushes entered ended event []
no_flush event none = record { count = none; unkept = λ t early. refl; in_order = tt }

not_yet : (t d : ℕ) → t < d → nat_le d t ≡ false
not_yet t d early = grind (arith, nat_tests)

begun_one : (tip : Hash32) (why : Why) (touched : List OutPoint) (entered ended : ℕ) → entered ≤ ended → Flushes entered ended (Flush Full tip why touched) (begun_flush Full tip why entered ∷ [])
begun_one tip why touched entered ended later = record {
  count = refl;
  unkept = λ t early. refl;
  in_order = ((omega arith, later, λ d e. absurd cc, λ e. absurd cc), tt);
}

done_one : (tip : Hash32) (why : Why) (touched : List OutPoint) (entered ended : ℕ) → entered ≤ ended → Flushes entered ended (Flush Full tip why touched) (done_at ended (begun_flush Full tip why entered) ∷ [])
done_one tip why touched entered ended later = record {
  count = refl;
  unkept = λ t early. ap (λ (b : Bool). with_later b 0) (not_yet t ended early);
  in_order = ((omega arith, later, λ d e. (let same : ended ≡ d = cc in (subst (λ (n : ℕ). entered ≤ n) same later, omega (arith, same))), λ e. absurd cc), tt);
}

-- headers that are taken make the tree that they are folded into
folded : (limit : ℕ) (tree last : Tree) (headers : List Header) → tree_with limit tree headers ≡ Some last → last ≡ fold with_header tree headers
unfolding tree_with
folded limit tree last [] e = sym (same_Some tree last e)
folded limit tree last (header ∷ headers) e = go (folded limit (with_header tree header) last headers) (header_broken limit tree header) e
  where
    go : (tree_with limit (with_header tree header) headers ≡ Some last → last ≡ fold with_header (with_header tree header) headers) → (broken : Option HeaderRefused)
        → and_then (and_header broken tree header) (λ next. tree_with limit next headers) ≡ Some last → last ≡ fold with_header (with_header tree header) headers
    go next None e = next e
    go next (Some rule) e = absurd (none-some last e)

module _ {D : Type 0} (time : D → ℕ) (left : D → ℕ → Image → Type 0) (contents : D → Option Image) (earlier : IsSinceEarlier time left)
    (reads_as : (disk : D) (m : Image) → contents disk ≡ Some m → left disk (time disk) m) (old new : D) (limit : ℕ)
    (open_blocks : OpenStore) (open_coins : CoinStore) (from : StoreState) (on_disk : OnDisk limit (contents old) (left old (time old)) open_blocks open_coins from) where
  -- a step of one file, with which an image has a record more or none
  module _ (file : ℕ) (Step : List ℕ → List ℕ → Type 0) (leaves : Leaves time left (At file Step) old new) (others : OthersKept file (contents old) (contents new)) (more : Logs) (on : StoreState)
      (read : IsRead limit first_rules more on) (steps : (e c : Image) → HasLogs e (logs_of on_disk.payloads on_disk.batches) → At file Step e c → HasLogs c (logs_of on_disk.payloads on_disk.batches) ⊎ HasLogs c more)
      (event : Event) (flushes : List Flushed) (leads : Leads event from on) (with_flushes : Flushes (time old) (time new) event flushes) where
    after : (n : Image) × (contents new ≡ Some n) × ((f : ℕ) → f ≢ file → n f ≡ on_disk.image f)
    after = told_then (λ m n. (f : ℕ) → f ≢ file → n f ≡ m f) (contents old) (contents new) on_disk.image others on_disk.told

    adds : (kept_count (time new) flushes ≡ 0) ⊎ AllStand limit first_rules (left new (time new)) on
        → AddsEvent limit first_rules (left old) (left new) (event_call (time old) (time new) on_disk.image after.0 flushes event) event from on
    adds kept = record {
      events = refl;
      later = leaves.later;
      reads = on_disk.is_open.reads;
      reads_after = reads_as new after.0 after.1;
      earlier = earlier new;
      stands = on_disk.is_open.all;
      since = λ t c early l. ⊎_elim
          (λ was. inl was)
          (λ made. inr (⊎_elim
          (λ has. inl (stands_for_read limit first_rules c (logs_of on_disk.payloads on_disk.batches) from has (all_read limit (contents old) (left old (time old)) open_blocks open_coins from on_disk)))
          (λ has. inr (stands_for_read limit first_rules c more on has read))
          (steps made.0 c (each_has limit (contents old) (left old (time old)) open_blocks open_coins from on_disk made.0 made.1) made.2)))
          (leaves.since t c early l);
      settles = leads.0;
      stored = leads.1;
      count = with_flushes.count;
      unkept = with_flushes.unkept;
      kept = kept;
      in_order = with_flushes.in_order;
    }

    pub written_part : kept_count (time new) flushes ≡ 0 → WritesPart limit (left old) (left new) (time old) (time new) (contents old) (contents new) flushes event from
    written_part none = record {
      contents = on_disk.image;
      was = on_disk.told;
      after = after.0;
      told = after.1;
      meets = event_is_call limit first_rules (left old) (left new) (event_call (time old) (time new) on_disk.image after.0 flushes event) event from on (adds (inl none));
    }

    pub written_whole : AllStand limit first_rules (left new (time new)) on → Writes limit (left old) (left new) (time old) (time new) (contents old) (contents new) flushes event from on
    written_whole all = record {
      contents = on_disk.image;
      was = on_disk.told;
      after = after.0;
      told = after.1;
      whole = event_done limit first_rules (left old) (left new) (event_call (time old) (time new) on_disk.image after.0 flushes event) event from on (adds (inr all)) all;
    }

  -- the open files over the disk after it
  pub on_disk_now : (new_blocks : OpenStore) (new_coins : CoinStore) (on : StoreState) (payloads : Payloads) (batches : List Batch) (m : Image) → contents new ≡ Some m
      → IsRead limit first_rules (logs_of payloads batches) on → Holds (contents new) (left new (time new)) new_blocks payloads → coins.Holds (contents new) (left new (time new)) new_coins [] batches
      → new_coins.log.file ≡ coin_file → new_coins.mask ≡ first_key → new_coins.base ≡ None → OnDisk limit (contents new) (left new (time new)) new_blocks new_coins on
  on_disk_now new_blocks new_coins on payloads batches m told read blocks rows file mask base =
      let closed : (c : Image) → left new (time new) c → HasLogs c (logs_of payloads batches) = λ c now. holds_logs (contents new) (left new (time new)) new_blocks new_coins payloads batches blocks rows file mask c now in
      record {
        image = m;
        told = told;
        is_open = record { reads = reads_as new m told; all = λ c now. stands_for_read limit first_rules c (logs_of payloads batches) on (closed c now) read };
        payloads = payloads;
        batches = batches;
        block_files = blocks;
        coin_rows = rows;
        file = file;
        mask = mask;
        no_base = base;
      }

  -- what the other files hold
  rows_beside : (file : ℕ) → (coin_file ≢ file) → (Step : List ℕ → List ℕ → Type 0) → Leaves time left (At file Step) old new → OthersKept file (contents old) (contents new)
      → coins.Holds (contents new) (left new (time new)) open_coins [] on_disk.batches
  rows_beside file apart Step leaves others = record {
    knows = on_disk.coin_rows.knows;
    stands =
        other_stands time left contents earlier file Step old new leaves others open_coins.log (λ same. apart (sym on_disk.file ∙ same)) (texts open_coins.mask on_disk.batches) on_disk.coin_rows.stands;
    base_stands = λ f is. absurd (none-some f (sym on_disk.no_base ∙ is));
    apart = on_disk.coin_rows.apart;
  }

  blocks_beside : (Step : List ℕ → List ℕ → Type 0) → Leaves time left (At coin_file Step) old new → OthersKept coin_file (contents old) (contents new) → Holds (contents new) (left new (time new)) open_blocks on_disk.payloads
  blocks_beside Step leaves others =
      let after = told_then (λ m n. (f : ℕ) → f ≢ coin_file → n f ≡ m f) (contents old) (contents new) on_disk.image others on_disk.told in
      beside_holds time left contents earlier (At coin_file Step) (λ m n step. record { headers = step.others header_file (λ same. absurd cc); bodies = step.others body_file (λ same. absurd cc) })
      old new leaves
      (both_told (contents old) (contents new) on_disk.image after.0 on_disk.told after.1 (record { headers = after.2 header_file (λ same. absurd cc); bodies = after.2 body_file (λ same. absurd cc) }))
      open_blocks on_disk.payloads on_disk.block_files

  read_now : IsRead limit first_rules (logs_of on_disk.payloads on_disk.batches) from
  read_now = all_read limit (contents old) (left old (time old)) open_blocks open_coins from on_disk

  -- ---- headers

  module _ (headers : List Header) (tree : Tree) (grown : tree_with limit from.tree headers ≡ Some tree) (again : headers_of (headers_text headers) ≡ Some headers)
      (leaves : Leaves time left (At 1 (WithOrWithout on_disk.payloads.headers (headers_text headers))) old new) (others : OthersKept 1 (contents old) (contents new)) where
    headers_read : IsRead limit first_rules (logs_of (with_headers on_disk.payloads (headers_text headers)) on_disk.batches) (with_tree tree from)
    headers_read = headers_added limit (logs_of on_disk.payloads on_disk.batches) from (headers_text headers) headers tree read_now again grown

    headers_lead : Leads (HeadersStored headers) from (with_tree tree from)
    headers_lead = (
      settled_with_headers limit from tree (grows_by limit from.tree tree headers (tree_is_read limit first_rules (logs_of on_disk.payloads on_disk.batches) from read_now) grown),
      ap (λ (t : Tree). record (stored_in from) { tree = t }) (folded limit from.tree tree headers grown),
    )

    pub headers_part : WritesPart limit (left old) (left new) (time old) (time new) (contents old) (contents new) [] (HeadersStored headers) from
    headers_part =
        written_part header_file (WithOrWithout on_disk.payloads.headers (headers_text headers)) leaves others (logs_of (with_headers on_disk.payloads (headers_text headers)) on_disk.batches) (with_tree tree from) headers_read
        (λ e c has step. headers_step e c (logs_of on_disk.payloads on_disk.batches) has (headers_text headers) step) (HeadersStored headers) [] headers_lead (no_flush (HeadersStored headers) refl) refl

    module _ (new_blocks : OpenStore) (ok : Holds (contents new) (left new (time new)) new_blocks (with_headers on_disk.payloads (headers_text headers))) where
      pub headers_now : OnDisk limit (contents new) (left new (time new)) new_blocks open_coins (with_tree tree from)
      headers_now =
          let after = told_then (λ m n. (f : ℕ) → f ≢ 1 → n f ≡ m f) (contents old) (contents new) on_disk.image others on_disk.told in
          on_disk_now new_blocks open_coins (with_tree tree from) (with_headers on_disk.payloads (headers_text headers)) on_disk.batches after.0 after.1 headers_read ok
          (rows_beside 1 (λ same. absurd cc) (WithOrWithout on_disk.payloads.headers (headers_text headers)) leaves others) on_disk.file on_disk.mask on_disk.no_base

      pub headers_whole : Writes limit (left old) (left new) (time old) (time new) (contents old) (contents new) [] (HeadersStored headers) from (with_tree tree from)
      headers_whole =
          written_whole header_file (WithOrWithout on_disk.payloads.headers (headers_text headers)) leaves others (logs_of (with_headers on_disk.payloads (headers_text headers)) on_disk.batches) (with_tree tree from) headers_read
          (λ e c has step. headers_step e c (logs_of on_disk.payloads on_disk.batches) has (headers_text headers) step) (HeadersStored headers) [] headers_lead (no_flush (HeadersStored headers) refl) headers_now.is_open.all

  -- ---- a body

  module _ (hash : Hash32) (block : Block) (found : get from.tree.headers hash ≡ Some block.header) (above : hash ≢ genesis_hash) (meets : body_broken (place_below from.tree block.header.prev) block ≡ None)
      (fresh : has_record from.bodies hash ≡ false) (carries : body_hash (body_text hash block) ≡ Some hash) (again : body_of (body_text hash block) ≡ Some block)
      (leaves : Leaves time left (At 2 (WithOrWithout on_disk.payloads.bodies (body_text hash block))) old new) (others : OthersKept 2 (contents old) (contents new)) where
    body_read : IsRead limit first_rules (logs_of (with_body on_disk.payloads (body_text hash block)) on_disk.batches) (with_stored (body_as_stored hash block) from)
    body_read = body_added limit first_rules (logs_of on_disk.payloads on_disk.batches) from (body_text hash block) hash read_now carries (ap (λ (o : Option Header). is_some o) found)

    abbrev body_is : IsBody from.tree (body_as_stored hash block)
    body_is = record { block = block; is = again; header = found; above = above; meets = meets }

    body_leads : Leads (BodyStored hash block) from (with_stored (body_as_stored hash block) from)
    body_leads = (
      settled_with_body limit from (body_as_stored hash block) (tree_is_read limit first_rules (logs_of on_disk.payloads on_disk.batches) from read_now) body_is fresh,
      ap (λ (blocks : Bodies). record (stored_in from) { bodies = blocks }) (blocks_with from.tree from.bodies (body_as_stored hash block) body_is),
    )

    pub body_part : WritesPart limit (left old) (left new) (time old) (time new) (contents old) (contents new) [] (BodyStored hash block) from
    body_part =
        written_part body_file (WithOrWithout on_disk.payloads.bodies (body_text hash block)) leaves others (logs_of (with_body on_disk.payloads (body_text hash block)) on_disk.batches) (with_stored (body_as_stored hash block) from) body_read
        (λ e c has step. bodies_step e c (logs_of on_disk.payloads on_disk.batches) has (body_text hash block) step) (BodyStored hash block) [] body_leads (no_flush (BodyStored hash block) refl) refl

    module _ (new_blocks : OpenStore) (ok : Holds (contents new) (left new (time new)) new_blocks (with_body on_disk.payloads (body_text hash block))) where
      pub body_now : OnDisk limit (contents new) (left new (time new)) new_blocks open_coins (with_stored (body_as_stored hash block) from)
      body_now =
          let after = told_then (λ m n. (f : ℕ) → f ≢ 2 → n f ≡ m f) (contents old) (contents new) on_disk.image others on_disk.told in
          on_disk_now new_blocks open_coins (with_stored (body_as_stored hash block) from) (with_body on_disk.payloads (body_text hash block)) on_disk.batches after.0 after.1 body_read ok
          (rows_beside 2 (λ same. absurd cc) (WithOrWithout on_disk.payloads.bodies (body_text hash block)) leaves others) on_disk.file on_disk.mask on_disk.no_base

      pub body_whole : Writes limit (left old) (left new) (time old) (time new) (contents old) (contents new) [] (BodyStored hash block) from (with_stored (body_as_stored hash block) from)
      body_whole =
          written_whole body_file (WithOrWithout on_disk.payloads.bodies (body_text hash block)) leaves others (logs_of (with_body on_disk.payloads (body_text hash block)) on_disk.batches) (with_stored (body_as_stored hash block) from) body_read
          (λ e c has step. bodies_step e c (logs_of on_disk.payloads on_disk.batches) has (body_text hash block) step) (BodyStored hash block) [] body_leads (no_flush (BodyStored hash block) refl) body_now.is_open.all

  -- ---- coins

  module _ (tip : Hash32) (rows : List Row) (why : Why) (touched : List OutPoint) (fits : BatchFits (record { marker = AtTip tip; rows = rows }))
      (replay : coins_at (choice_of from from.active) tip ≡ Some (coins_after_rows from.active.coins rows))
      (leaves : Leaves time left (At open_coins.log.file (WithOrWithout (texts open_coins.mask on_disk.batches) (batch_text open_coins.mask (record { marker = AtTip tip; rows = rows })))) old new)
      (others : OthersKept open_coins.log.file (contents old) (contents new)) where
    abbrev batch : Batch
    batch = record { marker = AtTip tip; rows = rows }

    abbrev more : List Batch
    more = on_disk.batches ++ batch ∷ []

    reached : IsReached from tip
    reached = tip_reached limit (logs_of on_disk.payloads on_disk.batches) from tip (coins_after_rows from.active.coins rows) read_now replay

    texts_more : (mask : List ℕ) (batches : List Batch) → texts mask (batches ++ batch ∷ []) ≡ texts mask batches ++ batch_text mask batch ∷ []
    texts_more mask [] = refl
    texts_more mask (one ∷ batches) = ap (λ (l : List (List ℕ)). batch_text mask one ∷ l) (texts_more mask batches)

    coins_logs : record (logs_of on_disk.payloads on_disk.batches) { coins = texts first_key on_disk.batches ++ batch_text first_key batch ∷ [] } ≡ logs_of on_disk.payloads more
    coins_logs = ap (λ (l : List (List ℕ)). record (logs_of on_disk.payloads on_disk.batches) { coins = l }) (sym (texts_more first_key on_disk.batches))

    coins_read : IsRead limit first_rules (logs_of on_disk.payloads more) (flushed_to tip rows from)
    coins_read =
        subst (λ (l : Logs). IsRead limit first_rules l (flushed_to tip rows from)) coins_logs
        (batch_added limit first_rules (logs_of on_disk.payloads on_disk.batches) from (batch_text first_key batch) tip batch read_now (batch_again first_key batch fits) refl reached.known reached.reached)

    coins_lead : Leads (Flush Full tip why touched) from (flushed_to tip rows from)
    coins_lead = (
      settled_at from tip (coins_after_rows from.active.coins rows) replay,
      (
          let role = read_now.role in
          λ i. record (stored_in (flushed_to tip rows from)) { role = beside stored_chain (role i) })
          ∙ sym (ap (λ (r : Role Chainstate). with_event (Flush Full tip why touched) (record (stored_in from) { role = beside stored_chain r })) read_now.role),
    )

    coins_steps : (e c : Image) → HasLogs e (logs_of on_disk.payloads on_disk.batches) → At coin_file (WithOrWithout (texts first_key on_disk.batches) (batch_text first_key batch)) e c
        → HasLogs c (logs_of on_disk.payloads on_disk.batches) ⊎ HasLogs c (logs_of on_disk.payloads more)
    coins_steps e c has step = ⊎_elim
        (λ old. inl old)
        (λ new. inr (subst (HasLogs c) coins_logs new))
        (coins_step e c (logs_of on_disk.payloads on_disk.batches) has (batch_text first_key batch) step)

    coins_leave : Leaves time left (At coin_file (WithOrWithout (texts first_key on_disk.batches) (batch_text first_key batch))) old new
    coins_leave =
        subst (λ (mask : List ℕ). Leaves time left (At coin_file (WithOrWithout (texts mask on_disk.batches) (batch_text mask batch))) old new) on_disk.mask
        (subst (λ (f : ℕ). Leaves time left (At f (WithOrWithout (texts open_coins.mask on_disk.batches) (batch_text open_coins.mask batch))) old new) on_disk.file leaves)

    coins_others : OthersKept coin_file (contents old) (contents new)
    coins_others = subst (λ (f : ℕ). OthersKept f (contents old) (contents new)) on_disk.file others

    pub coins_part : WritesPart limit (left old) (left new) (time old) (time new) (contents old) (contents new) (begun_flush Full tip why (time old) ∷ []) (Flush Full tip why touched) from
    coins_part =
        written_part coin_file (WithOrWithout (texts first_key on_disk.batches) (batch_text first_key batch)) coins_leave coins_others (logs_of on_disk.payloads more) (flushed_to tip rows from) coins_read
        coins_steps (Flush Full tip why touched) (begun_flush Full tip why (time old) ∷ []) coins_lead (begun_one tip why touched (time old) (time new) leaves.later) refl

    module _ (new_coins : CoinStore) (ok : coins.Holds (contents new) (left new (time new)) new_coins [] more) (file : new_coins.log.file ≡ open_coins.log.file) (mask : new_coins.mask ≡ open_coins.mask) (base : new_coins.base ≡ open_coins.base) where
      pub coins_now : OnDisk limit (contents new) (left new (time new)) open_blocks new_coins (flushed_to tip rows from)
      coins_now =
          let after = told_then (λ m n. (f : ℕ) → f ≢ coin_file → n f ≡ m f) (contents old) (contents new) on_disk.image coins_others on_disk.told in
          on_disk_now open_blocks new_coins (flushed_to tip rows from) on_disk.payloads more after.0 after.1 coins_read (blocks_beside (WithOrWithout (texts first_key on_disk.batches) (batch_text first_key batch)) coins_leave coins_others) ok
          (file ∙ on_disk.file) (mask ∙ on_disk.mask) (base ∙ on_disk.no_base)

      pub coins_whole : Writes limit (left old) (left new) (time old) (time new) (contents old) (contents new) (done_at (time new) (begun_flush Full tip why (time old)) ∷ []) (Flush Full tip why touched) from (flushed_to tip rows from)
      coins_whole =
          written_whole coin_file (WithOrWithout (texts first_key on_disk.batches) (batch_text first_key batch)) coins_leave coins_others (logs_of on_disk.payloads more) (flushed_to tip rows from) coins_read
          coins_steps (Flush Full tip why touched) (done_at (time new) (begun_flush Full tip why (time old)) ∷ []) coins_lead (done_one tip why touched (time old) (time new) leaves.later) coins_now.is_open.all

-- a flush that hasn't begun makes no device call
pub nothing_begun : (limit : ℕ) (past : ℕ → Image → Type 0) (t : ℕ) (contents : Option Image) (open_blocks : OpenStore) (open_coins : CoinStore) (from : StoreState) (event : Event)
    → ((u v : ℕ) (c : Image) → u ≤ v → v ≤ t → past v c → past u c) → OnDisk limit contents (past t) open_blocks open_coins from → WritesPart limit past past t t contents contents [] event from
nothing_begun limit past t contents open_blocks open_coins from event earlier on_disk = record {
  contents = on_disk.image;
  was = on_disk.told;
  after = on_disk.image;
  told = on_disk.told;
  meets = more_events limit first_rules past past (nothing_at t on_disk.image) (event ∷ []) from (nothing_done limit first_rules past t on_disk.image from earlier on_disk.is_open).meets;
}
