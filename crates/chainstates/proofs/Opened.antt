-- What an opening found, all together.
use Rattle.std.proofs.Common.{◌≡◌, ℕ, List, [], ◌∷◌, Option, Some, Ok, refl, sym, ap, subst, ◌∙◌}
use Rattle.std.specs.Prelude.{unwrap_or}
use Rattle.std.specs.FinMap.{empty}
use Rattle.std.specs.Result.{result_ok}
use Rattle.disk_model.specs.Disk.{Image, Leaves, Quiet}
use Rattle.disk_model.proofs.Moments.{IsSinceEarlier}
use Rattle.base_types.specs.Coins.{Coins}
use Rattle.base_types.specs.declared.hash.Hash32.{Hash32}
use Rattle.block_codec.specs.Genesis.{genesis_hash}
use Rattle.block_store.specs.OpenStore as blocks
use Rattle.block_store.specs.OpenStore.{OpenStore, Payloads}
use Rattle.block_store.proofs.StoreLaws.{quiet_holds}
use Rattle.chain_model.specs.Choice.{coins_at}
use Rattle.chain_model.specs.Tree.{Tree}
use Rattle.chain_state.specs.Standing.{Carry}
use Rattle.chain_state.specs.Waiting.{waits}
use Rattle.chainstates.specs.Opening.{HasOpened, SameLogs, store_in, store_of}
use Rattle.chainstates.specs.Standing.{OpensSession}
use Rattle.chainstates.specs.Waits.{is_left_over}
use Rattle.chainstates.specs.declared.session.Session.{Session}
use Rattle.chainstates.proofs.Breaks.{store_is}
use Rattle.chainstates.proofs.Entries.{coins_quiet, leaves_read}
use Rattle.chainstates.proofs.Leaving.{opening_opens}
use Rattle.chainstates.proofs.StoredBlocks.{named_by}
use Rattle.chainstates.proofs.WaitSteps.{begins_waiting}
use Rattle.coin_store.specs.Batches.{Batch}
use Rattle.coin_store.specs.Store as coins
use Rattle.coin_store.specs.Store.{texts}
use Rattle.coin_store.specs.declared.marker.Marker.{Marker}
use Rattle.coin_store.specs.declared.marker.Marker.TheVariants.{At, Between}
use Rattle.coin_store.specs.declared.store.CoinStore.{CoinStore}
use Rattle.coin_cache.proofs.Meanings.{means_parent}
use Rattle.coin_views.specs.Layers as layers
use Rattle.coin_views.specs.Layers.{LayersStand, block_of, tip_means}
use Rattle.coin_views.specs.declared.layers.Layers.{Layers}
use Rattle.machine.specs.State.{active_coins, begins}
use Rattle.machine.specs.declared.report.Found.{Found}
use Rattle.store_state.specs.Settled.{IsReplay, IsSettled}
use Rattle.store_state.specs.State.{StoreState, StoredBody, Chainstate, choice_of, marker_after, state_of, tip_of_marker, first_rules}
use Rattle.store_state.proofs.Appending.{HasLogs, tree_is_read}
use Rattle.store_writes.specs.OnDisk.{OnDisk}
use Rattle.store_writes.proofs.Images.{all_read, logs_of, holds_logs}

-- ---- the marker

last_of : (start : Hash32) (first : Batch) (batches : List Batch) → coins.marker_after first.marker batches ≡ marker_after start (first ∷ batches)
last_of start first [] = refl
last_of start first (next ∷ batches) = last_of start next batches

pub same_marker : (start : Hash32) (batches : List Batch) → coins.marker_after (At start) batches ≡ marker_after start batches
same_marker start [] = refl
same_marker start (first ∷ batches) = last_of start first batches

abbrev found : Marker → Hash32 → Found
found marker tip = record { marker = marker; tip = tip }

same_found : (m n : Marker) (t u : Hash32) → m ≡ n → t ≡ u → found m t ≡ found n u
same_found m n t u markers tips = λ i. record { marker = markers i; tip = tips i }

-- ---- the coins

replay_here : (store : StoreState) (chain : Chainstate) (marker : Marker) → IsReplay store chain marker → coins_at (choice_of store chain) (tip_of_marker marker) ≡ Some chain.coins
replay_here store chain (At tip) is = is
replay_here store chain (Between new_tip old_tip) is = absurd is

-- a settled store begins with the coins of its rows
pub begins_with_rows : (store : StoreState) → IsSettled store → active_coins (begins store) ≡ store.active.coins
begins_with_rows store settled = ap (λ (o : Option Coins). unwrap_or o empty) (replay_here store store.active store.active.marker settled.rows)

pub carries_rows : (views : Layers) (store : StoreState) → (layers.tip_of views).slots ≡ empty → (block_of views).slots ≡ empty → IsSettled store → Carry views store.active.coins (active_coins (begins store))
carries_rows views store bottom top settled =
    let tip = means_parent (layers.tip_of views) bottom (Some store.active.coins) in
    record {
      stand = record { over_parent = tip.1; over_tip = (means_parent (block_of views) top (tip_means views (Some store.active.coins))).1 };
      tip = tip.0 ∙ ap (λ (c : Coins). Some c) (sym (begins_with_rows store settled));
      top = top;
    }

-- ---- the store

module _ {D : Type 0} (time : D → ℕ) (left : D → ℕ → Image → Type 0) (contents : D → Option Image) (earlier : IsSinceEarlier time left)
    (reads_as : (disk : D) (m : Image) → contents disk ≡ Some m → left disk (time disk) m) (old mid new : D) (limit : ℕ) (before : Image) (open_blocks : OpenStore) (open_coins : CoinStore) (was : contents old ≡ Some before)
    (has : HasOpened before (contents mid) (left mid (time mid)) open_blocks open_coins) (same : Leaves time left SameLogs old mid) (quiet : Quiet time left mid new) (stays : contents new ≡ contents mid)
    (tree : Tree) (bodies : List StoredBody) (reads : store_in limit has.payloads has.rows.batches ≡ Ok (store_of tree bodies has.rows.batches)) where
  store : StoreState
  store = store_of tree bodies has.rows.batches

  here : blocks.Holds (contents new) (left new (time new)) open_blocks has.payloads
  here = quiet_holds time left contents earlier mid new quiet stays open_blocks has.payloads has.block_files

  rows_here : coins.Holds (contents new) (left new (time new)) open_coins [] has.rows.batches
  rows_here = coins_quiet time left contents earlier mid new quiet stays open_coins has.rows.batches has.rows.no_base has.rows.coin_rows

  stands_for : (c : Image) → HasLogs c (logs_of has.payloads has.rows.batches) → state_of limit first_rules c ≡ Some (store_of tree bodies has.rows.batches)
  stands_for c logs = ap result_ok (store_is limit c has.payloads has.rows.batches logs ∙ reads)

  logs_in : (c : Image) → left new (time new) c → HasLogs c (logs_of has.payloads has.rows.batches)
  logs_in c now = holds_logs (contents new) (left new (time new)) open_blocks open_coins has.payloads has.rows.batches here rows_here has.rows.file has.rows.mask c now

  after : Image
  after = here.headers.holds.image

  pub opens_session : (session : Session) → session.shared.tree.tree ≡ tree → session.shared.tree.limit ≡ limit → session.shared.blocks ≡ open_blocks → session.active.store ≡ open_coins
      → session.active.tip ≡ tip_of_marker (coins.marker_after open_coins.start has.rows.batches)
      → coins.last_marker session.active.store.start session.active.store.markers.items ≡ coins.marker_after open_coins.start has.rows.batches
      → (layers.tip_of session.active.layers).slots ≡ empty → (block_of session.active.layers).slots ≡ empty
      → ((parent hash : Hash32) → waits session.active.waiting parent hash ≡ is_left_over tree.headers open_blocks.hashes session.active.tip parent hash)
      → OpensSession limit (left old) (left new) (time old) (time new) before (contents new) session
  unfolding store
  opens_session session is_tree most is_blocks is_coins is_tip is_marker bottom top are =
      let told : contents new ≡ Some here.headers.holds.image = here.headers.holds.told in
      let first = stands_for before (record { headers = has.headers; bodies = has.bodies; coins = has.rows.rows }) in
      let files : OnDisk limit (contents new) (left new (time new)) open_blocks open_coins store = record {
        image = here.headers.holds.image;
        told = told;
        is_open = record { reads = reads_as new here.headers.holds.image told; all = λ c now. stands_for c (logs_in c now) };
        payloads = has.payloads;
        batches = has.rows.batches;
        block_files = here;
        coin_rows = rows_here;
        file = has.rows.file;
        mask = has.rows.mask;
        no_base = has.rows.no_base;
      } in
      let last = ap (λ (m : Marker). coins.marker_after m has.rows.batches) has.rows.start ∙ same_marker genesis_hash has.rows.batches in
      let at = is_tip ∙ ap tip_of_marker last in
      record {
        after = here.headers.holds.image;
        told = told;
        store = store;
        opening = opening_opens time left contents earlier reads_as limit first_rules old new (leaves_read time left contents earlier old mid new same quiet) before here.headers.holds.image store was told first;
        is_open = files.is_open;
        stands = record {
          files = subst (λ (c : CoinStore). OnDisk limit (contents new) (left new (time new)) session.shared.blocks c store) (sym is_coins) (subst (λ (b : OpenStore). OnDisk limit (contents new) (left new (time new)) b open_coins store) (sym is_blocks) files);
          headers = is_tree;
          most = most;
          grown = tree_is_read limit first_rules (logs_of has.payloads has.rows.batches) store (all_read limit (contents new) (left new (time new)) open_blocks open_coins store files);
          tree = refl;
          bodies = refl;
          start = refl;
          start_coins = refl;
          kept = refl;
          tip = at;
          begun = ap (λ (c : CoinStore). c.start) is_coins ∙ has.rows.start;
          role = refl;
          coins = λ settled. record {
            valid = replay_here store store.active store.active.marker settled.rows ∙ ap (λ (c : Coins). Some c) (sym (begins_with_rows store settled));
            carry = carries_rows session.active.layers store bottom top settled;
            waiting = begins_waiting store settled open_blocks.hashes (named_by limit (contents new) (left new (time new)) open_blocks open_coins store files) session.active.waiting session.active.tip at are;
          };
        };
        found =
            same_found (coins.last_marker session.active.store.start session.active.store.markers.items) store.active.marker session.active.tip (tip_of_marker store.active.marker)
            (is_marker ∙ last) at;
      }
