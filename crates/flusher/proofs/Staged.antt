-- Rows that are staged one after the other, and the payload that they make.
use Rattle.std.proofs.Common.{◌≡◌, inl, inr, ℕ, zero, suc, ◌+◌, ◌<◌, ◌≤◌, ◌++◌, List, [], ◌∷◌, length, take, drop, get_or, vec_len, Option, Some, None, IfSome, Contains, refl, sym, ap, subst, ◌∙◌, arith, le_refl}
use Rattle.std.specs.FinMap.{FinMap, get}
use Rattle.std.specs.Ordering.{nat_cmp}
use Rattle.std.proofs.lemmas.List.{get_or_read, length-append, map_push, take-append-drop, take_more}
use Rattle.std.proofs.lemmas.List.Concat.{flat_map-append}
use Rattle.slot_pool.specs.Slots.{IsIn}
use Rattle.base_types.specs.Coins.{CoinFits}
use Rattle.base_types.specs.declared.coin.Coin.{Coin}
use Rattle.base_types.specs.declared.fault.StoreFault.{StoreFault}
use Rattle.base_types.specs.declared.fault.StoreFault.TheVariants.{NoMemory, DiskFailed, Damaged, Full, CacheFull}
use Rattle.base_types.specs.declared.hash.Hash32.{Hash32}
use Rattle.base_types.specs.declared.hash.OutPoint.{OutPoint}
use Rattle.batch_log.specs.OpenLog.{IsOver, RoomCause}
use Rattle.coin_cache.specs.Contents.{Contents, Entry}
use Rattle.coin_cache.specs.Entries.{IsSound}
use Rattle.coin_store.specs.Batches.{Row, ValueFits, batch_text, marker_text, row_text, rows_text}
use Rattle.coin_store.specs.Staging.{IsReady, IsStaged, SameRows}
use Rattle.coin_store.specs.declared.marker.Marker.TheVariants.{At}
use Rattle.coin_store.specs.declared.store.CoinStore.{CoinStore}
use Rattle.coin_store.proofs.BatchSteps.{text_push}
use Rattle.coin_store.proofs.StagingLaws.{row_fits}
use Rattle.flusher.specs.Changes.{AreFlagged, IsStagedFor, keys_of, payload_length, row_of, rows_in}
use Rattle.flusher.specs.Flushing.{AreChanges, PayloadFails}
use Rattle.flusher.proofs.Rows.{flagged_entry, named_in, row_first, rows_then}

abbrev pub row_with : OutPoint → Option Coin → Row
row_with key coin = record { key = key; coin = coin }

value_fits : (coin : Option Coin) → IfSome coin CoinFits → ValueFits coin
value_fits None fits = tt
value_fits (Some coin) fits = fits

-- ---- one change

-- the change in a slot
pub record IsChange (c : Contents) (slot : ℕ) (key : OutPoint) (coin : Option Coin) : Type 0 where
  pub entry : Entry
  pub at : get c.slots slot ≡ Some entry
  pub row : row_with key coin ≡ row_of entry
  pub fits : ValueFits coin
  pub inside : IsIn slot c.changes

pub change_of : (c : Contents) (slot : ℕ) → IsSound c → IsIn slot c.changes → (key : OutPoint) (coin : Option Coin) → ((x : Entry) → get c.slots slot ≡ Some x → (key ≡ x.key) × (coin ≡ x.coin)) → IsChange c slot key coin
change_of c slot sound flagged key coin is =
    let f = flagged_entry c sound slot flagged in
    let same = is f.entry f.at in
    record {
      entry = f.entry;
      at = f.at;
      row = λ i. row_with (same.0 i) (same.1 i);
      fits = value_fits coin (subst (λ (o : Option Coin). IfSome o CoinFits) (sym same.1) (sound.fits slot f.entry f.at));
      inside = flagged;
    }

-- that in the slot of a turn
pub change_at : (c : Contents) (slots : List ℕ) (i slot : ℕ) → IsSound c → AreFlagged c slots → i < length slots → slot ≡ get_or slots i slot → (key : OutPoint) (coin : Option Coin)
    → ((x : Entry) → get c.slots slot ≡ Some x → (key ≡ x.key) × (coin ≡ x.coin)) → IsChange c (get_or slots i 0) key coin
change_at c slots i slot sound flagged within is key coin ensures =
    let same : slot ≡ get_or slots i 0 = get_or_read slots i slot within is 0 in
    change_of c (get_or slots i 0) sound (flagged i 0 within) key coin (λ x at. ensures x (ap (get c.slots) same ∙ at))

-- ---- one row more

module _ (m : FinMap nat_cmp Entry) (slots : List ℕ) (i : ℕ) (x : Entry) (within : i < length slots) (at : get m (get_or slots i 0) ≡ Some x) where
  pub rows_more : rows_in m (take (i + 1) slots) ≡ rows_in m (take i slots) ++ row_of x ∷ []
  rows_more =
      ap (rows_in m) (take_more slots i 0 within) ∙ rows_then m (take i slots) (get_or slots i 0 ∷ [])
      ∙ ap (λ (l : List Row). rows_in m (take i slots) ++ l) (row_first m (get_or slots i 0) x [] at)

  pub keys_more : keys_of (rows_in m (take (i + 1) slots)) ≡ keys_of (rows_in m (take i slots)) ++ x.key ∷ []
  keys_more = ap keys_of rows_more ∙ map_push (λ row. row.key) (rows_in m (take i slots)) (row_of x)

  pub length_more : (mask : List ℕ) → payload_length mask (rows_in m (take (i + 1) slots)) ≡ payload_length mask (rows_in m (take i slots)) + length (row_text mask (row_of x))
  length_more mask =
      let text = ap length (ap (rows_text mask) rows_more ∙ text_push mask (rows_in m (take i slots)) (row_of x)) in
      let parts = length-append (rows_text mask (rows_in m (take i slots))) (row_text mask (row_of x)) in
      omega (arith, text, parts)

  -- the rows so far and this one are a part of all
  pub row_within : (mask : List ℕ) → payload_length mask (rows_in m (take i slots)) + length (row_text mask (row_of x)) ≤ payload_length mask (rows_in m slots)
  row_within mask =
      let more = length_more mask in
      let all : rows_in m slots ≡ rows_in m (take (i + 1) slots) ++ rows_in m (drop (i + 1) slots) =
      ap (rows_in m) (sym (take-append-drop (i + 1) slots)) ∙ rows_then m (take (i + 1) slots) (drop (i + 1) slots) in
      let text = ap length (ap (rows_text mask) all ∙ flat_map-append (row_text mask) (rows_in m (take (i + 1) slots)) (rows_in m (drop (i + 1) slots))) in
      let parts = length-append (rows_text mask (rows_in m (take (i + 1) slots))) (rows_text mask (rows_in m (drop (i + 1) slots))) in
      omega (arith, more, text, parts)

  -- by the store's own mask
  pub row_has_room : (mask own : List ℕ) (row : Row) → own ≡ mask → row ≡ row_of x → 33 + length (rows_text own (rows_in m (take i slots))) + length (row_text own row) ≤ payload_length mask (rows_in m slots)
  row_has_room mask own row same is =
      subst (λ (k : List ℕ). 33 + length (rows_text k (rows_in m (take i slots))) + length (row_text k row) ≤ payload_length mask (rows_in m slots)) (sym same)
      (subst (λ (r : Row). 33 + length (rows_text mask (rows_in m (take i slots))) + length (row_text mask r) ≤ payload_length mask (rows_in m slots)) (sym is) (row_within mask))

-- ---- a turn of each loop

module _ (c : Contents) (slots : List ℕ) (i : ℕ) (key : OutPoint) (coin : Option Coin) (within : i < length slots) (change : IsChange c (get_or slots i 0) key coin) where
  abbrev row : Row
  row = row_with key coin

  pub length_turn : (mask : List ℕ) (n len : ℕ) → n ≡ payload_length mask (rows_in c.slots (take i slots)) → len ≡ length (row_text mask row) → n + len ≡ payload_length mask (rows_in c.slots (take (i + 1) slots))
  length_turn mask n len so_far is =
      let more = length_more c.slots slots i change.entry within change.at mask in
      let same = ap (λ (r : Row). length (row_text mask r)) change.row in
      omega (arith, so_far, is, more, same)

  pub keys_turn : (keys more : List OutPoint) → keys ≡ keys_of (rows_in c.slots (take i slots)) → more ≡ keys ++ key ∷ [] → more ≡ keys_of (rows_in c.slots (take (i + 1) slots))
  keys_turn keys more so_far is =
      is ∙ ap (λ (l : List OutPoint). l ++ key ∷ []) so_far ∙ ap (λ (r : Row). keys_of (rows_in c.slots (take i slots)) ++ r.key ∷ []) change.row
      ∙ sym (keys_more c.slots slots i change.entry within change.at)

  pub stage_room : (mask : List ℕ) (coins : CoinStore) → coins.mask ≡ mask → IsStagedFor mask coins (rows_in c.slots slots) (rows_in c.slots (take i slots)) → vec_len coins.staged.bytes + length (row_text coins.mask row) ≤ coins.staged.room
  stage_room mask coins same staged =
      row_fits coins (keys_of (rows_in c.slots slots)) (payload_length mask (rows_in c.slots slots)) (1 + length (keys_of (rows_in c.slots slots))) (5 + payload_length mask (rows_in c.slots slots)) (rows_in c.slots (take i slots)) row staged
      (row_has_room c.slots slots i change.entry within change.at mask coins.mask row same change.row)

  stage_named : Contains (keys_of (rows_in c.slots slots)) key
  stage_named = subst (λ (r : Row). Contains (keys_of (rows_in c.slots slots)) r.key) (sym change.row) (named_in c.slots slots (get_or slots i 0) change.entry (in_at slots i within) change.at)
    where
      in_at : (all : List ℕ) (k : ℕ) → k < length all → IsIn (get_or all k 0) all
      in_at [] k inside = absurd (omega (arith, inside))
      in_at (s ∷ all) zero inside = inl refl
      in_at (s ∷ all) (suc k) inside = inr (in_at all k (omega arith))

  pub stage_turn : (mask : List ℕ) (old new : CoinStore)
      → ((keys : List OutPoint) (payload payloads total : ℕ) (rows : List Row) → IsStaged old keys payload payloads total rows → Contains keys key → IsStaged new keys payload payloads total (rows ++ row ∷ []))
      → IsStagedFor mask old (rows_in c.slots slots) (rows_in c.slots (take i slots)) → IsStagedFor mask new (rows_in c.slots slots) (rows_in c.slots (take (i + 1) slots))
  stage_turn mask old new stages staged =
      let keys = keys_of (rows_in c.slots slots) in
      let payload = payload_length mask (rows_in c.slots slots) in
      let more : rows_in c.slots (take i slots) ++ row ∷ [] ≡ rows_in c.slots (take (i + 1) slots) =
      ap (λ (r : Row). rows_in c.slots (take i slots) ++ r ∷ []) change.row ∙ sym (rows_more c.slots slots i change.entry within change.at) in
      subst (λ (l : List Row). IsStaged new keys payload (1 + length keys) (5 + payload) l) more (stages keys payload (1 + length keys) (5 + payload) (rows_in c.slots (take i slots)) staged stage_named)

-- ---- the payload

batch_long : (mask : List ℕ) (rows : List Row) (tip : Hash32) → length tip.bytes ≡ 32 → length (batch_text mask (record { marker = At tip; rows = rows })) ≡ payload_length mask rows
unfolding batch_text marker_text
batch_long mask rows tip whole = omega (arith, length-append (0x42 ∷ tip.bytes) (rows_text mask rows), whole)

pub ready_for : (mask : List ℕ) (coins : CoinStore) (rows : List Row) (tip : Hash32) → coins.mask ≡ mask → length tip.bytes ≡ 32 → IsStagedFor mask coins rows rows → IsReady coins (At tip)
ready_for mask coins rows tip same whole staged =
    let n = length (batch_text coins.mask (record { marker = At tip; rows = rows })) in
    let len : n ≡ payload_length mask rows = batch_long coins.mask rows tip whole ∙ ap (λ (k : List ℕ). payload_length k rows) same in
    let total : 5 + payload_length mask rows ≡ 5 + n + 0 = omega (arith, len) in
    record {
      keys = keys_of rows;
      payload = payload_length mask rows;
      payloads = length (keys_of rows);
      total = 0;
      rows = rows;
      staged = subst (λ (t : ℕ). IsStaged coins (keys_of rows) (payload_length mask rows) (1 + length (keys_of rows)) t rows) total staged;
      fits = omega (arith, len);
    }

-- why they may not be staged
pub stage_fails : (coins : CoinStore) (cache : Contents) (rows : List Row) (tip : Hash32) (before now : ℕ) → AreChanges cache rows → length tip.bytes ≡ 32 → (fault : StoreFault) → RoomCause coins.log (5 + payload_length coins.mask rows) fault
    → PayloadFails coins cache tip before now fault
stage_fails coins cache rows tip before now are whole NoMemory cause = tt
stage_fails coins cache rows tip before now are whole DiskFailed cause = absurd cause
stage_fails coins cache rows tip before now are whole (Full file) cause =
    (cause.0, (rows, are, subst (λ (n : ℕ). IsOver coins.log (5 + n)) (sym (batch_long coins.mask rows tip whole)) cause.1))
stage_fails coins cache rows tip before now are whole (Damaged file at) cause = absurd cause
stage_fails coins cache rows tip before now are whole CacheFull cause = absurd cause

-- ---- the store stays

-- more rows that are staged
pub staged_rows : (old new : CoinStore) → new ≡ record old { staged = new.staged } → SameRows old new
staged_rows old new is = subst (λ (coins : CoinStore). SameRows old coins) (sym is) (record {
  log = record { file = refl; limit = refl; places = refl; end = refl; spare = le_refl old.log.spare; buffer = le_refl old.log.buffer };
  base = refl;
  mask = refl;
  start = refl;
  salt = refl;
  base_index = refl;
  markers = refl;
  places = λ q. refl;
})

pub rows_again : (old mid new : CoinStore) → SameRows old mid → SameRows mid new → SameRows old new
rows_again old mid new first second =
    let spare = first.log.spare in
    let more_spare = second.log.spare in
    let buffer = first.log.buffer in
    let more_buffer = second.log.buffer in
    record {
      log = record {
        file = second.log.file ∙ first.log.file;
        limit = second.log.limit ∙ first.log.limit;
        places = second.log.places ∙ first.log.places;
        end = second.log.end ∙ first.log.end;
        spare = omega (arith, spare, more_spare);
        buffer = omega (arith, buffer, more_buffer);
      };
      base = second.base ∙ first.base;
      mask = second.mask ∙ first.mask;
      start = second.start ∙ first.start;
      salt = second.salt ∙ first.salt;
      base_index = second.base_index ∙ first.base_index;
      markers = second.markers ∙ first.markers;
      places = λ q. second.places q ∙ first.places q;
    }
