-- One staged row more, and one payload more.
use Rattle.std.specs.Prelude.{◌≡◌, ℕ, ◌+◌, ◌-◌, ◌^◌, ◌<◌, ◌≤◌, All, Contains, List, [], ◌∷◌, ◌++◌, length, take, drop, get_or, Option, Some, vec_len, vec_capacity}
use Rattle.std.specs.Global.{Vec}
use Rattle.std.specs.FinMap.{get}
use Rattle.std.specs.List.{AllByRecursion}
use Rattle.std.proofs.Common.{refl, sym, ap, subst, ◌∙◌, arith}
use borrow.Rule.Slice.PartMut.{put_mid}
use Rattle.std.proofs.lemmas.List.{length-append, length-take, length-drop, drop-append-le, take_all, drop_all}
use Rattle.std.proofs.lemmas.List.Elements.{All-contains}
use Rattle.disk_model.specs.Disk.{Image}
use Rattle.base_types.specs.declared.hash.OutPoint.{OutPoint}
use Rattle.batch_log.specs.OpenLog.{OpenLog, Stands, Unchanged, HasRoomInPlace}
use Rattle.batch_log.specs.Records.{body, records, payload_in, HoldsLog}
use Rattle.coin_store.specs.declared.marker.Marker.{Marker}
use Rattle.coin_store.specs.declared.marker.Marker.TheVariants.{At, Between}
use Rattle.coin_store.specs.declared.store.CoinStore.{CoinStore}
use Rattle.coin_store.specs.declared.store.Marked.{Marked}
use Rattle.coin_store.specs.Base.{base_texts, base_places}
use Rattle.coin_store.specs.Batches.{Row, Batch, value_text, head_text, row_text, rows_text, marker_text, batch_text, RowFits, MarkerFits, BatchFits}
use Rattle.coin_store.specs.Places.{CoinPlaces, places_after_rows, places_after_batch, places_after}
use Rattle.coin_store.specs.OpenIndex.{OpenIndex, IsVacant, HasFewVacant}
use Rattle.coin_store.specs.Staged.{HasEntry, Agrees, StandsFrom, coins_in_rows, places_noted}
use Rattle.coin_store.specs.Staging.{IsStaged, staged_text}
use Rattle.coin_store.specs.Store.{Knows, Holds, marks, texts}
use Rattle.coin_store.specs.declared.staging.StagedRow.{StagedRow}
use Rattle.coin_store.proofs.BatchSteps.{text_push, all_push}
use Rattle.coin_store.proofs.Noting.{noted_entries, noted_agrees, noted_few, coins_fit, coins_named, coins_push}
use Rattle.coin_store.proofs.StagedBytes.{end_written, unframed_rows}
use Rattle.coin_store.proofs.Vacant.{few_same}
use Rattle.coin_store.proofs.Scanning.{texts_push, marks_push, after_push}

-- ---- one row more

pub staged_push : (old new : CoinStore) (keys : List OutPoint) (payload payloads total : ℕ) (rows : List Row) (row : Row)
    → new.staged.bytes.items ≡ old.staged.bytes.items ++ row_text old.mask row
    → new.staged.rows.items ≡ old.staged.rows.items ++ record { key = row.key; at = vec_len old.staged.bytes + length (head_text row.key (length (value_text row.coin))); len = length (value_text row.coin) } ∷ []
    → new.staged.room ≡ old.staged.room
    → new.index ≡ old.index → new.mask ≡ old.mask → new.markers ≡ old.markers → new.log ≡ old.log
    → IsStaged old keys payload payloads total rows → Contains keys row.key → RowFits row → IsStaged new keys payload payloads total (rows ++ row ∷ [])
staged_push old new keys payload payloads total rows row text coin capacity index mask markers log s named fits =
    let bytes = s.bytes in
    let front = s.front in
    let head = length (head_text row.key (length (value_text row.coin))) in
    let reach : vec_len old.staged.bytes ≡ 69 + length (rows_text old.mask rows) = omega (arith, front, old.staged.bytes.ok.0, ap length s.text, length-drop 69 old.staged.bytes.items) in
    record {
      entries = subst (λ (i : OpenIndex). All (HasEntry i.places) keys) (sym index) s.entries;
      few_vacant = subst (λ (i : OpenIndex). HasFewVacant i keys) (sym index) s.few_vacant;
      named = all_push (λ row. Contains keys row.key) rows row s.named named;
      fit = all_push RowFits rows row s.fit fits;
      front = omega (arith, ap length text, length-append old.staged.bytes.items (row_text old.mask row), front);
      text = ap (drop 69) text ∙ drop-append-le 69 old.staged.bytes.items (row_text old.mask row) front ∙ ap (λ (t : List ℕ). t ++ row_text old.mask row) s.text ∙ sym (text_push old.mask rows row)
          ∙ ap (λ (m : List ℕ). rows_text m (rows ++ row ∷ [])) (sym mask);
      coins = coin ∙ ap (λ (l : List StagedRow). l ++ record { key = row.key; at = vec_len old.staged.bytes + head; len = length (value_text row.coin) } ∷ []) s.coins
          ∙ ap (λ (n : ℕ). coins_in_rows old.mask 69 rows ++ record { key = row.key; at = n + head; len = length (value_text row.coin) } ∷ []) reach
          ∙ sym (coins_push old.mask rows row 69) ∙ ap (λ (m : List ℕ). coins_in_rows m 69 (rows ++ row ∷ [])) (sym mask);
      bytes = omega (arith, bytes, capacity);
      short = s.short;
      marked = subst (λ (m : Vec Marked). vec_len m + payloads ≤ vec_capacity m) (sym markers) s.marked;
      room = subst (λ (l : OpenLog). HasRoomInPlace l payloads total) (sym log) s.room;
    }

all_entries : (index : CoinPlaces) (keys : List OutPoint) (rows : List Row) → All (HasEntry index) keys → AllByRecursion (λ row. Contains keys row.key) rows → AllByRecursion (λ row. HasEntry index row.key) rows
all_entries index keys [] entries named = tt
all_entries index keys (row ∷ rows) entries named = (All-contains (HasEntry index) keys row.key entries named.0, all_entries index keys rows entries named.1)

-- the outpoints of staged rows have entries
pub staged_named : (store : CoinStore) (keys : List OutPoint) (payload payloads total : ℕ) (rows : List Row) → IsStaged store keys payload payloads total rows → All (λ (r : StagedRow). HasEntry store.index.places r.key) store.staged.rows.items
staged_named store keys payload payloads total rows s =
    subst (λ (l : List StagedRow). All (λ (r : StagedRow). HasEntry store.index.places r.key) l) (sym s.coins) (coins_named store.index.places store.mask rows 69 (all_entries store.index.places keys rows s.entries s.named))

-- and their coins stand in a record of the log that begins at this gate
pub staged_stand : (store : CoinStore) (keys : List OutPoint) (payload payloads total : ℕ) (rows : List Row) (gate from len : ℕ) → IsStaged store keys payload payloads total rows → from ≤ 69 → len ≡ 69 - from + length (rows_text store.mask rows)
    → gate + (5 + len) < 2 ^ 64 → len < 2 ^ 32 → All (StandsFrom gate from) store.staged.rows.items
staged_stand store keys payload payloads total rows gate from len s begun is far short =
    subst (All (StandsFrom gate from)) (sym s.coins) (coins_fit gate from store.mask rows 69 begun (omega (arith, is, far, begun)) (omega (arith, is, short)))

-- and behind a marker they are the text of its batch
pub staged_is : (store : CoinStore) (marker : Marker) (keys : List OutPoint) (payload payloads total : ℕ) (rows : List Row) → IsStaged store keys payload payloads total rows
    → staged_text store marker ≡ batch_text store.mask (record { marker = marker; rows = rows })
unfolding batch_text
staged_is store marker keys payload payloads total rows s = ap (λ (t : List ℕ). marker_text marker ++ t) s.text

-- each marker has a letter
pub marker_some : (marker : Marker) → 0 < length (marker_text marker)
unfolding marker_text
marker_some (At tip) = omega arith
marker_some (Between new_tip old_tip) = omega arith

-- ---- one payload more

one_record_more : (payloads : List (List ℕ)) (payload : List ℕ) → length (records (payloads ++ payload ∷ [])) ≡ length (records payloads) + (5 + length payload)
one_record_more [] payload = omega (arith, length-append (1 ∷ body payload) [])
one_record_more (first ∷ payloads) payload =
    omega (arith, one_record_more payloads payload, length-append (1 ∷ body first) (records (payloads ++ payload ∷ [])), length-append (1 ∷ body first) (records payloads))

pub knows_push : (old new : CoinStore) (base : List (List Row)) (batches : List Batch) (batch : Batch) → Knows old base batches → BatchFits batch → new.log.end ≡ old.log.end + (5 + length (batch_text old.mask batch))
    → new.base_index ≡ old.base_index → new.base ≡ old.base → new.mask ≡ old.mask → new.log.file ≡ old.log.file → new.markers.items ≡ old.markers.items ++ record { marker = batch.marker; at = old.log.end } ∷ []
    → Agrees new.index.places (places_after_rows old.log.file old.mask old.log.end (length (marker_text batch.marker)) (places_after old.log.file old.mask 0 (base_places old.base old.mask base) batches) batch.rows)
    → Knows new base (batches ++ batch ∷ [])
knows_push old new base batches batch k fits further alone first mask file markers agree =
    let end = k.end in
    let at : old.log.end ≡ 0 + length (records (texts old.mask batches)) = omega (arith, end) in
    let payload = batch_text old.mask batch in
    let whole : length (records (texts old.mask (batches ++ batch ∷ []))) ≡ length (records (texts old.mask batches)) + (5 + length payload) =
    ap (λ (p : List (List ℕ)). length (records p)) (texts_push (batch_text old.mask) batches batch) ∙ one_record_more (texts old.mask batches) payload in
    let places = base_places old.base old.mask base in
    record {
      base_fits = k.base_fits;
      base_none = λ none. k.base_none (sym first ∙ none);
      fits = all_push BatchFits batches batch k.fits fits;
      markers = markers
          ∙ ap (λ (l : List Marked). l ++ record { marker = batch.marker; at = old.log.end } ∷ []) k.markers
          ∙ ap (λ (n : ℕ). marks old.mask 0 batches ++ record { marker = batch.marker; at = n } ∷ []) at
          ∙ sym (marks_push old.mask 0 batches batch)
          ∙ ap (λ (m : List ℕ). marks m 0 (batches ++ batch ∷ [])) (sym mask);
      base_places = ap (λ (i : OpenIndex). i.places) alone ∙ k.base_places
          ∙ ap (λ (b : Option ℕ). base_places b old.mask base) (sym first)
          ∙ ap (λ (m : List ℕ). base_places new.base m base) (sym mask);
      end = further ∙ ap (λ (n : ℕ). n + (5 + length payload)) end ∙ sym whole ∙ ap (λ (m : List ℕ). length (records (texts m (batches ++ batch ∷ [])))) (sym mask);
      places = λ q. agree q
          ∙ ap (λ (n : ℕ). get (places_after_batch old.log.file old.mask n (places_after old.log.file old.mask 0 places batches) batch) q) at
          ∙ ap (λ (p : CoinPlaces). get p q) (sym (after_push old.log.file old.mask 0 places batches batch))
          ∙ ap (λ (f : ℕ). get (places_after f old.mask 0 places (batches ++ batch ∷ [])) q) (sym file)
          ∙ ap (λ (b : Option ℕ). get (places_after new.log.file old.mask 0 (base_places b old.mask base) (batches ++ batch ∷ [])) q) (sym first)
          ∙ ap (λ (m : List ℕ). get (places_after new.log.file m 0 (base_places new.base m base) (batches ++ batch ∷ [])) q) (sym mask);
    }

-- the payload that is written, in its frame
pub payload_is : (shown items text : List ℕ) (from : ℕ) → shown ≡ items → payload_in (drop from items) ≡ text → payload_in (take (length shown - from) (drop from shown)) ≡ text
payload_is shown items text from is there = ap payload_in (take_all (length shown - from) (drop from shown) (omega (arith, length-drop from shown)) ∙ ap (drop from) is) ∙ there

-- written in place and with the closing byte taken away, the rows are as before
pub rows_kept : (from n : ℕ) (items shown frame after text rows : List ℕ) → shown ≡ items → n ≡ length items → 70 ≤ n → 4 ≤ from → from + length text ≡ 69
    → payload_in (drop (from - 4) items) ≡ text ++ rows
    → length frame ≡ length (take (length shown - (from - 4)) (drop (from - 4) shown)) → payload_in frame ≡ payload_in (take (length shown - (from - 4)) (drop (from - 4) shown))
    → let a = from - 4 in (let now = put_mid a (length shown - a) shown frame in (let written = take n (now ++ drop (length now) items) in (after ≡ take (length written - 1) written → drop 69 after ≡ rows)))
rows_kept from n items shown frame after text rows is size long room begins there same payload done =
    let a = from - 4 in
    let k = length shown - a in
    let part : length (take k (drop a shown)) ≡ k = omega (arith, length-take k (drop a shown), length-drop a shown) in
    let within : a ≤ length items = omega (arith, begins, long, size) in
    let whole = end_written a k n items shown frame is size within refl (same ∙ part) in
    ap (drop 69) done
    ∙ ap (λ (l : List ℕ). drop 69 (take (length l - 1) l)) whole
    ∙ unframed_rows (take a items) frame text rows (omega (arith, length-take a items, within, room, begins)) (omega (arith, same, part, ap length is, size, long, begins, room))
    (payload ∙ payload_is shown items (text ++ rows) a is there)

-- what the store knows with one batch more
pub learned : (old new : CoinStore) (base : List (List Row)) (batches : List Batch) (keys : List OutPoint) (payload payloads total : ℕ) (marker : Marker) (rows : List Row) (from : ℕ) → Knows old base batches
    → IsStaged old keys payload payloads total rows → MarkerFits marker → from + length (marker_text marker) ≡ 69 → new.log.end ≡ old.log.end + (5 + length (batch_text old.mask (record { marker = marker; rows = rows })))
    → new.base_index ≡ old.base_index → new.base ≡ old.base → new.mask ≡ old.mask → new.log.file ≡ old.log.file → new.markers.items ≡ old.markers.items ++ record { marker = marker; at = old.log.end } ∷ []
    → new.index.places ≡ places_noted old.log.file old.log.end from old.index.places old.staged.rows.items → Knows new base (batches ++ record { marker = marker; rows = rows } ∷ [])
learned old new base batches keys payload payloads total marker rows from k s marked begins further alone first mask file markers noted =
    let places = places_after old.log.file old.mask 0 (base_places old.base old.mask base) batches in
    let start : 69 ≡ from + length (marker_text marker) = omega (arith, begins) in
    let agree : Agrees (places_noted old.log.file old.log.end from old.index.places (coins_in_rows old.mask 69 rows)) (places_after_rows old.log.file old.mask old.log.end (length (marker_text marker)) places rows) =
    noted_agrees old.log.file old.log.end from old.mask old.index.places places rows 69 (length (marker_text marker)) start s.fit k.places in
    let is : new.index.places ≡ places_noted old.log.file old.log.end from old.index.places (coins_in_rows old.mask 69 rows) = noted ∙ ap (places_noted old.log.file old.log.end from old.index.places) s.coins in
    knows_push old new base batches (record { marker = marker; rows = rows }) k (record { marker = marked; rows = s.fit }) further alone first mask file markers
    (subst (λ (i : CoinPlaces). Agrees i (places_after_rows old.log.file old.mask old.log.end (length (marker_text marker)) places rows)) (sym is) agree)

module _ (contents : Option Image) (left : Image → Type 0) (old new : CoinStore) (log : OpenLog) (base : List (List Row)) (batches : List Batch) (batch : Batch) where
  pub applied : (payload : List ℕ) → Holds contents left old base batches → (now : Option Image) (left_now : Image → Type 0)
      → Stands now left_now log (texts old.mask batches ++ payload ∷ []) → ((f : ℕ) → old.base ≡ Some f → HoldsLog now left_now f (base_texts old.mask base))
      → payload ≡ batch_text old.mask batch → new.log ≡ log → log.file ≡ old.log.file → new.base ≡ old.base → new.mask ≡ old.mask → Knows new base (batches ++ batch ∷ [])
      → Holds now left_now new base (batches ++ batch ∷ [])
  applied payload h now left_now s stands is log_is file first mask knows =
      let payloads : texts old.mask batches ++ payload ∷ [] ≡ texts new.mask (batches ++ batch ∷ []) =
      ap (λ (p : List ℕ). texts old.mask batches ++ p ∷ []) is ∙ sym (texts_push (batch_text old.mask) batches batch) ∙ ap (λ (m : List ℕ). texts m (batches ++ batch ∷ [])) (sym mask) in
      let new_file : new.log.file ≡ old.log.file = ap (λ (l : OpenLog). l.file) log_is ∙ file in
      record {
        knows = knows;
        stands = subst (λ (l : OpenLog). Stands now left_now l (texts new.mask (batches ++ batch ∷ []))) (sym log_is) (subst (Stands now left_now log) payloads s);
        base_stands = λ f this. subst (λ (m : List ℕ). HoldsLog now left_now f (base_texts m base)) (sym mask) (stands f (sym first ∙ this));
        apart = λ this. h.apart (sym first ∙ this ∙ ap (λ (f : ℕ). Some f) new_file);
      }

pub restaged : (old new : CoinStore) (keys : List OutPoint) (payload payloads before total : ℕ) (rows : List Row) (from : ℕ) → IsStaged old keys payload (1 + payloads) before rows
    → new.index.places ≡ places_noted old.log.file old.log.end from old.index.places old.staged.rows.items → old.index.size ≤ new.index.size
    → length new.staged.bytes.items ≡ 69 → new.staged.rows.items ≡ [] → new.staged.room ≡ old.staged.room
    → vec_len new.markers ≡ vec_len old.markers + 1 → vec_capacity old.markers ≤ vec_capacity new.markers → HasRoomInPlace new.log payloads total
    → IsStaged new keys payload payloads total []
restaged old new keys payload payloads before total rows from s noted size few none capacity marked_more more room =
    let bytes = s.bytes in
    let marked = s.marked in
    let few_vacant = s.few_vacant in
    let half = few_vacant.few in
    let is : new.index.places ≡ places_noted old.log.file old.log.end from old.index.places (coins_in_rows old.mask 69 rows) = noted ∙ ap (places_noted old.log.file old.log.end from old.index.places) s.coins in
    record {
      entries = λ k d within. subst (λ (p : CoinPlaces). HasEntry p (get_or keys k d)) (sym noted) (noted_entries old.log.file old.log.end from old.index.places old.staged.rows.items (get_or keys k d) (s.entries k d within));
      few_vacant = record {
        others = few_vacant.others;
        few = omega (arith, half, size);
        all = λ q v. noted_few old.log.file old.log.end from old.mask keys few_vacant.others old.index.places rows 69 s.named few_vacant.all q (subst (λ (p : CoinPlaces). IsVacant (get p q)) is v);
      };
      named = tt;
      fit = tt;
      front = omega (arith, few);
      text = drop_all 69 new.staged.bytes.items (omega (arith, few));
      coins = none;
      bytes = omega (arith, bytes, capacity);
      short = s.short;
      marked = omega (arith, marked, marked_more, more);
      room = room;
    }

-- what is staged stays where no payload was added and no entry is another
pub still_staged : (old new : CoinStore) (keys : List OutPoint) (payload payloads total : ℕ) (rows : List Row) → IsStaged old keys payload payloads total rows → Unchanged old.log new.log → new.index.places ≡ old.index.places
    → old.index.size ≤ new.index.size → new.mask ≡ old.mask → vec_len new.markers ≡ vec_len old.markers → vec_capacity old.markers ≤ vec_capacity new.markers
    → drop 69 new.staged.bytes.items ≡ drop 69 old.staged.bytes.items → vec_len new.staged.bytes ≡ vec_len old.staged.bytes → new.staged.room ≡ old.staged.room → new.staged.rows.items ≡ old.staged.rows.items
    → IsStaged new keys payload payloads total rows
still_staged old new keys payload payloads total rows s log index size mask listed kept text len capacity coins =
    let front = s.front in
    let bytes = s.bytes in
    let marked = s.marked in
    let room = s.room in
    let spare = log.spare in
    record {
      entries = subst (λ (m : CoinPlaces). All (HasEntry m) keys) (sym index) s.entries;
      few_vacant = few_same old.index new.index keys index size s.few_vacant;
      named = s.named;
      fit = s.fit;
      front = omega (arith, front, len, old.staged.bytes.ok.0, new.staged.bytes.ok.0);
      text = text ∙ s.text ∙ ap (λ (m : List ℕ). rows_text m rows) (sym mask);
      coins = coins ∙ s.coins ∙ ap (λ (m : List ℕ). coins_in_rows m 69 rows) (sym mask);
      bytes = omega (arith, bytes, capacity);
      short = s.short;
      marked = omega (arith, marked, listed, kept);
      room = record {
        listed = omega (arith, room.listed, spare);
        fits = omega (arith, room.fits, log.end, log.limit);
      };
    }
