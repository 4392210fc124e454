-- One payload after the other: the markers and the places so far.
use Rattle.std.specs.Prelude.{◌≡◌, ℕ, zero, suc, ◌+◌, ◌<◌, ◌≤◌, List, [], ◌∷◌, ◌++◌, length, map, take, drop, sum_by, slice_get, get_or, Option, Some, None, refl}
use Rattle.std.specs.List.{AllByRecursion}
use Rattle.std.proofs.Common.{sym, ap, subst, ◌∙◌, arith}
use Rattle.std.proofs.lemmas.List.{length-append, take_all}
use Rattle.std.proofs.lemmas.List.Sums.{sum_by-append, sum_by-cons, sum_by_more_le}
use Rattle.std.proofs.lemmas.Option.{slice_get-get_or}
use Rattle.base_types.specs.declared.fault.StoreFault.{StoreFault}
use Rattle.base_types.specs.declared.fault.StoreFault.TheVariants.{NoMemory, DiskFailed, Damaged, Full, CacheFull}
use Rattle.batch_log.specs.OpenLog.{OpenLog, places_of}
use Rattle.batch_log.specs.Records.{body, records}
use Rattle.batch_log.specs.declared.places.Place.{Place}
use Rattle.coin_store.specs.declared.kind.Kind.{Kind}
use Rattle.coin_store.specs.declared.kind.Kind.TheVariants.{Base, Coins}
use Rattle.coin_store.specs.declared.marker.Marker.{Marker}
use Rattle.coin_store.specs.declared.store.Marked.{Marked}
use Rattle.coin_store.specs.Base.{BaseFits, base_of, base_texts, places_after_base}
use Rattle.coin_store.specs.Batches.{Row, Batch, rows_text, batch_text, BatchFits}
use Rattle.coin_store.specs.BatchReads.{HasBatch, HasBaseRows, HasPayload, IsNoPayload}
use Rattle.batch_log.specs.Reading.{WhereDamaged}
use Rattle.coin_store.specs.Opening.{HasBatches, HasBase, HasPayloads, marked_at, IsDamagedAt}
use Rattle.coin_store.specs.Places.{CoinPlaces, places_after_rows, places_after, places_after_batch}
use Rattle.coin_store.specs.Reading.{batch_of}
use Rattle.coin_store.proofs.RowLaws.{some_is}
use Rattle.coin_store.specs.Store.{marks, texts, FirstBroken, FirstBrokenAs, RecordCause}
use Rattle.coin_store.proofs.BatchSteps.{all_push}

-- ---- the payload at a place

pub record PayloadAt (payloads : List (List ℕ)) (i : ℕ) (place : Place) : Type 0 where
  pub payload : List ℕ
  pub here : slice_get payloads i ≡ Some payload
  pub gate : place.at ≡ length (records (take i payloads))
  pub size : place.len ≡ length payload

record From (at : ℕ) (payloads : List (List ℕ)) (i : ℕ) (place : Place) : Type 0 where
  payload : List ℕ
  here : slice_get payloads i ≡ Some payload
  gate : place.at ≡ at + length (records (take i payloads))
  size : place.len ≡ length payload

place_from : (at : ℕ) (payloads : List (List ℕ)) (i : ℕ) (place : Place) → slice_get (places_of at payloads) i ≡ Some place → From at payloads i place
place_from at [] i place e = absurd cc
place_from at (payload ∷ payloads) zero place e =
    let is : record { at = at; len = length payload } ≡ place = some_is (record { at = at; len = length payload }) place e in
    record { payload = payload; here = refl; gate = omega (arith, ap (λ (p : Place). p.at) is); size = ap (λ (p : Place). p.len) (sym is) }
place_from at (payload ∷ payloads) (suc i) place e =
    let f = place_from (at + (5 + length payload)) payloads i place e in
    record { payload = f.payload; here = f.here; gate = omega (arith, f.gate, length-append (1 ∷ body payload) (records (take i payloads))); size = f.size }

pub payload_at : (log : OpenLog) (payloads : List (List ℕ)) → log.places ≡ places_of 0 payloads → (i : ℕ) (place : Place) → slice_get log.places i ≡ Some place → PayloadAt payloads i place
payload_at log payloads is i place there =
    let f = place_from 0 payloads i place (ap (λ (l : List Place). slice_get l i) (sym is) ∙ there) in
    record { payload = f.payload; here = f.here; gate = omega (arith, f.gate); size = f.size }

-- ---- lists

next : (i : ℕ) → suc i ≡ i + 1
next i = omega arith

take_suc : {A : Type 0} (xs : List A) (i : ℕ) (x : A) → slice_get xs i ≡ Some x → take (suc i) xs ≡ take i xs ++ x ∷ []
take_suc [] i x e = absurd cc
take_suc (y ∷ xs) zero x e = ap (λ z. z ∷ []) (some_is y x e)
take_suc (y ∷ xs) (suc i) x e = ap (λ l. y ∷ l) (take_suc xs i x e)

take_more : {A : Type 0} (xs : List A) (i : ℕ) (x : A) → slice_get xs i ≡ Some x → take (i + 1) xs ≡ take i xs ++ x ∷ []
take_more xs i x e = ap (λ n. take n xs) (sym (next i)) ∙ take_suc xs i x e

split_there : {A : Type 0} (xs : List A) (i : ℕ) (x : A) → slice_get xs i ≡ Some x → xs ≡ take i xs ++ x ∷ drop (suc i) xs
split_there [] i x e = absurd cc
split_there (y ∷ xs) zero x e = ap (λ z. z ∷ xs) (some_is y x e)
split_there (y ∷ xs) (suc i) x e = ap (λ l. y ∷ l) (split_there xs i x e)

abbrev lengths : List Place → ℕ
lengths places = sum_by (λ (p : Place). p.len) places

-- the place that an index finds
pub there : (all shown : List Place) (i : ℕ) (d : Place) → shown ≡ all → i < length shown → slice_get all i ≡ Some (get_or shown i d)
there all shown i d is within = ap (λ (l : List Place). slice_get l i) (sym is) ∙ slice_get-get_or shown i d within

pub lengths_more : (shown : List Place) (i : ℕ) (d : Place) → i < length shown → lengths (take i shown) + (get_or shown i d).len ≡ lengths (take (i + 1) shown)
lengths_more shown i d within =
    let p = get_or shown i d in
    omega (
      arith,
      ap lengths (take_more shown i p (slice_get-get_or shown i d within)),
      sum_by-append (λ (p : Place). p.len) (take i shown) (p ∷ []),
      sum_by-cons (λ (p : Place). p.len) p [],
    )

pub lengths_within : (all shown : List Place) (i : ℕ) (d : Place) → shown ≡ all → i < length shown → lengths (take i shown) + (get_or shown i d).len ≤ lengths all
lengths_within all shown i d is within = omega (arith, ap lengths is, sum_by_more_le (λ (p : Place). p.len) shown i d within)

-- ---- one payload more

zero_more : (n : ℕ) → n ≡ n + 0
zero_more n = omega arith

module _ {P : Type 0} (text : P → List ℕ) where
  pub texts_push : (read : List P) (p : P) → map text (read ++ p ∷ []) ≡ map text read ++ text p ∷ []
  texts_push [] p = refl
  texts_push (first ∷ read) p = ap (λ (l : List (List ℕ)). text first ∷ l) (texts_push read p)

  further : (gate : ℕ) (first : P) (read : List P) → gate + (5 + length (text first)) + length (records (map text read)) ≡ gate + length (records (map text (first ∷ read)))
  further gate first read = omega (arith, length-append (1 ∷ body (text first)) (records (map text read)))

  texts_more : (payloads : List (List ℕ)) (i : ℕ) (read : List P) (p : P) (payload : List ℕ) → slice_get payloads i ≡ Some payload → take i payloads ≡ map text read → payload ≡ text p → take (i + 1) payloads ≡ map text (read ++ p ∷ [])
  texts_more payloads i read p payload here so_far is =
      take_more payloads i payload here ∙ ap (λ (l : List (List ℕ)). l ++ payload ∷ []) so_far ∙ ap (λ (t : List ℕ). map text read ++ t ∷ []) is ∙ sym (texts_push read p)

  broken_at : (Fits : P → Type 0) (of : List ℕ → Option P) (payloads : List (List ℕ)) (i : ℕ) (place : Place) (read : List P) → AllByRecursion Fits read → take i payloads ≡ map text read → (p : PayloadAt payloads i place) → of p.payload ≡ None
      → FirstBroken text Fits of payloads place.at
  broken_at Fits of payloads i place read fits is p broken = record {
    before = read;
    payload = p.payload;
    others = drop (suc i) payloads;
    fits = fits;
    is = split_there payloads i p.payload p.here ∙ ap (λ (l : List (List ℕ)). l ++ p.payload ∷ drop (suc i) payloads) is;
    broken = broken;
    gate = p.gate ∙ ap (λ (l : List (List ℕ)). length (records l)) is;
  }

pub marks_push : (mask : List ℕ) (gate : ℕ) (batches : List Batch) (batch : Batch)
    → marks mask gate (batches ++ batch ∷ []) ≡ marks mask gate batches ++ record { marker = batch.marker; at = gate + length (records (texts mask batches)) } ∷ []
marks_push mask gate [] batch = ap (λ (n : ℕ). record { marker = batch.marker; at = n } ∷ []) (zero_more gate)
marks_push mask gate (first ∷ batches) batch =
    ap (λ (l : List Marked). record { marker = first.marker; at = gate } ∷ l) (marks_push mask (gate + (5 + length (batch_text mask first))) batches batch
    ∙ ap (λ (n : ℕ). marks mask (gate + (5 + length (batch_text mask first))) batches ++ record { marker = batch.marker; at = n } ∷ []) (further (batch_text mask) gate first batches))

pub after_push : (file : ℕ) (mask : List ℕ) (gate : ℕ) (places : CoinPlaces) (batches : List Batch) (batch : Batch)
    → places_after file mask gate places (batches ++ batch ∷ []) ≡ places_after_batch file mask (gate + length (records (texts mask batches))) (places_after file mask gate places batches) batch
after_push file mask gate places [] batch = ap (λ (n : ℕ). places_after_batch file mask n places batch) (zero_more gate)
after_push file mask gate places (first ∷ batches) batch =
    after_push file mask (gate + (5 + length (batch_text mask first))) (places_after_batch file mask gate places first) batches batch
    ∙ ap (λ (n : ℕ). places_after_batch file mask n (places_after file mask (gate + (5 + length (batch_text mask first))) (places_after_batch file mask gate places first) batches) batch) (further (batch_text mask) gate first batches)

base_push : (file : ℕ) (mask : List ℕ) (gate : ℕ) (places : CoinPlaces) (base : List (List Row)) (rows : List Row)
    → places_after_base file mask gate places (base ++ rows ∷ []) ≡ places_after_rows file mask (gate + length (records (base_texts mask base))) 0 (places_after_base file mask gate places base) rows
base_push file mask gate places [] rows = ap (λ (n : ℕ). places_after_rows file mask n 0 places rows) (zero_more gate)
base_push file mask gate places (first ∷ base) rows =
    base_push file mask (gate + (5 + length (rows_text mask first))) (places_after_rows file mask gate 0 places first) base rows
    ∙ ap (λ (n : ℕ). places_after_rows file mask n 0 (places_after_base file mask (gate + (5 + length (rows_text mask first))) (places_after_rows file mask gate 0 places first) base) rows) (further (rows_text mask) gate first base)

-- there are as many places as payloads
pub as_many : (at : ℕ) (payloads : List (List ℕ)) → length (places_of at payloads) ≡ length payloads
as_many at [] = refl
as_many at (payload ∷ payloads) = ap suc (as_many (at + (5 + length payload)) payloads)

module _ (file : ℕ) (mask : List ℕ) (payloads : List (List ℕ)) (old : CoinPlaces) where
  pub scan_none : (kind : Kind) → HasPayloads kind file mask [] old old []
  scan_none Base = record { base = []; fits = tt; is = refl; places = refl }
  scan_none Coins = record { batches = []; fits = tt; is = refl; marked = refl; places = refl }

  batch_more : (i : ℕ) (place : Place) (mid new : CoinPlaces) (markers now : List Marked) (marker : Marker) → HasBatches file mask (take i payloads) old mid markers → (p : PayloadAt payloads i place)
      → HasBatch file place.at mask p.payload mid new marker → now ≡ markers ++ record { marker = marker; at = place.at } ∷ [] → HasBatches file mask (take (i + 1) payloads) old new now
  batch_more i place mid new markers now marker h p b is =
      let gate : place.at ≡ length (records (texts mask h.batches)) = p.gate ∙ ap (λ (l : List (List ℕ)). length (records l)) h.is in
      let zero_gate : place.at ≡ 0 + length (records (texts mask h.batches)) = omega (arith, gate) in
      record {
        batches = h.batches ++ b.batch ∷ [];
        fits = all_push BatchFits h.batches b.batch h.fits b.fits;
        is = texts_more (batch_text mask) payloads i h.batches b.batch p.payload p.here h.is b.is;
        marked = is
            ∙ ap (λ (l : List Marked). l ++ record { marker = marker; at = place.at } ∷ []) h.marked
            ∙ ap (λ (m : Marker). marks mask 0 h.batches ++ record { marker = m; at = place.at } ∷ []) (sym b.marked)
            ∙ ap (λ (n : ℕ). marks mask 0 h.batches ++ record { marker = b.batch.marker; at = n } ∷ []) zero_gate
            ∙ sym (marks_push mask 0 h.batches b.batch);
        places = b.places
            ∙ ap (λ (n : ℕ). places_after_batch file mask n mid b.batch) zero_gate
            ∙ ap (λ (m : CoinPlaces). places_after_batch file mask (0 + length (records (texts mask h.batches))) m b.batch) h.places
            ∙ sym (after_push file mask 0 old h.batches b.batch);
      }

  base_more : (i : ℕ) (place : Place) (mid new : CoinPlaces) → HasBase file mask (take i payloads) old mid → (p : PayloadAt payloads i place)
      → HasBaseRows file place.at mask p.payload mid new → HasBase file mask (take (i + 1) payloads) old new
  base_more i place mid new h p b =
      let gate : place.at ≡ length (records (base_texts mask h.base)) = p.gate ∙ ap (λ (l : List (List ℕ)). length (records l)) h.is in
      let zero_gate : place.at ≡ 0 + length (records (base_texts mask h.base)) = omega (arith, gate) in
      record {
        base = h.base ++ b.rows ∷ [];
        fits = all_push BaseFits h.base b.rows h.fits b.fits;
        is = texts_more (rows_text mask) payloads i h.base b.rows p.payload p.here h.is b.is;
        places = b.places
            ∙ ap (λ (n : ℕ). places_after_rows file mask n 0 mid b.rows) zero_gate
            ∙ ap (λ (m : CoinPlaces). places_after_rows file mask (0 + length (records (base_texts mask h.base))) 0 m b.rows) h.places
            ∙ sym (base_push file mask 0 old h.base b.rows);
      }

  pub scan_more : (kind : Kind) (i : ℕ) (place : Place) (mid new : CoinPlaces) (markers now : List Marked) (marker : Option Marker) → HasPayloads kind file mask (take i payloads) old mid markers → (p : PayloadAt payloads i place)
      → HasPayload kind file place.at mask p.payload mid new marker → now ≡ markers ++ marked_at marker place.at → HasPayloads kind file mask (take (i + 1) payloads) old new now
  scan_more Base i place mid new markers now marker h p b is = base_more i place mid new h p b.0
  scan_more Coins i place mid new markers now None h p b is = absurd b
  scan_more Coins i place mid new markers now (Some marker) h p b is = batch_more i place mid new markers now marker h p b is

  scan_broken : (kind : Kind) (i : ℕ) (place : Place) (mid : CoinPlaces) (markers : List Marked) → HasPayloads kind file mask (take i payloads) old mid markers → (p : PayloadAt payloads i place)
      → IsNoPayload kind mask p.payload → FirstBrokenAs kind mask payloads place.at
  scan_broken Base i place mid markers h p broken = broken_at (rows_text mask) BaseFits (base_of mask) payloads i place h.base h.fits h.is p broken
  scan_broken Coins i place mid markers h p broken = broken_at (batch_text mask) BatchFits (batch_of mask) payloads i place h.batches h.fits h.is p broken

  pub scan_faulty : (kind : Kind) (i : ℕ) (place : Place) (mid : CoinPlaces) (markers : List Marked) → HasPayloads kind file mask (take i payloads) old mid markers → (p : PayloadAt payloads i place)
      → (fault : StoreFault) (f before now : ℕ) → RecordCause f place.at before now fault → WhereDamaged (λ file at. IsNoPayload kind mask p.payload) fault → IsDamagedAt kind mask payloads fault
  scan_faulty kind i place mid markers h p (Damaged g gate) f before now cause damage = subst (λ (n : ℕ). FirstBrokenAs kind mask payloads n) (sym cause.1) (scan_broken kind i place mid markers h p damage)
  scan_faulty kind i place mid markers h p NoMemory f before now cause damage = tt
  scan_faulty kind i place mid markers h p DiskFailed f before now cause damage = tt
  scan_faulty kind i place mid markers h p (Full g) f before now cause damage = tt
  scan_faulty kind i place mid markers h p CacheFull f before now cause damage = tt

  pub scan_all : (kind : Kind) (i : ℕ) (log : OpenLog) (new : CoinPlaces) (markers : List Marked) → log.places ≡ places_of 0 payloads → length log.places ≤ i → HasPayloads kind file mask (take i payloads) old new markers
      → HasPayloads kind file mask payloads old new markers
  scan_all kind i log new markers is over h = subst (λ (l : List (List ℕ)). HasPayloads kind file mask l old new markers) (take_all i payloads (omega (arith, over, ap length is, as_many 0 payloads))) h
