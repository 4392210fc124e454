-- Opening a log, and then reading it.
use Rattle.std.specs.Prelude.{◌≡◌, ◌≢◌, ℕ, zero, suc, ◌+◌, ◌-◌, ◌*◌, ◌<◌, ◌≤◌, List, [], ◌∷◌, ◌++◌, length, sum_by, slice_get, nat_le, Bool, true, false, Option, Some, None, Result, Ok, refl}
use Rattle.std.specs.FinMap.{get, empty, get-empty, get-insert, get-remove}
use Rattle.std.specs.List.{AllByRecursion}
use Rattle.std.specs.Ordering.{eq_by_cmp}
use Rattle.base_types.specs.Keys.{outpoint_cmp}
use Rattle.base_types.proofs.KeyOrders.{outpoint_cmp_total}
use Rattle.base_types.specs.declared.coin.Coin.{Coin}
use Rattle.coin_codec.specs.CoinText.{coin_text}
use Rattle.coin_store.proofs.RowLaws.{some_is, length-coin_text}
use Rattle.coin_store.specs.declared.places.CoinPlace.{CoinPlace}
use Rattle.std.proofs.Common.{cond, sym, ap, subst, ◌∙◌, arith, inl, inr, ⊎_elim}
use Rattle.std.proofs.lemmas.Bool.Decides.{nat_tests}
use Rattle.std.proofs.lemmas.Bool.{cases_lt, ne_eqb}
use Rattle.std.proofs.lemmas.List.{length-append}
use Rattle.std.proofs.lemmas.List.Sums.{sum_by-cons}
use Rattle.disk_model.specs.Disk.{Image, Leaves, Quiet, Only}
use Rattle.disk_model.proofs.Moments.{IsSinceEarlier}
use Rattle.base_types.specs.declared.fault.StoreFault.{StoreFault}
use Rattle.base_types.specs.declared.fault.StoreFault.TheVariants.{NoMemory, DiskFailed, Damaged, Full, CacheFull}
use Rattle.base_types.specs.declared.hash.OutPoint.{OutPoint}
use Rattle.batch_log.specs.OpenLog.{OpenLog, Stands, places_of}
use Rattle.batch_log.specs.Opening.{OpenCause}
use Rattle.batch_log.specs.Records.{body, records, log, EndsClosed, StartsWith, HoldsLog}
use Rattle.batch_log.specs.declared.places.Place.{Place}
use Rattle.coin_store.specs.declared.kind.Kind.TheVariants.{Coins}
use Rattle.coin_store.specs.declared.marker.Marker.{Marker}
use Rattle.coin_store.specs.declared.store.CoinStore.{CoinStore}
use Rattle.coin_store.specs.declared.store.Marked.{Marked}
use Rattle.coin_store.specs.Base.{BaseFits, base_texts, places_after_base, base_places, base_log, IsBase}
use Rattle.coin_store.specs.Batches.{Row, Batch, value_text, row_text, rows_text, marker_text, batch_text, RowFits, ValueFits, BatchFits}
use Rattle.coin_store.specs.Files.{log_reads}
use Rattle.coin_store.specs.Opening.{HasBatches, LogDamage}
use Rattle.coin_store.specs.Places.{CoinPlaces, put, place_of, places_after_rows, places_after_batch, places_after, live}
use Rattle.coin_store.specs.Store.{Holds, DamageIn, marks, texts, last_marker, marker_after}
use Rattle.coin_store.proofs.Scanning.{as_many}
use Rattle.coin_store.proofs.TwoFiles.{tiny_log, tiny_reads}

-- ---- calls that change nothing come after

module _ {D : Type 0} (time : D → ℕ) (left : D → ℕ → Image → Type 0) where
  pub leaves_still : (Step : Image → Image → Type 0) (old mid new : D) → Leaves time left Step old mid → Quiet time left mid new → Leaves time left Step old new
  leaves_still Step old mid new l q =
      let began = l.later in
      let later = q.later in
      record { later = omega arith; since = λ t c le now. l.since t c le (q.since t c (omega arith) now) }

  pub only_still : IsSinceEarlier time left → (file : ℕ) (bytes : List ℕ) (mid new : D) → Only file bytes (left mid (time mid)) → Quiet time left mid new → Only file bytes (left new (time new))
  only_still earlier file bytes mid new only q =
      let later = q.later in
      λ c now. only c (q.since (time mid) c (omega arith) (earlier new (time mid) (time new) c later (omega arith) now))

-- ---- each place has bytes

abbrev AreLive : CoinPlaces → Type 0
AreLive places = (q : OutPoint) → live (get places q) ≡ get places q

either_live : (b : Bool) (x y : Option CoinPlace) → live x ≡ x → live y ≡ y → live (cond b x y) ≡ cond b x y
either_live true x y p q = p
either_live false x y p q = q

put_live : (places : CoinPlaces) (key : OutPoint) (place : Option CoinPlace) → live place ≡ place → AreLive places → AreLive (put places key place)
put_live places key None here all q =
    ap live (get-remove outpoint_cmp_total places key q) ∙ either_live (eq_by_cmp outpoint_cmp q key) None (get places q) refl (all q) ∙ sym (get-remove outpoint_cmp_total places key q)
put_live places key (Some place) here all q =
    ap live (get-insert outpoint_cmp_total places key place q) ∙ either_live (eq_by_cmp outpoint_cmp q key) (Some place) (get places q) here (all q) ∙ sym (get-insert outpoint_cmp_total places key place q)

row_live : (file gate offset : ℕ) (key : OutPoint) (coin : Option Coin) → ValueFits coin → live (place_of file gate offset (record { key = key; coin = coin })) ≡ place_of file gate offset (record { key = key; coin = coin })
unfolding value_text
row_live file gate offset key None fits = refl
row_live file gate offset key (Some coin) fits = rw (ne_eqb (length (coin_text coin)) 0 (λ e. omega (arith, e, (length-coin_text coin fits).0))) refl

rows_live : (file : ℕ) (mask : List ℕ) (gate offset : ℕ) (places : CoinPlaces) (rows : List Row) → AllByRecursion RowFits rows → AreLive places → AreLive (places_after_rows file mask gate offset places rows)
rows_live file mask gate offset places [] fits all = all
rows_live file mask gate offset places (row ∷ rows) fits all =
    rows_live file mask gate (offset + length (row_text mask row)) (put places row.key (place_of file gate offset row)) rows fits.1
    (put_live places row.key (place_of file gate offset row) (row_live file gate offset row.key row.coin fits.0.value) all)

batches_live : (file : ℕ) (mask : List ℕ) (gate : ℕ) (places : CoinPlaces) (batches : List Batch) → AllByRecursion BatchFits batches → AreLive places → AreLive (places_after file mask gate places batches)
batches_live file mask gate places [] fits all = all
batches_live file mask gate places (batch ∷ batches) fits all =
    batches_live file mask (gate + (5 + length (batch_text mask batch))) (places_after_batch file mask gate places batch) batches fits.1
    (rows_live file mask gate (length (marker_text batch.marker)) places batch.rows fits.0.rows all)

base_live : (file : ℕ) (mask : List ℕ) (gate : ℕ) (places : CoinPlaces) (base : List (List Row)) → AllByRecursion BaseFits base → AreLive places → AreLive (places_after_base file mask gate places base)
base_live file mask gate places [] fits all = all
base_live file mask gate places (rows ∷ base) fits all =
    base_live file mask (gate + (5 + length (rows_text mask rows))) (places_after_rows file mask gate 0 places rows) base fits.1 (rows_live file mask gate 0 places rows fits.0.fit all)

none_live : AreLive empty
none_live q = ap live (get-empty outpoint_cmp q) ∙ sym (get-empty outpoint_cmp q)

first_live : (file : Option ℕ) (mask : List ℕ) (base : List (List Row)) → AllByRecursion BaseFits base → AreLive (base_places file mask base)
first_live None mask base fits = none_live
first_live (Some file) mask base fits = base_live file mask 0 empty base fits none_live

pub all_live : (file : ℕ) (first : Option ℕ) (mask : List ℕ) (base : List (List Row)) (batches : List Batch) → AllByRecursion BaseFits base → AllByRecursion BatchFits batches → AreLive (places_after file mask 0 (base_places first mask base) batches)
all_live file first mask base batches base_fits fits = batches_live file mask 0 (base_places first mask base) batches fits (first_live first mask base base_fits)

-- ---- the base

no_texts : (mask : List ℕ) (base : List (List Row)) → base_texts mask base ≡ [] → base ≡ []
no_texts mask [] e = refl
no_texts mask (rows ∷ base) e = absurd cc

same_payloads : (a b : List (List ℕ)) (r : Result (List (List ℕ)) ℕ) → r ≡ Ok a → r ≡ Ok b → a ≡ b
same_payloads a b r p q = cc

-- with no base file a base has no payloads
pub base_none : (mask : List ℕ) (file : Option ℕ) (image : Image) (base : List (List Row)) → IsBase mask file image base → file ≡ None → base ≡ []
base_none mask file image base b none = no_texts mask base (sym (same_payloads [] (base_texts mask base) (base_log None image) refl (ap (λ (f : Option ℕ). base_log f image) (sym none) ∙ b.is)))

-- ---- the store

pub opens : (contents : Option Image) (left : Image → Type 0) (store : CoinStore) (image : Image) (base : List (List Row)) (payloads : List (List ℕ)) (first : CoinPlaces) → IsBase store.mask store.base image base
    → first ≡ base_places store.base store.mask base → store.base_index.places ≡ base_places store.base store.mask base → Stands contents left store.log payloads → (store.base ≢ Some store.log.file → (f : ℕ) → store.base ≡ Some f → HoldsLog contents left f (base_texts store.mask base))
    → HasBatches store.log.file store.mask payloads first store.index.places store.markers.items → (batches : List Batch) × (payloads ≡ texts store.mask batches) × (store.base ≢ Some store.log.file → Holds contents left store base batches)
opens contents left store image base payloads first b is alone s stands h = (
  h.batches,
  h.is,
  λ apart. record {
    knows = record {
      base_fits = b.fits;
      base_none = base_none store.mask store.base image base b;
      fits = h.fits;
      markers = h.marked;
      base_places = alone;
      end = s.end ∙ ap (λ (p : List (List ℕ)). length (records p)) h.is;
      places = λ q.
          ap (λ (p : CoinPlaces). live (get p q)) h.places
          ∙ ap (λ (p : CoinPlaces). live (get (places_after store.log.file store.mask 0 p h.batches) q)) is
          ∙ all_live store.log.file store.base store.mask base h.batches b.fits h.fits q;
    };
    stands = subst (Stands contents left store.log) h.is s;
    base_stands = stands apart;
    apart = apart;
  },
)

-- ---- damage

-- in the coin file, where the base has none
pub coin_damage : (mask : List ℕ) (base_file : Option ℕ) (coins : ℕ) (m : Image) (bytes : List ℕ) (base : List (List Row)) → IsBase mask base_file m base → log bytes ≡ log (m coins) → (before now : ℕ) (fault : StoreFault)
    → OpenCause coins before now fault → LogDamage Coins mask bytes fault → DamageIn mask base_file coins m fault
coin_damage mask base_file coins m bytes base b same before now (Damaged f at) cause d =
    inr (cause, (base, b), ⊎_elim (λ e. inl (sym same ∙ e)) (λ p. inr (p.0, sym same ∙ p.1, p.2)) d)
coin_damage mask base_file coins m bytes base b same before now NoMemory cause d = tt
coin_damage mask base_file coins m bytes base b same before now DiskFailed cause d = tt
coin_damage mask base_file coins m bytes base b same before now (Full f) cause d = tt
coin_damage mask base_file coins m bytes base b same before now CacheFull cause d = tt

-- ---- how much is read

le_false : (a b : ℕ) → b < a → nat_le a b ≡ false
le_false a b h = grind (arith, nat_tests)

bounded : (bytes : List ℕ) (n : ℕ) → (length bytes ≤ 1 → n ≤ 5) → (1 < length bytes → n ≤ length bytes + 5) → n ≤ log_reads bytes
bounded bytes n few more = elim (cases_lt 1 (length bytes)) [
  | inl long ↦ rw (le_false (length bytes) 1 long) (more long)
  | inr short ↦ subst (λ (k : ℕ). n ≤ k) (sym (tiny_reads bytes short)) (few short)
]

lengths_of : (at : ℕ) (payloads : List (List ℕ)) → sum_by (λ (p : Place). p.len) (places_of at payloads) + 5 * length (places_of at payloads) ≡ length (records payloads)
lengths_of at [] = omega arith
lengths_of at (payload ∷ payloads) =
    let here : Place = record { at = at; len = length payload } in
    omega (arith, lengths_of (at + (5 + length payload)) payloads, sum_by-cons (λ (p : Place). p.len) here (places_of (at + (5 + length payload)) payloads), length-append (1 ∷ body payload) (records payloads))

-- what the file has, where the disk tells it
pub closed_in : (contents : Option Image) (left : Image → Type 0) (opened : OpenLog) (payloads : List (List ℕ)) (m : Image) (file : ℕ) → Stands contents left opened payloads → contents ≡ Some m → opened.file ≡ file → EndsClosed payloads (m file)
closed_in contents left opened payloads m file s told is =
    let same : s.holds.image ≡ m = some_is s.holds.image m (sym s.holds.told ∙ told) in
    subst (EndsClosed payloads) (ap (λ (i : Image). i opened.file) same ∙ ap m is) s.holds.reads

pub reads_within : (bytes : List ℕ) (payloads : List (List ℕ)) (places : List Place) → places ≡ places_of 0 payloads → log bytes ≡ Ok payloads → (1 < length bytes → EndsClosed payloads bytes)
    → (5 * length places + 5) + sum_by (λ (p : Place). p.len) places ≤ log_reads bytes
reads_within bytes payloads places is found long =
    let all : 5 * length places + sum_by (λ (p : Place). p.len) places ≡ length (records payloads) = omega (arith, lengths_of 0 payloads, ap (λ (p : List Place). sum_by (λ (q : Place). q.len) p) is, ap length is) in
    bounded bytes _
    (λ few. let none = same_payloads payloads [] (log bytes) found (tiny_log bytes few) in omega (arith, all, ap (λ (p : List (List ℕ)). length (records p)) none))
    (λ more. let e = long more in omega (arith, all, ap length e.is, length-append (records payloads) (e.gate ∷ e.rest)))

pub heads_within : (bytes : List ℕ) (payloads : List (List ℕ)) → StartsWith payloads bytes → 5 * length payloads + 5 ≤ log_reads bytes
heads_within bytes payloads s =
    let size : 5 * length payloads ≤ length bytes = omega (arith, ap length s.is, length-append (records payloads) s.rest, lengths_of 0 payloads, as_many 0 payloads) in
    bounded bytes _ (λ few. omega (arith, size, few)) (λ more. omega (arith, size))

-- ---- markers

pub last_is : (mask : List ℕ) (gate : ℕ) (start : Marker) (batches : List Batch) → last_marker start (marks mask gate batches) ≡ marker_after start batches
last_is mask gate start [] = refl
last_is mask gate start (batch ∷ batches) = last_is mask (gate + (5 + length (batch_text mask batch))) batch.marker batches

pub last_push : (start : Marker) (front : List Marked) (marked : Marked) → last_marker start (front ++ marked ∷ []) ≡ marked.marker
last_push start [] marked = refl
last_push start (first ∷ front) marked = last_push first.marker front marked

last_there : (n : ℕ) (start : Marker) (items : List Marked) (m : Marked) → suc n ≡ length items → slice_get items n ≡ Some m → m.marker ≡ last_marker start items
last_there n start [] m size e = absurd (omega (arith, size))
last_there zero start (x ∷ []) m size e = ap (λ (k : Marked). k.marker) (sym (some_is x m e))
last_there zero start (x ∷ y ∷ items) m size e = absurd (omega (arith, size))
last_there (suc n) start (x ∷ items) m size e = last_there n x.marker items m (omega (arith, size)) e

pub last_at : (start : Marker) (items shown : List Marked) (m : Marked) → shown ≡ items → Some m ≡ slice_get shown (length shown - 1) → m.marker ≡ last_marker start items
last_at start [] shown m is e = absurd (no_member shown (length shown - 1) m is e) where
  no_member : (l : List Marked) (i : ℕ) (m : Marked) → l ≡ [] → Some m ≡ slice_get l i → ⊥
  no_member [] i m s e = cc
  no_member (x ∷ l) i m s e = cc
last_at start (x ∷ items) shown m is e =
    last_there (length (x ∷ items) - 1) start (x ∷ items) m (omega arith) (ap (λ (l : List Marked). slice_get l (length l - 1)) (sym is) ∙ sym e)

pub last_none : (start : Marker) (items shown : List Marked) → shown ≡ items → None ≡ slice_get shown (length shown - 1) → start ≡ last_marker start items
last_none start [] shown is e = refl
last_none start (x ∷ items) shown is e = absurd (some_member (x ∷ items) (length (x ∷ items) - 1) (omega arith) (ap (λ (l : List Marked). slice_get l (length l - 1)) (sym is) ∙ sym e)) where
  some_member : (l : List Marked) (i : ℕ) → i < length l → slice_get l i ≡ None → ⊥
  some_member [] i h e = omega (arith, h)
  some_member (y ∷ l) zero h e = cc
  some_member (y ∷ l) (suc i) h e = some_member l i (omega (arith, h)) e
