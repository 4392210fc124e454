-- One row after the other: the places so far, and what was read so far; and then whole payloads.
use Rattle.std.specs.Prelude.{◌≡◌, ℕ, ◌+◌, ◌-◌, ◌<◌, ◌≤◌, Bool, true, false, ◌&&◌, is_some, nat_lt, List, [], ◌∷◌, ◌++◌, length, take, drop, Option, Some, None, refl}
use Rattle.std.specs.List.{list_all, AllByRecursion}
use Rattle.std.specs.FinMap.{insert, remove}
use Rattle.std.proofs.Common.{sym, ap, subst, ◌∙◌, append_assoc, arith}
use Rattle.std.proofs.lemmas.Bool.Decides.{nat_tests}
use Rattle.std.proofs.lemmas.List.Folds.{list_all-append}
use Rattle.std.proofs.lemmas.List.{length-append, length-take, length-drop, drop_at, drop_all, drop-drop, take_all}
use Rattle.std.proofs.lemmas.List.Concat.{flat_map-append}
use borrow.Rule.Slice.PartMut.{put_mid, same_len_mid}
use Rattle.base_types.specs.declared.coin.Coin.{Coin}
use Rattle.base_types.specs.Obfuscation.{obfuscated}
use Rattle.base_types.proofs.Obfuscated.{length-obfuscated}
use Rattle.coin_codec.specs.KeyText.{key_text}
use Rattle.coin_store.specs.declared.marker.Marker.{Marker}
use Rattle.coin_store.specs.declared.places.CoinPlace.{CoinPlace}
use Rattle.coin_store.specs.declared.row.RowHead.{RowHead}
use Rattle.coin_store.specs.declared.row.RowFault.{RowFault}
use Rattle.coin_store.specs.declared.row.RowFault.TheVariants.{NoMemory, Broken}
use Rattle.coin_store.specs.Base.{has_coin, base_of}
use Rattle.coin_store.proofs.BaseLaws.{base_short, base_stuck}
use Rattle.coin_store.specs.Batches.{Row, value_text, head_text, row_text, rows_text, marker_text, batch_text, RowFits, ValueFits}
use Rattle.coin_store.proofs.BatchLaws.{marker_takes, rows_stuck, batch_stuck}
use Rattle.coin_store.specs.BatchReads.{NotesRow, HasRows, HasBatch, HasBaseRows, IsReadTo}
use Rattle.coin_store.specs.Places.{CoinPlaces, put, place_of, places_after_rows}
use Rattle.coin_store.specs.Reading.{marker_of, row_of, rows_of, batch_of}
use Rattle.coin_store.proofs.RowLaws.{length-coin_text}
use Rattle.coin_store.specs.Rows.{IsRow, IsBrokenBy}

-- ---- one row's place

module _ (file gate offset : ℕ) (row : RowHead) (old new : CoinPlaces) where
  pub noted_none : row.len ≡ 0 → new ≡ remove old row.key → NotesRow file gate offset row old new
  unfolding value_text
  noted_none none is None fits len from = is
  noted_none none is (Some coin) fits len from = absurd (omega (arith, (length-coin_text coin fits).0))

  pub noted_some : (place : CoinPlace) → place ≡ record { gate = gate; at = gate + 5 + offset + row.from; len = row.len; file = file } → (row.len ≡ 0 → ⊥) → new ≡ insert old row.key place
      → NotesRow file gate offset row old new
  unfolding value_text
  noted_some place made some is None fits len from = absurd (some len)
  noted_some place made some is (Some coin) fits len from =
      let begins : row.from ≡ length (head_text row.key (length (value_text (Some coin)))) = from ∙ ap (λ (n : ℕ). length (head_text row.key n)) len in
      let place_is : place ≡ record { gate = gate; at = gate + 5 + offset + length (head_text row.key (length (value_text (Some coin)))); len = length (value_text (Some coin)); file = file } =
      made ∙ (λ i. record { gate = gate; at = gate + 5 + offset + begins i; len = len i; file = file }) in
      is ∙ ap (λ (p : CoinPlace). insert old row.key p) place_is

-- ---- one row more

zero_more : (n : ℕ) → n ≡ n + 0
zero_more n = omega arith

pub places_push : (file : ℕ) (mask : List ℕ) (gate offset : ℕ) (places : CoinPlaces) (rows : List Row) (row : Row)
    → places_after_rows file mask gate offset places (rows ++ row ∷ []) ≡ put (places_after_rows file mask gate offset places rows) row.key (place_of file gate (offset + length (rows_text mask rows)) row)
places_push file mask gate offset places [] row = ap (λ (n : ℕ). put places row.key (place_of file gate n row)) (zero_more offset)
places_push file mask gate offset places (first ∷ rows) row =
    let after = put places first.key (place_of file gate offset first) in
    let reach : offset + length (row_text mask first) + length (rows_text mask rows) ≡ offset + length (rows_text mask (first ∷ rows)) = omega (arith, length-append (row_text mask first) (rows_text mask rows)) in
    places_push file mask gate (offset + length (row_text mask first)) after rows row
    ∙ ap (λ (n : ℕ). put (places_after_rows file mask gate (offset + length (row_text mask first)) after rows) row.key (place_of file gate n row)) reach

pub all_push : {A : Type 0} (P : A → Type 0) (xs : List A) (x : A) → AllByRecursion P xs → P x → AllByRecursion P (xs ++ x ∷ [])
all_push P [] x all p = (p, tt)
all_push P (y ∷ xs) x all p = (all.0, all_push P xs x all.1 p)

append_nil : (xs : List ℕ) → xs ++ [] ≡ xs
append_nil [] = refl
append_nil (x ∷ xs) = ap (λ (l : List ℕ). x ∷ l) (append_nil xs)

pub text_push : (mask : List ℕ) (rows : List Row) (row : Row) → rows_text mask (rows ++ row ∷ []) ≡ rows_text mask rows ++ row_text mask row
text_push mask rows row = flat_map-append (row_text mask) rows (row ∷ []) ∙ ap (λ (t : List ℕ). rows_text mask rows ++ t) (append_nil (row_text mask row))

length_row : (mask : List ℕ) (row : Row) → length (row_text mask row) ≡ length (head_text row.key (length (value_text row.coin))) + length (value_text row.coin)
unfolding row_text
length_row mask row = omega (arith, length-append (head_text row.key (length (value_text row.coin))) (obfuscated mask 0 (value_text row.coin)), length-obfuscated mask 0 (value_text row.coin))

-- a row has a coin where its coin has bytes
coin_some : (coin : Option Coin) (n : ℕ) → ValueFits coin → n ≡ length (value_text coin) → nat_lt 0 n ≡ is_some coin
unfolding value_text
coin_some None n fits e = ap (nat_lt 0) e
coin_some (Some coin) n fits e = lt_true 0 n (omega (arith, e, (length-coin_text coin fits).0)) where
  lt_true : (a b : ℕ) → a < b → nat_lt a b ≡ true
  lt_true a b h = grind (arith, nat_tests)

only_that : (b : Bool) → (b && true) ≡ b
only_that true = refl
only_that false = refl

each_push : (rows : List Row) (row : Row) → list_all has_coin (rows ++ row ∷ []) ≡ (list_all has_coin rows && has_coin row)
each_push rows row = list_all-append has_coin rows (row ∷ []) ∙ ap (λ (b : Bool). list_all has_coin rows && b) (only_that (has_coin row))

module _ (file gate : ℕ) (mask payload : List ℕ) (start : ℕ) (old : CoinPlaces) where
  pub read_none : IsReadTo file gate mask payload start start old old true
  read_none = record { rows = []; fit = tt; parts = refl; reach = zero_more start; places = refl; each = refl }

  pub read_more : (at : ℕ) (before after : CoinPlaces) (so_far coins : Bool) (row : RowHead) → IsReadTo file gate mask payload start at old before so_far → IsRow mask (drop at payload) row → NotesRow file gate at row before after
      → coins ≡ (so_far && nat_lt 0 row.len) → IsReadTo file gate mask payload start (at + (row.from + row.len)) old after coins
  read_more at before after so_far coins row r this notes has =
      let whole : Row = record { key = row.key; coin = this.coin } in
      let behind = drop (row.from + row.len) (drop at payload) in
      let front = rows_text mask r.rows in
      let begins : row.from ≡ length (head_text row.key (length (value_text this.coin))) = this.from ∙ ap (λ (n : ℕ). length (head_text row.key n)) this.len in
      let size : length (row_text mask whole) ≡ row.from + row.len = omega (arith, length_row mask whole, begins, this.len) in
      let further : behind ≡ drop (at + (row.from + row.len)) payload = drop-drop (row.from + row.len) at payload in
      record {
        rows = r.rows ++ whole ∷ [];
        fit = all_push RowFits r.rows whole r.fit this.fits;
        parts = r.parts
            ∙ ap (λ (b : List ℕ). front ++ b) this.parts
            ∙ sym (append_assoc front (row_text mask whole) behind)
            ∙ ap (λ (b : List ℕ). b ++ behind) (sym (text_push mask r.rows whole))
            ∙ ap (λ (b : List ℕ). rows_text mask (r.rows ++ whole ∷ []) ++ b) further;
        reach = omega (arith, r.reach, size, ap length (text_push mask r.rows whole), length-append front (row_text mask whole));
        places = notes this.coin this.fits.value this.len this.from
            ∙ ap (λ (p : CoinPlaces). put p row.key (place_of file gate at whole)) r.places
            ∙ ap (λ (n : ℕ). put (places_after_rows file mask gate start old r.rows) row.key (place_of file gate n whole)) r.reach
            ∙ sym (places_push file mask gate start old r.rows whole);
        each = has
            ∙ ap (λ (b : Bool). b && nat_lt 0 row.len) r.each
            ∙ ap (λ (b : Bool). list_all has_coin r.rows && b) (coin_some this.coin row.len this.fits.value this.len)
            ∙ sym (each_push r.rows whole);
      }

  pub read_all : (at : ℕ) (new : CoinPlaces) (coins : Bool) → IsReadTo file gate mask payload start at old new coins → length payload ≤ at → HasRows file gate start mask (drop start payload) old new coins
  read_all at new coins r over = record {
    rows = r.rows;
    is = r.parts ∙ ap (λ (b : List ℕ). rows_text mask r.rows ++ b) (drop_all at payload over) ∙ append_nil (rows_text mask r.rows);
    fit = r.fit;
    places = r.places;
    each = r.each;
  }

  pub read_stuck : (at : ℕ) (new : CoinPlaces) (coins : Bool) → IsReadTo file gate mask payload start at old new coins → at < length payload → row_of mask (drop at payload) ≡ None
      → rows_of mask (length (drop start payload)) (drop start payload) ≡ None
  read_stuck at new coins r within stuck =
      let rest = drop start payload in
      ap (λ (b : List ℕ). rows_of mask (length rest) b) r.parts ∙ rows_stuck mask r.rows (drop at payload) (length rest) r.fit (omega (arith, within, length-drop at payload)) stuck

  pub faulty_rows : (at : ℕ) (new : CoinPlaces) (coins : Bool) → IsReadTo file gate mask payload start at old new coins → at < length payload → (part : List ℕ) → part ≡ drop at payload → row_of mask part ≡ None
      → rows_of mask (length (drop start payload)) (drop start payload) ≡ None
  faulty_rows at new coins r within part is b = read_stuck at new coins r within (ap (row_of mask) (sym is) ∙ b)

-- ---- a payload

-- what stands behind a marker
behind_marker : (payload : List ℕ) (marker : Marker) (rest : List ℕ) (start : ℕ) → marker_of payload ≡ Some (marker, rest) → start ≡ length payload - length rest → (start ≡ length (marker_text marker)) × (drop start payload ≡ rest)
behind_marker payload marker rest start is reach =
    let t = marker_takes payload marker rest is in
    let begins : start ≡ length (marker_text marker) = omega (arith, reach, ap length t.0, length-append (marker_text marker) rest) in
    (begins, ap (λ (n : ℕ). drop n payload) begins ∙ ap (λ (b : List ℕ). drop (length (marker_text marker)) b) t.0 ∙ drop_at (marker_text marker) rest (length (marker_text marker)) refl)

module _ (file gate : ℕ) (mask payload : List ℕ) (old new : CoinPlaces) where
  pub batch_read : (marker : Marker) (rest : List ℕ) (start : ℕ) (coins : Bool) → marker_of payload ≡ Some (marker, rest) → start ≡ length payload - length rest → HasRows file gate start mask (drop start payload) old new coins
      → HasBatch file gate mask payload old new marker
  unfolding batch_text
  batch_read marker rest start coins is reach h =
      let t = marker_takes payload marker rest is in
      let b = behind_marker payload marker rest start is reach in
      record {
        batch = record { marker = marker; rows = h.rows };
        is = t.0 ∙ ap (λ (b : List ℕ). marker_text marker ++ b) (sym b.1 ∙ h.is);
        fits = record { marker = t.1; rows = h.fit };
        marked = refl;
        places = h.places ∙ ap (λ (n : ℕ). places_after_rows file mask gate n old h.rows) b.0;
      }

  pub base_read : HasRows file gate 0 mask payload old new true → HasBaseRows file gate mask payload old new
  base_read h = record { rows = h.rows; is = h.is; fits = record { fit = h.fit; coins = sym h.each }; places = h.places }

  pub base_bare : HasRows file gate 0 mask payload old new false → base_of mask payload ≡ None
  base_bare h = ap (base_of mask) h.is ∙ base_short mask h.rows h.fit (sym h.each)

pub batch_faulty : (mask payload : List ℕ) (marker : Marker) (rest : List ℕ) (start : ℕ) → marker_of payload ≡ Some (marker, rest) → start ≡ length payload - length rest
    → (fault : RowFault) → IsBrokenBy (rows_of mask (length (drop start payload)) (drop start payload) ≡ None) fault → IsBrokenBy (batch_of mask payload ≡ None) fault
batch_faulty mask payload marker rest start is reach NoMemory b = tt
batch_faulty mask payload marker rest start is reach Broken b =
    batch_stuck mask payload rest marker is (subst (λ (r : List ℕ). rows_of mask (length r) r ≡ None) (behind_marker payload marker rest start is reach).1 b)

pub base_faulty : (mask payload : List ℕ) (fault : RowFault) → IsBrokenBy (rows_of mask (length payload) payload ≡ None) fault → IsBrokenBy (base_of mask payload ≡ None) fault
base_faulty mask payload NoMemory b = tt
base_faulty mask payload Broken b = base_stuck mask payload b

-- ---- a row that was read

pub row_grows : (mask bytes : List ℕ) (row : RowHead) → IsRow mask bytes row → 0 < row.from + row.len
unfolding head_text key_text
row_grows mask bytes row r = omega (arith, r.from)

pub later_stays : (at n : ℕ) (old now bytes : List ℕ) → at ≤ length now → drop at now ≡ drop at old → length bytes ≡ length (drop at now) → drop n bytes ≡ drop n (drop at now)
    → drop (at + n) (put_mid at (length now - at) now bytes) ≡ drop (at + n) old
later_stays at n old now bytes within behind size same =
    let none : drop (length now - at) (drop at now) ≡ [] = drop_all (length now - at) (drop at now) (omega (arith, length-drop at now)) in
    let front : length (take at now) ≡ at = omega (arith, length-take at now) in
    let whole = put_mid at (length now - at) now bytes in
    let from_at : drop at whole ≡ bytes ++ drop (length now - at) (drop at now) = drop_at (take at now) (bytes ++ drop (length now - at) (drop at now)) at front in
    sym (drop-drop n at whole)
    ∙ ap (λ (l : List ℕ). drop n l) from_at
    ∙ ap (λ (l : List ℕ). drop n (bytes ++ l)) none
    ∙ ap (λ (l : List ℕ). drop n l) (append_nil bytes)
    ∙ same
    ∙ ap (λ (l : List ℕ). drop n l) behind
    ∙ drop-drop n at old

pub nearer_end : (at n : ℕ) (now bytes : List ℕ) → at < length now → 0 < n → length bytes ≡ length (take (length now - at) (drop at now)) → length (put_mid at (length now - at) now bytes) - (at + n) < length now - at
nearer_end at n now bytes within some size = omega (arith, same_len_mid at (length now - at) now bytes size)

pub part_is : (at : ℕ) (old now : List ℕ) → drop at now ≡ drop at old → take (length now - at) (drop at now) ≡ drop at old
part_is at old now behind = take_all (length now - at) (drop at now) (omega (arith, length-drop at now)) ∙ behind
