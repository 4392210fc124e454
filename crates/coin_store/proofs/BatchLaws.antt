-- What is read of a batch is so spelled, and what is so spelled is read.
use Rattle.std.specs.Prelude.{◌≡◌, ℕ, zero, suc, ◌<◌, ◌≤◌, List, [], ◌∷◌, ◌++◌, length, take, drop, Option, Some, None, refl}
use Rattle.std.specs.List.{AllByRecursion}
use Rattle.std.specs.Result.{result_ok}
use Rattle.std.proofs.Common.{eqb, ltb, sym, ap, subst, ◌∙◌, append_assoc, arith, inl, inr}
use Rattle.std.proofs.lemmas.Bool.{cases_Bool, eqb-true, ltb-false}
use Rattle.std.proofs.lemmas.List.{length-append, length-take, drop_at, take-append-drop}
use Rattle.base_types.specs.Codec.{IsBytes}
use Rattle.base_types.proofs.Codecs.{IsBytes-drop, guard_ok}
use Rattle.base_types.proofs.Fields.{bytes_field}
use Rattle.base_types.specs.Reading.{bytes_at}
use Rattle.base_types.specs.declared.cursor.ReadError.TheVariants.{Short}
use Rattle.coin_codec.specs.KeyText.{key_text}
use Rattle.coin_store.specs.declared.marker.Marker.{Marker}
use Rattle.coin_store.specs.declared.marker.Marker.TheVariants.{At, Between}
use Rattle.coin_store.specs.Batches.{Row, Batch, head_text, row_text, rows_text, marker_text, batch_text, RowFits, MarkerFits, BatchFits}
use Rattle.coin_store.specs.Reading.{◌>>=◌, row_of, rows_of, at_of, between_of, marker_of, batch_of}
use Rattle.coin_store.proofs.RowLaws.{some_is, bind_some, ok_of, row_takes, row_again}

-- ---- rows

pub row_some : (mask : List ℕ) (row : Row) → 0 < length (row_text mask row)
unfolding row_text head_text key_text
row_some mask row = omega arith

behind_first : (mask bytes : List ℕ) (most : ℕ) → 0 < length bytes → rows_of mask (suc most) bytes ≡ (row_of mask bytes >>= λ row. rows_of mask most row.1 >>= λ rows. Some (row.0 ∷ rows))
unfolding rows_of
behind_first mask [] most some = absurd (omega arith)
behind_first mask (byte ∷ bytes) most some = refl

none_left : (mask bytes : List ℕ) → 0 < length bytes → rows_of mask 0 bytes ≡ None
unfolding rows_of
none_left mask [] some = absurd (omega arith)
none_left mask (byte ∷ bytes) some = refl

regrouped : (mask : List ℕ) (row : Row) (rows : List Row) (rest : List ℕ) → rows_text mask (row ∷ rows) ++ rest ≡ row_text mask row ++ (rows_text mask rows ++ rest)
regrouped mask row rows rest = append_assoc (row_text mask row) (rows_text mask rows) rest

with_rows : (mask : List ℕ) (row : Row) (rows : List Row) (rest : List ℕ) → 0 < length (rows_text mask (row ∷ rows) ++ rest)
with_rows mask row rows rest = omega (arith, row_some mask row, ap length (regrouped mask row rows rest), length-append (row_text mask row) (rows_text mask rows ++ rest))

pub rows_again : (mask : List ℕ) (rows : List Row) (most : ℕ) → AllByRecursion RowFits rows → length (rows_text mask rows) ≤ most → rows_of mask most (rows_text mask rows) ≡ Some rows
unfolding rows_of
rows_again mask [] most fits bound = refl
rows_again mask (row ∷ rows) zero fits bound = absurd (omega (arith, row_some mask row, length-append (row_text mask row) (rows_text mask rows)))
rows_again mask (row ∷ rows) (suc most) fits bound =
    let some = row_some mask row in
    let long = length-append (row_text mask row) (rows_text mask rows) in
    behind_first mask (rows_text mask (row ∷ rows)) most (omega (arith, some, long))
    ∙ rw (row_again mask row (rows_text mask rows) fits.0, rows_again mask rows most fits.1 (omega (arith, some, long, bound))) refl

-- rows, and then bytes that don't begin with a row
pub rows_stuck : (mask : List ℕ) (rows : List Row) (rest : List ℕ) (most : ℕ) → AllByRecursion RowFits rows → 0 < length rest → row_of mask rest ≡ None → rows_of mask most (rows_text mask rows ++ rest) ≡ None
rows_stuck mask [] rest zero fits some stuck = none_left mask rest some
rows_stuck mask [] rest (suc most) fits some stuck = behind_first mask rest most some ∙ rw stuck refl
rows_stuck mask (row ∷ rows) rest zero fits some stuck = none_left mask _ (with_rows mask row rows rest)
rows_stuck mask (row ∷ rows) rest (suc most) fits some stuck =
    behind_first mask (rows_text mask (row ∷ rows) ++ rest) most (with_rows mask row rows rest)
    ∙ ap (λ (b : List ℕ). row_of mask b >>= λ read. rows_of mask most read.1 >>= λ rows. Some (read.0 ∷ rows)) (regrouped mask row rows rest)
    ∙ rw (row_again mask row (rows_text mask rows ++ rest) fits.0, rows_stuck mask rows rest most fits.1 some stuck) refl

pub rows_takes : (mask : List ℕ) (most : ℕ) (bytes : List ℕ) (rows : List Row) → IsBytes mask → IsBytes bytes → rows_of mask most bytes ≡ Some rows → (bytes ≡ rows_text mask rows) × AllByRecursion RowFits rows
unfolding rows_of
rows_takes mask most [] rows masked fits e = subst (λ (r : List Row). ([] ≡ rows_text mask r) × AllByRecursion RowFits r) (some_is [] rows e) (refl, tt)
rows_takes mask zero (byte ∷ bytes) rows masked fits e = absurd cc
rows_takes mask (suc most) (byte ∷ bytes) rows masked fits e =
    let a = bind_some (row_of mask (byte ∷ bytes)) _ rows e in
    let first = row_takes mask (byte ∷ bytes) a.0.0 a.0.1 masked fits a.1 in
    let b = bind_some (rows_of mask most a.0.1) _ rows a.2 in
    let others = rows_takes mask most a.0.1 b.0 masked first.2 b.1 in
    let is : byte ∷ bytes ≡ rows_text mask (a.0.0 ∷ b.0) = first.0 ∙ ap (λ (t : List ℕ). row_text mask a.0.0 ++ t) others.0 in
    subst (λ (r : List Row). (byte ∷ bytes ≡ rows_text mask r) × AllByRecursion RowFits r) (some_is (a.0.0 ∷ b.0) rows b.2) (is, (first.1, others.1))

-- ---- a marker

split_bytes : (n : ℕ) (bytes text rest : List ℕ) → result_ok (bytes_at n bytes) ≡ Some (text, rest) → (bytes ≡ text ++ rest) × (length text ≡ n)
split_bytes n bytes text rest e =
    let g = guard_ok (ltb (length bytes) n) Short (take n bytes, drop n bytes) (text, rest) (ok_of (bytes_at n bytes) (text, rest) e) in
    let long : n ≤ length bytes = ltb-false _ _ g.0 in
    let size : length (take n bytes) ≡ n = omega (arith, length-take n bytes) in
    let both : (bytes ≡ take n bytes ++ drop n bytes) × (length (take n bytes) ≡ n) = (sym (take-append-drop n bytes), size) in
    subst (λ (p : List ℕ × List ℕ). (bytes ≡ p.0 ++ p.1) × (length p.0 ≡ n)) g.1 both

abbrev pub MarkerTakes : List ℕ → Marker → List ℕ → Type 0
MarkerTakes bytes marker rest = (bytes ≡ marker_text marker ++ rest) × MarkerFits marker

at_takes : (bytes : List ℕ) (marker : Marker) (rest : List ℕ) → at_of bytes ≡ Some (marker, rest) → MarkerTakes (0x42 ∷ bytes) marker rest
unfolding marker_text
at_takes bytes marker rest e =
    let a = bind_some (result_ok (bytes_at 32 bytes)) _ (marker, rest) e in
    let tip = split_bytes 32 bytes a.0.0 a.0.1 a.1 in
    let made : Marker × List ℕ = (At (record { bytes = a.0.0 }), a.0.1) in
    let found : MarkerTakes (0x42 ∷ bytes) made.0 made.1 = (ap (λ (t : List ℕ). 0x42 ∷ t) tip.0, tip.1) in
    subst (λ (y : Marker × List ℕ). MarkerTakes (0x42 ∷ bytes) y.0 y.1) (some_is made (marker, rest) a.2) found

between_takes : (bytes : List ℕ) (marker : Marker) (rest : List ℕ) → between_of bytes ≡ Some (marker, rest) → MarkerTakes (0x48 ∷ bytes) marker rest
unfolding marker_text
between_takes bytes marker rest e =
    let a = bind_some (result_ok (bytes_at 32 bytes)) _ (marker, rest) e in
    let new_tip = split_bytes 32 bytes a.0.0 a.0.1 a.1 in
    let b = bind_some (result_ok (bytes_at 32 a.0.1)) _ (marker, rest) a.2 in
    let old_tip = split_bytes 32 a.0.1 b.0.0 b.0.1 b.1 in
    let made : Marker × List ℕ = (Between (record { bytes = a.0.0 }) (record { bytes = b.0.0 }), b.0.1) in
    let is : 0x48 ∷ bytes ≡ 0x48 ∷ (a.0.0 ++ b.0.0) ++ b.0.1 =
    ap (λ (t : List ℕ). 0x48 ∷ t) (new_tip.0 ∙ ap (λ (t : List ℕ). a.0.0 ++ t) old_tip.0 ∙ sym (append_assoc a.0.0 b.0.0 b.0.1)) in
    let found : MarkerTakes (0x48 ∷ bytes) made.0 made.1 = (is, (new_tip.1, old_tip.1)) in
    subst (λ (y : Marker × List ℕ). MarkerTakes (0x48 ∷ bytes) y.0 y.1) (some_is made (marker, rest) b.2) found

abbrev pub nothing : {A : Type 0} → Option A
nothing = None

pub none_is : {A : Type 0} (x : A) → nothing {A = A} ≡ Some x → ⊥
none_is x e = cc

pub marker_takes : (bytes : List ℕ) (marker : Marker) (rest : List ℕ) → marker_of bytes ≡ Some (marker, rest) → MarkerTakes bytes marker rest
unfolding marker_of
marker_takes [] marker rest e = absurd (none_is (marker, rest) e)
marker_takes (letter ∷ bytes) marker rest e = elim (cases_Bool (eqb letter 0x42)) [
  | inl t ↦ subst (λ (l : ℕ). MarkerTakes (l ∷ bytes) marker rest) (sym (eqb-true letter 0x42 t)) (at_takes bytes marker rest (rw t at e))
  | inr f ↦ elim (cases_Bool (eqb letter 0x48)) [
    | inl t ↦ subst (λ (l : ℕ). MarkerTakes (l ∷ bytes) marker rest) (sym (eqb-true letter 0x48 t)) (between_takes bytes marker rest (rw (f, t) at e))
    | inr g ↦ absurd (none_is (marker, rest) (rw (f, g) at e))
  ]
]

pub marker_again : (marker : Marker) (rest : List ℕ) → MarkerFits marker → marker_of (marker_text marker ++ rest) ≡ Some (marker, rest)
unfolding marker_of marker_text
marker_again (At tip) rest fits = rw ((bytes_field 32).again tip.bytes rest fits) refl
marker_again (Between new_tip old_tip) rest fits =
    ap (λ (t : List ℕ). marker_of (0x48 ∷ t)) (append_assoc new_tip.bytes old_tip.bytes rest)
    ∙ rw ((bytes_field 32).again new_tip.bytes (old_tip.bytes ++ rest) fits.0, (bytes_field 32).again old_tip.bytes rest fits.1) refl

-- ---- a batch

-- bytes that are read as a batch are its text
pub batch_takes : (mask bytes : List ℕ) (batch : Batch) → IsBytes mask → IsBytes bytes → batch_of mask bytes ≡ Some batch → (bytes ≡ batch_text mask batch) × BatchFits batch
unfolding batch_of batch_text
batch_takes mask bytes batch masked fits e =
    let a = bind_some (marker_of bytes) _ batch e in
    let marker = marker_takes bytes a.0.0 a.0.1 a.1 in
    let rest_is : drop (length (marker_text a.0.0)) bytes ≡ a.0.1 =
    ap (λ (t : List ℕ). drop (length (marker_text a.0.0)) t) marker.0 ∙ drop_at (marker_text a.0.0) a.0.1 (length (marker_text a.0.0)) refl in
    let rest_fits = subst IsBytes rest_is (IsBytes-drop (length (marker_text a.0.0)) bytes fits) in
    let b = bind_some (rows_of mask (length a.0.1) a.0.1) _ batch a.2 in
    let rows = rows_takes mask (length a.0.1) a.0.1 b.0 masked rest_fits b.1 in
    let made : Batch = record { marker = a.0.0; rows = b.0 } in
    let is : bytes ≡ marker_text a.0.0 ++ rows_text mask b.0 = marker.0 ∙ ap (λ (t : List ℕ). marker_text a.0.0 ++ t) rows.0 in
    subst (λ (x : Batch). (bytes ≡ marker_text x.marker ++ rows_text mask x.rows) × BatchFits x) (some_is made batch b.2) (is, record { marker = marker.1; rows = rows.1 })

-- the text of a batch is read as it
pub batch_again : (mask : List ℕ) (batch : Batch) → BatchFits batch → batch_of mask (batch_text mask batch) ≡ Some batch
unfolding batch_of batch_text
batch_again mask batch fits = rw (marker_again batch.marker (rows_text mask batch.rows) fits.marker, rows_again mask batch.rows (length (rows_text mask batch.rows)) fits.rows (omega arith)) refl

-- a marker, and then bytes that aren't rows
pub batch_stuck : (mask bytes rest : List ℕ) (marker : Marker) → marker_of bytes ≡ Some (marker, rest) → rows_of mask (length rest) rest ≡ None → batch_of mask bytes ≡ None
unfolding batch_of
batch_stuck mask bytes rest marker marked stuck = rw (marked, stuck) refl

pub batch_unmarked : (mask bytes : List ℕ) → marker_of bytes ≡ None → batch_of mask bytes ≡ None
unfolding batch_of
batch_unmarked mask bytes e = rw e refl
