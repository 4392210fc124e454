-- Batches of coins by their markers.
use Rattle.std.proofs.Common.{◌≡◌, ℕ, zero, suc, ◌+◌, ◌≤◌, ◌&&◌, Bool, true, false, List, [], ◌∷◌, length, take, Option, Some, None, Ok, Err, refl, sym, ap, ◌∙◌, arith, cond}
use Rattle.std.specs.Prelude.{slice_get, option_map}
use Rattle.std.specs.List.{list_all, AllByRecursion}
use Rattle.base_types.specs.Views.{BrokenPlace}
use Rattle.block_codec.specs.Genesis.{genesis_hash}
use Rattle.chain_model.specs.Tree.{Tree}
use Rattle.chainstates.specs.Reading.{AllAt, batch_in, batches_in, known_tips}
use Rattle.chainstates.proofs.Gates.{both_true, same_value}
use Rattle.coin_store.specs.Batches.{Batch, BatchFits, batch_text}
use Rattle.coin_store.specs.Store.{as_pair, marks, texts}
use Rattle.coin_store.specs.declared.marker.Marker.{Marker}
use Rattle.coin_store.specs.declared.marker.Marker.TheVariants.{At, Between}
use Rattle.coin_store.specs.declared.store.Marked.{Marked}
use Rattle.coin_store.proofs.BatchLaws.{batch_again}
use Rattle.store_state.specs.State.{◌>>=◌, Record, StoredBody, each_of, each_passes, gated, is_at, is_in, is_reached, last_reached, said, settled_batch, tip_of_marker, tips_of, coin_file, first_key, there_or_broken, true_or_broken}
use Rattle.store_state.proofs.ReadingSteps.{goes_on, stops, none_each, more_each, first_unread, none_passes, more_pass, first_fails, later_fails}

abbrev is_settled : Batch → Bool
is_settled batch = is_at batch.marker

abbrev further : ℕ → Batch → ℕ
further at batch = at + (5 + length (batch_text first_key batch))

-- the records of these batches
batch_records : ℕ → List Batch → List (Record Batch)
batch_records at [] = []
batch_records at (batch ∷ batches) = (at, batch) ∷ batch_records (further at batch) batches

batches_said : (at : ℕ) (batches : List Batch) → said (batch_records at batches) ≡ batches
unfolding batch_records
batches_said at [] = refl
batches_said at (batch ∷ batches) = ap (λ (l : List Batch). batch ∷ l) (batches_said (further at batch) batches)

reads_again : (batch : Batch) → BatchFits batch → batch_in (batch_text first_key batch) ≡ cond (is_settled batch) (Some batch) None
reads_again batch fits = ap settled_batch (batch_again first_key batch fits)

each_batch : (at : ℕ) (batches : List Batch) → AllByRecursion BatchFits batches → AllAt batches → each_of coin_file batch_in (gated at (texts first_key batches)) ≡ Ok (batch_records at batches)
unfolding gated batch_records
each_batch at [] fits all = none_each coin_file batch_in
each_batch at (batch ∷ batches) fits all =
    let parts = both_true (is_settled batch) (list_all is_settled batches) all in
    more_each coin_file batch_in at (batch_text first_key batch) (gated (further at batch) (texts first_key batches)) batch (batch_records (further at batch) batches)
    (reads_again batch fits.0 ∙ ap (λ (b : Bool). cond b (Some batch) None) parts.0) (each_batch (further at batch) batches fits.1 parts.1)

-- the batch of a marker
pub record HasMarker (batches : List Batch) (n : ℕ) (marked : Marked) : Type 0 where
  pub batch : Batch
  pub there : slice_get batches n ≡ Some batch
  pub marker : batch.marker ≡ marked.marker

pub marker_there : (mask : List ℕ) (at : ℕ) (batches : List Batch) (n : ℕ) (marked : Marked) → slice_get (marks mask at batches) n ≡ Some marked → HasMarker batches n marked
marker_there mask at [] n marked e = absurd cc
marker_there mask at (batch ∷ batches) zero marked e = record { batch = batch; there = refl; marker = ap (λ (m : Marked). m.marker) (same_value (record { marker = batch.marker; at = at }) marked e) }
marker_there mask at (batch ∷ batches) (suc n) marked e =
    let rest = marker_there mask (at + (5 + length (batch_text mask batch))) batches n marked e in
    record { batch = rest.batch; there = rest.there; marker = rest.marker }

pub marks_end : (mask : List ℕ) (at : ℕ) (batches : List Batch) (n : ℕ) → slice_get (marks mask at batches) n ≡ None → length batches ≤ n
marks_end mask at [] n e = omega arith
marks_end mask at (batch ∷ batches) zero e = absurd cc
marks_end mask at (batch ∷ batches) (suc n) e = let rest = marks_end mask (at + (5 + length (batch_text mask batch))) batches n e in omega (arith, rest)

later_unread : {A : Type 0} (file : ℕ) (read : List ℕ → Option A) (at : ℕ) (payload : List ℕ) (others : List (Record (List ℕ))) (a : A) (place : BrokenPlace) → read payload ≡ Some a → each_of file read others ≡ Err place
    → each_of file read ((at, payload) ∷ others) ≡ Err place
unfolding each_of
later_unread file read at payload others a place first rest =
    ap (λ (o : Option _). there_or_broken file at o >>= λ x. each_of file read others >>= λ xs. Ok ((at, x) ∷ xs)) first ∙ stops (each_of file read others) (λ xs. Ok ((at, a) ∷ xs)) place rest

-- the first batch between two tips
between_at : (at : ℕ) (batches : List Batch) (n : ℕ) (marked : Marked) → AllByRecursion BatchFits batches → slice_get (marks first_key at batches) n ≡ Some marked → list_all is_settled (take n batches) ≡ true
    → is_at marked.marker ≡ false → each_of coin_file batch_in (gated at (texts first_key batches)) ≡ Err (record { file = coin_file; at = marked.at })
unfolding gated
between_at at [] n marked fits e all none = absurd cc
between_at at (batch ∷ batches) zero marked fits e all none =
    let is = same_value (record { marker = batch.marker; at = at }) marked e in
    first_unread coin_file batch_in at (batch_text first_key batch) (gated (further at batch) (texts first_key batches))
    (reads_again batch fits.0 ∙ ap (λ (b : Bool). cond b (Some batch) None) (ap (λ (m : Marked). is_at m.marker) is ∙ none))
    ∙ ap (λ (m : Marked). Err (record { file = coin_file; at = m.at })) is
between_at at (batch ∷ batches) (suc n) marked fits e all none =
    let parts = both_true (is_settled batch) (list_all is_settled (take n batches)) all in
    later_unread coin_file batch_in at (batch_text first_key batch) (gated (further at batch) (texts first_key batches)) batch (record { file = coin_file; at = marked.at })
    (reads_again batch fits.0 ∙ ap (λ (b : Bool). cond b (Some batch) None) parts.0) (between_at (further at batch) batches n marked fits.1 e parts.1 none)

-- ---- tips

tips_pass : (tree : Tree) (at : ℕ) (batches : List Batch) → list_all (known_tips tree) batches ≡ true → each_passes coin_file (known_tips tree) (batch_records at batches) ≡ Ok (batch_records at batches)
unfolding batch_records
tips_pass tree at [] all = none_passes coin_file (known_tips tree)
tips_pass tree at (batch ∷ batches) all =
    let parts = both_true (known_tips tree batch) (list_all (known_tips tree) batches) all in
    more_pass coin_file (known_tips tree) (at, batch) (batch_records (further at batch) batches) (batch_records (further at batch) batches) parts.0 (tips_pass tree (further at batch) batches parts.1)

-- the first batch at a tip that isn't in the tree
unknown_at : (tree : Tree) (at : ℕ) (batches : List Batch) (n : ℕ) (marked : Marked) → slice_get (marks first_key at batches) n ≡ Some marked → list_all (known_tips tree) (take n batches) ≡ true
    → list_all (is_in tree) (tips_of marked.marker) ≡ false → each_passes coin_file (known_tips tree) (batch_records at batches) ≡ Err (record { file = coin_file; at = marked.at })
unfolding batch_records
unknown_at tree at [] n marked e all none = absurd cc
unknown_at tree at (batch ∷ batches) zero marked e all none =
    let is = same_value (record { marker = batch.marker; at = at }) marked e in
    first_fails coin_file (known_tips tree) (at, batch) (batch_records (further at batch) batches) (ap (λ (m : Marked). list_all (is_in tree) (tips_of m.marker)) is ∙ none)
    ∙ ap (λ (m : Marked). Err (record { file = coin_file; at = m.at })) is
unknown_at tree at (batch ∷ batches) (suc n) marked e all none =
    let parts = both_true (known_tips tree batch) (list_all (known_tips tree) (take n batches)) all in
    later_fails coin_file (known_tips tree) (at, batch) (batch_records (further at batch) batches) (record { file = coin_file; at = marked.at }) parts.0 (unknown_at tree (further at batch) batches n marked e parts.1 none)

-- ---- the last batch

abbrev LastIs : Tree → List StoredBody → Marker → Bool → Type 0
LastIs tree bodies marker reached = list_all (is_reached tree bodies genesis_hash) (tips_of marker) ≡ reached

last_then : (tree : Tree) (bodies : List StoredBody) (at : ℕ) (batches : List Batch) (n : ℕ) (marked : Marked) → slice_get (marks first_key at batches) n ≡ Some marked → length batches ≡ suc n → LastIs tree bodies marked.marker true
    → last_reached tree bodies genesis_hash (batch_records at batches) ≡ Ok (batch_records at batches)
unfolding batch_records last_reached
last_then tree bodies at [] n marked e count reached = absurd cc
last_then tree bodies at (batch ∷ []) zero marked e count reached =
    let is = same_value (record { marker = batch.marker; at = at }) marked e in
    ap (λ (b : Bool). true_or_broken coin_file at b ((at, batch) ∷ [])) (ap (λ (m : Marked). list_all (is_reached tree bodies genesis_hash) (tips_of m.marker)) is ∙ reached)
last_then tree bodies at (batch ∷ next ∷ batches) zero marked e count reached = absurd (omega (arith, count))
last_then tree bodies at (batch ∷ []) (suc n) marked e count reached = absurd (omega (arith, count))
last_then tree bodies at (batch ∷ next ∷ batches) (suc n) marked e count reached =
    goes_on (last_reached tree bodies genesis_hash (batch_records (further at batch) (next ∷ batches))) (λ more. Ok ((at, batch) ∷ more)) (batch_records (further at batch) (next ∷ batches))
    (last_then tree bodies (further at batch) (next ∷ batches) n marked e (omega (arith, count)) reached)

last_stops : (tree : Tree) (bodies : List StoredBody) (at : ℕ) (batches : List Batch) (n : ℕ) (marked : Marked) → slice_get (marks first_key at batches) n ≡ Some marked → length batches ≡ suc n → LastIs tree bodies marked.marker false
    → last_reached tree bodies genesis_hash (batch_records at batches) ≡ Err (record { file = coin_file; at = marked.at })
unfolding batch_records last_reached
last_stops tree bodies at [] n marked e count unreached = absurd cc
last_stops tree bodies at (batch ∷ []) zero marked e count unreached =
    let is = same_value (record { marker = batch.marker; at = at }) marked e in
    ap (λ (b : Bool). true_or_broken coin_file at b ((at, batch) ∷ [])) (ap (λ (m : Marked). list_all (is_reached tree bodies genesis_hash) (tips_of m.marker)) is ∙ unreached)
    ∙ ap (λ (m : Marked). Err (record { file = coin_file; at = m.at })) is
last_stops tree bodies at (batch ∷ next ∷ batches) zero marked e count unreached = absurd (omega (arith, count))
last_stops tree bodies at (batch ∷ []) (suc n) marked e count unreached = absurd (omega (arith, count))
last_stops tree bodies at (batch ∷ next ∷ batches) (suc n) marked e count unreached =
    stops (last_reached tree bodies genesis_hash (batch_records (further at batch) (next ∷ batches))) (λ more. Ok ((at, batch) ∷ more)) (record { file = coin_file; at = marked.at })
    (last_stops tree bodies (further at batch) (next ∷ batches) n marked e (omega (arith, count)) unreached)

none_last : (tree : Tree) (bodies : List StoredBody) → last_reached tree bodies genesis_hash (batch_records 0 []) ≡ Ok (batch_records 0 [])
unfolding batch_records last_reached
none_last tree bodies = refl

-- ---- all of it

module _ (tree : Tree) (bodies : List StoredBody) (batches : List Batch) (fits : AllByRecursion BatchFits batches) where
  payloads : List (List ℕ)
  payloads = texts first_key batches

  pub stops_between : (n : ℕ) (marked : Marked) → slice_get (marks first_key 0 batches) n ≡ Some marked → list_all is_settled (take n batches) ≡ true → is_at marked.marker ≡ false
      → batches_in tree bodies (texts first_key batches) ≡ Err (record { file = coin_file; at = marked.at })
  stops_between n marked e all none = stops (each_of coin_file batch_in (gated 0 (texts first_key batches))) _ (record { file = coin_file; at = marked.at }) (between_at 0 batches n marked fits e all none)

  module _ (all : AllAt batches) where
    read_each : each_of coin_file batch_in (gated 0 (texts first_key batches)) ≡ Ok (batch_records 0 batches)
    read_each = each_batch 0 batches fits all

    pub stops_unknown : (n : ℕ) (marked : Marked) → slice_get (marks first_key 0 batches) n ≡ Some marked → list_all (known_tips tree) (take n batches) ≡ true → list_all (is_in tree) (tips_of marked.marker) ≡ false
        → batches_in tree bodies (texts first_key batches) ≡ Err (record { file = coin_file; at = marked.at })
    stops_unknown n marked e known none =
        goes_on (each_of coin_file batch_in (gated 0 (texts first_key batches))) _ (batch_records 0 batches) read_each
        ∙ stops (each_passes coin_file (known_tips tree) (batch_records 0 batches)) _ (record { file = coin_file; at = marked.at }) (unknown_at tree 0 batches n marked e known none)

    module _ (known : list_all (known_tips tree) batches ≡ true) where
      read_all : last_reached tree bodies genesis_hash (batch_records 0 batches) ≡ Ok (batch_records 0 batches) → batches_in tree bodies (texts first_key batches) ≡ Ok batches
      read_all reached =
          goes_on (each_of coin_file batch_in (gated 0 (texts first_key batches))) _ (batch_records 0 batches) read_each
          ∙ goes_on (each_passes coin_file (known_tips tree) (batch_records 0 batches)) _ (batch_records 0 batches) (tips_pass tree 0 batches known)
          ∙ goes_on (last_reached tree bodies genesis_hash (batch_records 0 batches)) (λ all. Ok (said all)) (batch_records 0 batches) reached
          ∙ ap (λ (l : List Batch). Ok l) (batches_said 0 batches)

      pub reads_none : length batches ≡ 0 → batches_in tree bodies (texts first_key batches) ≡ Ok batches
      reads_none none = read_all (empty batches none)
        where
          empty : (l : List Batch) → length l ≡ 0 → last_reached tree bodies genesis_hash (batch_records 0 l) ≡ Ok (batch_records 0 l)
          empty [] e = none_last tree bodies
          empty (batch ∷ more) e = absurd (omega (arith, e))

      pub reads_reached : (n : ℕ) (marked : Marked) → slice_get (marks first_key 0 batches) n ≡ Some marked → length batches ≡ suc n → LastIs tree bodies marked.marker true → batches_in tree bodies (texts first_key batches) ≡ Ok batches
      reads_reached n marked e count reached = read_all (last_then tree bodies 0 batches n marked e count reached)

      pub stops_unreached : (n : ℕ) (marked : Marked) → slice_get (marks first_key 0 batches) n ≡ Some marked → length batches ≡ suc n → LastIs tree bodies marked.marker false
          → batches_in tree bodies (texts first_key batches) ≡ Err (record { file = coin_file; at = marked.at })
      stops_unreached n marked e count unreached =
          goes_on (each_of coin_file batch_in (gated 0 (texts first_key batches))) _ (batch_records 0 batches) read_each
          ∙ goes_on (each_passes coin_file (known_tips tree) (batch_records 0 batches)) _ (batch_records 0 batches) (tips_pass tree 0 batches known)
          ∙ stops (last_reached tree bodies genesis_hash (batch_records 0 batches)) (λ all. Ok (said all)) (record { file = coin_file; at = marked.at }) (last_stops tree bodies 0 batches n marked e count unreached)

-- ---- as the code goes through them

-- the marker that was answered
pub marked_is : (o : Option Marked) (r : Option (Marker × ℕ)) (marker : Marker) (at : ℕ) → r ≡ option_map as_pair o → r ≡ Some (marker, at) → (marked : Marked) × (o ≡ Some marked) × (marked.marker ≡ marker) × (marked.at ≡ at)
marked_is None r marker at e is = absurd cc
marked_is (Some marked) r marker at e is =
    let same : (marked.marker, marked.at) ≡ (marker, at) = same_value (marked.marker, marked.at) (marker, at) (sym e ∙ is) in
    (marked, refl, ap (λ (p : Marker × ℕ). p.0) same, ap (λ (p : Marker × ℕ). p.1) same)

pub none_marked : (o : Option Marked) (r : Option (Marker × ℕ)) → r ≡ option_map as_pair o → r ≡ None → o ≡ None
none_marked None r e is = refl
none_marked (Some marked) r e is = absurd cc

pub under_key : (mask : List ℕ) (batches : List Batch) (n : ℕ) (o : Option Marked) → mask ≡ first_key → slice_get (marks mask 0 batches) n ≡ o → slice_get (marks first_key 0 batches) n ≡ o
under_key mask batches n o is e = ap (λ (key : List ℕ). slice_get (marks key 0 batches) n) (sym is) ∙ e

and_true : (b : Bool) → (b && true) ≡ b
and_true true = refl
and_true false = refl

-- a marker `At` a tip names it alone
pub tips_known : (tree : Tree) (marker : Marker) (b : Bool) → is_at marker ≡ true → is_in tree (tip_of_marker marker) ≡ b → list_all (is_in tree) (tips_of marker) ≡ b
tips_known tree (At tip) b at is = and_true (is_in tree tip) ∙ is
tips_known tree (Between new_tip old_tip) b at is = absurd cc

pub tip_reached : (tree : Tree) (bodies : List StoredBody) (marker : Marker) (b : Bool) → is_at marker ≡ true → is_reached tree bodies genesis_hash (tip_of_marker marker) ≡ b → list_all (is_reached tree bodies genesis_hash) (tips_of marker) ≡ b
tip_reached tree bodies (At tip) b at is = and_true (is_reached tree bodies genesis_hash tip) ∙ is
tip_reached tree bodies (Between new_tip old_tip) b at is = absurd cc
