-- Images that are broken, each at one place: damaged logs, and records that aren't of their form.
use Rattle.std.proofs.Common.{◌≡◌, inl, inr, ℕ, ◌+◌, ◌<◌, ◌^◌, List, [], ◌∷◌, ◌++◌, length, take, Option, None, Ok, Err, refl, ap, ◌∙◌, arith}
use Rattle.std.specs.Int.{to_le_bytes, w32}
use Rattle.std.proofs.lemmas.List.{length-append, length-take}
use Rattle.std.proofs.lemmas.Nat.{from_le_bytes-to_le_bytes_4}
use Rattle.disk_model.specs.Disk.{Image}
use Rattle.batch_log.specs.Records.{log, records, length_at}
use Rattle.batch_log.proofs.RecordLaws.{log_damaged}
use Rattle.base_types.specs.declared.hash.Hash32.{Hash32}
use Rattle.base_types.specs.declared.program.Rules.{Rules}
use Rattle.chain_model.specs.HeaderRules.{first_tree}
use Rattle.coin_store.specs.declared.marker.Marker.TheVariants.{Between}
use Rattle.coin_store.specs.Batches.{Row, Batch, BatchFits, batch_text}
use Rattle.coin_store.proofs.BatchLaws.{batch_again}
use Rattle.coin_store.specs.Reading.{batch_of}
use Rattle.store_state.specs.State.{settled_batch, header_file, body_file, coin_file, first_key, whole_log, records_of, each_of}
use Rattle.store_state.specs.Breaks.{DamagedLog, NoHeaders, NoBody, NoBatch}
use Rattle.store_state.proofs.ReadingSteps.{goes_on, stops, one_record, first_unread, no_headers, no_bodies, stops_in_tree, stops_in_bodies, stops_in_batches}
use Rattle.store_state.specs.SmallImages.{IsBrokenAt, place_at, cut_in_second}

-- ---- a damaged gate

-- a file of headers that is an open gate and no record
pub open_gate_alone : (limit : ℕ) (given : Rules) (image : Image) → image header_file ≡ 1 ∷ 0 ∷ [] → IsBrokenAt limit given image header_file 0
open_gate_alone limit given image is =
    let bad : log (image header_file) ≡ Err 0 = ap log is in (
      stops_in_tree limit given image (place_at header_file 0) (stops (records_of image header_file) _ (place_at header_file 0) (ap (whole_log header_file) bad)),
      DamagedLog header_file 0 (inl refl) bad,
    )

pub cut_log : (first second : List ℕ) (n : ℕ) → length first < 2 ^ 32 → length second < 2 ^ 32 → log (cut_in_second first second n) ≡ Err (length (records (first ∷ [])))
cut_log first second n first_fits second_fits =
    let rest = to_le_bytes w32 (length second) ++ take n second in
    let told : length_at rest ≡ length second = from_le_bytes-to_le_bytes_4 (length second) second_fits in
    log_damaged (first ∷ []) (cut_in_second first second n) rest (first_fits, tt) refl
    (omega (arith, length-append (records (first ∷ [])) (1 ∷ rest)))
    (omega (arith, told, length-take n second, length-append (to_le_bytes w32 (length second)) (take n second)))

pub length_of_one : (payload : List ℕ) → length (records (payload ∷ [])) ≡ 5 + length payload
length_of_one payload = omega (arith, length-append payload [])

-- a file of coins whose second record is cut is broken at that record's gate
pub second_record_cut : (limit : ℕ) (given : Rules) (image : Image) (first second : List ℕ) (n : ℕ) → length first < 2 ^ 32 → length second < 2 ^ 32
    → log (image header_file) ≡ Ok [] → log (image body_file) ≡ Ok [] → image coin_file ≡ cut_in_second first second n
    → IsBrokenAt limit given image coin_file (5 + length first)
second_record_cut limit given image first second n first_fits second_fits headers bodies is =
    let bad : log (image coin_file) ≡ Err (5 + length first) = ap log is ∙ cut_log first second n first_fits second_fits ∙ ap (λ (at : ℕ). Err at) (length_of_one first) in
    let place = place_at coin_file (5 + length first) in (
      stops_in_batches limit given image (first_tree given) [] place (no_headers limit given image headers) (no_bodies (first_tree given) image bodies)
          (stops (records_of image coin_file) _ place (ap (whole_log coin_file) bad)),
      DamagedLog coin_file (5 + length first) (inr (inr refl)) bad,
    )

-- ---- records that aren't of their form

-- a record of headers of one byte
pub short_headers : (limit : ℕ) (given : Rules) (image : Image) → log (image header_file) ≡ Ok ((7 ∷ []) ∷ []) → IsBrokenAt limit given image header_file 0
unfolding each_of
short_headers limit given image is =
    let records = one_record image header_file (7 ∷ []) is in (
      stops_in_tree limit given image (place_at header_file 0) (goes_on (records_of image header_file) _ ((0, 7 ∷ []) ∷ []) records),
      NoHeaders [] [] 0 (7 ∷ []) records refl,
    )

-- a body of one byte
pub short_body : (limit : ℕ) (given : Rules) (image : Image) → log (image header_file) ≡ Ok [] → log (image body_file) ≡ Ok ((7 ∷ []) ∷ []) → IsBrokenAt limit given image body_file 0
unfolding each_of
short_body limit given image headers is =
    let records = one_record image body_file (7 ∷ []) is in (
      stops_in_bodies limit given image (first_tree given) (place_at body_file 0) (no_headers limit given image headers) (goes_on (records_of image body_file) _ ((0, 7 ∷ []) ∷ []) records),
      NoBody [] [] 0 (7 ∷ []) records refl,
    )

-- what is read of a record of coins
abbrev pub read_batch : List ℕ → Option Batch
read_batch payload = settled_batch (batch_of first_key payload)

-- a batch between two tips, for as long as none is settled
pub between_tips : (limit : ℕ) (given : Rules) (image : Image) (new_tip old_tip : Hash32) (rows : List Row)
    → BatchFits (record { marker = Between new_tip old_tip; rows = rows })
    → log (image header_file) ≡ Ok [] → log (image body_file) ≡ Ok [] → log (image coin_file) ≡ Ok (batch_text first_key (record { marker = Between new_tip old_tip; rows = rows }) ∷ [])
    → IsBrokenAt limit given image coin_file 0
between_tips limit given image new_tip old_tip rows fits headers bodies is =
    let batch : Batch = record { marker = Between new_tip old_tip; rows = rows } in
    let payload = batch_text first_key batch in
    let records = one_record image coin_file payload is in
    let none : read_batch payload ≡ None = ap settled_batch (batch_again first_key batch fits) in (
      stops_in_batches limit given image (first_tree given) [] (place_at coin_file 0) (no_headers limit given image headers) (no_bodies (first_tree given) image bodies)
          (goes_on (records_of image coin_file) _ ((0, payload) ∷ []) records
          ∙ stops (each_of coin_file read_batch ((0, payload) ∷ [])) _ (place_at coin_file 0) (first_unread coin_file read_batch 0 payload [] none)),
      NoBatch [] [] 0 payload records none,
    )
