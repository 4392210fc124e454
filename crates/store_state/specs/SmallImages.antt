-- Small images, and what is said of them.
use Rattle.std.proofs.Common.{◌≡◌, ℕ, List, [], ◌∷◌, ◌++◌, length, take, Some, Ok, Err, refl, arith}
use Rattle.std.specs.Prelude.{◌==◌, if◌then◌else◌}
use Rattle.std.specs.Int.{to_le_bytes, w32}
use Rattle.disk_model.specs.Disk.{Image}
use Rattle.batch_log.specs.Records.{log, records, AllFit}
use Rattle.batch_log.proofs.RecordLaws.{log_closed}
use Rattle.base_types.specs.Views.{BrokenPlace}
use Rattle.base_types.specs.declared.hash.Hash32.{Hash32}
use Rattle.base_types.specs.declared.program.Rules.{Rules}
use Rattle.coin_store.specs.declared.marker.Marker.TheVariants.{At}
use Rattle.coin_store.specs.Batches.{Row, Batch, batch_text}
use Rattle.store_state.specs.State.{StoreState, header_file, body_file, coin_file, first_key, read_store, state_of}
use Rattle.store_state.specs.Breaks.{IsBroken}
use Rattle.store_state.specs.Settled.{IsSettled, Settled}

-- ---- files

-- an image whose files of headers, bodies and coins are logs of these payloads
pub record HasLogs (image : Image) (header_payloads body_payloads coin_payloads : List (List ℕ)) : Type 0 where
  pub headers : log (image header_file) ≡ Ok header_payloads
  pub bodies : log (image body_file) ≡ Ok body_payloads
  pub coins : log (image coin_file) ≡ Ok coin_payloads

-- the bytes of a log that is closed behind these payloads
abbrev pub closed_log : List (List ℕ) → List ℕ
closed_log payloads = records payloads ++ 0 ∷ []

-- the image of three such files
abbrev pub image_of : List (List ℕ) → List (List ℕ) → List (List ℕ) → Image
image_of headers bodies coins file = if file == header_file then closed_log headers else if file == body_file then closed_log bodies else if file == coin_file then closed_log coins else []

closed_is : (payloads : List (List ℕ)) → AllFit payloads → log (closed_log payloads) ≡ Ok payloads
closed_is payloads fit = log_closed payloads (closed_log payloads) (record { fit = fit; gate = 0; rest = []; closed = λ e. absurd (omega (arith, e)); is = refl })

pub image_has_logs : (headers bodies coins : List (List ℕ)) → AllFit headers → AllFit bodies → AllFit coins → HasLogs (image_of headers bodies coins) headers bodies coins
image_has_logs headers bodies coins h b c = record { headers = closed_is headers h; bodies = closed_is bodies b; coins = closed_is coins c }

-- a record, and then a gate, a length and only a part of the payload
abbrev pub cut_in_second : List ℕ → List ℕ → ℕ → List ℕ
cut_in_second first second n = records (first ∷ []) ++ 1 ∷ (to_le_bytes w32 (length second) ++ take n second)

-- a batch, whose marker is a tip
abbrev pub batch_at : Hash32 → List Row → Batch
batch_at tip rows = record { marker = At tip; rows = rows }

abbrev pub payload_at : Hash32 → List Row → List ℕ
payload_at tip rows = batch_text first_key (batch_at tip rows)

-- ---- what they stand for

-- it stands for this store, and is settled
pub record StandsSettled (limit : ℕ) (given : Rules) (image : Image) (store : StoreState) : Type 0 where
  pub stands_for : state_of limit given image ≡ Some store
  pub settled : IsSettled store

pub settled_as : (limit : ℕ) (given : Rules) (image : Image) (store : StoreState) → StandsSettled limit given image store → Settled limit given image
settled_as limit given image store s = record { state = store; stands_for = s.stands_for; settled = s.settled }

abbrev pub place_at : ℕ → ℕ → BrokenPlace
place_at file at = record { file = file; at = at }

-- reading stops at this place, which is one of those that are broken
abbrev pub IsBrokenAt : ℕ → Rules → Image → ℕ → ℕ → Type 0
IsBrokenAt limit given image file at = (read_store limit given image ≡ Err (place_at file at)) × IsBroken limit given image (place_at file at)
