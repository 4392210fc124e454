use Rattle.std.specs.Prelude.{◌≤◌, drop, vec_len, vec_capacity}
use Rattle.std.specs.FinMap.{get}
use Rattle.coin_store.specs.declared.staging.StagedRows.{StagedRows}
use Rattle.std.proofs.Common.{◌∙◌, refl, ap, arith}
use Rattle.std.proofs.lemmas.List.{drop_all}
use Rattle.coin_store.specs.OpenIndex.{OpenIndex}
use Rattle.coin_store.specs.Places.{live}
use Rattle.coin_store.proofs.StagingLaws.{knows_same}
use Rattle.coin_store.proofs.Payloads.{still_staged}
use Rattle.coin_store.proofs.StagedBytes.{in_any_case}
use Rattle.coin_store.proofs.store.CoinStore.prepare.Goals as goal

pub returns-in_err-room_in_place-clause-knows : goal.returns-in_err-room_in_place-clause-knows
returns-in_err-room_in_place-clause-knows c = λ base batches knows. knows_same c.args.self.now _ base batches (record { log = c.room_in_place.ensures.same; base = refl; mask = refl; start = refl; base_index = refl; salt = refl; markers = refl; places = λ q. refl }) knows

pub returns-in_err-room_in_place-clause-kept : goal.returns-in_err-room_in_place-clause-kept
returns-in_err-room_in_place-clause-kept c = λ named most payloads growth rows s.
    let size : c.args.self.now.index.size ≤ c.args.self.now.index.size = omega (arith) in
    let room : vec_capacity c.args.self.now.markers ≤ vec_capacity c.args.self.now.markers = omega arith in
    in_any_case c.from_residual.result (still_staged c.args.self.now _ named most payloads growth rows s c.room_in_place.ensures.same refl size refl refl room refl refl refl refl)

pub returns-in_err-reserve-clause-knows : goal.returns-in_err-reserve-clause-knows
returns-in_err-reserve-clause-knows c = λ base batches knows. knows_same c.args.self.now _ base batches (record { log = c.room_in_place.ensures.same; base = refl; mask = refl; start = refl; base_index = refl; salt = ap (λ (i : OpenIndex). i.salt) c.reserve.ensures.same; markers = refl; places = (λ q. ap (λ (i : OpenIndex). live (get i.places q)) c.reserve.ensures.same) }) knows

pub returns-in_err-reserve-clause-kept : goal.returns-in_err-reserve-clause-kept
returns-in_err-reserve-clause-kept c = λ named most payloads growth rows s.
    let size : c.args.self.now.index.size ≤ c.reserve.new.self.size = omega (arith, ap (λ (i : OpenIndex). i.size) c.reserve.ensures.same) in
    let room : vec_capacity c.args.self.now.markers ≤ vec_capacity c.args.self.now.markers = omega arith in
    in_any_case c.from_residual-in_err-reserve.result (still_staged c.args.self.now _ named most payloads growth rows s c.room_in_place.ensures.same (ap (λ (i : OpenIndex). i.places) c.reserve.ensures.same) size refl refl room refl refl refl refl)

pub returns-in_err-reserve-2-clause-knows : goal.returns-in_err-reserve-2-clause-knows
returns-in_err-reserve-2-clause-knows c = λ base batches knows. knows_same c.args.self.now _ base batches (record { log = c.room_in_place.ensures.same; base = refl; mask = refl; start = refl; base_index = refl; salt = ap (λ (i : OpenIndex). i.salt) c.reserve.ensures.same; markers = c.reserve-2.ensures.items; places = (λ q. ap (λ (i : OpenIndex). live (get i.places q)) c.reserve.ensures.same) }) knows

pub returns-in_err-reserve-2-clause-kept : goal.returns-in_err-reserve-2-clause-kept
returns-in_err-reserve-2-clause-kept c = λ named most payloads growth rows s.
    let size : c.args.self.now.index.size ≤ c.reserve.new.self.size = omega (arith, ap (λ (i : OpenIndex). i.size) c.reserve.ensures.same) in
    in_any_case c.from_residual-in_err-reserve-2.result (still_staged c.args.self.now _ named most payloads growth rows s c.room_in_place.ensures.same (ap (λ (i : OpenIndex). i.places) c.reserve.ensures.same) size refl c.reserve-2.ensures.len c.reserve-2.ensures.capacity refl refl refl refl)

pub returns-in_err-make_room-clause-knows : goal.returns-in_err-make_room-clause-knows
returns-in_err-make_room-clause-knows c = λ base batches knows. knows_same c.args.self.now _ base batches (record { log = c.room_in_place.ensures.same; base = refl; mask = refl; start = refl; base_index = refl; salt = ap (λ (i : OpenIndex). i.salt) c.reserve.ensures.same; markers = c.reserve-2.ensures.items; places = (λ q. ap (λ (i : OpenIndex). live (get i.places q)) c.reserve.ensures.same) }) knows

pub returns-in_err-make_room-clause-kept : goal.returns-in_err-make_room-clause-kept
returns-in_err-make_room-clause-kept c = λ named most payloads growth rows s.
    let size : c.args.self.now.index.size ≤ c.reserve.new.self.size = omega (arith, ap (λ (i : OpenIndex). i.size) c.reserve.ensures.same) in
    let stays = c.in_err-make_room.ensures.err in
    in_any_case c.from_residual-in_err-make_room.result (still_staged c.args.self.now _ named most payloads growth rows s c.room_in_place.ensures.same (ap (λ (i : OpenIndex). i.places) c.reserve.ensures.same) size refl c.reserve-2.ensures.len c.reserve-2.ensures.capacity
    (ap (λ (r : StagedRows). drop 69 r.bytes.items) stays) (ap (λ (r : StagedRows). vec_len r.bytes) stays) (ap (λ (r : StagedRows). r.room) stays) (ap (λ (r : StagedRows). r.rows.items) stays))

pub returns-clause-same : goal.returns-clause-same
returns-clause-same c = record {
  log = c.room_in_place.ensures.same;
  base = refl;
  mask = refl;
  start = refl;
  base_index = refl;
  salt = c.add_entries.ensures.salt ∙ ap (λ (i : OpenIndex). i.salt) c.reserve.ensures.same;
  markers = c.reserve-2.ensures.items;
  places = λ q. c.add_entries.ensures.same q ∙ ap (λ (i : OpenIndex). live (get i.places q)) c.reserve.ensures.same;
}

pub returns-clause-knows : goal.returns-clause-knows
returns-clause-knows c = λ base batches knows. knows_same c.args.self.now _ base batches (returns-clause-same c) knows

pub returns-clause-ok : goal.returns-clause-ok
returns-clause-ok c = record {
  entries = c.add_entries.ensures.entries;
  few_vacant = c.add_entries.ensures.few;
  named = tt;
  fit = tt;
  front = omega (arith, c.in_ok-make_room.ensures.front);
  text = drop_all 69 c.make_room.new.self.bytes.items (omega (arith, c.in_ok-make_room.ensures.front));
  coins = c.in_ok-make_room.ensures.none;
  bytes = c.in_ok-make_room.ensures.room;
  short = c.ranges.payload.fits;
  marked = omega (arith, c.in_ok-reserve-2.ensures.ok);
  room = c.in_ok-room_in_place.ensures.ok;
}
