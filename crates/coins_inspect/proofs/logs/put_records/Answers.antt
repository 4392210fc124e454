use Rattle.std.proofs.Common.{◌≡◌, ◌+◌, ◌++◌, ℕ, suc, List, length, take, drop, get_or, sym, ap, ◌∙◌, arith, append_assoc}
use Rattle.std.proofs.lemmas.List.{take_all, append-nil}
use Rattle.std.specs.Prelude.{slice_get}
use Rattle.disk_model.proofs.Moments.{quiet_then, on_ok}
use Rattle.batch_log.specs.Records.{records}
use Rattle.batch_log.specs.OpenLog.{places_of}
use Rattle.batch_log.specs.declared.places.Place.{Place}
use Rattle.block_store.proofs.StoreLaws.{quiet_stands}
use Rattle.block_store.proofs.HashSteps.{as_many, place_at}
use Rattle.coins_inspect.specs.Reports.{end_line}
use Rattle.coins_inspect.specs.LogReports.{record_line, payload_lines, records_lines}
use Rattle.coins_inspect.proofs.LogSteps.{one_more, goes_on, none_left, ends_at}
use Rattle.coins_inspect.proofs.logs.put_records.Goals as goal

abbrev nowhere : Place
nowhere = record { at = 0; len = 0 }

pub loop-place-preserved : goal.loop-place-preserved
loop-place-preserved g c = record {
  lines = λ payloads stands.
      let now = quiet_stands g.D.Disk.time g.D.Disk.left_since g.D.Disk.contents g.met.D.Disk.since_earlier c.args.disk.now c.loop-place.disk c.loop-place.invariant.quiet c.loop-place.invariant.contents c.args.log.now payloads stands in
      let a = place_at c.places-place-items.result.now c.args.log.now.places payloads c.loop-place.place-index nowhere c.places-place-items.ensures.all stands.places c.loop-place-test.true in
      let r = c.in_ok-put_record.ensures.lines payloads c.loop-place.place-index a.payload now a.there a.here in
      let i = c.loop-place.place-index in
      let places = c.args.log.now.places in
      let kind = c.args.kind in
      let place : Place = get_or c.places-place-items.result.now i nowhere in
      let step : suc i ≡ i + 1 = omega arith in
      goes_on c.args.out.now.items c.loop-place.out.items c.put_record.new.out.items (record_line place) (payload_lines kind a.payload)
      (records_lines kind (drop i places) (drop i payloads)) (records_lines kind (drop (i + 1) places) (drop (i + 1) payloads)) (records_lines kind places payloads) r
      (one_more kind places payloads i place a.payload a.there a.here
      ∙ ap (λ (n : ℕ). record_line place ++ payload_lines kind a.payload ++ records_lines kind (drop n places) (drop n payloads)) step)
      (c.loop-place.invariant.lines payloads stands);
  end = λ payloads stands.
      let a = place_at c.places-place-items.result.now c.args.log.now.places payloads c.loop-place.place-index nowhere c.places-place-items.ensures.all stands.places c.loop-place-test.true in
      let there = ap (λ (l : List Place). slice_get l c.loop-place.place-index) (sym stands.places) ∙ a.there in
      let step : suc c.loop-place.place-index ≡ c.loop-place.place-index + 1 = omega arith in
      let place : Place = get_or c.places-place-items.result.now c.loop-place.place-index nowhere in
      let ends = ends_at 0 payloads c.loop-place.place-index place there in
      let zero_more : (n : ℕ) → 0 + n ≡ n = λ n. omega arith in
      ap (λ (n : ℕ). place.at + 5 + n) c.from.ensures ∙ ends ∙ zero_more (length (records (take (suc c.loop-place.place-index) payloads))) ∙ ap (λ (n : ℕ). length (records (take n payloads))) step;
  contents = c.in_ok-put_record.ensures.contents ∙ c.loop-place.invariant.contents;
  quiet = quiet_then g.D.Disk.time g.D.Disk.left_since c.args.disk.now c.loop-place.disk c.put_record.new.disk c.loop-place.invariant.quiet c.in_ok-put_record.ensures.quiet;
}

pub returns : goal.returns
returns g c payloads stands =
    let seen : length c.places-place-items.result.now ≡ length c.args.log.now.places = ap length c.places-place-items.ensures.all in
    let many : length c.args.log.now.places ≡ length payloads = ap length stands.places ∙ as_many 0 payloads in
    let over = c.loop-place-test.false in
    let left = none_left c.args.kind c.args.log.now.places (drop c.loop-place.place-index payloads) c.loop-place.place-index (omega arith) in
    let lines : c.loop-place.out.items ≡ c.args.out.now.items ++ records_lines c.args.kind (places_of 0 payloads) payloads =
    sym (append-nil c.loop-place.out.items) ∙ ap (λ (l : List ℕ). c.loop-place.out.items ++ l) (sym left) ∙ c.loop-place.invariant.lines payloads stands
    ∙ ap (λ (l : List Place). c.args.out.now.items ++ records_lines c.args.kind l payloads) stands.places in
    let end : c.loop-place.end ≡ length (records payloads) = c.loop-place.invariant.end payloads stands ∙ ap (λ (l : List (List ℕ)). length (records l)) (take_all c.loop-place.place-index payloads (omega arith)) in
    on_ok c.put_end.result _ _ (λ is. is ∙ ap (λ (l : List ℕ). l ++ end_line c.loop-place.end) lines ∙ ap (λ (n : ℕ). (c.args.out.now.items ++ records_lines c.args.kind (places_of 0 payloads) payloads) ++ end_line n) end
    ∙ append_assoc c.args.out.now.items (records_lines c.args.kind (places_of 0 payloads) payloads) (end_line (length (records payloads)))) c.put_end.ensures
