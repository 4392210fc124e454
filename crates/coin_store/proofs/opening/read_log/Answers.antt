use Rattle.std.specs.Prelude.{◌≤◌, ℕ, length, get_or}
use Rattle.std.proofs.Common.{◌∙◌, ap, subst, arith}
use Rattle.std.proofs.lemmas.Result.{err_from_is_err_and}
use Rattle.disk_model.proofs.Moments.{quiet_then}
use Rattle.batch_log.specs.Reading.{ReadAtMost}
use Rattle.batch_log.proofs.CallerLemmas.{quiet_stands}
use Rattle.batch_log.proofs.ReadLaws.{read_then, read_wider}
use Rattle.batch_log.specs.declared.places.Place.{Place}
use Rattle.coin_store.proofs.Scanning.{payload_at, there, lengths_more, lengths_within, scan_more, scan_faulty, scan_all}
use Rattle.coin_store.proofs.opening.read_log.Goals as goal

pub returns-in_err-marker-clause-damaged : goal.returns-in_err-marker-clause-damaged
returns-in_err-marker-clause-damaged g c = λ payloads stands.
    let i = c.loop-i.invariant in
    let now = quiet_stands g.D.Disk.time g.D.Disk.left_since g.D.Disk.contents g.met.D.Disk.since_earlier c.args.disk.now c.loop-i.disk i.quiet i.contents c.args.log.now payloads stands in
    let place : Place = get_or c.places-places.result.now c.loop-i.i (record { at = 0; len = 0 }) in
    let here = there c.args.log.now.places c.places-places.result.now c.loop-i.i (record { at = 0; len = 0 }) c.places-places.ensures.all c.loop-i-test.true in
    let p = payload_at c.args.log.now payloads stands.places c.loop-i.i place here in
    let e = err_from_is_err_and c.from_residual-in_err-marker.result c.from_residual-in_err-marker.ensures.1 in
    rw (e.1, e.2) (scan_faulty c.args.log.now.file c.args.mask.now payloads c.args.index.now.places c.args.kind c.loop-i.i place c.loop-i.index.places c.loop-i.markers.items (i.known payloads stands) p c.in_err-marker.field-0.0 _ _ _ c.in_err-marker.ensures.cause
    (c.in_err-marker.ensures.ok payloads c.loop-i.i p.payload now here p.here).1)

pub returns-in_err-marker-clause-read : goal.returns-in_err-marker-clause-read
returns-in_err-marker-clause-read g c =
    let place : Place = get_or c.places-places.result.now c.loop-i.i (record { at = 0; len = 0 }) in
    let one = c.in_err-marker.ensures.read in
    let both = read_then c.args.log.now.file _ place.len _ _ _ c.loop-i.invariant.read one in
    read_wider c.args.log.now.file _ _ _ _ (lengths_within c.args.log.now.places c.places-places.result.now c.loop-i.i (record { at = 0; len = 0 }) c.places-places.ensures.all c.loop-i-test.true) both

pub returns-in_err-keep_marker-clause-read : goal.returns-in_err-keep_marker-clause-read
returns-in_err-keep_marker-clause-read g c =
    let place : Place = get_or c.places-places.result.now c.loop-i.i (record { at = 0; len = 0 }) in
    let one = c.read_record.ensures.read in
    let both = read_then c.args.log.now.file _ place.len _ _ _ c.loop-i.invariant.read one in
    read_wider c.args.log.now.file _ _ _ _ (lengths_within c.args.log.now.places c.places-places.result.now c.loop-i.i (record { at = 0; len = 0 }) c.places-places.ensures.all c.loop-i-test.true) both

pub loop-i-preserved : goal.loop-i-preserved
loop-i-preserved g c =
    let i = c.loop-i.invariant in
    let place : Place = get_or c.places-places.result.now c.loop-i.i (record { at = 0; len = 0 }) in
    let one = c.read_record.ensures.read in
    let both = read_then c.args.log.now.file _ place.len _ _ _ i.read one in
    record {
      contents = c.read_record.ensures.contents ∙ i.contents;
      quiet = quiet_then g.D.Disk.time g.D.Disk.left_since c.args.disk.now c.loop-i.disk c.read_record.new.disk i.quiet c.read_record.ensures.quiet;
      faults = omega (arith, i.faults, c.read_record.ensures.faults);
      read = subst (λ (n : ℕ). ReadAtMost c.args.log.now.file n (g.D.Disk.bytes_read c.args.disk.now) (g.D.Disk.bytes_read c.read_record.new.disk)) (lengths_more c.places-places.result.now c.loop-i.i (record { at = 0; len = 0 }) c.loop-i-test.true) both;
      known = λ payloads stands.
          let now = quiet_stands g.D.Disk.time g.D.Disk.left_since g.D.Disk.contents g.met.D.Disk.since_earlier c.args.disk.now c.loop-i.disk i.quiet i.contents c.args.log.now payloads stands in
          let here = there c.args.log.now.places c.places-places.result.now c.loop-i.i (record { at = 0; len = 0 }) c.places-places.ensures.all c.loop-i-test.true in
          let p = payload_at c.args.log.now payloads stands.places c.loop-i.i place here in
          let b = (c.in_ok-marker.ensures.ok payloads c.loop-i.i p.payload now here p.here).0 in
          scan_more c.args.log.now.file c.args.mask.now payloads c.args.index.now.places c.args.kind c.loop-i.i place c.loop-i.index.places c.read_record.new.index.places c.loop-i.markers.items c.keep_marker.new.markers.items c.in_ok-marker.marker (i.known payloads stands) p
          b c.in_ok-keep_marker.ensures.ok;
      salt = c.read_record.ensures.salt ∙ i.salt;
    }

pub returns-clause-ok : goal.returns-clause-ok
returns-clause-ok g c = λ payloads stands.
    let over : length c.args.log.now.places ≤ c.loop-i.i = omega (arith, c.loop-i-test.false, ap length c.places-places.ensures.all) in
    scan_all c.args.log.now.file c.args.mask.now payloads c.args.index.now.places c.args.kind c.loop-i.i c.args.log.now c.loop-i.index.places c.loop-i.markers.items stands.places over (c.loop-i.invariant.known payloads stands)
