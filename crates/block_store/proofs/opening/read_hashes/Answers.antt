use Rattle.std.proofs.Common.{◌≡◌, ◌+◌, ◌*◌, ◌≤◌, List, [], ◌∷◌, length, arith, ◌∙◌, ap, length-append}
use Rattle.std.proofs.lemmas.Result.{err_from_is_err_and}
use Rattle.base_types.specs.declared.hash.Hash32.{Hash32}
use Rattle.batch_log.proofs.ReadLaws.{read_some, read_then, read_wider}
use Rattle.batch_log.specs.declared.places.Place.{Place}
use Rattle.disk_model.proofs.Moments.{quiet_then}
use Rattle.batch_log.proofs.CallerLemmas.{quiet_stands}
use Rattle.block_store.proofs.HashSteps.{as_many, place_at, of_each, one_more, all_read, only_failed}
use Rattle.block_store.proofs.opening.read_hashes.Goals as goal

abbrev nowhere : Place
nowhere = record { at = 0; len = 0 }

pub returns-in_err-read_part-clause-hashes : goal.returns-in_err-read_part-clause-hashes
returns-in_err-read_part-clause-hashes g c payloads stands =
    let p = err_from_is_err_and c.from_residual.result c.from_residual.ensures.1 in
    let now = quiet_stands g.D.Disk.time g.D.Disk.left_since g.D.Disk.contents g.met.D.Disk.since_earlier c.args.disk.now c.loop-place.disk c.loop-place.invariant.quiet c.loop-place.invariant.contents c.args.bodies.now payloads stands in
    let a = place_at c.places-place-items.result.now c.args.bodies.now.places payloads c.loop-place.place-index nowhere c.places-place-items.ensures.all stands.places c.loop-place-test.true in
    let r = c.in_err-read_part.ensures.payload payloads c.loop-place.place-index a.payload now a.there a.here in
    rw (p.1, p.2) (tt, only_failed c.in_err-read_part.field-0.0 r.1)

pub loop-place-preserved : goal.loop-place-preserved
loop-place-preserved g c = record {
  hashes = λ payloads stands.
      let now = quiet_stands g.D.Disk.time g.D.Disk.left_since g.D.Disk.contents g.met.D.Disk.since_earlier c.args.disk.now c.loop-place.disk c.loop-place.invariant.quiet c.loop-place.invariant.contents c.args.bodies.now payloads stands in
      let a = place_at c.places-place-items.result.now c.args.bodies.now.places payloads c.loop-place.place-index nowhere c.places-place-items.ensures.all stands.places c.loop-place-test.true in
      let r = c.in_ok-read_part.ensures.payload payloads c.loop-place.place-index a.payload now a.there a.here in
      let enough = of_each (λ (p : Place). 32 ≤ p.len) c.args.bodies.now.places c.loop-place.place-index _ c.requires a.there in
      let long = a.long in
      one_more payloads c.loop-place.place-index a.payload c.read_part.new.buf c.loop-place.index c.add.new.self a.here (omega arith) r.0 c.in_ok-add.ensures.ok.0 (c.loop-place.invariant.hashes payloads stands);
  len =
      let last : List Hash32 = record { bytes = c.read_part.new.buf } ∷ [] in
      omega (arith, ap length c.in_ok-add.ensures.ok.0, length-append c.loop-place.index last, c.loop-place.invariant.len);
  faults = let a = c.loop-place.invariant.faults in let b = c.in_ok-read_part.ensures.faults in omega arith;
  contents = c.in_ok-read_part.ensures.contents ∙ c.loop-place.invariant.contents;
  quiet = quiet_then g.D.Disk.time g.D.Disk.left_since c.args.disk.now c.loop-place.disk c.read_part.new.disk c.loop-place.invariant.quiet c.in_ok-read_part.ensures.quiet;
  read = read_wider c.args.bodies.now.file (32 * c.loop-place.place-index + 32) (32 * (c.loop-place.place-index + 1)) _ _ (omega arith)
      (read_then c.args.bodies.now.file (32 * c.loop-place.place-index) 32 _ _ _ c.loop-place.invariant.read (read_some c.args.bodies.now.file 32 _ _ c.in_ok-read_part.ensures.read));
}

pub returns-clause-hashes : goal.returns-clause-hashes
returns-clause-hashes g c payloads stands =
    let seen : length c.places-place-items.result.now ≡ length payloads = ap length c.places-place-items.ensures.all ∙ ap length stands.places ∙ as_many 0 payloads in
    let over = c.loop-place-test.false in
    (all_read payloads c.loop-place.place-index c.loop-place.index (omega arith) (c.loop-place.invariant.hashes payloads stands), tt)
