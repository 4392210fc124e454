use Rattle.std.proofs.Common.{◌≡◌, ◌<◌, ◌+◌, ◌-◌, ◌%◌, length, drop, arith, refl, ◌∙◌}
use Rattle.std.proofs.lemmas.List.{drop-set, length-set}
use Rattle.base_types.specs.Bytes.{varint}
use Rattle.base_types.proofs.Groups.{takes_place, in_front, begins, ends, appended}
use Rattle.base_types.proofs.writing.put_varint.Goals as goal

pub loop-above-init : goal.loop-above-init
loop-above-init c = record { written = begins c.args.n; fits = omega arith; places = omega arith; sized = refl }

pub loop-above-preserved : goal.loop-above-preserved
loop-above-preserved c =
    let place = takes_place c.loop-above.first c.loop-above.above (omega arith) c.loop-above.invariant.fits in
    let below : c.loop-above.first - 1 < length c.loop-above.groups = omega arith in
    let next : c.loop-above.first - 1 + 1 ≡ c.loop-above.first = omega arith in
    let behind = drop-set c.loop-above.groups (c.loop-above.first - 1) (128 + (c.loop-above.above - 1) % 128) below in
    record {
      written = rw (behind, next) (in_front c.loop-above.above (drop c.loop-above.first c.loop-above.groups) (varint c.args.n) (omega arith) c.loop-above.invariant.written);
      fits = place.1;
      places = omega arith;
      sized = length-set c.loop-above.groups _ _ ∙ c.loop-above.invariant.sized;
    }

pub returns-clause-ok : goal.returns-clause-ok
returns-clause-ok c =
    let whole = ends c.loop-above.above (drop c.loop-above.first c.loop-above.groups) (varint c.args.n) (omega arith) c.loop-above.invariant.written in
    appended c.extend_from_slice.result c.args.out.now.items c.extend_from_slice.new.self.items c.loop-above.groups (varint c.args.n) c.loop-above.first 10 c.loop-above.invariant.sized whole c.extend_from_slice.ensures.items
