use Rattle.std.proofs.Common.{◌∙◌, ⊎_elim, ℕ, List, Ok, ap, arith, le_refl, length, refl, subst, sym}
use Rattle.std.specs.Prelude.{slice_get}
use Rattle.disk_model.proofs.Moments.{quiet_none, quiet_then}
use Rattle.block_store.proofs.HashSteps.{as_many}
use Rattle.block_store.proofs.StoreLaws.{quiet_holds}
use Rattle.batch_log.specs.declared.places.Place.{Place}
use Rattle.chain_model.specs.HeaderRules.{tree_with}
use Rattle.chainstates.specs.Reading.{IsRefused}
use Rattle.chainstates.proofs.Gates.{in_or_over}
use Rattle.chainstates.proofs.TreeSteps.{fetch_fails, no_damage, payload_or_end, refused_at, tree_first, tree_next, tree_whole, where_refused}
use Rattle.header_tree.specs.State.{State}
use Rattle.chainstates.proofs.tree_reading.read_tree.Goals as goal

pub loop-number-init : goal.loop-number-init
loop-number-init g c =
    let first = c.in_ok-tree.ensures.first in
    record {
      tree = λ payloads holds. tree_first c.args.limits.now.headers payloads.headers ∙ ap (λ (s : State). Ok s.tree) (sym first);
      limit = ap (λ (s : State). s.limit) first;
      faults = le_refl _;
      contents = refl;
      quiet = quiet_none g.D.Disk.time g.D.Disk.left_since c.args.disk.now;
    }

pub returns-in-Err-add_record-clause-damaged : goal.returns-in-Err-add_record-clause-damaged
returns-in-Err-add_record-clause-damaged g c payloads holds =
    let now = quiet_holds g.D.Disk.time g.D.Disk.left_since g.D.Disk.contents g.met.D.Disk.since_earlier c.args.disk.now c.loop-number.disk c.loop-number.invariant.quiet c.loop-number.invariant.contents c.args.blocks.now payloads holds in
    ⊎_elim
    (λ there.
    let read = (c.in-Ok-Some.ensures.payload payloads there.1 now there.3).0 in
    let are = rw c.in-Ok-Some.field-0-is at read in
    let found = c.in-Ok-Some.ensures.found there.0 there.2 now.headers.holds.image now.headers.holds.told in
    let place = rw c.in-Ok-Some.field-0-is at found in
    where_refused c.args.limits.now.headers payloads.headers c.in-Ok-Some.stored.at c.in-Err-add_record.fault _ c.in-Err-add_record.ensures.err
    (λ refused. subst (IsRefused c.args.limits.now.headers payloads.headers) (sym place.1)
    (refused_at c.args.limits.now.headers payloads.headers c.loop-number.number there.1 there.0 c.in-Ok-Some.stored.headers c.loop-number.tree.tree there.3 (ap (λ (l : List Place). slice_get l c.loop-number.number) (sym holds.headers.places) ∙ there.2) are
    (c.loop-number.invariant.tree payloads holds) (ap (λ (n : ℕ). tree_with n c.loop-number.tree.tree c.in-Ok-Some.stored.headers) (sym c.loop-number.invariant.limit) ∙ refused))))
    (λ over. absurd (let none = (c.in-Ok-Some.ensures.none over).0 in let some = c.in-Ok-Some.field-0-is in cc))
    (payload_or_end c.args.blocks.now.headers.places payloads.headers c.loop-number.number holds.headers.places)

pub returns-in-Ok-None-clause-ok : goal.returns-in-Ok-None-clause-ok
returns-in-Ok-None-clause-ok g c payloads holds =
    tree_whole c.args.limits.now.headers payloads.headers c.loop-number.number c.loop-number.tree.tree
    (⊎_elim
    (λ there. absurd (let some = (c.in-Ok-None.ensures.cause there.0 there.2).0 in let never = rw c.in-Ok-None.field-0-is at some in cc))
    (λ over. let count = ap length holds.headers.places ∙ as_many 0 payloads.headers in omega (arith, over, count))
    (payload_or_end c.args.blocks.now.headers.places payloads.headers c.loop-number.number holds.headers.places))
    (c.loop-number.invariant.tree payloads holds)

pub returns-in-Err-clause-damaged : goal.returns-in-Err-clause-damaged
returns-in-Err-clause-damaged g c payloads holds =
    let now = quiet_holds g.D.Disk.time g.D.Disk.left_since g.D.Disk.contents g.met.D.Disk.since_earlier c.args.disk.now c.loop-number.disk c.loop-number.invariant.quiet c.loop-number.invariant.contents c.args.blocks.now payloads holds in
    ⊎_elim
    (λ there. no_damage _ c.in-Err.fault (c.in-Err.ensures.payload payloads there.1 now there.3).1)
    (λ over. absurd (let none = (c.in-Err.ensures.none over).0 in cc))
    (payload_or_end c.args.blocks.now.headers.places payloads.headers c.loop-number.number holds.headers.places)

pub returns-in-Err-clause-cause : goal.returns-in-Err-clause-cause
returns-in-Err-clause-cause g c =
    ⊎_elim
    (λ there. fetch_fails (g.D.Disk.faults c.args.disk.now) (g.D.Disk.faults c.loop-number.disk) (g.D.Disk.faults c.headers.new.disk) there.0.at c.in-Err.fault c.loop-number.invariant.faults (c.in-Err.ensures.cause there.0 there.1).1)
    (λ over. absurd (let none = (c.in-Err.ensures.none over).0 in cc))
    (in_or_over c.args.blocks.now.headers.places c.loop-number.number)

pub loop-number-preserved : goal.loop-number-preserved
loop-number-preserved g c = record {
  tree = λ payloads holds.
      let now = quiet_holds g.D.Disk.time g.D.Disk.left_since g.D.Disk.contents g.met.D.Disk.since_earlier c.args.disk.now c.loop-number.disk c.loop-number.invariant.quiet c.loop-number.invariant.contents c.args.blocks.now payloads holds in
      ⊎_elim
      (λ there.
      let read = (c.in-Ok-Some.ensures.payload payloads there.1 now there.3).0 in
      let are = rw c.in-Ok-Some.field-0-is at read in
      tree_next c.args.limits.now.headers payloads.headers c.loop-number.number there.1 c.in-Ok-Some.stored.headers c.loop-number.tree.tree c.add_record.new.tree.tree there.3 are (c.loop-number.invariant.tree payloads holds)
      (ap (λ (n : ℕ). tree_with n c.loop-number.tree.tree c.in-Ok-Some.stored.headers) (sym c.loop-number.invariant.limit) ∙ c.in_default.ensures.ok))
      (λ over. absurd (let none = (c.in-Ok-Some.ensures.none over).0 in let some = c.in-Ok-Some.field-0-is in cc))
      (payload_or_end c.args.blocks.now.headers.places payloads.headers c.loop-number.number holds.headers.places);
  limit = c.add_record.ensures.limit ∙ c.loop-number.invariant.limit;
  faults = let a = c.loop-number.invariant.faults in let b = c.in-Ok-Some.ensures.faults in omega arith;
  contents = c.in-Ok-Some.ensures.contents ∙ c.loop-number.invariant.contents;
  quiet = quiet_then g.D.Disk.time g.D.Disk.left_since c.args.disk.now c.loop-number.disk c.headers.new.disk c.loop-number.invariant.quiet c.in-Ok-Some.ensures.quiet;
}
