-- One gate after the other: the records before it, what stands there, and what was read so far.
use Rattle.std.proofs.Common.{length, drop, arith, ◌∙◌, subst, ap}
use Rattle.std.proofs.lemmas.List.{length-drop}
use Rattle.disk_model.proofs.Moments.{quiet_then}
use Rattle.batch_log.specs.Opening.{IsHead}
use Rattle.batch_log.proofs.GateByGate.{found_damage, found_open, read_up_to, read_one_more, before_push}
use Rattle.batch_log.proofs.opening.find_places.Goals as goal

pub returns-in-Short-clause-damaged : goal.returns-in-Short-clause-damaged
returns-in-Short-clause-damaged g c m told len more =
    let r = c.loop-at.invariant.known m told len more in
    let h = subst (IsHead (drop c.loop-at.at (m c.args.file))) c.in-Short.is (c.in-Ok.ensures.head m (c.loop-at.invariant.contents ∙ told) r.within) in
    let short = h.2 in
    found_damage (m c.args.file) c.loop-at.places.items c.loop-at.at r h.0 h.1 (omega arith) (omega arith)

pub returns-then-len-at-clause-damaged : goal.returns-then-len-at-clause-damaged
returns-then-len-at-clause-damaged g c m told len more =
    let r = c.loop-at.invariant.known m told len more in
    let h = subst (IsHead (drop c.loop-at.at (m c.args.file))) c.in-Open.is (c.in-Ok.ensures.head m (c.loop-at.invariant.contents ∙ told) r.within) in
    let value = h.3 in
    found_damage (m c.args.file) c.loop-at.places.items c.loop-at.at r h.0 h.1 (omega arith) (omega (arith, ap length h.1, length-drop c.loop-at.at (m c.args.file)))

pub returns-in_default-clause-read_err : goal.returns-in_default-clause-read_err
returns-in_default-clause-read_err g c m told len more =
    read_up_to (m c.args.file) c.loop-at.places.items c.loop-at.at (c.loop-at.invariant.known m told len more) c.args.file _ _ _ c.loop-at.invariant.read c.read.ensures.read

pub returns-in-Short-clause-read_err : goal.returns-in-Short-clause-read_err
returns-in-Short-clause-read_err g c m told len more =
    read_up_to (m c.args.file) c.loop-at.places.items c.loop-at.at (c.loop-at.invariant.known m told len more) c.args.file _ _ _ c.loop-at.invariant.read c.read.ensures.read

pub returns-then-len-at-clause-read_err : goal.returns-then-len-at-clause-read_err
returns-then-len-at-clause-read_err g c m told len more =
    read_up_to (m c.args.file) c.loop-at.places.items c.loop-at.at (c.loop-at.invariant.known m told len more) c.args.file _ _ _ c.loop-at.invariant.read c.read.ensures.read

pub returns-in_default-push-clause-read_err : goal.returns-in_default-push-clause-read_err
returns-in_default-push-clause-read_err g c m told len more =
    read_up_to (m c.args.file) c.loop-at.places.items c.loop-at.at (c.loop-at.invariant.known m told len more) c.args.file _ _ _ c.loop-at.invariant.read c.read.ensures.read

pub loop-at-preserved : goal.loop-at-preserved
loop-at-preserved g c = record {
  contents = c.read.ensures.contents ∙ c.loop-at.invariant.contents;
  quiet = quiet_then g.D.Disk.time g.D.Disk.left_since c.args.disk.now c.loop-at.disk c.read.new.disk c.loop-at.invariant.quiet c.read.ensures.quiet;
  faults = omega arith;
  before = before_push c.loop-at.at c.in-Open.n c.loop-at.places.items c.push.new.self.items c.in-Ok-push.ensures.items c.loop-at.invariant.before;
  read = read_one_more c.args.file c.loop-at.places.items c.push.new.self.items _ _ _ _ c.in-Ok-push.ensures.items c.loop-at.invariant.read c.read.ensures.read;
  known = λ m told len more.
      let r = c.loop-at.invariant.known m told len more in
      let h = subst (IsHead (drop c.loop-at.at (m c.args.file))) c.in-Open.is (c.in-Ok.ensures.head m (c.loop-at.invariant.contents ∙ told) r.within) in
      let value = h.3 in
      found_open (m c.args.file) c.loop-at.places.items c.loop-at.at r h.0 c.in-Open.n c.push.new.self.items h.1 h.4 (omega arith)
      (omega (arith, ap length h.1, length-drop c.loop-at.at (m c.args.file))) c.in-Ok-push.ensures.items;
}
