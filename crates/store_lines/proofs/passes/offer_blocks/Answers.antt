use Rattle.std.proofs.Common.{Ok, Some, arith}
use Rattle.store_lines.proofs.PassSteps.{files_then, going_more, going_none, passed_all, passed_cut, passed_some, passing_cut, passing_more, passing_none, same_files, same_settings, settings_then, stops_with}
use Rattle.store_lines.proofs.passes.offer_blocks.Goals as goal

pub loop-block-init : goal.loop-block-init
loop-block-init g c = record {
  done = λ limit state store held tells stands settled.
      passing_none limit (g.D.Disk.left_since c.args.disk.now) (g.D.Disk.time c.args.disk.now) (g.D.Disk.contents c.args.disk.now) c.args.session.now state store c.args.out.now.items (g.H.Host.held c.args.host.now) c.args.frames.now held
      (λ u v i low high l. g.met.D.Disk.since_earlier c.args.disk.now u v i low high l) tells stands settled;
  going = going_none (g.H.Host.held c.args.host.now) c.args.frames.now;
  counted = omega arith;
  later = omega arith;
  disk_faults = omega arith;
  host_faults = omega arith;
  set = same_settings c.args.session.now;
  files = same_files c.args.session.now;
}

pub returns-in-Ok-None-clause-ok : goal.returns-in-Ok-None-clause-ok
returns-in-Ok-None-clause-ok g c limit state store held tells stands settled =
    let at = c.loop-block in
    let none = rw c.in-Ok-None.field-0-is at c.in-Ok-None.ensures.told in
    let past = g.D.Disk.left_since c.args.disk.now in
    let mid = g.D.Disk.left_since at.disk in
    passed_all limit past mid mid (g.D.Disk.time c.args.disk.now) (g.D.Disk.time at.disk) (g.D.Disk.time at.disk) (g.D.Disk.contents c.args.disk.now) (g.D.Disk.contents at.disk) (g.D.Disk.contents at.disk) at.session at.session state store
    c.args.out.now.items at.out.items at.out.items _ (g.H.Host.held at.host) (g.H.Host.held c.next_block.new.host) at.frames c.next_block.new.frames at.bodies (at.invariant.done limit state store held tells stands settled)
    (g.H.Host.faults at.host) (g.H.Host.faults c.next_block.new.host) none

pub returns-in-Err-NoMemory-clause-err : goal.returns-in-Err-NoMemory-clause-err
returns-in-Err-NoMemory-clause-err g c limit state store held tells stands settled =
    let at = c.loop-block in
    let past = g.D.Disk.left_since c.args.disk.now in
    let mid = g.D.Disk.left_since at.disk in
    passed_cut limit past mid mid (g.D.Disk.time c.args.disk.now) (g.D.Disk.time at.disk) (g.D.Disk.time at.disk) (g.D.Disk.contents c.args.disk.now) (g.D.Disk.contents at.disk) (g.D.Disk.contents at.disk) at.session at.session state store
    c.args.out.now.items at.out.items at.out.items _ (g.H.Host.held at.host) (g.H.Host.held c.next_block.new.host) at.frames c.next_block.new.frames at.bodies (at.invariant.done limit state store held tells stands settled)
    (g.H.Host.faults at.host) (g.H.Host.faults c.next_block.new.host)

pub returns-in-Err-clause-ok : goal.returns-in-Err-clause-ok
returns-in-Err-clause-ok g c limit state store held tells stands settled =
    let at = c.loop-block in
    let past = g.D.Disk.left_since c.args.disk.now in
    let mid = g.D.Disk.left_since at.disk in
    passed_some limit past mid mid (g.D.Disk.time c.args.disk.now) (g.D.Disk.time at.disk) (g.D.Disk.time at.disk) (g.D.Disk.contents c.args.disk.now) (g.D.Disk.contents at.disk) (g.D.Disk.contents at.disk) at.session at.session state store
    c.args.out.now.items at.out.items at.out.items _ (g.H.Host.held at.host) (g.H.Host.held c.next_block.new.host) at.frames c.next_block.new.frames at.bodies (at.invariant.done limit state store held tells stands settled)
    (g.H.Host.faults at.host) (g.H.Host.faults c.next_block.new.host)

pub returns-in-Err-clause-told : goal.returns-in-Err-clause-told
returns-in-Err-clause-told g c =
    let at = c.loop-block in
    stops_with (g.H.Host.held c.args.host.now) (g.H.Host.held at.host) (g.H.Host.held c.next_block.new.host) c.args.frames.now at.frames c.next_block.new.frames (g.H.Host.faults c.args.host.now) (g.H.Host.faults at.host)
    (g.H.Host.faults c.next_block.new.host) c.in-Err.fault at.invariant.host_faults at.invariant.going c.in-Err.ensures.told

pub returns-in-Err-offer_block-clause-err : goal.returns-in-Err-offer_block-clause-err
returns-in-Err-offer_block-clause-err g c limit state store held tells stands settled =
    let at = c.loop-block in
    let disk = c.offer_block.new.disk in
    let past = g.D.Disk.left_since c.args.disk.now in
    let mid = g.D.Disk.left_since at.disk in
    let left = g.D.Disk.left_since disk in
    let found = rw c.in-Ok-Some.field-0-is at c.in-Ok-Some.ensures.told in
    let text = rw c.in-Ok-Some.field-0-is at c.in-Ok-Some.ensures.text in
    let so_far = at.invariant.done limit state store held tells stands settled in
    passing_cut limit past mid left (g.D.Disk.time c.args.disk.now) (g.D.Disk.time at.disk) (g.D.Disk.time disk) (g.D.Disk.contents c.args.disk.now) (g.D.Disk.contents at.disk) (g.D.Disk.contents disk) at.session c.offer_block.new.session state store
    c.args.out.now.items at.out.items c.offer_block.new.out.items _ (g.H.Host.held at.host) (g.H.Host.held c.next_block.new.host) at.frames c.next_block.new.frames at.bodies so_far
    (g.H.Host.faults at.host) (g.H.Host.faults c.next_block.new.host) c.in-Ok-Some.block found
    (c.in-Err-offer_block.ensures.err limit so_far.passed.moved.state so_far.passed.on text.0 so_far.passed.stands so_far.passed.settled text.1)

pub loop-block-preserved : goal.loop-block-preserved
loop-block-preserved g c =
    let at = c.loop-block in
    let disk = c.offer_block.new.disk in
    let past = g.D.Disk.left_since c.args.disk.now in
    let mid = g.D.Disk.left_since at.disk in
    let left = g.D.Disk.left_since disk in
    let found = rw c.in-Ok-Some.field-0-is at c.in-Ok-Some.ensures.told in
    let text = rw c.in-Ok-Some.field-0-is at c.in-Ok-Some.ensures.text in
    let on = rw c.in-Ok-Some.field-0-is at c.in-Ok-Some.ensures.some in
    record {
      done = λ limit state store held tells stands settled.
          let so_far = at.invariant.done limit state store held tells stands settled in
          passing_more limit past mid left (g.D.Disk.time c.args.disk.now) (g.D.Disk.time at.disk) (g.D.Disk.time disk) (g.D.Disk.contents c.args.disk.now) (g.D.Disk.contents at.disk) (g.D.Disk.contents disk) at.session c.offer_block.new.session state store
          c.args.out.now.items at.out.items c.offer_block.new.out.items _ (g.H.Host.held at.host) (g.H.Host.held c.next_block.new.host) at.frames c.next_block.new.frames at.bodies so_far
          (g.H.Host.faults at.host) (g.H.Host.faults c.next_block.new.host) c.in-Ok-Some.block found c.in-Ok.stored
          (c.in-Ok.ensures.ok limit so_far.passed.moved.state so_far.passed.on text.0 so_far.passed.stands so_far.passed.settled text.1);
      going = going_more (g.H.Host.held c.args.host.now) (g.H.Host.held at.host) (g.H.Host.held c.next_block.new.host) c.args.frames.now at.frames c.next_block.new.frames (g.H.Host.faults at.host) (g.H.Host.faults c.next_block.new.host)
          (Ok (Some c.in-Ok-Some.block)) at.invariant.going found;
      counted = let so_far = at.invariant.counted in let one = c.in-Ok.ensures.count in omega (arith, so_far, one, on);
      later = let first = at.invariant.later in let then = c.in-Ok.ensures.later in omega (arith, first, then);
      disk_faults = let first = at.invariant.disk_faults in let then = c.in-Ok.ensures.faults in omega (arith, first, then);
      host_faults = let first = at.invariant.host_faults in let then = c.in-Ok-Some.ensures.later in omega (arith, first, then);
      set = settings_then c.args.session.now at.session c.offer_block.new.session at.invariant.set c.in-Ok.ensures.set;
      files = files_then c.args.session.now at.session c.offer_block.new.session at.invariant.files c.in-Ok.ensures.files;
    }
