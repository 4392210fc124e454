use Rattle.std.proofs.Common.{[], inl, inr, refl}
use Rattle.chainstates.proofs.WholeReads.{batches_stop, bodies_stop, check_fault, has_bodies, reads_all, tree_fault, tree_stops}
use Rattle.store_state.specs.State.{body_file, coin_file}
use Rattle.chainstates.proofs.opening.read_files.Goals as goal

pub returns-in-Err-clause-damaged : goal.returns-in-Err-clause-damaged
returns-in-Err-clause-damaged g c payloads batches holds knows key = tree_stops c.args.limits.now.headers payloads batches c.in-Err.fault (c.in-Err.ensures.damaged payloads holds)

pub returns-in-Err-clause-cause : goal.returns-in-Err-clause-cause
returns-in-Err-clause-cause g c = tree_fault (g.D.Disk.faults c.args.disk.now) (g.D.Disk.faults c.read_tree.new.disk) c.in-Err.fault c.in-Err.ensures.cause

pub returns-in-Err-check_bodies-clause-damaged : goal.returns-in-Err-check_bodies-clause-damaged
returns-in-Err-check_bodies-clause-damaged g c payloads batches holds knows key =
    bodies_stop c.args.limits.now.headers payloads batches c.in-Ok.tree.tree (c.in-Ok.ensures.ok payloads holds) c.in-Err-check_bodies.fault
    (c.in-Err-check_bodies.ensures.damaged payloads.bodies (has_bodies (g.D.Disk.contents c.args.disk.now) (g.D.Disk.left_since c.args.disk.now (g.D.Disk.time c.args.disk.now)) c.args.blocks.now payloads holds))

pub returns-in-Err-check_bodies-clause-cause : goal.returns-in-Err-check_bodies-clause-cause
returns-in-Err-check_bodies-clause-cause g c = check_fault body_file (g.D.Disk.faults c.args.disk.now) (g.D.Disk.faults c.read_tree.new.disk) c.in-Err-check_bodies.fault (inr (inl refl)) c.in-Err-check_bodies.ensures.cause

pub returns-in-Err-check_batches-clause-damaged : goal.returns-in-Err-check_batches-clause-damaged
returns-in-Err-check_batches-clause-damaged g c payloads batches holds knows key =
    let known = c.in_default.ensures.ok payloads.bodies (has_bodies (g.D.Disk.contents c.args.disk.now) (g.D.Disk.left_since c.args.disk.now (g.D.Disk.time c.args.disk.now)) c.args.blocks.now payloads holds) in
    batches_stop c.args.limits.now.headers payloads batches c.in-Ok.tree.tree (c.in-Ok.ensures.ok payloads holds) known.0 known.1 c.in-Err-check_batches.fault (c.in-Err-check_batches.ensures.damaged [] batches known.0 knows key known.2)

pub returns-in-Err-check_batches-clause-cause : goal.returns-in-Err-check_batches-clause-cause
returns-in-Err-check_batches-clause-cause g c = check_fault coin_file (g.D.Disk.faults c.args.disk.now) (g.D.Disk.faults c.read_tree.new.disk) c.in-Err-check_batches.fault (inr (inr refl)) c.in-Err-check_batches.ensures.cause

pub returns-clause-ok : goal.returns-clause-ok
returns-clause-ok g c payloads batches holds knows key =
    let known = c.in_default.ensures.ok payloads.bodies (has_bodies (g.D.Disk.contents c.args.disk.now) (g.D.Disk.left_since c.args.disk.now (g.D.Disk.time c.args.disk.now)) c.args.blocks.now payloads holds) in
    (known.0, reads_all c.args.limits.now.headers payloads batches c.in-Ok.tree.tree (c.in-Ok.ensures.ok payloads holds) known.0 known.1 (c.in_default-check_batches.ensures.ok [] batches known.0 knows key known.2))
