use Rattle.std.proofs.Common.{arith, length}
use Rattle.std.specs.Prelude.{None, []}
use Rattle.disk_model.proofs.Moments.{on_ok}
use Rattle.coins_inspect.proofs.SnapshotSteps.{gave_all, refused_there}
use Rattle.coins_inspect.proofs.snapshots.snapshot.Goals as goal

pub feed-requires : goal.feed-requires
feed-requires c = omega (arith, c.in_ok-reader.ensures.count)

pub returns-in-Ok : goal.returns-in-Ok
returns-in-Ok c =
    let answer = c.in-Ok.ensures.answer None [] c.in_ok-reader.ensures in
    on_ok c.put_finish.result _ _
    (gave_all c.args.bytes.now c.args.out.now.items c.put_pieces.new.out.items c.put_finish.new.out.items c.in-Ok.pieces _ c.finish.result answer.1 (c.finish.ensures.answer None c.args.bytes.now answer.0) c.in_ok-put_pieces-in-Ok.ensures)
    c.put_finish.ensures

pub returns : goal.returns
returns c =
    on_ok c.put_finish-in-Err.result _ _
    (refused_there c.in-Err.fault c.args.bytes.now c.args.out.now.items c.put_finish-in-Err.new.out.items c.feed.new.self (length c.args.bytes.now) (c.in-Err.ensures.answer None [] c.in_ok-reader.ensures))
    c.put_finish-in-Err.ensures
