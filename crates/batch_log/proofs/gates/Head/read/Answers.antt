use Rattle.std.proofs.Common.{arith, ◌≡◌, length, drop}
use Rattle.std.specs.Prelude.{min}
use Rattle.std.proofs.lemmas.List.{length-drop}
use Rattle.disk_model.proofs.Moments.{quiet_none, quiet_call}
use Rattle.batch_log.proofs.gates.Head.read.Goals as goal

pub returns-clause-head : goal.returns-clause-head
returns-clause-head g c m told within =
    let n = c.in_ok-count.ensures.count m told in
    let count : c.in_ok-count.count ≡ min 5 (length (drop c.args.at (m c.args.file))) = omega (arith, length-drop c.args.at (m c.args.file)) in
    c.parse.ensures (drop c.args.at (m c.args.file)) (omega (arith, length-drop c.args.at (m c.args.file))) (c.in_ok-count.ensures.bytes m told) count

pub returns-clause-quiet : goal.returns-clause-quiet
returns-clause-quiet g c = quiet_call g.D.Disk.time g.D.Disk.left_since g.met.D.Disk.since_earlier c.args.disk.now c.args.disk.now c.read.new.self _ (quiet_none g.D.Disk.time g.D.Disk.left_since c.args.disk.now) c.read.ensures.crash
