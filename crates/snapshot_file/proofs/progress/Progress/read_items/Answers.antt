use Rattle.std.proofs.Common.{◌+◌, drop}
use Rattle.snapshot_file.proofs.Completing.{items_break}
use Rattle.snapshot_file.proofs.Moving.{rest_is}
use Rattle.snapshot_file.proofs.progress.Progress.read_items.Goals as goal

pub returns-in-Err-Bad-clause-step : goal.returns-in-Err-Bad-clause-step
returns-in-Err-Bad-clause-step c =
    let l = c.loop-len in
    let broke = rw (c.in-Err-Bad.field-0-is, rest_is c.args.bytes.now l.used) at c.in-Err-Bad.ensures.step in
    let bad = rw (c.in-Err-Bad.error-is, c.in-Err-Bad.at-is) at c.fault_at.ensures in
    items_break c.args.self.now l.self c.args.at (c.args.at + l.used) c.args.bytes.now (drop l.used c.args.bytes.now) c.in-Err-Bad.at c.in-Err-Bad.error c.fault_at.result c.args.coins.now l.coins c.read_item.new.coins bad l.invariant.goes broke
