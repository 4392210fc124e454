use Rattle.std.proofs.Common.{sym, ◌∙◌}
use Rattle.snapshot_file.proofs.ItemFaults.{mark_short}
use Rattle.snapshot_file.proofs.items.mark_of.Goals as goal

pub returns-in_default : goal.returns-in_default
returns-in_default c =
    sym c.loop-wanted.invariant ∙ mark_short (c.args.error, c.args.at) c.args.mark.now c.loop-wanted.wanted-index c.loop-wanted.cursor c.in_default.field-0 c.loop-wanted-test.true c.in_default.ensures.0
