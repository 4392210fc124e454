use Rattle.std.proofs.Common.{◌≡◌, drop}
use Rattle.snapshot_file.specs.Items.{mark_at}
use Rattle.snapshot_file.proofs.items.mark_of.Given as goal

abbrev pub invariant-loop-wanted : goal.invariant-loop-wanted
invariant-loop-wanted l = mark_at (l.error, l.at) (drop l.wanted-index l.mark) l.cursor ≡ mark_at (l.error, l.at) l.mark l.initial.cursor
