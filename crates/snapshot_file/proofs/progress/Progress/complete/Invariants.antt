use Rattle.std.proofs.Common.{◌≡◌, ◌-◌, ◌≤◌, ◌++◌, length, take}
use Rattle.snapshot_file.specs.Steps.{Waits}
use Rattle.snapshot_file.proofs.progress.Progress.complete.Given as goal

abbrev pub invariant-loop-added : goal.invariant-loop-added
invariant-loop-added l = record {
  held : l.held.items ≡ l.initial.held.items ++ take l.added l.piece;
  within : l.added ≤ length l.piece;
  self : l.self ≡ l.initial.self;
  coins : l.coins ≡ l.initial.coins;
  waits : Waits l.initial.self l.initial.held.items → Waits l.initial.self l.held.items;
}

abbrev pub decreases-loop-added : goal.decreases-loop-added
decreases-loop-added l = length l.piece - l.added
