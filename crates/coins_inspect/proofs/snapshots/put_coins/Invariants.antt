use Rattle.std.proofs.Common.{◌≡◌, ◌++◌, take}
use Rattle.std.specs.List.{flat_map}
use Rattle.coins_inspect.specs.SnapshotReports.{snap_coin_lines}
use Rattle.coins_inspect.proofs.snapshots.put_coins.Given as goal

abbrev pub invariant-loop-found : goal.invariant-loop-found
invariant-loop-found l = l.out.items ≡ l.fn.out.items ++ flat_map snap_coin_lines (take l.found-index l.coins)
