use Rattle.std.proofs.Common.{◌≡◌, map}
use Rattle.std.specs.List.{range_with_len}
use Rattle.disk_model.specs.Replayed.{filled_place}
use Rattle.disk_model.proofs.replay.Replayed.filled.Given as goal

abbrev pub invariant-loop-place : goal.invariant-loop-place
invariant-loop-place l = l.filled.items ≡ map (filled_place l.self l.byte) (range_with_len 0 l.place)
