use Rattle.std.proofs.Common.{◌≡◌, take}
use Rattle.flusher.specs.Changes.{IsStagedFor, rows_in}
use Rattle.flusher.proofs.staging.stage_rows.Given as goal

abbrev pub invariant-loop-slot : goal.invariant-loop-slot
invariant-loop-slot l = record {
  staged : IsStagedFor l.fn.coins.mask l.coins (rows_in l.cache.slots l.slots) (rows_in l.cache.slots (take l.slot-index l.slots));
  same : l.coins ≡ record l.fn.coins { staged = l.coins.staged };
}
