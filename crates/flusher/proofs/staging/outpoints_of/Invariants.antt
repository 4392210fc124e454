use Rattle.std.proofs.Common.{◌≡◌, take}
use Rattle.flusher.specs.Changes.{keys_of, rows_in}
use Rattle.flusher.proofs.staging.outpoints_of.Given as goal

abbrev pub invariant-loop-slot : goal.invariant-loop-slot
invariant-loop-slot l = l.keys.items ≡ keys_of (rows_in l.cache.slots (take l.slot-index l.slots))
