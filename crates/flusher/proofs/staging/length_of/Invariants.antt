use Rattle.std.proofs.Common.{◌≡◌, ℕ, List, take}
use Rattle.flusher.specs.Changes.{payload_length, rows_in}
use Rattle.flusher.proofs.staging.length_of.Given as goal

abbrev pub invariant-loop-slot : goal.invariant-loop-slot
invariant-loop-slot l = (mask : List ℕ) → l.len ≡ payload_length mask (rows_in l.cache.slots (take l.slot-index l.slots))
