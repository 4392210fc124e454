use Rattle.std.proofs.Common.{◌≡◌, map, take}
use Rattle.flusher.specs.Changes.{slot_of}
use Rattle.flusher.proofs.changes.slots_of.Given as goal

abbrev pub invariant-loop-named : goal.invariant-loop-named
invariant-loop-named l = l.slots.items ≡ map slot_of (take l.named-index l.names)
