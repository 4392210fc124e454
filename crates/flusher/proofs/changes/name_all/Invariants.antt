use Rattle.std.proofs.Common.{◌-◌, length, map}
use Rattle.flusher.specs.Changes.{slot_of}
use Rattle.flusher.proofs.Walk.{IsWalked}
use Rattle.flusher.proofs.changes.name_all.Given as goal

abbrev pub invariant-loop-next : goal.invariant-loop-next
invariant-loop-next l = IsWalked l.cache.changes (map slot_of l.names.items) l.next

abbrev pub decreases-loop-next : goal.decreases-loop-next
decreases-loop-next l = length l.cache.changes - length l.names.items
