use Rattle.std.proofs.Common.{map}
use Rattle.flusher.specs.Changes.{slot_of}
use Rattle.flusher.proofs.Walk.{walk_in}
use Rattle.flusher.proofs.changes.name_all.Goals as goal

pub change-requires : goal.change-requires
change-requires c = walk_in c.args.cache.now.changes (map slot_of c.loop-next.names.items) c.loop-next.next c.in-Some.slot c.loop-next.invariant c.in-Some.is

pub next_change-next-requires : goal.next_change-next-requires
next_change-next-requires c = walk_in c.args.cache.now.changes (map slot_of c.loop-next.names.items) c.loop-next.next c.in-Some.slot c.loop-next.invariant c.in-Some.is
