use Rattle.std.proofs.Common.{◌≡◌, ◌+◌, ◌≤◌, length}
use Rattle.std.specs.FinMap.{len}
use Rattle.coin_cache.specs.Entries.{entries_of}
use Rattle.coin_cache.specs.Flags.{flagged, flags_merged}
use Rattle.coin_cache.proofs.Merges.{Merging}
use Rattle.coin_cache.proofs.cache.Cache.merge.Given as goal

abbrev pub invariant-loop-slot : goal.invariant-loop-slot
invariant-loop-slot l = record {
  entries : Merging (entries_of l.initial.self) (entries_of l.initial.child) (entries_of l.self) (entries_of l.child);
  room : length l.child.changes ≤ l.self.spare;
  flags : flags_merged (entries_of l.initial.self) (entries_of l.initial.child) (flagged l.child) (flagged l.self) ≡ flags_merged (entries_of l.initial.self) (entries_of l.initial.child) (flagged l.initial.child) (flagged l.initial.self);
  total : (l.self.spare + len l.self.slots ≡ l.initial.self.spare + len l.initial.self.slots) × (l.child.spare + len l.child.slots ≡ l.initial.child.spare + len l.initial.child.slots);
  salt : (l.self.salt ≡ l.initial.self.salt) × (l.child.salt ≡ l.initial.child.salt);
}

abbrev pub decreases-loop-slot : goal.decreases-loop-slot
decreases-loop-slot l = length l.child.changes
