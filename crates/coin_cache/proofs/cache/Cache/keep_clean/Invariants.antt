use Rattle.std.proofs.Common.{◌≡◌, ◌+◌, length}
use Rattle.std.specs.FinMap.{len}
use Rattle.coin_cache.specs.Entries.{entries_of}
use Rattle.coin_cache.proofs.Merges.{Settles}
use Rattle.coin_cache.proofs.cache.Cache.keep_clean.Given as goal

abbrev pub invariant-loop-slot : goal.invariant-loop-slot
invariant-loop-slot l = record {
  entries : Settles (entries_of l.initial.self) (entries_of l.self);
  room : l.self.spare + len l.self.slots ≡ l.initial.self.spare + len l.initial.self.slots;
  salt : l.self.salt ≡ l.initial.self.salt;
}

abbrev pub decreases-loop-slot : goal.decreases-loop-slot
decreases-loop-slot l = length l.self.changes
