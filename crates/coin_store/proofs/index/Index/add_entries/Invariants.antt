use Rattle.std.proofs.Common.{◌≡◌, ◌+◌, ◌≤◌, length}
use Rattle.coin_store.specs.OpenIndex.{HasFewVacant}
use Rattle.coin_store.proofs.Vacant.{Made}
use Rattle.coin_store.proofs.index.Index.add_entries.Given as goal

abbrev pub invariant-loop-key : goal.invariant-loop-key
invariant-loop-key l = record {
  made : Made l.fn.self.places l.keys l.self.places l.key-index;
  few : HasFewVacant l.self l.keys;
  spare : length l.keys ≤ l.self.spare + l.key-index;
  salt : l.self.salt ≡ l.fn.self.salt;
}
