use Rattle.std.proofs.Common.{◌≡◌, ◌-◌, length, drop}
use Rattle.coin_store.specs.BatchReads.{IsReadTo}
use Rattle.coin_store.proofs.batch.read_rows.Given as goal

abbrev pub invariant-loop-at : goal.invariant-loop-at
invariant-loop-at l = record {
  behind : drop l.at l.payload ≡ drop l.at l.fn.payload;
  read : IsReadTo l.fn.gate.file l.fn.gate.at l.fn.mask l.fn.payload l.fn.start l.at l.fn.index.places l.index.places l.coins;
  salt : l.index.salt ≡ l.fn.index.salt;
}

abbrev pub decreases-loop-at : goal.decreases-loop-at
decreases-loop-at l = length l.payload - l.at
