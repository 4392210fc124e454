use Rattle.std.proofs.Common.{◌≡◌, ◌≤◌, drop}
use Rattle.coin_store.specs.Staged.{KeepsEntries, places_noted}
use Rattle.coin_store.proofs.batch.note_rows.Given as goal

abbrev pub invariant-loop-row : goal.invariant-loop-row
invariant-loop-row l = record {
  places : places_noted l.gate.file l.gate.at l.from l.index.places (drop l.row-index l.rows) ≡ places_noted l.gate.file l.gate.at l.from l.fn.index.places l.rows;
  entries : KeepsEntries l.fn.index.places l.index.places;
  size : l.fn.index.size ≤ l.index.size;
  salt : l.index.salt ≡ l.fn.index.salt;
}
