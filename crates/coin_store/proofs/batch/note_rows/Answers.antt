use Rattle.std.specs.Prelude.{◌≡◌, ◌+◌, ◌-◌, ◌<◌, ◌∷◌, length, drop, get_or}
use Rattle.std.proofs.Common.{arith, refl, ap, sym, subst, ◌∙◌, add-one, drop-cons}
use Rattle.std.specs.FinMap.{insert}
use Rattle.coin_store.specs.Places.{CoinPlaces}
use Rattle.coin_store.specs.Staged.{HasEntry, places_noted}
use Rattle.coin_store.specs.declared.places.CoinPlace.{CoinPlace}
use Rattle.coin_store.specs.declared.staging.StagedRow.{StagedRow}
use Rattle.coin_store.proofs.StagedBytes.{ok_is}
use Rattle.coin_store.proofs.Vacant.{entries_kept, no_key}
use Rattle.coin_store.proofs.batch.note_rows.Goals as goal

abbrev no_row : StagedRow
no_row = record { key = no_key; at = 0; len = 0 }

pub overflow_add-place : goal.overflow_add-place
overflow_add-place c = omega (arith, (c.requires.fits c.loop-row.row-index no_row c.loop-row-test.true).1)

pub loop-row-preserved : goal.loop-row-preserved
loop-row-preserved c =
    let i = c.loop-row.row-index in
    let rows = c.args.rows.now in
    let m = c.loop-row.invariant in
    let row : StagedRow = get_or rows i no_row in
    let size = m.size in
    let inside : i < length rows = c.loop-row-test.true in
    let place : CoinPlace = record { file = c.args.gate.file; gate = c.args.gate.at; at = c.args.gate.at + 5 + (row.at - c.args.from); len = row.len } in
    let is : c.set.new.self.places ≡ insert c.loop-row.index.places row.key place = ok_is c.set.result _ _ c.unwrap.ensures c.set.ensures.ok in
    let next : drop i rows ≡ row ∷ drop (i + 1) rows = rw (add-one, drop-cons rows i no_row) refl in
    record {
      places = ap (λ (p : CoinPlaces). places_noted c.args.gate.file c.args.gate.at c.args.from p (drop (i + 1) rows)) is
          ∙ sym (ap (places_noted c.args.gate.file c.args.gate.at c.args.from c.loop-row.index.places) next) ∙ m.places;
      entries = λ q some. subst (λ (p : CoinPlaces). HasEntry p q) (sym is) (entries_kept c.loop-row.index.places row.key place q (m.entries q some));
      size = omega (arith, size, c.set.ensures.size);
      salt = c.set.ensures.salt ∙ m.salt;
    }
