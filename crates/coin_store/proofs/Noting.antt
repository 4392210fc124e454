-- The places of staged rows.
use Rattle.std.specs.Prelude.{◌≡◌, ℕ, ◌+◌, ◌-◌, ◌^◌, ◌<◌, ◌≤◌, Bool, true, false, All, Contains, List, [], ◌∷◌, ◌++◌, length, Option, Some, None, option_map, refl}
use Rattle.std.specs.FinMap.{get, insert, get-insert}
use Rattle.std.specs.List.{AllByRecursion}
use Rattle.std.specs.Ordering.{eq_by_cmp}
use Rattle.std.proofs.Common.{cond, sym, ap, ◌∙◌, arith}
use Rattle.std.proofs.lemmas.Bool.{ne_eqb}
use Rattle.std.proofs.lemmas.List.{length-append}
use Rattle.std.proofs.lemmas.List.Elements.{All-nil, All-cons}
use Rattle.base_types.specs.Keys.{outpoint_cmp}
use Rattle.base_types.proofs.KeyOrders.{outpoint_cmp_total}
use Rattle.base_types.specs.declared.coin.Coin.{Coin}
use Rattle.base_types.specs.declared.hash.OutPoint.{OutPoint}
use Rattle.base_types.specs.Obfuscation.{obfuscated}
use Rattle.base_types.proofs.Obfuscated.{length-obfuscated}
use Rattle.coin_codec.specs.CoinText.{coin_text}
use Rattle.coin_store.specs.declared.places.CoinPlace.{CoinPlace}
use Rattle.coin_store.specs.declared.staging.StagedRow.{StagedRow}
use Rattle.coin_store.specs.Batches.{Row, value_text, head_text, row_text, rows_text, RowFits, ValueFits}
use Rattle.coin_store.specs.Places.{CoinPlaces, put, place_of, places_after_rows, live}
use Rattle.coin_store.proofs.RowLaws.{length-coin_text}
use Rattle.coin_store.proofs.Seen.{get-put}
use Rattle.coin_store.specs.Staged.{HasEntry, Agrees, KeepsEntries, StandsFrom, coins_in_rows, places_noted}
use Rattle.coin_store.proofs.Vacant.{entries_kept, AllVacant, vacant_among}

-- ---- its place

abbrev there : ℕ → ℕ → ℕ → Option Coin → Option CoinPlace
there file gate at coin = option_map (λ c. record { gate = gate; at = at; len = length (value_text coin); file = file }) coin

live_there : (file gate at : ℕ) (coin : Option Coin) → ValueFits coin → live (Some (record { gate = gate; at = at; len = length (value_text coin); file = file })) ≡ there file gate at coin
unfolding value_text
live_there file gate at None fits = refl
live_there file gate at (Some coin) fits = rw (ne_eqb (length (coin_text coin)) 0 (λ e. omega (arith, e, (length-coin_text coin fits).0))) refl

live_place : (file gate offset from : ℕ) (row : Row) (place : CoinPlace) → RowFits row → from ≡ length (head_text row.key (length (value_text row.coin)))
    → place ≡ record { gate = gate; at = gate + 5 + offset + from; len = length (value_text row.coin); file = file } → live (Some place) ≡ place_of file gate offset row
live_place file gate offset from row place fits begins is = ap (λ (p : CoinPlace). live (Some p)) is ∙ live_there file gate (gate + 5 + offset + from) row.coin fits.value ∙ ap (λ (n : ℕ). there file gate (gate + 5 + offset + n) row.coin) begins

either_agrees : (b : Bool) (p : CoinPlace) (placed o now : Option CoinPlace) → live (Some p) ≡ placed → live o ≡ now → live (cond b (Some p) o) ≡ cond b placed now
either_agrees true p placed o now here other = here
either_agrees false p placed o now here other = other

agrees_put : (index places : CoinPlaces) (key : OutPoint) (place : CoinPlace) (placed : Option CoinPlace) → live (Some place) ≡ placed → Agrees index places → Agrees (insert index key place) (put places key placed)
agrees_put index places key place placed here all q =
    ap live (get-insert outpoint_cmp_total index key place q)
    ∙ either_agrees (eq_by_cmp outpoint_cmp q key) place placed (get index q) (get places q) here (all q)
    ∙ sym (get-put places key placed q)

-- ---- all rows

module _ (file gate from : ℕ) where
  pub noted_entries : (places : CoinPlaces) (rows : List StagedRow) → KeepsEntries places (places_noted file gate from places rows)
  noted_entries places [] = λ q some. some
  noted_entries places (row ∷ rows) = λ q some.
      let place : CoinPlace = record { file = file; gate = gate; at = gate + 5 + (row.at - from); len = row.len } in
      noted_entries (insert places row.key place) rows q (entries_kept places row.key place q some)

  pub noted_agrees : (mask : List ℕ) (index places : CoinPlaces) (rows : List Row) (start offset : ℕ) → start ≡ from + offset → AllByRecursion RowFits rows → Agrees index places
      → Agrees (places_noted file gate from index (coins_in_rows mask start rows)) (places_after_rows file mask gate offset places rows)
  noted_agrees mask index places [] start offset is fit agree = agree
  noted_agrees mask index places (row ∷ rows) start offset is fit agree =
      let head = length (head_text row.key (length (value_text row.coin))) in
      let place : CoinPlace = record { file = file; gate = gate; at = gate + 5 + (start + head - from); len = length (value_text row.coin) } in
      let at : gate + 5 + (start + head - from) ≡ gate + 5 + offset + head = omega (arith, is) in
      let whole : place ≡ record { gate = gate; at = gate + 5 + offset + head; len = length (value_text row.coin); file = file } = ap (λ (n : ℕ). record { gate = gate; at = n; len = length (value_text row.coin); file = file }) at in
      let here = live_place file gate offset head row place fit.0 refl whole in
      noted_agrees mask (insert index row.key place) (put places row.key (place_of file gate offset row)) rows (start + length (row_text mask row)) (offset + length (row_text mask row)) (omega (arith, is)) fit.1
      (agrees_put index places row.key place (place_of file gate offset row) here agree)

  pub noted_few : (mask : List ℕ) (keys others : List OutPoint) (places : CoinPlaces) (rows : List Row) (start : ℕ) → AllByRecursion (λ row. Contains keys row.key) rows → AllVacant places keys others
      → AllVacant (places_noted file gate from places (coins_in_rows mask start rows)) keys others
  noted_few mask keys others places [] start named all = all
  noted_few mask keys others places (row ∷ rows) start named all =
      let n = length (value_text row.coin) in
      let place : CoinPlace = record { file = file; gate = gate; at = gate + 5 + (start + length (head_text row.key n) - from); len = n } in
      noted_few mask keys others (insert places row.key place) rows (start + length (row_text mask row)) named.1 (vacant_among keys others places row.key place named.0 all)

pub length_row : (mask : List ℕ) (row : Row) → length (row_text mask row) ≡ length (head_text row.key (length (value_text row.coin))) + length (value_text row.coin)
unfolding row_text
length_row mask row = omega (arith, length-append (head_text row.key (length (value_text row.coin))) (obfuscated mask 0 (value_text row.coin)), length-obfuscated mask 0 (value_text row.coin))

pub coins_fit : (gate from : ℕ) (mask : List ℕ) (rows : List Row) (start : ℕ) → from ≤ start → gate + (5 + (start + length (rows_text mask rows) - from)) < 2 ^ 64 → length (rows_text mask rows) < 2 ^ 32
    → All (StandsFrom gate from) (coins_in_rows mask start rows)
coins_fit gate from mask [] start begun far short = All-nil (StandsFrom gate from)
coins_fit gate from mask (row ∷ rows) start begun far short =
    let first = length_row mask row in
    let all = length-append (row_text mask row) (rows_text mask rows) in
    All-cons (StandsFrom gate from) _ (coins_in_rows mask (start + length (row_text mask row)) rows) (omega (arith, begun), omega (arith, far, first, all), omega (arith, short, first, all))
    (coins_fit gate from mask rows (start + length (row_text mask row)) (omega (arith, begun)) (omega (arith, far, all)) (omega (arith, short, all)))

pub coins_named : (index : CoinPlaces) (mask : List ℕ) (rows : List Row) (start : ℕ) → AllByRecursion (λ row. HasEntry index row.key) rows → All (λ (r : StagedRow). HasEntry index r.key) (coins_in_rows mask start rows)
coins_named index mask [] start named = All-nil (λ (r : StagedRow). HasEntry index r.key)
coins_named index mask (row ∷ rows) start named = All-cons (λ (r : StagedRow). HasEntry index r.key) _ _ named.0 (coins_named index mask rows (start + length (row_text mask row)) named.1)

pub coins_push : (mask : List ℕ) (rows : List Row) (row : Row) (start : ℕ) → coins_in_rows mask start (rows ++ row ∷ [])
    ≡ coins_in_rows mask start rows ++ record { key = row.key; at = start + length (rows_text mask rows) + length (head_text row.key (length (value_text row.coin))); len = length (value_text row.coin) } ∷ []
coins_push mask [] row start = ap (λ (n : ℕ). record { key = row.key; at = n + length (head_text row.key (length (value_text row.coin))); len = length (value_text row.coin) } ∷ []) (omega arith)
coins_push mask (first ∷ rows) row start =
    let head = length (head_text row.key (length (value_text row.coin))) in
    let reach : start + length (row_text mask first) + length (rows_text mask rows) ≡ start + length (rows_text mask (first ∷ rows)) = omega (arith, length-append (row_text mask first) (rows_text mask rows)) in
    ap (λ (l : List StagedRow). record { key = first.key; at = start + length (head_text first.key (length (value_text first.coin))); len = length (value_text first.coin) } ∷ l)
    (coins_push mask rows row (start + length (row_text mask first))
    ∙ ap (λ (n : ℕ). coins_in_rows mask (start + length (row_text mask first)) rows ++ record { key = row.key; at = n + head; len = length (value_text row.coin) } ∷ []) reach)
