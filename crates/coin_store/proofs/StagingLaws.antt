-- A store that no batch was added to knows the same ones, and a row fits where its bytes were prepared.
use Rattle.std.specs.Prelude.{ℕ, ◌+◌, ◌≤◌, List, length, Option, Some, vec_len}
use Rattle.std.specs.FinMap.{get}
use Rattle.std.proofs.Common.{sym, ap, subst, ◌∙◌, arith}
use Rattle.std.proofs.lemmas.List.{length-drop}
use Rattle.disk_model.specs.Disk.{Image}
use Rattle.base_types.specs.declared.hash.OutPoint.{OutPoint}
use Rattle.batch_log.specs.OpenLog.{Stands}
use Rattle.batch_log.specs.Records.{records, HoldsLog}
use Rattle.batch_log.proofs.CallerLemmas.{stands_unchanged}
use Rattle.coin_store.specs.declared.store.CoinStore.{CoinStore}
use Rattle.coin_store.specs.Base.{base_texts, base_places}
use Rattle.coin_store.specs.Batches.{Row, Batch, row_text, rows_text}
use Rattle.coin_store.specs.OpenIndex.{OpenIndex}
use Rattle.coin_store.specs.Places.{places_after}
use Rattle.coin_store.specs.Staged.{front_len}
use Rattle.coin_store.specs.Staging.{IsStaged, SameRows}
use Rattle.coin_store.specs.Store.{Knows, Holds, marks, texts}

pub knows_same : (old new : CoinStore) (base : List (List Row)) (batches : List Batch) → SameRows old new → Knows old base batches → Knows new base batches
knows_same old new base batches same k = record {
  base_fits = k.base_fits;
  base_none = λ none. k.base_none (sym same.base ∙ none);
  fits = k.fits;
  markers = same.markers ∙ k.markers ∙ ap (λ (m : List ℕ). marks m 0 batches) (sym same.mask);
  base_places = ap (λ (i : OpenIndex). i.places) same.base_index ∙ k.base_places
      ∙ ap (λ (b : Option ℕ). base_places b old.mask base) (sym same.base)
      ∙ ap (λ (m : List ℕ). base_places new.base m base) (sym same.mask);
  end = same.log.end ∙ k.end ∙ ap (λ (m : List ℕ). length (records (texts m batches))) (sym same.mask);
  places = λ q. same.places q ∙ k.places q
      ∙ ap (λ (f : ℕ). get (places_after f old.mask 0 (base_places old.base old.mask base) batches) q) (sym same.log.file)
      ∙ ap (λ (b : Option ℕ). get (places_after new.log.file old.mask 0 (base_places b old.mask base) batches) q) (sym same.base)
      ∙ ap (λ (m : List ℕ). get (places_after new.log.file m 0 (base_places new.base m base) batches) q) (sym same.mask);
}

pub holds_same : (contents : Option Image) (left : Image → Type 0) (old new : CoinStore) (base : List (List Row)) (batches : List Batch) → SameRows old new → Holds contents left old base batches → Holds contents left new base batches
holds_same contents left old new base batches same h = record {
  knows = knows_same old new base batches same h.knows;
  stands = subst (λ (m : List ℕ). Stands contents left new.log (texts m batches)) (sym same.mask) (stands_unchanged contents left old.log new.log (texts old.mask batches) same.log h.stands);
  base_stands = λ file is. subst (λ (m : List ℕ). HoldsLog contents left file (base_texts m base)) (sym same.mask) (h.base_stands file (sym same.base ∙ is));
  apart = λ is. h.apart (sym same.base ∙ is ∙ ap (λ (f : ℕ). Some f) same.log.file);
}

-- one more row can be staged where it fits behind a marker `At` and the rows before it
pub row_fits : (store : CoinStore) (keys : List OutPoint) (payload payloads total : ℕ) (rows : List Row) (row : Row) → IsStaged store keys payload payloads total rows
    → 33 + length (rows_text store.mask rows) + length (row_text store.mask row) ≤ payload → vec_len store.staged.bytes + length (row_text store.mask row) ≤ store.staged.room
row_fits store keys payload payloads total rows row s fits =
    let front = s.front in
    let bytes = s.bytes in
    omega (arith, front, bytes, fits, store.staged.bytes.ok.0, ap length s.text, length-drop front_len store.staged.bytes.items)
