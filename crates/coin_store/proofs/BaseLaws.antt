-- What is read of a payload of a base is so spelled, and what is so spelled is read.
use Rattle.std.specs.Prelude.{◌≡◌, ℕ, false, List, length, Some, None, refl}
use Rattle.std.specs.List.{list_all, AllByRecursion}
use Rattle.std.proofs.Common.{subst, arith, inl, inr}
use Rattle.std.proofs.lemmas.Bool.{cases_Bool}
use Rattle.base_types.specs.Codec.{IsBytes}
use Rattle.coin_store.specs.Base.{has_coin, BaseFits, base_of}
use Rattle.coin_store.specs.Batches.{Row, rows_text, RowFits}
use Rattle.coin_store.proofs.BatchLaws.{rows_again, rows_takes, none_is}
use Rattle.coin_store.specs.Reading.{rows_of}
use Rattle.coin_store.proofs.RowLaws.{some_is, bind_some}

-- the text of rows with coins is read as them
pub base_again : (mask : List ℕ) (rows : List Row) → BaseFits rows → base_of mask (rows_text mask rows) ≡ Some rows
unfolding base_of
base_again mask rows fits = rw (rows_again mask rows (length (rows_text mask rows)) fits.fit (omega arith), fits.coins) refl

-- bytes that are read as rows with coins are their text
pub base_takes : (mask bytes : List ℕ) (rows : List Row) → IsBytes mask → IsBytes bytes → base_of mask bytes ≡ Some rows → (bytes ≡ rows_text mask rows) × BaseFits rows
unfolding base_of
base_takes mask bytes rows masked fits e =
    let a = bind_some (rows_of mask (length bytes) bytes) _ rows e in
    let t = rows_takes mask (length bytes) bytes a.0 masked fits a.1 in
    elim (cases_Bool (list_all has_coin a.0)) [
      | inl all ↦ subst (λ (r : List Row). (bytes ≡ rows_text mask r) × BaseFits r) (some_is a.0 rows (rw all at a.2)) (t.0, record { fit = t.1; coins = all })
      | inr some ↦ absurd (none_is rows (rw some at a.2))
    ]

-- rows of which one has no coin aren't
pub base_short : (mask : List ℕ) (rows : List Row) → AllByRecursion RowFits rows → list_all has_coin rows ≡ false → base_of mask (rows_text mask rows) ≡ None
unfolding base_of
base_short mask rows fits some = rw (rows_again mask rows (length (rows_text mask rows)) fits (omega arith), some) refl

-- nor are bytes that aren't rows
pub base_stuck : (mask bytes : List ℕ) → rows_of mask (length bytes) bytes ≡ None → base_of mask bytes ≡ None
unfolding base_of
base_stuck mask bytes e = rw e refl
