-- The rows of several batches are those of one.
use Rattle.std.specs.Prelude.{◌≡◌, List, [], ◌∷◌, ◌++◌, refl}
use Rattle.std.proofs.Common.{sym, ◌∙◌}
use Rattle.base_types.specs.Coins.{Coins}
use Rattle.coin_store.specs.Batches.{Row, Batch}
use Rattle.coin_store.specs.Places.{put, coins_after_rows, coins_after}

-- the rows of these batches, one batch after another
abbrev pub joined_rows : List Batch → List Row
joined_rows [] = []
joined_rows (batch ∷ batches) = batch.rows ++ joined_rows batches

pub rows_then : (coins : Coins) (first second : List Row) → coins_after_rows coins (first ++ second) ≡ coins_after_rows (coins_after_rows coins first) second
rows_then coins [] second = refl
rows_then coins (row ∷ first) second = rows_then (put coins row.key row.coin) first second

-- the coins after batches are those after their rows
pub coins_joined : (coins : Coins) (batches : List Batch) → coins_after coins batches ≡ coins_after_rows coins (joined_rows batches)
coins_joined coins [] = refl
coins_joined coins (batch ∷ batches) = coins_joined (coins_after_rows coins batch.rows) batches ∙ sym (rows_then coins batch.rows (joined_rows batches))
