-- The payloads of a base file: rows, each with a coin. The rows of batches overrule them.
use Rattle.std.specs.Prelude.{◌≡◌, ℕ, ◌+◌, Bool, List, [], ◌∷◌, length, map, is_some, IsTrue, Option, Some, None, Result, Ok, if◌then◌else◌}
use Rattle.std.specs.FinMap.{empty}
use Rattle.std.specs.List.{list_all, AllByRecursion}
use Rattle.disk_model.specs.Disk.{Image}
use Rattle.base_types.specs.Coins.{Coins}
use Rattle.batch_log.specs.Records.{log}
use Rattle.coin_store.specs.Batches.{Row, Batch, rows_text, RowFits}
use Rattle.coin_store.specs.Places.{CoinPlaces, coins_after_rows, coins_after, places_after_rows}
use Rattle.coin_store.specs.Reading.{◌>>=◌, rows_of}

abbrev pub has_coin : Row → Bool
has_coin row = is_some row.coin

-- each row is in its ranges, and has a coin
pub record BaseFits (rows : List Row) : Type 0 where
  pub fit : AllByRecursion RowFits rows
  pub coins : IsTrue (list_all has_coin rows)

-- rows to the end, each with a coin
unfoldable pub base_of : List ℕ → List ℕ → Option (List Row)
base_of mask bytes = do
  rows ← rows_of mask (length bytes) bytes
  if list_all has_coin rows then Some rows else None

abbrev pub base_texts : List ℕ → List (List Row) → List (List ℕ)
base_texts mask base = map (rows_text mask) base

-- ---- coins

abbrev pub coins_after_base : Coins → List (List Row) → Coins
coins_after_base coins [] = coins
coins_after_base coins (rows ∷ base) = coins_after_base (coins_after_rows coins rows) base

-- the coins after all rows of a base
abbrev pub base_coins : List (List Row) → Coins
base_coins base = coins_after_base empty base

-- the coins after a base and then batches
abbrev pub rows_after : List (List Row) → List Batch → Coins
rows_after base batches = coins_after (base_coins base) batches

-- ---- their places

-- the places after the payloads of a base, the first of which has its gate there
abbrev pub places_after_base : ℕ → List ℕ → ℕ → CoinPlaces → List (List Row) → CoinPlaces
places_after_base file mask gate places [] = places
places_after_base file mask gate places (rows ∷ base) =
    places_after_base file mask (gate + (5 + length (rows_text mask rows))) (places_after_rows file mask gate 0 places rows) base

-- the places of a base's coins in its file, if there is one
abbrev pub base_places : Option ℕ → List ℕ → List (List Row) → CoinPlaces
base_places None mask base = empty
base_places (Some file) mask base = places_after_base file mask 0 empty base

-- ---- its file

-- what the base file stands for; where there is none, no payloads
abbrev pub base_log : Option ℕ → Image → Result (List (List ℕ)) ℕ
base_log None image = Ok []
base_log (Some file) image = log (image file)

-- the base file, if there is one, has this base
pub record IsBase (mask : List ℕ) (file : Option ℕ) (image : Image) (base : List (List Row)) : Type 0 where
  pub fits : AllByRecursion BaseFits base
  pub is : base_log file image ≡ Ok (base_texts mask base)
