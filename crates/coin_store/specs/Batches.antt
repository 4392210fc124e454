-- The text of a batch: a marker, and then rows. The coin of a row is obfuscated with a key of eight bytes, as in Bitcoin
-- Core's coins database.
use Rattle.std.specs.Prelude.{⊤, ◌≡◌, ℕ, List, [], ◌∷◌, ◌++◌, length, Option, Some, None}
use Rattle.std.specs.List.{flat_map, AllByRecursion}
use Rattle.base_types.specs.Bytes.{compact}
use Rattle.base_types.specs.declared.coin.Coin.{Coin}
use Rattle.base_types.specs.declared.hash.Hash32.{Hash32}
use Rattle.base_types.specs.declared.hash.OutPoint.{OutPoint}
use Rattle.base_types.specs.Obfuscation.{obfuscated}
use Rattle.coin_codec.specs.CoinText.{coin_text}
use Rattle.base_types.specs.Coins.{CoinFits}
use Rattle.coin_codec.specs.KeyText.{key_text, KeyFits}
use Rattle.coin_store.specs.declared.marker.Marker.{Marker}
use Rattle.coin_store.specs.declared.marker.Marker.TheVariants.{At, Between}

-- an outpoint with its coin, or with none
pub record Row : Type 0 where
  pub key : OutPoint
  pub coin : Option Coin

pub record Batch : Type 0 where
  pub marker : Marker
  pub rows : List Row

-- the text of a coin, and no bytes where there is none
unfoldable pub value_text : Option Coin → List ℕ
value_text None = []
value_text (Some coin) = coin_text coin

-- what stands before a row's coin
unfoldable pub head_text : OutPoint → ℕ → List ℕ
head_text key n = key_text key ++ compact n

unfoldable pub row_text : List ℕ → Row → List ℕ
row_text mask row = head_text row.key (length (value_text row.coin)) ++ obfuscated mask 0 (value_text row.coin)

abbrev pub rows_text : List ℕ → List Row → List ℕ
rows_text mask rows = flat_map (row_text mask) rows

-- the letter B and the tip, or the letter H, the new tip and the old one
unfoldable pub marker_text : Marker → List ℕ
marker_text (At tip) = 0x42 ∷ tip.bytes
marker_text (Between new_tip old_tip) = 0x48 ∷ new_tip.bytes ++ old_tip.bytes

unfoldable pub batch_text : List ℕ → Batch → List ℕ
batch_text mask batch = marker_text batch.marker ++ rows_text mask batch.rows

-- ---- the ranges of their parts

abbrev pub ValueFits : Option Coin → Type 0
ValueFits None = ⊤
ValueFits (Some coin) = CoinFits coin

pub record RowFits (row : Row) : Type 0 where
  pub key : KeyFits row.key
  pub value : ValueFits row.coin

abbrev pub HashFits : Hash32 → Type 0
HashFits hash = length hash.bytes ≡ 32

abbrev pub MarkerFits : Marker → Type 0
MarkerFits (At tip) = HashFits tip
MarkerFits (Between new_tip old_tip) = HashFits new_tip × HashFits old_tip

pub record BatchFits (batch : Batch) : Type 0 where
  pub marker : MarkerFits batch.marker
  pub rows : AllByRecursion RowFits batch.rows
