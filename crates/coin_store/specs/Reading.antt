-- Reading a batch: what bytes stand for, or nothing where they are no batch.
use Rattle.std.specs.Prelude.{ℕ, zero, suc, List, [], ◌∷◌, length, Option, Some, None, ◌==◌, if◌then◌else◌}
use Rattle.std.specs.Result.{result_ok}
use Rattle.base_types.specs.Reading.{Input, bytes_at, compact_at}
use Rattle.base_types.specs.Codec.{at}
use Rattle.base_types.specs.declared.coin.Coin.{Coin}
use Rattle.base_types.specs.declared.hash.OutPoint.{OutPoint}
use Rattle.base_types.specs.Obfuscation.{obfuscated}
use Rattle.coin_codec.specs.Reading.{key_at, coin_at}
use Rattle.coin_store.specs.declared.marker.Marker.{Marker}
use Rattle.coin_store.specs.declared.marker.Marker.TheVariants.{At, Between}
use Rattle.coin_store.specs.Batches.{Row, Batch}

-- a step, and another with its value, if there is one
infixl 10 ◌>>=◌
abbrev pub ◌>>=◌ : {A B : Type 0} → Option A → (A → Option B) → Option B
(Some x) >>= f = f x
None >>= f = None

-- the coin that was read, where nothing follows it
abbrev pub whole : Option (Coin × Input) → Option (Option Coin)
whole None = None
whole (Some read) = if length read.1.rest == 0 then Some (Some read.0) else None

-- the coin whose text these bytes are, and no coin where there are none
unfoldable pub value_of : List ℕ → Option (Option Coin)
value_of [] = Some None
value_of (byte ∷ bytes) = whole (result_ok (coin_at (at (length (byte ∷ bytes)) (byte ∷ bytes))))

-- a row whose coin isn't read yet: its outpoint, the bytes of the coin, and those after it
pub record Head : Type 0 where
  pub key : OutPoint
  pub value : List ℕ
  pub rest : List ℕ

unfoldable pub head_of : List ℕ → Option Head
head_of bytes = do
  key ← result_ok (key_at (at (length bytes) bytes))
  len ← result_ok (compact_at key.1.rest)
  value ← result_ok (bytes_at len.0 len.1)
  Some (record { key = key.0; value = value.0; rest = value.1 })

-- the first row, and the bytes after it
unfoldable pub row_of : List ℕ → List ℕ → Option (Row × List ℕ)
row_of mask bytes = do
  head ← head_of bytes
  coin ← value_of (obfuscated mask 0 head.value)
  Some (record { key = head.key; coin = coin }, head.rest)

-- rows to the end, of which there are at most so many
unfoldable pub rows_of : List ℕ → ℕ → List ℕ → Option (List Row)
rows_of mask most [] = Some []
rows_of mask zero (byte ∷ bytes) = None
rows_of mask (suc most) (byte ∷ bytes) = do
  row ← row_of mask (byte ∷ bytes)
  rows ← rows_of mask most row.1
  Some (row.0 ∷ rows)

-- the tips behind the letter of a marker
abbrev pub at_of : List ℕ → Option (Marker × List ℕ)
at_of bytes = do
  tip ← result_ok (bytes_at 32 bytes)
  Some (At (record { bytes = tip.0 }), tip.1)

abbrev pub between_of : List ℕ → Option (Marker × List ℕ)
between_of bytes = do
  new_tip ← result_ok (bytes_at 32 bytes)
  old_tip ← result_ok (bytes_at 32 new_tip.1)
  Some (Between (record { bytes = new_tip.0 }) (record { bytes = old_tip.0 }), old_tip.1)

unfoldable pub marker_of : List ℕ → Option (Marker × List ℕ)
marker_of [] = None
marker_of (letter ∷ bytes) =
    if letter == 0x42 then at_of bytes else
    if letter == 0x48 then between_of bytes else
    None

unfoldable pub batch_of : List ℕ → List ℕ → Option Batch
batch_of mask bytes = do
  marker ← marker_of bytes
  rows ← rows_of mask (length marker.1) marker.1
  Some (record { marker = marker.0; rows = rows })
