-- The items of a snapshot file, each read from its first byte on: the metadata, the head of a group, and a coin with its number.
use Rattle.std.specs.Prelude.{ℕ, Bool, false, List, [], ◌∷◌, length, Option, Some, None, Result, Ok, Err, ◌==◌, nat_lt, if◌then◌else◌}
use Rattle.std.specs.Int.{w64}
use Rattle.base_types.specs.Reading.{Input, place, ◌>>=◌, bytes_at, number_at, compact_at, length_at}
use Rattle.base_types.specs.Codec.{Reader, at, field, renamed}
use Rattle.base_types.specs.declared.cursor.ReadError.{ReadError}
use Rattle.base_types.specs.declared.cursor.ReadError.TheVariants as read
use Rattle.base_types.specs.declared.hash.Hash32.{Hash32}
use Rattle.base_types.specs.declared.coin.Coin.{Coin}
use Rattle.base_types.specs.declared.refused.CoinError.{CoinError}
use Rattle.base_types.specs.declared.refused.CoinError.TheVariants as coin
use Rattle.base_types.specs.declared.snapshot_error.SnapError.{SnapError}
use Rattle.base_types.specs.declared.snapshot_error.SnapError.TheVariants.{BadMagic, BadVersion, WrongNetwork, LongSpelling, EmptyGroup, CountMismatch, BadIndex, BadCoin, HeightAbove}
use Rattle.coin_codec.specs.Reading.{coin_at}
use Rattle.base_types.specs.Parameters.{message_start}
use Rattle.snapshot_file.specs.Text.{magic, version}
use Rattle.snapshot_file.specs.declared.head.SnapHead.{SnapHead}

-- what is wrong, and where
abbrev pub Wrong : Type 0
Wrong = SnapError × ℕ

-- Why an item was not read: the bytes end within it, or they break its form whatever follows.
abbrev pub Stop : Type 0
Stop = Option Wrong

-- bytes that are read from the first on
abbrev pub from_first : List ℕ → Input
from_first bytes = at (length bytes) bytes

-- the fault of a field
abbrev pub as_stop : Input → ReadError → Stop
as_stop i read.Short = None
as_stop i read.LongSpelling = Some (LongSpelling, place i)
as_stop i read.TooLarge = Some (BadIndex, place i)

-- the fault of a coin
abbrev pub coin_stop : CoinError × ℕ → Stop
coin_stop (coin.Short, offset) = None
coin_stop (coin.HeightTooLarge, offset) = Some (BadCoin coin.HeightTooLarge, offset)
coin_stop (coin.BadAmount, offset) = Some (BadCoin coin.BadAmount, offset)
coin_stop (coin.UncompressedKey, offset) = Some (BadCoin coin.UncompressedKey, offset)
coin_stop (coin.ScriptTooLong, offset) = Some (BadCoin coin.ScriptTooLong, offset)
coin_stop (coin.SecondSpelling, offset) = Some (BadCoin coin.SecondSpelling, offset)

-- ---- the metadata

-- these bytes, the first of which that is there and differs decides
unfoldable pub mark_at : Wrong → List ℕ → Reader Stop (Unit {0})
mark_at wrong [] i = Ok (tt, i)
mark_at wrong (mark ∷ marks) i = mark_of wrong mark (mark_at wrong marks) i.end i.rest where
  mark_of : Wrong → ℕ → Reader Stop (Unit {0}) → ℕ → List ℕ → Result (Unit {0} × Input) Stop
  mark_of wrong mark others end [] = Err None
  mark_of wrong mark others end (byte ∷ rest) = if byte == mark then others (at end rest) else Err (Some wrong)

unfoldable pub head_at : Reader Stop SnapHead
head_at i = do
  magic ← mark_at (BadMagic, 0) magic i
  version ← mark_at (BadVersion, 5) version magic.1
  network ← mark_at (WrongNetwork, 7) message_start version.1
  base ← field as_stop (bytes_at 32) network.1
  count ← field as_stop (number_at w64) base.1
  Ok (record { base = record { bytes = base.0 }; count = count.0 }, count.1)

-- ---- the head of a group

-- where so many coins are left in the file
unfoldable pub group_at : ℕ → Reader Stop (Hash32 × ℕ)
group_at left i = do
  txid ← field as_stop (bytes_at 32) i
  count ← field as_stop compact_at txid.1
  if count.0 == 0 then Err (Some (EmptyGroup, place txid.1)) else
      if nat_lt left count.0 then Err (Some (CountMismatch, place txid.1)) else
      Ok ((record { bytes = txid.0 }, count.0), count.1)

-- ---- a coin of a group, with the number of its output

-- whether a height is above the base's, where that was set
abbrev pub is_above : Option ℕ → ℕ → Bool
is_above None height = false
is_above (Some base) height = nat_lt base height

unfoldable pub member_at : Option ℕ → Reader Stop (ℕ × Coin)
member_at base i = do
  index ← field as_stop length_at i
  coin ← renamed coin_stop (coin_at index.1)
  if is_above base coin.0.height then Err (Some (HeightAbove, place index.1)) else Ok ((index.0, coin.0), coin.1)
