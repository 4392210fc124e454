-- The names of faults.
use Rattle.std.specs.Prelude.{ℕ, Bool, true, false, List, codes}
use Rattle.base_types.specs.declared.cursor.ReadError.{ReadError}
use Rattle.base_types.specs.declared.cursor.ReadError.TheVariants as read
use Rattle.base_types.specs.declared.refused.CoinError.{CoinError}
use Rattle.base_types.specs.declared.refused.CoinError.TheVariants as coin
use Rattle.base_types.specs.declared.refused.HeaderRefused.{HeaderRefused}
use Rattle.base_types.specs.declared.refused.HeaderRefused.TheVariants as refused
use Rattle.base_types.specs.declared.snapshot_error.SnapError.{SnapError}
use Rattle.base_types.specs.declared.snapshot_error.SnapError.TheVariants as snapshot
use Rattle.block_codec.specs.declared.fault.BlockError.{BlockError}
use Rattle.block_codec.specs.declared.fault.BlockError.TheVariants as block

abbrev pub read_error : ReadError → List ℕ
read_error read.Short = codes "Short"
read_error read.LongSpelling = codes "LongSpelling"
read_error read.TooLarge = codes "TooLarge"

abbrev pub coin_error : CoinError → List ℕ
coin_error coin.Short = codes "Short"
coin_error coin.HeightTooLarge = codes "HeightTooLarge"
coin_error coin.BadAmount = codes "BadAmount"
coin_error coin.UncompressedKey = codes "UncompressedKey"
coin_error coin.ScriptTooLong = codes "ScriptTooLong"
coin_error coin.SecondSpelling = codes "SecondSpelling"

abbrev pub block_error : BlockError → List ℕ
block_error block.Short = codes "Short"
block_error block.LongSpelling = codes "LongSpelling"
block_error block.TooLarge = codes "TooLarge"
block_error block.BadFlag = codes "BadFlag"
block_error block.EmptyWitness = codes "EmptyWitness"
block_error block.Trailing = codes "Trailing"

abbrev pub header_refused : HeaderRefused → List ℕ
header_refused refused.Known = codes "Known"
header_refused refused.HighHash = codes "HighHash"
header_refused refused.NoParent = codes "NoParent"
header_refused refused.BadBits = codes "BadBits"
header_refused refused.TooOld = codes "TooOld"
header_refused refused.BadVersion = codes "BadVersion"
header_refused refused.TreeFull = codes "TreeFull"

-- a coin's fault stands behind a point
abbrev pub snap_error : SnapError → List ℕ
snap_error snapshot.BadMagic = codes "BadMagic"
snap_error snapshot.BadVersion = codes "BadVersion"
snap_error snapshot.WrongNetwork = codes "WrongNetwork"
snap_error snapshot.Short = codes "Short"
snap_error snapshot.LongSpelling = codes "LongSpelling"
snap_error snapshot.EmptyGroup = codes "EmptyGroup"
snap_error snapshot.CountMismatch = codes "CountMismatch"
snap_error snapshot.BadIndex = codes "BadIndex"
snap_error (snapshot.BadCoin coin.Short) = codes "BadCoin.Short"
snap_error (snapshot.BadCoin coin.HeightTooLarge) = codes "BadCoin.HeightTooLarge"
snap_error (snapshot.BadCoin coin.BadAmount) = codes "BadCoin.BadAmount"
snap_error (snapshot.BadCoin coin.UncompressedKey) = codes "BadCoin.UncompressedKey"
snap_error (snapshot.BadCoin coin.ScriptTooLong) = codes "BadCoin.ScriptTooLong"
snap_error (snapshot.BadCoin coin.SecondSpelling) = codes "BadCoin.SecondSpelling"
snap_error snapshot.HeightAbove = codes "HeightAbove"
snap_error snapshot.Duplicate = codes "Duplicate"
snap_error snapshot.LeftOver = codes "LeftOver"

abbrev pub truth : Bool → List ℕ
truth true = codes "yes"
truth false = codes "no"
