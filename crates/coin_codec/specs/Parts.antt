-- The parts of a coin's text, as they are read before a coin is made of them.
use Rattle.std.specs.Prelude.{⊤, ◌≡◌, ℕ, ◌<◌, ◌/◌, ◌%◌, ◌==◌, List, length, Result, Ok, Err}
use Rattle.base_types.specs.Reading.{Input}
use Rattle.base_types.specs.declared.coin.Coin.{Coin}
use Rattle.coin_codec.specs.ScriptForm.{script_of, kept_len}
use Rattle.coin_codec.specs.Reading.{Wrong}
use Rattle.coin_codec.specs.declared.fault.BadCoin.{BadCoin}
use Rattle.coin_codec.specs.declared.parts.CoinParts.{CoinParts}
use Rattle.coin_codec.specs.declared.parts.ScriptPart.{ScriptPart}
use Rattle.coin_codec.specs.declared.parts.ScriptPart.TheVariants.{Short, Raw}

-- the script that stands there
abbrev pub script_in : ScriptPart → List ℕ
script_in (Short mark kept) = script_of mark kept.now
script_in (Raw bytes) = bytes.now

-- of a script of a kind there are as many bytes as are kept of each of the kind
abbrev pub HasKept : ScriptPart → Type 0
HasKept (Short mark kept) = (mark < 4) × (length kept.now ≡ kept_len mark)
HasKept (Raw bytes) = ⊤

-- the coin that stands there
abbrev pub coin_in : CoinParts → Coin
coin_in parts = record { value = parts.value; script = script_in parts.script; height = parts.height_code / 2; coinbase = parts.height_code % 2 == 1 }

-- What a function returned, of which view is shown, is what reading gives.
abbrev pub ReadsPart : {X Y : Type 0} → (X → Y) → Result X BadCoin → Input → Result (Y × Input) Wrong → Type 0
ReadsPart view (Ok x) new given = given ≡ Ok (view x, new)
ReadsPart view (Err bad) new given = given ≡ Err (bad.error, bad.at)
