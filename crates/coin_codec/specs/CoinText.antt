-- The one text of a coin (`Coin` in Bitcoin Core's `coins.h`, with the compressed output of its `compressor.h`).
use Rattle.std.specs.Prelude.{◌≡◌, ℕ, List, ◌++◌}
use Rattle.base_types.specs.Bytes.{varint}
use Rattle.base_types.specs.Coins.{height_code, CoinFits}
use Rattle.base_types.specs.declared.coin.Coin.{Coin}
use Rattle.coin_codec.specs.Amount.{amount_code}
use Rattle.coin_codec.specs.ScriptForm.{script_form}

unfoldable pub coin_text : Coin → List ℕ
coin_text coin = varint (height_code coin) ++ varint (amount_code coin.value) ++ script_form coin.script

-- some coin has this text
abbrev pub IsCoinText : List ℕ → Type 0
IsCoinText bytes = (coin : Coin) × CoinFits coin × (bytes ≡ coin_text coin)
