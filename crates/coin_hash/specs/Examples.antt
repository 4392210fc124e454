-- What is hashed of one coin: that of 50 coins which the coinbase of height 1 made, at the output 0 of a transaction
-- whose hash has bytes 0x11.
use Rattle.std.specs.Prelude.{true, List, [], ◌∷◌, replicate}
use Rattle.base_types.specs.declared.hash.OutPoint.{OutPoint}
use Rattle.base_types.specs.declared.coin.Coin.{Coin}

abbrev pub one_coin : List (OutPoint × Coin)
one_coin = (record { txid = record { bytes = replicate 32 0x11 }; index = 0 }, record { value = 5_000_000_000; script = 0x51 ∷ []; height = 1; coinbase = true }) ∷ []
