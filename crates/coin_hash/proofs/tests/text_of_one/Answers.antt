use Rattle.std.proofs.Common.{refl}
use Rattle.base_types.specs.Bytes.{compact, number_text}
use Rattle.coin_hash.specs.CoinHash.{coin_part}
use Rattle.coin_hash.proofs.tests.text_of_one.Goals as goal

pub returns : goal.returns
unfolding coin_part number_text compact
returns c = refl
