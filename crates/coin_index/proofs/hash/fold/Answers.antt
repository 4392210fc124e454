use Rattle.std.proofs.Common.{refl}
use Rattle.coin_index.specs.Hash.{folded}
use Rattle.coin_index.proofs.hash.fold.Goals as goal

pub returns : goal.returns
unfolding folded
returns c = refl
