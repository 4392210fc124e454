use Rattle.coin_index.specs.Hash.{word_at}
use Rattle.coin_index.proofs.hash.word.Goals as goal

pub returns : goal.returns
unfolding word_at
returns c = c.from_le_bytes.ensures
