use Rattle.std.proofs.Common.{[], ◌∙◌}
use Rattle.block_codec.proofs.size.stripped_tx_size.Goals as goal

pub returns : goal.returns
returns c = c.count.ensures ∙ c.put_stripped.ensures [] [] c.new-counter.ensures
