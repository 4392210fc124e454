use Rattle.std.proofs.Common.{[], ◌∙◌}
use Rattle.block_codec.proofs.size.stripped_size.Goals as goal

pub returns : goal.returns
returns c = c.count.ensures ∙ c.put_stripped_block.ensures [] [] c.new-counter.ensures
