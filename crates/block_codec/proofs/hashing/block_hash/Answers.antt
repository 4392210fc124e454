use Rattle.std.proofs.Common.{[]}
use Rattle.block_codec.proofs.hashing.block_hash.Goals as goal

pub returns : goal.returns
returns c = c.finish.ensures _ (c.put_header.ensures [] [] c.new-hasher.ensures)
