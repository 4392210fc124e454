use Rattle.std.proofs.Common.{[]}
use Rattle.block_codec.proofs.hashing.txid.Goals as goal

pub returns : goal.returns
returns c = c.finish.ensures _ (c.put_stripped.ensures [] [] c.new-hasher.ensures)
