use Rattle.std.proofs.Common.{[], ◌++◌}
use Rattle.block_codec.proofs.hashing.hash_of_both.Goals as goal

pub returns : goal.returns
returns c =
    let first = c.args.first.now in
    let second = c.args.second.now in
    c.finish.ensures (first ++ second) (c.emit-2.ensures [] first (c.emit.ensures [] [] c.new-hasher.ensures))
