use Rattle.std.proofs.Common.{◌-◌}
use Rattle.base_types.specs.Codec.{many_at}
use Rattle.block_codec.proofs.Skips.{Passed}
use Rattle.block_codec.proofs.members.skip_many.Given as goal

abbrev pub invariant-loop : goal.invariant-loop
invariant-loop g l = Passed g.T.Member.at (l.count - l.counter) l.cursor (many_at g.T.Member.at l.count l.fn.cursor)
