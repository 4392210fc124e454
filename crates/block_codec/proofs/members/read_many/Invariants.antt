use Rattle.std.proofs.Common.{◌≡◌, ◌-◌}
use Rattle.base_types.specs.Codec.{many_at}
use Rattle.block_codec.proofs.Loop.{with_front}
use Rattle.block_codec.proofs.members.read_many.Given as goal

abbrev pub invariant-loop : goal.invariant-loop
invariant-loop g l = with_front l.members (many_at g.T.Member.at (l.count - l.counter) l.cursor) ≡ many_at g.T.Member.at l.count l.fn.cursor
