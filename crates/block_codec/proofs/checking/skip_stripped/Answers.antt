use Rattle.std.proofs.Common.{refl}
use Rattle.block_codec.specs.Reading.{stripped_at, ended_at}
use Rattle.block_codec.proofs.checking.skip_stripped.Goals as goal

pub returns : goal.returns
unfolding stripped_at ended_at
returns c = λ version. rw (c.in_ok-skip_lists.ensures.1, c.in_ok-u32.ensures.value) (_, refl)
