use Rattle.std.proofs.Common.{refl}
use Rattle.block_codec.specs.Reading.{flagged_at, ended_at}
use Rattle.block_codec.proofs.checking.skip_flagged.Goals as goal

pub returns-in_ok-u32-in-0 : goal.returns-in_ok-u32-in-0
unfolding flagged_at ended_at
returns-in_ok-u32-in-0 c = λ version. rw (c.in_ok-u8.ensures, c.in-0.is, c.in_ok-u32-in-0.ensures.value) (_, refl)
