use Rattle.std.proofs.Common.{refl}
use Rattle.block_codec.specs.Reading.{header_at}
use Rattle.block_codec.proofs.checking.skip_header.Goals as goal

pub returns : goal.returns
unfolding header_at
returns c = rw (c.in_ok-u32.ensures.value, c.in_ok-take.ensures.value, c.in_ok-take-2.ensures.value, c.in_ok-u32-2.ensures.value, c.in_ok-u32-3.ensures.value, c.in_ok-u32-4.ensures.value) (_, refl)
