use Rattle.std.proofs.Common.{refl}
use Rattle.block_codec.specs.Reading.{input_at}
use Rattle.block_codec.proofs.checking.skip_input.Goals as goal

pub returns : goal.returns
unfolding input_at
returns c = rw (c.in_ok-take.ensures.value, c.in_ok-u32.ensures.value, c.in_ok-skip_script.ensures.1, c.in_ok-u32-2.ensures.value) (_, refl)
