use Rattle.std.proofs.Common.{refl}
use Rattle.block_codec.specs.Reading.{script_at}
use Rattle.block_codec.proofs.checking.skip_script.Goals as goal

pub returns : goal.returns
unfolding script_at
returns c = rw (c.in_ok-len.ensures.value, c.in_ok-take.ensures.value) (_, refl)
