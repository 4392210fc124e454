use Rattle.chain_model.proofs.Bits.{bit_22}
use Rattle.chain_model.proofs.locks.counts_time.Goals as goal

pub returns : goal.returns
returns c = bit_22 c.args.sequence
