use Rattle.batch_log.proofs.OneMore.{payload_size}
use Rattle.batch_log.proofs.records.payload_len.Goals as goal

pub returns : goal.returns
returns c = payload_size c.args.framed.now c.requires
