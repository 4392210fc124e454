use Rattle.base_types.proofs.Codecs.{IsBytes-slice, spelled}
use Rattle.base_types.proofs.Fields.{number_field, wide64}
use Rattle.base_types.proofs.numbers.u64_of.Goals as goal

pub returns-then-bytes-lt8-clause-spelled : goal.returns-then-bytes-lt8-clause-spelled
returns-then-bytes-lt8-clause-spelled c = spelled (number_field _ _ wide64) c.args.bytes.now (IsBytes-slice c.args.bytes.now c.type_inv.bytes)

pub returns-clause-spelled : goal.returns-clause-spelled
returns-clause-spelled c = spelled (number_field _ _ wide64) c.args.bytes.now (IsBytes-slice c.args.bytes.now c.type_inv.bytes)
