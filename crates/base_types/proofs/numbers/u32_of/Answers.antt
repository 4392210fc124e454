use Rattle.base_types.proofs.Codecs.{IsBytes-slice, spelled}
use Rattle.base_types.proofs.Fields.{number_field, wide32}
use Rattle.base_types.proofs.numbers.u32_of.Goals as goal

pub returns-then-bytes-lt4-clause-spelled : goal.returns-then-bytes-lt4-clause-spelled
returns-then-bytes-lt4-clause-spelled c = spelled (number_field _ _ wide32) c.args.bytes.now (IsBytes-slice c.args.bytes.now c.type_inv.bytes)

pub returns-clause-spelled : goal.returns-clause-spelled
returns-clause-spelled c = spelled (number_field _ _ wide32) c.args.bytes.now (IsBytes-slice c.args.bytes.now c.type_inv.bytes)
