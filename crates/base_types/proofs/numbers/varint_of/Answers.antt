use Rattle.base_types.proofs.Codecs.{IsBytes-slice, spelled}
use Rattle.base_types.proofs.Fields.{varint_field}
use Rattle.base_types.proofs.numbers.varint_of.Goals as goal

pub returns-clause-spelled : goal.returns-clause-spelled
returns-clause-spelled c = spelled varint_field c.args.bytes.now (IsBytes-slice c.args.bytes.now c.type_inv.bytes)
