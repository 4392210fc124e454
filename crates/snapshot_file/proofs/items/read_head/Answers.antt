use Rattle.base_types.proofs.Codecs.{IsBytes-slice}
use Rattle.snapshot_file.proofs.ItemLaws.{head_read}
use Rattle.snapshot_file.proofs.items.read_head.Goals as goal

pub returns : goal.returns
returns c = head_read c.args.bytes.now c.new.result c.head_of.result c.head_of.new.cursor (IsBytes-slice c.args.bytes.now c.type_inv.bytes) c.new.ensures c.head_of.ensures
