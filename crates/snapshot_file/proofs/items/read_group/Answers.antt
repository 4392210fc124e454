use Rattle.std.proofs.Common.{sym, ap, ◌∙◌}
use Rattle.base_types.specs.Reading.{Input}
use Rattle.base_types.proofs.Codecs.{IsBytes-slice}
use Rattle.snapshot_file.specs.Items.{group_at}
use Rattle.snapshot_file.proofs.ItemLaws.{group_codec, front_is}
use Rattle.snapshot_file.proofs.items.read_group.Goals as goal

pub returns : goal.returns
returns c =
    let bytes = c.args.bytes.now in
    let read = ap (λ (i : Input). group_at c.args.left i) (sym c.new-cursor.ensures) ∙ c.in_ok-txid.ensures in
    rw c.place.ensures (front_is (group_codec c.args.left) bytes (c.in_ok-txid.txid, c.in_ok-txid.count) c.group_of.new.cursor (IsBytes-slice bytes c.type_inv.bytes) read)
