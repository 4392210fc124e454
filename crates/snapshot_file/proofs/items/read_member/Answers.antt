use Rattle.std.proofs.Common.{sym, ap, ◌∙◌}
use Rattle.base_types.specs.Reading.{Input}
use Rattle.base_types.proofs.Codecs.{IsBytes-slice}
use Rattle.snapshot_file.specs.Items.{member_at}
use Rattle.snapshot_file.proofs.ItemLaws.{member_codec, front_is}
use Rattle.snapshot_file.proofs.items.read_member.Goals as goal

pub returns : goal.returns
returns c =
    let bytes = c.args.bytes.now in
    let read = ap (λ (i : Input). member_at c.args.base i) (sym c.new-cursor.ensures) ∙ c.in_ok-index.ensures in
    rw c.place.ensures (front_is (member_codec c.args.base) bytes (c.in_ok-index.index, c.in_ok-index.coin) c.member_of.new.cursor (IsBytes-slice bytes c.type_inv.bytes) read)
