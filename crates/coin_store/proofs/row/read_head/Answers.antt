use Rattle.std.proofs.Common.{refl}
use Rattle.base_types.proofs.Codecs.{IsBytes-slice}
use Rattle.coin_store.proofs.Heads.{no_key, no_length, no_value, stands}
use Rattle.coin_store.proofs.row.read_head.Goals as goal

pub returns-in_default : goal.returns-in_default
returns-in_default c = no_key c.args.bytes.now c.new-cursor.result c.new-cursor.ensures c.in_default.field-0 c.in_default.ensures.exact

pub returns-in_default-compact_size : goal.returns-in_default-compact_size
returns-in_default-compact_size c = no_length c.args.bytes.now c.new-cursor.result c.new-cursor.ensures c.in-Ok.key c.read_key.new.cursor c.in_default-compact_size.field-0 c.in-Ok.ensures.exact c.in_default-compact_size.ensures.value.0

pub returns-in_default-take : goal.returns-in_default-take
returns-in_default-take c = no_value c.args.bytes.now c.new-cursor.result c.new-cursor.ensures c.in-Ok.key c.read_key.new.cursor c.compact_size.new.self c.in-Ok-compact_size.len c.in_default-take.field-0 c.in-Ok.ensures.exact c.in-Ok-compact_size.ensures.value c.in_default-take.ensures.value.0

pub returns : goal.returns
returns c = stands c.args.bytes.now c.new-cursor.result c.new-cursor.ensures (IsBytes-slice c.args.bytes.now c.type_inv.bytes) c.in-Ok.key c.read_key.new.cursor c.compact_size.new.self c.take.new.self c.in-Ok-compact_size.len c.in-Ok-take.value.now
    c.in-Ok.ensures.exact c.in-Ok.ensures.further.end c.in-Ok-compact_size.ensures.value c.in-Ok-take.ensures.value c.place-from.result c.place-from.ensures _ refl
