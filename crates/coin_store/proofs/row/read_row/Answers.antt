use Rattle.std.specs.Prelude.{◌≡◌, ◌+◌, ◌-◌, length, take, drop}
use Rattle.std.proofs.Common.{arith, ap, sym, ◌∙◌}
use Rattle.std.proofs.lemmas.Slice.{drop-put_mid}
use Rattle.std.proofs.lemmas.List.{length-take, length-drop}
use Rattle.base_types.proofs.Obfuscated.{length-obfuscated}
use Rattle.coin_store.specs.Reading.{value_of}
use Rattle.coin_store.proofs.Heads.{row_headless, row_unread, row_read, obfuscated_part}
use Rattle.coin_store.proofs.row.read_row.Goals as goal

pub returns-in_default-clause-broken : goal.returns-in_default-clause-broken
returns-in_default-clause-broken c = row_headless c.args.mask.now c.args.bytes.now c.in_default.ensures

pub returns-clause-row : goal.returns-clause-row
returns-clause-row c =
    let now = obfuscated_part c.args.mask.now c.args.bytes.now c.obfuscate.new.bytes c.in-Some.head.from c.in-Some.head.len c.obfuscate.ensures in
    row_read c.args.mask.now c.args.bytes.now c.in-Some.head c.fits-mask c.in-Some.ensures c.if-not-is_value.ensures.0 (ap value_of (sym now) ∙ c.if-not-is_value.ensures.1)

pub returns-then-not-is_value-clause-broken : goal.returns-then-not-is_value-clause-broken
returns-then-not-is_value-clause-broken c =
    let now = obfuscated_part c.args.mask.now c.args.bytes.now c.obfuscate.new.bytes c.in-Some.head.from c.in-Some.head.len c.obfuscate.ensures in
    row_unread c.args.mask.now c.args.bytes.now c.obfuscate.new.bytes c.in-Some.head c.in-Some.ensures now c.if-not-is_value.ensures

pub returns-clause-behind : goal.returns-clause-behind
returns-clause-behind c =
    let from = c.in-Some.head.from in
    let len = c.in-Some.head.len in
    let within = c.in-Some.ensures.within in
    let size : length c.obfuscate.new.bytes ≡ from + len - from =
    omega (arith, ap length c.obfuscate.ensures, length-obfuscated c.args.mask.now 0 (take (from + len - from) (drop from c.args.bytes.now)), length-take (from + len - from) (drop from c.args.bytes.now), length-drop from c.args.bytes.now) in
    drop-put_mid from (from + len - from) c.args.bytes.now c.obfuscate.new.bytes (from + len) (omega arith) (omega arith) size
