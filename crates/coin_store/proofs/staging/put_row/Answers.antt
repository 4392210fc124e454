use Rattle.std.proofs.Common.{◌≡◌, ◌-◌, ◌++◌, ℕ, length, arith, ap}
use Rattle.std.specs.Option.{option_copied}
use Rattle.std.proofs.lemmas.List.{length-append}
use Rattle.base_types.specs.Bytes.{compact}
use Rattle.coin_codec.specs.KeyText.{key_text}
use Rattle.coin_store.specs.Batches.{value_text}
use Rattle.coin_store.proofs.StagedBytes.{row_long, ok_is}
use Rattle.coin_store.proofs.staging.put_row.Goals as goal

pub put_value-requires-clause-room : goal.put_value-requires-clause-room
put_value-requires-clause-room c =
    let row = row_long c.args.mask.now (record { key = c.args.key.now; coin = option_copied c.args.coin }) in
    let written : c.write_key.new.out.items ≡ c.args.out.now.items ++ key_text c.args.key.now = ok_is c.write_key.result _ _ c.unwrap.ensures c.write_key.ensures.ok in
    omega (arith, row, c.requires.room, c.write_key.ensures.capacity, ap length written, length-append c.args.out.now.items (key_text c.args.key.now), c.args.out.now.ok.0, c.write_key.new.out.ok.0)

pub unwrap-requires-2 : goal.unwrap-requires-2
unwrap-requires-2 c =
    let n = length (value_text (option_copied c.args.coin)) in
    let row = row_long c.args.mask.now (record { key = c.args.key.now; coin = option_copied c.args.coin }) in
    let written : c.write_key.new.out.items ≡ c.args.out.now.items ++ key_text c.args.key.now = ok_is c.write_key.result _ _ c.unwrap.ensures c.write_key.ensures.ok in
    let keyed = length-append c.args.out.now.items (key_text c.args.key.now) in
    let valued = length-append c.write_key.new.out.items (value_text (option_copied c.args.coin)) in
    let len : c.len.result - c.len-start.result ≡ n =
    omega (arith, c.len.ensures, c.len-start.ensures, ap length c.put_value.ensures.text, valued, c.put_value.new.out.ok.0, c.write_key.new.out.ok.0) in
    c.put_compact_size.ensures.room (omega (
      arith,
      ap (λ (k : ℕ). length (compact k)) len,
      row,
      c.requires.room,
      c.write_key.ensures.capacity,
      c.put_value.ensures.capacity,
      ap length written,
      keyed,
      ap length c.put_value.ensures.text,
      valued,
      c.args.out.now.ok.0,
      c.write_key.new.out.ok.0,
      c.put_value.new.out.ok.0,
    ))
