use Rattle.std.specs.Prelude.{◌≡◌, ℕ, ◌+◌, ◌-◌, [], ◌∷◌, ◌++◌, length, vec_len}
use Rattle.std.specs.Option.{option_copied}
use Rattle.std.proofs.Common.{◌∙◌, ap, arith}
use Rattle.std.proofs.lemmas.List.{length-append}
use Rattle.coin_store.specs.Batches.{Row, head_text, row_text, value_text}
use Rattle.coin_store.proofs.Noting.{length_row}
use Rattle.coin_store.proofs.StagedBytes.{row_least, pushed}
use Rattle.coin_store.proofs.staging.StagedRows.push.Goals as goal

pub overflow_sub-row : goal.overflow_sub-row
overflow_sub-row c =
    let row : Row = record { key = c.args.key.now; coin = option_copied c.args.coin } in
    omega (
      arith,
      c.len.ensures,
      c.put_row-len.ensures.len,
      ap length c.put_row-len.ensures.text,
      length-append c.args.self.now.bytes.items (row_text c.args.mask.now row),
      length_row c.args.mask.now row,
      c.put_row-len.new.out.ok.0,
    )

pub unwrap-requires : goal.unwrap-requires
unwrap-requires c =
    let row : Row = record { key = c.args.key.now; coin = option_copied c.args.coin } in
    let within = c.args.self.now.within in
    let many = c.args.self.now.many in
    c.push.ensures.succeeds (omega (arith, within, many, c.requires.room, row_least c.args.mask.now row c.put_row-len.ensures.fits))

pub invariant_of-self : goal.invariant_of-self
invariant_of-self c =
    let row : Row = record { key = c.args.key.now; coin = option_copied c.args.coin } in
    let within = c.args.self.now.within in
    let many = c.args.self.now.many in
    let reserved = c.args.self.now.reserved in
    record {
      within = omega (
        arith,
        within,
        c.push.ensures.upper_bound,
        row_least c.args.mask.now row c.put_row-len.ensures.fits,
        ap length c.put_row-len.ensures.text,
        length-append c.args.self.now.bytes.items (row_text c.args.mask.now row),
        c.put_row-len.new.out.ok.0,
        c.args.self.now.bytes.ok.0,
      );
      reserved = omega (arith, reserved, c.put_row-len.ensures.capacity);
      many = omega (arith, many, c.push.ensures.capacity);
    }

pub returns-clause-coin : goal.returns-clause-coin
returns-clause-coin c =
    let row : Row = record { key = c.args.key.now; coin = option_copied c.args.coin } in
    let n = length (value_text row.coin) in
    let at : c.len.result - c.put_row-len.result ≡ vec_len c.args.self.now.bytes + length (head_text row.key n) =
    omega (
      arith,
      c.len.ensures,
      c.put_row-len.ensures.len,
      ap length c.put_row-len.ensures.text,
      length-append c.args.self.now.bytes.items (row_text c.args.mask.now row),
      length_row c.args.mask.now row,
      c.put_row-len.new.out.ok.0,
      c.args.self.now.bytes.ok.0,
    ) in
    pushed c.push.result _ c.args.self.now.rows.items c.push.new.self.items _ c.unwrap.ensures c.push.ensures.items
    ∙ ap (λ (k : ℕ). c.args.self.now.rows.items ++ record { key = row.key; at = k; len = c.put_row-len.result } ∷ []) at
    ∙ ap (λ (k : ℕ). c.args.self.now.rows.items ++ record { key = row.key; at = vec_len c.args.self.now.bytes + length (head_text row.key n); len = k } ∷ []) c.put_row-len.ensures.len
