use Rattle.std.specs.Option.{option_copied}
use Rattle.std.specs.Prelude.{ℕ, length}
use Rattle.std.proofs.Common.{arith, ap}
use Rattle.base_types.specs.Bytes.{compact}
use Rattle.coin_store.proofs.RowLaws.{value_below}
use Rattle.coin_store.proofs.StagedBytes.{key_small, row_long}
use Rattle.coin_store.proofs.staging.row_len.Goals as goal

pub overflow_add-result : goal.overflow_add-result
overflow_add-result c = omega (arith, key_small c.args.key.now c.is_in_range.ensures, c.key_len.ensures, c.compact_size_len.ensures.most)

pub overflow_add-result-2 : goal.overflow_add-result-2
overflow_add-result-2 c =
    omega (arith, key_small c.args.key.now c.is_in_range.ensures, c.key_len.ensures, c.compact_size_len.ensures.most, value_below (option_copied c.args.coin) c.requires, c.value_len-len.ensures)

pub returns : goal.returns
returns c = λ mask. omega (arith, row_long mask (record { key = c.args.key.now; coin = option_copied c.args.coin }), c.key_len.ensures, c.compact_size_len.ensures.exact, ap (λ (n : ℕ). length (compact n)) c.value_len-len.ensures, c.value_len-len.ensures)
