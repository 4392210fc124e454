use Rattle.std.proofs.Common.{not, ◌==◌, sym, ap}
use Rattle.block_codec.specs.Reading.{script_at, stack_at}
use Rattle.block_codec.proofs.Skips.{many_len}
use Rattle.block_codec.proofs.checking.skip_stack.Goals as goal

pub returns : goal.returns
unfolding stack_at
returns c =
    let items = c.in_ok-skip_many.ensures in
    let len = many_len script_at c.in_ok-count.count c.compact_len.new.self items.0 c.skip_many.new.cursor items.1 in
    (items.0, ap (λ n. not (n == 0)) (sym len), rw c.in_ok-count.ensures.value items.1)
