use Rattle.std.proofs.Common.{arith}
use Rattle.snapshot_file.proofs.ItemFaults.{index_small}
use Rattle.snapshot_file.proofs.items.index_of.Goals as goal

pub overflow_cast-result : goal.overflow_cast-result
overflow_cast-result c = omega (arith, index_small c.args.cursor.now c.compact_len.new.self c.in-Ok.index c.compact_len.ensures.spelled c.in-Ok.ensures.value)
