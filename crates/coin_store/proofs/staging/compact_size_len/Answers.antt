use Rattle.std.proofs.Common.{arith, sym}
use Rattle.coin_store.proofs.StagedBytes.{compact_3, compact_5, compact_9}
use Rattle.coin_store.proofs.staging.compact_size_len.Goals as goal

pub returns-then-n-clause-exact : goal.returns-then-n-clause-exact
returns-then-n-clause-exact c = sym (compact_3 c.args.n (omega arith) (omega arith))

pub returns-then-n-2-clause-exact : goal.returns-then-n-2-clause-exact
returns-then-n-2-clause-exact c = sym (compact_5 c.args.n (omega arith) (omega arith))

pub returns-else-n-2-clause-exact : goal.returns-else-n-2-clause-exact
returns-else-n-2-clause-exact c = sym (compact_9 c.args.n (omega arith))
