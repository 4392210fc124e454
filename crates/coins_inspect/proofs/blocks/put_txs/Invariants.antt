use Rattle.std.proofs.Common.{◌≡◌, ◌++◌, take}
use Rattle.std.specs.List.{flat_map}
use Rattle.coins_inspect.specs.Reports.{tx_line}
use Rattle.coins_inspect.proofs.blocks.put_txs.Given as goal

abbrev pub invariant-loop-tx : goal.invariant-loop-tx
invariant-loop-tx l = l.out.items ≡ l.fn.out.items ++ flat_map tx_line (take l.tx-index l.txs)
