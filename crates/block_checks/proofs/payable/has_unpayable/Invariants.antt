use Rattle.std.proofs.Common.{◌≡◌, drop}
use Rattle.std.specs.List.{list_any}
use Rattle.block_checks.specs.Unpayable.{is_unpayable}
use Rattle.block_checks.proofs.payable.has_unpayable.Given as goal

abbrev pub invariant-loop-tx : goal.invariant-loop-tx
invariant-loop-tx l = list_any is_unpayable (drop l.tx-index l.txs) ≡ list_any is_unpayable l.txs
