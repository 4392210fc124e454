use Rattle.std.proofs.Common.{◌≡◌, drop}
use Rattle.std.specs.List.{list_any}
use Rattle.block_codec.specs.Text.{is_coinbase}
use Rattle.block_checks.proofs.structure.has_coinbase.Given as goal

abbrev pub invariant-loop-tx : goal.invariant-loop-tx
invariant-loop-tx l = list_any is_coinbase (drop l.tx-index l.txs) ≡ list_any is_coinbase l.txs
