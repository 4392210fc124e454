use Rattle.std.proofs.Common.{◌≡◌, drop}
use Rattle.std.specs.List.{list_any}
use Rattle.block_codec.specs.Text.{has_witness}
use Rattle.block_checks.proofs.witness.has_some_witness.Given as goal

abbrev pub invariant-loop-tx : goal.invariant-loop-tx
invariant-loop-tx l = list_any has_witness (drop l.tx-index l.txs) ≡ list_any has_witness l.txs
