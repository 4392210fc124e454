use Rattle.std.proofs.Common.{◌≡◌, drop, map}
use Rattle.chain_model.specs.Rules.{first_some}
use Rattle.chain_model.specs.BodyRules.{tx_broken}
use Rattle.block_checks.proofs.body.check_transactions.Given as goal

abbrev pub invariant-loop-tx : goal.invariant-loop-tx
invariant-loop-tx l = first_some (map tx_broken (drop l.tx-index l.txs)) ≡ first_some (map tx_broken l.txs)
