use Rattle.std.proofs.Common.{map, arith}
use Rattle.std.proofs.lemmas.Result.{err_from_is_err_and}
use Rattle.chain_model.specs.Rules.{first_some}
use Rattle.chain_model.specs.BodyRules.{tx_broken}
use Rattle.block_checks.proofs.Order.{tx_refused, tx_passed, txs_passed, handed_on}
use Rattle.block_checks.proofs.body.check_transactions.Goals as goal

pub returns-in_err-check_transaction : goal.returns-in_err-check_transaction
returns-in_err-check_transaction c =
    let p = err_from_is_err_and c.from_residual.result c.from_residual.ensures.1 in
    handed_on (first_some (map tx_broken c.args.txs.now)) c.in_err-check_transaction.field-0.0 c.from_residual.result (cc (p.1, p.2))
    (tx_refused c.args.txs.now c.loop-tx.tx-index c.tx-item.result c.in_err-check_transaction.field-0.0 (omega arith) c.tx-item.is c.loop-tx.invariant c.in_err-check_transaction.ensures)

pub loop-tx-preserved : goal.loop-tx-preserved
loop-tx-preserved c = tx_passed c.args.txs.now c.loop-tx.tx-index c.tx-item.result (omega arith) c.tx-item.is c.loop-tx.invariant c.in_ok-check_transaction.ensures

pub returns : goal.returns
returns c = txs_passed c.args.txs.now c.loop-tx.tx-index (omega arith) c.loop-tx.invariant
