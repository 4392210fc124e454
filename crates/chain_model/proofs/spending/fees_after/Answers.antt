use Rattle.std.proofs.Common.{◌≡◌, ◌-◌, ◌^◌, List, ap, sym, ◌∙◌}
use Rattle.std.specs.Prelude.{min}
use Rattle.std.proofs.lemmas.Result.{err_from_is_err_and}
use Rattle.base_types.specs.declared.coin.TxOut.{TxOut}
use Rattle.chain_model.specs.Coins.{value_of_outputs}
use Rattle.chain_model.proofs.SpentCoins.{coins_refused, sums_refused, lock_refused, spending_fine}
use Rattle.chain_model.proofs.spending.fees_after.Goals as goal

pub returns-in_err-paid_in-clause-result : goal.returns-in_err-paid_in-clause-result
returns-in_err-paid_in-clause-result g c =
    let p = err_from_is_err_and c.from_residual.result c.from_residual.ensures.1 in
    let refused = coins_refused (record { tree = g.T.TreeView.tree c.args.context.now.tree.now; parent = c.args.context.now.parent.now; at = c.args.context.now.height }) c.args.fees c.args.tx.now c.args.spent.now c.in_err-paid_in.field-0.0 c.in_err-paid_in.ensures.err in
    cc (p.1, p.2, refused)

pub returns-in_err-after-clause-result : goal.returns-in_err-after-clause-result
returns-in_err-after-clause-result g c =
    let p = err_from_is_err_and c.from_residual-in_err-after.result c.from_residual-in_err-after.ensures.1 in
    let outs : c.value_of.result ≡ min (value_of_outputs c.args.tx.now.outputs) (2 ^ 64 - 1) = c.value_of.ensures ∙ ap (λ (outputs : List TxOut). min (value_of_outputs outputs) (2 ^ 64 - 1)) c.as_slice.ensures in
    let refused = sums_refused (record { tree = g.T.TreeView.tree c.args.context.now.tree.now; parent = c.args.context.now.parent.now; at = c.args.context.now.height }) c.args.fees c.args.tx.now c.args.spent.now c.in_ok-paid_in.ensures.ok
    c.in_ok-paid_in.paid_in c.value_of.result c.in_ok-paid_in.ensures.total outs c.in_ok-paid_in.ensures.in_range c.in_err-after.field-0.0 c.in_err-after.ensures.result in
    cc (p.1, p.2, refused)

pub returns-then-is_locked-clause-result : goal.returns-then-is_locked-clause-result
returns-then-is_locked-clause-result g c =
    let outs : c.value_of.result ≡ min (value_of_outputs c.args.tx.now.outputs) (2 ^ 64 - 1) = c.value_of.ensures ∙ ap (λ (outputs : List TxOut). min (value_of_outputs outputs) (2 ^ 64 - 1)) c.as_slice.ensures in
    lock_refused (record { tree = g.T.TreeView.tree c.args.context.now.tree.now; parent = c.args.context.now.parent.now; at = c.args.context.now.height }) c.args.fees c.args.tx.now c.args.spent.now c.in_ok-paid_in.ensures.ok
    c.in_ok-paid_in.paid_in c.value_of.result c.in_ok-paid_in.ensures.total outs c.in_ok-paid_in.ensures.in_range c.in_ok-after.after c.in_ok-after.ensures.result (sym c.is_locked.ensures ∙ c.if-is_locked.true)

pub returns-clause-result : goal.returns-clause-result
returns-clause-result g c =
    let outs : c.value_of.result ≡ min (value_of_outputs c.args.tx.now.outputs) (2 ^ 64 - 1) = c.value_of.ensures ∙ ap (λ (outputs : List TxOut). min (value_of_outputs outputs) (2 ^ 64 - 1)) c.as_slice.ensures in
    spending_fine (record { tree = g.T.TreeView.tree c.args.context.now.tree.now; parent = c.args.context.now.parent.now; at = c.args.context.now.height }) c.args.fees c.args.tx.now c.args.spent.now c.in_ok-paid_in.ensures.ok
    c.in_ok-paid_in.paid_in c.value_of.result c.in_ok-paid_in.ensures.total outs c.in_ok-paid_in.ensures.in_range c.in_ok-after.after c.in_ok-after.ensures.result (sym c.is_locked.ensures ∙ c.if-is_locked.false)
