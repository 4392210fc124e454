use Rattle.std.proofs.Common.{◌≡◌}
use Rattle.std.specs.Slice.Iter.{iter_rest}
use Rattle.std.specs.Iterator.Adapters.{zip_first, zip_second}
use Rattle.chain_model.specs.Apply.{has_lock}
use Rattle.chain_model.proofs.locks.has_lock.Given as goal

abbrev pub invariant-loop-input : goal.invariant-loop-input
invariant-loop-input g l =
    (goal.iterator-loop-input g).can_next l.input-iterator ×
    (goal.iterator-loop-input g).is_finite l.input-iterator ×
    (has_lock (record { tree = g.T.TreeView.tree l.context.tree.now; parent = l.context.parent.now; at = l.context.height }) (iter_rest (zip_first l.input-iterator)) (iter_rest (zip_second l.input-iterator))
    ≡ has_lock (record { tree = g.T.TreeView.tree l.context.tree.now; parent = l.context.parent.now; at = l.context.height }) l.inputs l.spent)
