-- The headers so far were taken.
use Rattle.std.proofs.Common.{◌≡◌, Some, take}
use Rattle.chain_model.specs.HeaderRules.{tree_with}
use Rattle.chainstates.proofs.tree_reading.add_record.Given as goal

abbrev pub invariant-loop-header : goal.invariant-loop-header
invariant-loop-header l = (l.tree.limit ≡ l.fn.tree.limit) × (tree_with l.fn.tree.limit l.fn.tree.tree (take l.header-index l.fn.stored.headers) ≡ Some l.tree.tree)
