-- The rounds that are left lead to the closure.
use Rattle.std.proofs.Common.{◌≡◌, ◌-◌, length}
use Rattle.chain_model.specs.HeaderRules.{closure, rounds}
use Rattle.chainstates.specs.Closing.{closed_of}
use Rattle.chainstates.proofs.closing.close.Given as goal

abbrev pub invariant-loop-round : goal.invariant-loop-round
invariant-loop-round l = (l.tree.limit ≡ l.fn.tree.limit) × (rounds l.fn.tree.limit (length l.headers - l._round) l.headers (closed_of l.tree l.closing) ≡ closure l.fn.tree.limit l.fn.tree.tree l.headers)
