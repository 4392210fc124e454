-- What is left of the chain decides.
use Rattle.std.proofs.Common.{◌-◌}
use Rattle.std.specs.FinMap.{len}
use Rattle.chainstates.proofs.WaitSteps.{AreLeft, OnlyChildren}
use Rattle.chainstates.proofs.waiting.remove_chain.Given as goal

abbrev pub invariant-loop-step : goal.invariant-loop-step
invariant-loop-step l = OnlyChildren l.fn.tree.tree.headers l.fn.waiting
    → OnlyChildren l.fn.tree.tree.headers l.waiting × AreLeft l.fn.tree.tree.headers l.fn.waiting l.waiting (len l.fn.tree.tree.headers) l.fn.tip (len l.fn.tree.tree.headers - l._step) l.hash
