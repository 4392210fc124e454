-- What is left of the way decides.
use Rattle.std.proofs.Common.{◌≡◌, ◌-◌, List, map}
use Rattle.std.specs.FinMap.{len}
use Rattle.chain_model.specs.Tree.{chain_within}
use Rattle.chainstates.specs.Reading.{hash_of_body}
use Rattle.chainstates.proofs.ReachSteps.{reached_along}
use Rattle.store_state.specs.State.{StoredBody}
use Rattle.chainstates.proofs.checks.is_reached.Given as goal

abbrev pub invariant-loop-step : goal.invariant-loop-step
invariant-loop-step l = (bodies : List StoredBody) → map hash_of_body bodies ≡ l.fn.blocks.hashes
    → reached_along bodies (chain_within (len l.fn.tree.tree.headers) l.fn.tree.tree.headers l.fn.tip) ≡ reached_along bodies (chain_within (len l.fn.tree.tree.headers - l._step) l.fn.tree.tree.headers l.hash)
