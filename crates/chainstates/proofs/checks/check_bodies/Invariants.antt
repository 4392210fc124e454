-- The hashes so far are in the tree.
use Rattle.std.proofs.Common.{◌≡◌, true, take}
use Rattle.std.specs.List.{list_all}
use Rattle.store_state.specs.State.{is_in}
use Rattle.chainstates.proofs.checks.check_bodies.Given as goal

abbrev pub invariant-loop-number : goal.invariant-loop-number
invariant-loop-number l = list_all (is_in l.fn.tree.tree) (take l.number l.fn.blocks.hashes) ≡ true
