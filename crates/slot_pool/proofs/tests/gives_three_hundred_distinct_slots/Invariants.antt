use Rattle.std.proofs.Common.{◌+◌, ◌≤◌}
use Rattle.slot_pool.proofs.tests.gives_three_hundred_distinct_slots.Given as goal

abbrev pub invariant-loop-value : goal.invariant-loop-value
invariant-loop-value g l = 300 ≤ l.pool.spare + l.value
