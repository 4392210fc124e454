use Rattle.std.proofs.Common.{◌+◌}
use Rattle.std.specs.FinMap as map
use Rattle.slot_pool.proofs.Clears.{Emptying}
use Rattle.slot_pool.proofs.pool.Pool.clear.Given as goal

abbrev pub invariant-loop-place : goal.invariant-loop-place
invariant-loop-place g l = Emptying l.place (map.len l.initial.self.values + l.initial.self.spare) l.self
