use Rattle.std.proofs.Common.{rules}
use Rattle.std.specs.FinMap.{gets}
use Rattle.slot_pool.proofs.tests.keeps_values_in_slots.Goals as goal

pub get-requires : goal.get-requires
get-requires g c = grind (gets, rules)

pub get-requires-2 : goal.get-requires-2
get-requires-2 g c = grind (gets, rules)

pub take-requires : goal.take-requires
take-requires g c = grind (gets, rules)
