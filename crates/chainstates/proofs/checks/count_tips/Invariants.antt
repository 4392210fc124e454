-- The tips so far are in the tree.
use Rattle.std.proofs.Common.{◌≡◌, ◌≤◌, true, List, length, take}
use Rattle.std.specs.List.{list_all}
use Rattle.chainstates.specs.Reading.{AllAt, known_tips}
use Rattle.coin_store.specs.Batches.{Batch, Row}
use Rattle.coin_store.specs.Store.{Knows}
use Rattle.chainstates.proofs.checks.count_tips.Given as goal

abbrev pub invariant-loop-number : goal.invariant-loop-number
invariant-loop-number l = (base : List (List Row)) (batches : List Batch) → Knows l.fn.coins base batches → AllAt batches → (list_all (known_tips l.fn.tree.tree) (take l.number batches) ≡ true) × (l.number ≤ length batches)
