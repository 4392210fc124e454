-- The batches so far are at their tips.
use Rattle.std.proofs.Common.{◌≡◌, true, List, take}
use Rattle.std.specs.List.{list_all}
use Rattle.coin_store.specs.Batches.{Batch, Row}
use Rattle.coin_store.specs.Store.{Knows}
use Rattle.store_state.specs.State.{is_at}
use Rattle.chainstates.proofs.checks.check_markers.Given as goal

abbrev pub invariant-loop-number : goal.invariant-loop-number
invariant-loop-number l = (base : List (List Row)) (batches : List Batch) → Knows l.fn.coins base batches → list_all (λ batch. is_at batch.marker) (take l.number batches) ≡ true
