use Rattle.std.proofs.Common.{◌≡◌, drop, ◌||◌, nat_lt, length}
use Rattle.std.specs.List.{list_any}
use Rattle.block_checks.proofs.transaction.has_bad_script.Given as goal

abbrev pub invariant-loop-input : goal.invariant-loop-input
invariant-loop-input l = list_any (λ input. nat_lt (length input.script) 2 || nat_lt 100 (length input.script)) (drop l.input-index l.inputs) ≡ list_any (λ input. nat_lt (length input.script) 2 || nat_lt 100 (length input.script)) l.inputs
