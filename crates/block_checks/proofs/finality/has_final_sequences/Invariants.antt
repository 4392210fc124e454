use Rattle.std.proofs.Common.{◌≡◌, drop, ◌==◌}
use Rattle.std.specs.List.{list_all}
use Rattle.block_checks.proofs.finality.has_final_sequences.Given as goal

abbrev pub invariant-loop-input : goal.invariant-loop-input
invariant-loop-input l = list_all (λ input. input.sequence == 4294967295) (drop l.input-index l.inputs) ≡ list_all (λ input. input.sequence == 4294967295) l.inputs
