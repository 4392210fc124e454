use Rattle.std.proofs.Common.{◌≡◌, drop}
use Rattle.std.specs.List.{list_any}
use Rattle.block_checks.specs.Unpayable.{is_too_high}
use Rattle.block_checks.proofs.payable.has_high_value.Given as goal

abbrev pub invariant-loop-output : goal.invariant-loop-output
invariant-loop-output l = list_any is_too_high (drop l.output-index l.outputs) ≡ list_any is_too_high l.outputs
