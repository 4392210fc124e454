use Rattle.std.proofs.Common.{◌≡◌, drop}
use Rattle.std.specs.List.{list_any}
use Rattle.block_codec.specs.Text.{names_nothing}
use Rattle.block_checks.proofs.inputs.has_null_outpoint.Given as goal

abbrev pub invariant-loop-input : goal.invariant-loop-input
invariant-loop-input l = list_any names_nothing (drop l.input-index l.inputs) ≡ list_any names_nothing l.inputs
