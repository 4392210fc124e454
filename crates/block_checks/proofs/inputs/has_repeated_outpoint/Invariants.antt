use Rattle.std.proofs.Common.{◌≡◌, drop}
use Rattle.chain_model.specs.BodyRules.{has_twin_inputs}
use Rattle.block_checks.proofs.Twins.{has_clash}
use Rattle.block_checks.proofs.inputs.has_repeated_outpoint.Given as goal

abbrev pub invariant-loop-input : goal.invariant-loop-input
invariant-loop-input l = has_clash l.before (drop l.input-index l.inputs) ≡ has_twin_inputs l.inputs
