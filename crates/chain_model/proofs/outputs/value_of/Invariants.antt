use Rattle.std.proofs.Common.{◌≡◌, ◌+◌, ◌-◌, ◌^◌, ◌≤◌, drop}
use Rattle.std.specs.Prelude.{min}
use Rattle.chain_model.specs.Coins.{value_of_outputs}
use Rattle.chain_model.proofs.outputs.value_of.Given as goal

abbrev pub invariant-loop-output : goal.invariant-loop-output
invariant-loop-output l = record {
  so_far : min (l.total + value_of_outputs (drop l.output-index l.outputs)) (2 ^ 64 - 1) ≡ min (value_of_outputs l.outputs) (2 ^ 64 - 1);
  fits : l.total ≤ 2 ^ 64 - 1;
}
