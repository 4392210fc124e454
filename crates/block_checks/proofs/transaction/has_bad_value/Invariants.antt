use Rattle.std.proofs.Common.{◌≡◌, ◌≤◌, drop, pos}
use Rattle.chain_model.specs.BodyRules.{has_bad_value}
use Rattle.block_checks.proofs.transaction.has_bad_value.Given as goal

abbrev pub invariant-loop-output : goal.invariant-loop-output
invariant-loop-output l = record {
  so_far : has_bad_value (pos l.total) (drop l.output-index l.outputs) ≡ has_bad_value (pos 0) l.outputs;
  total : l.total ≤ 2100000000000000;
}
