use Rattle.std.proofs.Common.{◌≡◌, length, drop}
use Rattle.std.specs.Prelude.{nat_lt}
use Rattle.chain_model.specs.HeaderRules.{number_of}
use Rattle.base_types.specs.Parameters.{target}
use Rattle.chain_model.proofs.Targets.{decided, target_bytes}
use Rattle.chain_model.proofs.proof_of_work.exceeds_target.Given as goal

abbrev pub invariant-loop-i : goal.invariant-loop-i
invariant-loop-i l = record {
  sized : length l.hash.bytes ≡ 32;
  so_far : decided l.exceeds (number_of (drop l.i l.hash.bytes)) (number_of (drop l.i target_bytes)) ≡ nat_lt target (number_of l.hash.bytes);
}
