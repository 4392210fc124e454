use Rattle.std.proofs.Common.{◌≡◌, ℕ, not, ap, ◌∙◌, ltb, leb, arith}
use Rattle.std.proofs.lemmas.Bool.Decides.{nat_tests}
use Rattle.base_types.specs.Parameters.{target}
use Rattle.chain_model.specs.HeaderRules.{number_of}
use Rattle.chain_model.proofs.proof_of_work.meets_target.Goals as goal

turned : (a b : ℕ) → not (ltb a b) ≡ leb b a
turned a b = grind (arith, nat_tests)

pub returns : goal.returns
returns c = ap not c.exceeds_target.ensures ∙ turned target (number_of c.args.hash.now.bytes)
