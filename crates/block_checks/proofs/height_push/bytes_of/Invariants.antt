use Rattle.std.proofs.Common.{◌≡◌, ◌++◌}
use Rattle.chain_model.specs.BodyRules.{least_bytes}
use Rattle.block_checks.proofs.height_push.bytes_of.Given as goal

abbrev pub invariant-loop-most : goal.invariant-loop-most
invariant-loop-most l = l.bytes.items ++ least_bytes l.most l.rest ≡ least_bytes 8 l.fn.number

abbrev pub decreases-loop-most : goal.decreases-loop-most
decreases-loop-most l = l.most
