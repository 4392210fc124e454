use Rattle.std.proofs.Common.{sym, ◌∙◌, arith}
use Rattle.chain_model.proofs.Targets.{step_at}
use Rattle.chain_model.proofs.proof_of_work.exceeds_target.Goals as goal

pub loop-i-preserved : goal.loop-i-preserved
loop-i-preserved c = record {
  sized = c.loop-i.invariant.sized;
  so_far = sym (step_at c.loop-i.exceeds c.exceeds_here-exceeds.result c.args.hash.now.bytes c.loop-i.i (omega arith) c.loop-i.invariant.sized c.exceeds_here-exceeds.ensures.small c.exceeds_here-exceeds.ensures.same c.exceeds_here-exceeds.ensures.more c.exceeds_here-exceeds.ensures.less)
      ∙ c.loop-i.invariant.so_far;
}
