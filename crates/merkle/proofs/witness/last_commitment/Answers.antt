use Rattle.std.proofs.Common.{length, drop, reverse, sym, ap, ◌∙◌}
use Rattle.std.specs.Prelude.{None}
use Rattle.std.proofs.lemmas.List.{length_push}
use Rattle.std.proofs.lemmas.Iterator.Adapters.{YieldsList-from_rev_slice}
use Rattle.std.proofs.lemmas.Iterator.Consumers.{YieldsList-turn}
use Rattle.merkle.proofs.Commitments.{Next, first_commitment, first_commitment-found, first_commitment-passed, first_is_last}
use Rattle.merkle.proofs.witness.last_commitment.Goals as goal

pub loop-output-init : goal.loop-output-init
loop-output-init c = first_is_last None c.args.outputs.now

pub returns-in-Some-committed_hash : goal.returns-in-Some-committed_hash
returns-in-Some-committed_hash c =
    let next : Next (reverse c.args.outputs.now) (length c.loop-output.yielded) c.in-Some.output.now =
    YieldsList-turn (YieldsList-from_rev_slice c.args.outputs.now cc) c.loop-output.yielded _ c.loop-output.yielded_by _ _ c.in-Some.output c.in-Some.is c.next.ensures.steps in
    sym (first_commitment-found (reverse c.args.outputs.now) (length c.loop-output.yielded) c.in-Some.output.now c.as_slice.result.now c.in-Some-committed_hash.hash next c.as_slice.ensures c.in-Some-committed_hash.ensures) ∙
    c.loop-output.invariant

pub loop-output-preserved : goal.loop-output-preserved
loop-output-preserved c =
    let next : Next (reverse c.args.outputs.now) (length c.loop-output.yielded) c.in-Some.output.now =
    YieldsList-turn (YieldsList-from_rev_slice c.args.outputs.now cc) c.loop-output.yielded _ c.loop-output.yielded_by _ _ c.in-Some.output c.in-Some.is c.next.ensures.steps in
    ap (λ n. first_commitment None (drop n (reverse c.args.outputs.now))) (length_push c.loop-output.yielded c.in-Some.output) ∙
    first_commitment-passed (reverse c.args.outputs.now) (length c.loop-output.yielded) c.in-Some.output.now c.as_slice.result.now next c.as_slice.ensures c.in_default.ensures ∙
    c.loop-output.invariant
