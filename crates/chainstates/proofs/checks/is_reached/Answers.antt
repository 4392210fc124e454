use Rattle.std.proofs.Common.{◌≡◌, ◌∙◌, ◌+◌, ◌-◌, arith, sym}
use Rattle.std.specs.FinMap.{len}
use Rattle.chain_model.proofs.Hashes.{same_true}
use Rattle.chainstates.proofs.ReachSteps.{at_genesis, at_unknown, at_unstored, came_to_end, further_down, not_genesis, one_less, record_there}
use Rattle.chainstates.proofs.checks.is_reached.Goals as goal

pub returns-then-eq : goal.returns-then-eq
returns-then-eq c bodies e =
    let at = c.loop-step in
    at_genesis c.args.tree.now.tree bodies c.args.tip.now at.hash (len c.args.tree.now.tree.headers - at._step) (len c.args.tree.now.tree.headers - (at._step + 1))
    (one_less (len c.args.tree.now.tree.headers) at._step c.size-step-end.result c.size-step-end.ensures.count c.loop-step-test.true) (at.invariant bodies e)
    (same_true at.hash c.genesis_hash-genesis.result (sym c.if-eq.ensures) ∙ c.genesis_hash-genesis.ensures)

pub returns-in_default : goal.returns-in_default
returns-in_default c bodies e =
    let at = c.loop-step in
    at_unknown c.args.tree.now.tree bodies c.args.tip.now at.hash (len c.args.tree.now.tree.headers - at._step) (len c.args.tree.now.tree.headers - (at._step + 1))
    (one_less (len c.args.tree.now.tree.headers) at._step c.size-step-end.result c.size-step-end.ensures.count c.loop-step-test.true) (at.invariant bodies e)
    (not_genesis at.hash c.genesis_hash-genesis.result c.genesis_hash-genesis.ensures c.if-eq.ensures) (sym c.in_default.ensures)

pub returns-then-not-has_body : goal.returns-then-not-has_body
returns-then-not-has_body c bodies e =
    let at = c.loop-step in
    at_unstored c.args.tree.now.tree bodies c.args.tip.now at.hash (len c.args.tree.now.tree.headers - at._step) (len c.args.tree.now.tree.headers - (at._step + 1))
    (one_less (len c.args.tree.now.tree.headers) at._step c.size-step-end.result c.size-step-end.ensures.count c.loop-step-test.true) (at.invariant bodies e)
    (not_genesis at.hash c.genesis_hash-genesis.result c.genesis_hash-genesis.ensures c.if-eq.ensures) c.in-Some.header.now (sym c.in-Some.ensures)
    (record_there bodies c.args.blocks.now.hashes at.hash e ∙ sym c.has_body.ensures.value ∙ c.if-not-has_body.true)

pub loop-step-preserved : goal.loop-step-preserved
loop-step-preserved c bodies e =
    let at = c.loop-step in
    further_down c.args.tree.now.tree bodies c.args.tip.now at.hash (len c.args.tree.now.tree.headers - at._step) (len c.args.tree.now.tree.headers - (at._step + 1))
    (one_less (len c.args.tree.now.tree.headers) at._step c.size-step-end.result c.size-step-end.ensures.count c.loop-step-test.true) (at.invariant bodies e)
    (not_genesis at.hash c.genesis_hash-genesis.result c.genesis_hash-genesis.ensures c.if-eq.ensures) c.in-Some.header.now (sym c.in-Some.ensures)
    (record_there bodies c.args.blocks.now.hashes at.hash e ∙ sym c.has_body.ensures.value ∙ c.if-not-has_body.false)

pub returns : goal.returns
returns c bodies e =
    let at = c.loop-step in
    let over = c.loop-step-test.false in
    let count = c.size-step-end.ensures.count in
    let none : len c.args.tree.now.tree.headers - at._step ≡ 0 = omega (arith, over, count) in
    came_to_end c.args.tree.now.tree bodies c.args.tip.now at.hash (rw none at (at.invariant bodies e))
