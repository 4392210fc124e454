use Rattle.std.proofs.Common.{◌≡◌, ◌∙◌, ◌+◌, ◌-◌, arith, sym}
use Rattle.std.specs.FinMap.{len}
use Rattle.chain_model.proofs.Hashes.{same_true}
use Rattle.chainstates.proofs.ReachSteps.{not_genesis, one_less}
use Rattle.chainstates.proofs.WaitSteps.{chain_at_genesis, chain_ended, chain_goes_down, chain_unknown, only_still}
use Rattle.chainstates.proofs.waiting.remove_chain.Goals as goal

pub returns-in_default : goal.returns-in_default
returns-in_default c only =
    let at = c.loop-step in
    let headers = c.args.tree.now.tree.headers in
    let so_far = at.invariant only in
    chain_unknown headers c.args.waiting.now at.waiting c.args.tip.now at.hash (len headers - at._step) (len headers - (at._step + 1))
    (one_less (len headers) at._step c.size-step-end.result c.size-step-end.ensures.count c.loop-step-test.true) so_far.1 so_far.0 (sym c.in_default.ensures)

pub returns-then-eq : goal.returns-then-eq
returns-then-eq c only =
    let at = c.loop-step in
    let headers = c.args.tree.now.tree.headers in
    let so_far = at.invariant only in
    chain_at_genesis headers c.args.waiting.now at.waiting c.args.tip.now at.hash (len headers - at._step) (len headers - (at._step + 1))
    (one_less (len headers) at._step c.size-step-end.result c.size-step-end.ensures.count c.loop-step-test.true) so_far.1 so_far.0 c.in-Some.header.now (sym c.in-Some.ensures) c.remove.new.self c.remove.ensures
    (same_true at.hash c.genesis_hash-genesis.result (sym c.if-eq.ensures) ∙ c.genesis_hash-genesis.ensures)

pub loop-step-preserved : goal.loop-step-preserved
loop-step-preserved c only =
    let at = c.loop-step in
    let headers = c.args.tree.now.tree.headers in
    let so_far = at.invariant only in
    let less = one_less (len headers) at._step c.size-step-end.result c.size-step-end.ensures.count c.loop-step-test.true in (
      only_still headers c.args.waiting.now at.waiting c.args.tip.now at.hash (len headers - at._step) (len headers - (at._step + 1)) less so_far.1 so_far.0 c.in-Some.header.now (sym c.in-Some.ensures) c.remove.new.self c.remove.ensures,
      chain_goes_down headers c.args.waiting.now at.waiting c.args.tip.now at.hash (len headers - at._step) (len headers - (at._step + 1)) less so_far.1 so_far.0 c.in-Some.header.now (sym c.in-Some.ensures) c.remove.new.self c.remove.ensures
          (not_genesis at.hash c.genesis_hash-genesis.result c.genesis_hash-genesis.ensures c.if-eq.ensures),
    )

pub returns : goal.returns
returns c only =
    let at = c.loop-step in
    let headers = c.args.tree.now.tree.headers in
    let so_far = at.invariant only in
    let over = c.loop-step-test.false in
    let count = c.size-step-end.ensures.count in
    let none : len headers - at._step ≡ 0 = omega (arith, over, count) in
    chain_ended headers c.args.waiting.now at.waiting c.args.tip.now at.hash (len headers - at._step) none so_far.1
