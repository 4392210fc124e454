use Rattle.std.proofs.Common.{◌∙◌, ap, arith, length}
use Rattle.chain_model.specs.HeaderRules.{closure, round}
use Rattle.chainstates.specs.Closing.{closed_of}
use Rattle.chainstates.proofs.Closings.{last_round, next_round, no_round}
use Rattle.chainstates.proofs.closing.close.Goals as goal

pub returns-then-as_slice-before-clause-ok : goal.returns-then-as_slice-before-clause-ok
returns-then-as_slice-before-clause-ok c =
    let at = c.loop-round in
    let limit = c.args.tree.now.limit in
    let ok = c.in_default.ensures.ok in
    let before = ap length c.as_slice-before.ensures in
    let after = ap length c.as_slice.ensures in
    let same = c.if-as_slice-before.true in
    last_round limit c.args.headers.now at._round (closed_of at.tree at.closing) (closed_of c.close_round.new.tree c.close_round.new.closing) (closure limit c.args.tree.now.tree c.args.headers.now) c.loop-round-test.true
    (ok ∙ ap (λ n. round n c.args.headers.now (closed_of at.tree at.closing)) at.invariant.0) at.invariant.1 (omega (arith, before, after, same))

pub loop-round-preserved : goal.loop-round-preserved
loop-round-preserved c =
    let at = c.loop-round in
    let limit = c.args.tree.now.limit in
    let ok = c.in_default.ensures.ok in (
      c.close_round.ensures.limit ∙ at.invariant.0,
      next_round limit c.args.headers.now at._round (closed_of at.tree at.closing) (closed_of c.close_round.new.tree c.close_round.new.closing) (closure limit c.args.tree.now.tree c.args.headers.now) c.loop-round-test.true
          (ok ∙ ap (λ n. round n c.args.headers.now (closed_of at.tree at.closing)) at.invariant.0) at.invariant.1,
    )

pub returns-clause-ok : goal.returns-clause-ok
returns-clause-ok c =
    let at = c.loop-round in
    let limit = c.args.tree.now.limit in
    no_round limit c.args.headers.now at._round (closed_of at.tree at.closing) (closure limit c.args.tree.now.tree c.args.headers.now) c.loop-round-test.false at.invariant.1
