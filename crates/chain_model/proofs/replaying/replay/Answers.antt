use Rattle.std.proofs.Common.{◌≡◌, Err, arith}
use Rattle.std.proofs.lemmas.Result.{err_from_is_err_and}
use Rattle.base_types.specs.Coins.{Coins}
use Rattle.block_codec.specs.Text.{hash_of_header}
use Rattle.chain_model.specs.Apply.{outcome, replayed}
use Rattle.chain_model.specs.Laws.{BreaksAt}
use Rattle.chain_model.proofs.Joining.{joins, one_more, replay_breaks, breaks_at, handed_on, only_rule, none_replayed}
use Rattle.chain_model.proofs.replaying.replay.Goals as goal

pub returns-in_err-coins-clause-joined : goal.returns-in_err-coins-clause-joined
returns-in_err-coins-clause-joined g c = joins (g.T.TreeView.tree c.args.tree.now) c.args.start.now c.args.blocks.now

pub loop-block-init : goal.loop-block-init
loop-block-init g c = none_replayed (g.T.TreeView.tree c.args.tree.now) c.args.start.now c.in_ok-coins.coins c.in_ok-coins.ensures

pub loop-block-preserved : goal.loop-block-preserved
loop-block-preserved g c =
    one_more (g.T.TreeView.tree c.args.tree.now) c.args.start.now c.loop-block.coins c.args.blocks.now c.loop-block.block-index c.block-item.result (omega arith) c.block-item.is c.loop-block.invariant c.apply_block.new.coins c.in_ok-apply_block.ensures.ok

pub returns-in_err-apply_block-clause-refused : goal.returns-in_err-apply_block-clause-refused
returns-in_err-apply_block-clause-refused g c =
    let tree = g.T.TreeView.tree c.args.tree.now in
    let p = err_from_is_err_and c.from_residual-in_err-apply_block.result c.from_residual-in_err-apply_block.ensures.1 in
    handed_on Coins (Unit {0}) p.0 c.in_err-apply_block.field-0.0
    (λ hash rule. (outcome tree c.loop-block.coins c.block-item.result ≡ Err rule) × (hash ≡ hash_of_header c.block-item.result.header))
    (λ hash rule. (replayed tree c.args.start.now c.args.blocks.now ≡ Err rule) × BreaksAt tree c.args.start.now c.args.blocks.now hash rule)
    c.from_residual-in_err-apply_block.result
    (λ hash rule breaks. (
      replay_breaks tree c.args.start.now c.loop-block.coins c.args.blocks.now c.loop-block.block-index c.block-item.result (omega arith) c.block-item.is c.loop-block.invariant rule breaks.0,
      breaks_at tree c.args.start.now c.loop-block.coins c.args.blocks.now c.loop-block.block-index c.block-item.result (omega arith) c.block-item.is c.loop-block.invariant hash rule breaks.0 breaks.1,
    ))
    c.in_err-apply_block.ensures.refused p.2 p.1

pub returns-in_err-apply_block-clause-only : goal.returns-in_err-apply_block-clause-only
returns-in_err-apply_block-clause-only g c =
    let tree = g.T.TreeView.tree c.args.tree.now in
    let p = err_from_is_err_and c.from_residual-in_err-apply_block.result c.from_residual-in_err-apply_block.ensures.1 in
    only_rule Coins (replayed tree c.args.start.now c.args.blocks.now) (λ hash rule. BreaksAt tree c.args.start.now c.args.blocks.now hash rule) p.0
    c.from_residual-in_err-apply_block.result p.1 (returns-in_err-apply_block-clause-refused g c)

pub returns-in_err-apply_block-clause-joined : goal.returns-in_err-apply_block-clause-joined
returns-in_err-apply_block-clause-joined g c = joins (g.T.TreeView.tree c.args.tree.now) c.args.start.now c.args.blocks.now

pub returns-clause-joined : goal.returns-clause-joined
returns-clause-joined g c = joins (g.T.TreeView.tree c.args.tree.now) c.args.start.now c.args.blocks.now
