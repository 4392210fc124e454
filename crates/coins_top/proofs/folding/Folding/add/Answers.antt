use Rattle.std.proofs.Common.{not, sym, ap, subst, ◌∙◌}
use Rattle.std.proofs.lemmas.Result.{err_from_is_err_and}
use Rattle.block_codec.specs.declared.block.Block.{Block}
use Rattle.block_codec.specs.Text.{hash_of_header, same_hash}
use Rattle.chain_model.specs.Folding.{NotNext, with_block}
use Rattle.coins_top.specs.FoldState.{FoldState, fold_state}
use Rattle.coins_top.specs.Folds.{EndsFold}
use Rattle.coins_top.proofs.Adding.{is_not_next, header_exit, body_exit, coins_exit, parent_known, kept_known, new_known, new_there, grown_order, same_hash-is, not_is, not_not}
use Rattle.command_text.specs.declared.reply.Reply.TheVariants as says
use Rattle.coins_top.proofs.folding.Folding.add.Goals as goal

pub returns-then-ne-clause-ends : goal.returns-then-ne-clause-ends
returns-then-ne-clause-ends c =
    let f = c.self.inside in
    let block = c.args.block.now in
    let apart = not_is c.ne.result (same_hash block.header.prev f.tip) (c.ne.ensures ∙ ap (λ (b : Block). not (same_hash b.header.prev f.tip)) c.block.ensures) c.if-ne.true in (
      NotNext (hash_of_header block.header),
      sym (ap (λ (s : FoldState). with_block s.limit s.folded block) c.self.view_is) ∙ is_not_next f.tree.limit (fold_state f.tree f.coins f.tip f.passed).folded block apart,
      ap says.NotNext c.hash-hash.ensures,
    )

pub returns-in_err-hash-clause-ends : goal.returns-in_err-hash-clause-ends
returns-in_err-hash-clause-ends c =
    let f = c.self.inside in
    let block = c.args.block.now in
    let same = not_not c.ne.result (same_hash block.header.prev f.tip) (c.ne.ensures ∙ ap (λ (b : Block). not (same_hash b.header.prev f.tip)) c.block.ensures) c.if-ne.false in
    let p = err_from_is_err_and c.from_residual.result c.from_residual.ensures.1 in
    let ends = subst (λ (s : FoldState). EndsFold (with_block s.limit s.folded block) c.in_err-hash.field-0.0) c.self.view_is (header_exit f.tree c.accept.new.tree f.coins f.tip f.passed block c.in_err-hash.field-0.0 same c.in_err-hash.ensures) in
    rw (p.1, p.2) ends

pub check-requires : goal.check-requires
check-requires c =
    let f = c.self.inside in
    let block = c.args.block.now in
    let same = not_not c.ne.result (same_hash block.header.prev f.tip) (c.ne.ensures ∙ ap (λ (b : Block). not (same_hash b.header.prev f.tip)) c.block.ensures) c.if-ne.false in
    parent_known f.tree c.accept.new.tree block c.in_ok-hash.hash f.tip (same_hash-is block.header.prev f.tip same) c.self.invariant.1 c.in_ok-hash.ensures

pub invariant_of-self-in_err-check : goal.invariant_of-self-in_err-check
invariant_of-self-in_err-check c =
    let f = c.self.inside in (
      grown_order f.tree c.accept.new.tree c.args.block.now c.in_ok-hash.hash c.in_ok-hash.ensures,
      kept_known f.tree c.accept.new.tree c.args.block.now c.in_ok-hash.hash f.tip c.self.invariant.1 c.in_ok-hash.ensures,
      c.self.invariant.2,
    )

pub returns-in_err-check-clause-ends : goal.returns-in_err-check-clause-ends
returns-in_err-check-clause-ends c =
    let f = c.self.inside in
    let block = c.args.block.now in
    let same = not_not c.ne.result (same_hash block.header.prev f.tip) (c.ne.ensures ∙ ap (λ (b : Block). not (same_hash b.header.prev f.tip)) c.block.ensures) c.if-ne.false in
    let p = err_from_is_err_and c.from_residual-in_err-check.result c.from_residual-in_err-check.ensures.1 in
    let ends = subst (λ (s : FoldState). EndsFold (with_block s.limit s.folded block) c.in_err-check.field-0.0) c.self.view_is (body_exit f.tree c.accept.new.tree f.coins f.tip f.passed block c.in_ok-hash.hash c.in_err-check.field-0.0 same c.in_ok-hash.ensures c.in_err-check.ensures) in
    rw (p.1, p.2) ends

pub apply-requires : goal.apply-requires
apply-requires c = record { known = new_known c.self.inside.tree c.accept.new.tree c.args.block.now c.in_ok-hash.hash c.in_ok-hash.ensures; sound = c.in_ok-check.ensures }

pub invariant_of-self-in_err-apply : goal.invariant_of-self-in_err-apply
invariant_of-self-in_err-apply c =
    let f = c.self.inside in (
      grown_order f.tree c.accept.new.tree c.args.block.now c.in_ok-hash.hash c.in_ok-hash.ensures,
      kept_known f.tree c.accept.new.tree c.args.block.now c.in_ok-hash.hash f.tip c.self.invariant.1 c.in_ok-hash.ensures,
      c.self.invariant.2,
    )

pub returns-in_err-apply-clause-ends : goal.returns-in_err-apply-clause-ends
returns-in_err-apply-clause-ends c =
    let f = c.self.inside in
    let block = c.args.block.now in
    let same = not_not c.ne.result (same_hash block.header.prev f.tip) (c.ne.ensures ∙ ap (λ (b : Block). not (same_hash b.header.prev f.tip)) c.block.ensures) c.if-ne.false in
    let p = err_from_is_err_and c.from_residual-in_err-apply.result c.from_residual-in_err-apply.ensures.1 in
    let ends = subst (λ (s : FoldState). EndsFold (with_block s.limit s.folded block) c.in_err-apply.field-0.0) c.self.view_is (coins_exit f.tree c.accept.new.tree f.coins c.apply.new.coins f.tip f.passed block c.in_ok-hash.hash c.in_err-apply.field-0.0 same c.in_ok-hash.ensures c.in_ok-check.ensures c.in_err-apply.ensures) in
    rw (p.1, p.2) ends

pub invariant_of-self-2 : goal.invariant_of-self-2
invariant_of-self-2 c =
    let f = c.self.inside in (
      grown_order f.tree c.accept.new.tree c.args.block.now c.in_ok-hash.hash c.in_ok-hash.ensures,
      new_there f.tree c.accept.new.tree c.args.block.now c.in_ok-hash.hash c.in_ok-hash.ensures,
      c.self.invariant.2,
    )
