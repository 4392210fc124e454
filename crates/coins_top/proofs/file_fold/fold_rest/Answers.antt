use Rattle.std.proofs.Common.{ℕ, ap, sym, subst, ◌∙◌}
use Rattle.std.proofs.lemmas.Result.{err_from_is_err_and}
use Rattle.chain_model.specs.Folding.{with_block}
use Rattle.coins_top.specs.Folds.{EndsFold}
use Rattle.coins_top.proofs.FoldingFiles.{Going-more, rest_done, rest_refused}
use Rattle.coins_top.proofs.file_fold.fold_rest.Goals as goal

pub returns-in_err-add-clause-told : goal.returns-in_err-add-clause-told
returns-in_err-add-clause-told g c =
    let first = c.args.folding.now in
    let at = c.loop-block in
    let p = err_from_is_err_and c.from_residual-in_err-add.result c.from_residual-in_err-add.ensures.1 in
    let found = rw c.in-Some.is at c.in_ok-block.ensures.told in
    let ends : EndsFold (with_block first.limit at.folding.folded c.in-Some.block) c.in_err-add.field-0.0 = subst (λ (n : ℕ). EndsFold (with_block n at.folding.folded c.in-Some.block) c.in_err-add.field-0.0) at.invariant.limit c.in_err-add.ensures.ends in
    rw (p.1, p.2) (rest_refused (Unit {0}) (g.H.Host.held c.args.host.now) (g.H.Host.held at.host) (g.H.Host.held c.next_block.new.host) first.limit first.folded at.folding.folded c.add.new.self.folded c.args.frames.now at.frames c.next_block.new.frames c.in-Some.block
    (g.H.Host.faults c.args.host.now) (g.H.Host.faults at.host) (g.H.Host.faults c.next_block.new.host) c.in_err-add.field-0.0 ends at.invariant.going found)

pub loop-block-preserved : goal.loop-block-preserved
loop-block-preserved g c =
    let first = c.args.folding.now in
    let at = c.loop-block in
    let found = rw c.in-Some.is at c.in_ok-block.ensures.told in
    let added = sym (ap (λ (n : ℕ). with_block n at.folding.folded c.in-Some.block) at.invariant.limit) ∙ c.in_ok-add.ensures.ok in
    record {
      going = Going-more (g.H.Host.held c.args.host.now) (g.H.Host.held at.host) (g.H.Host.held c.next_block.new.host) first.limit first.folded at.folding.folded c.add.new.self.folded c.args.frames.now at.frames c.next_block.new.frames c.in-Some.block
          (g.H.Host.faults at.host) (g.H.Host.faults c.next_block.new.host) added at.invariant.going found;
      limit = c.in_ok-add.ensures.limit ∙ at.invariant.limit;
      steady = c.in_ok-block.ensures.steady (λ is. cc) ∙ at.invariant.steady;
    }

pub returns-clause-told : goal.returns-clause-told
returns-clause-told g c =
    let first = c.args.folding.now in
    let at = c.loop-block in
    let none = rw c.in_default.is at c.in_ok-block.ensures.told in
    rest_done (Unit {0}) (g.H.Host.held c.args.host.now) (g.H.Host.held at.host) (g.H.Host.held c.next_block.new.host) first.limit first.folded at.folding.folded c.args.frames.now at.frames c.next_block.new.frames
    (g.H.Host.faults c.args.host.now) (g.H.Host.faults at.host) (g.H.Host.faults c.next_block.new.host) tt at.invariant.going none
