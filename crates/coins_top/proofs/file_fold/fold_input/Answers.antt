use Rattle.std.proofs.Common.{◌≡◌, ℕ, Ok, Err, ap, sym, subst, ◌∙◌}
use Rattle.std.proofs.lemmas.Result.{err_from_is_err_and}
use Rattle.chain_model.specs.Folding.{Folded, nothing_folded}
use Rattle.command_text.specs.declared.reply.Reply.{Reply}
use Rattle.frame_scan.specs.Scan.{bytes_taken}
use Rattle.io_traits.specs.Told.{OnTold}
use Rattle.coins_top.specs.Folds.{EndsFold, with_first}
use Rattle.coins_top.specs.FileFolds.{FoldsRest, FoldsInput}
use Rattle.coins_top.proofs.FoldingFiles.{IsStart, input_refused, input_ended, input_folded}
use Rattle.coins_top.proofs.file_fold.fold_input.Goals as goal

pub returns-in_err-add_first-clause-told : goal.returns-in_err-add_first-clause-told
returns-in_err-add_first-clause-told g c =
    let scan = c.in_ok-frames.frames in
    let f = c.in_ok-folding.folding in
    let block = c.in-Some.block in
    let start : IsStart scan = record { frames = c.in_ok-frames.ensures.whole; bytes_taken = ap bytes_taken c.in_ok-frames.ensures.start } in
    let p = err_from_is_err_and c.from_residual-in_err-add_first.result c.from_residual-in_err-add_first.ensures.1 in
    let found = rw c.in-Some.is at c.in_ok-block.ensures.told in
    let ending = c.in_err-add_first.field-0.0 in
    let ends : EndsFold (with_first c.args.limits.now.headers (nothing_folded c.args.rules.now) block) ending =
    subst (λ (folded : Folded). EndsFold (with_first c.args.limits.now.headers folded block) ending) c.in_ok-folding.ensures.first
    (subst (λ (n : ℕ). EndsFold (with_first n f.folded block) ending) c.in_ok-folding.ensures.limit c.in_err-add_first.ensures.ends) in
    rw (p.1, p.2) (input_refused (g.H.Host.held c.args.host.now) (g.H.Host.held c.next_block.new.host) c.args.limits.now.headers c.args.rules.now scan c.next_block.new.frames block
    (g.H.Host.faults c.args.host.now) (g.H.Host.faults c.next_block.new.host) ending start ends found)

pub returns-in_err-fold_rest-clause-told : goal.returns-in_err-fold_rest-clause-told
returns-in_err-fold_rest-clause-told g c =
    let scan = c.in_ok-frames.frames in
    let f = c.in_ok-folding.folding in
    let next = c.add_first.new.self in
    let block = c.in-Some.block in
    let a = g.H.Host.held c.args.host.now in
    let b = g.H.Host.held c.next_block.new.host in
    let d = g.H.Host.held c.fold_rest.new.host in
    let start : IsStart scan = record { frames = c.in_ok-frames.ensures.whole; bytes_taken = ap bytes_taken c.in_ok-frames.ensures.start } in
    let p = err_from_is_err_and c.from_residual-in_err-fold_rest.result c.from_residual-in_err-fold_rest.ensures.1 in
    let found = rw c.in-Some.is at c.in_ok-block.ensures.told in
    let ending = c.in_err-fold_rest.field-0.0 in
    let added : with_first c.args.limits.now.headers (nothing_folded c.args.rules.now) block ≡ Ok next.folded =
    sym (ap (λ (folded : Folded). with_first c.args.limits.now.headers folded block) c.in_ok-folding.ensures.first)
    ∙ sym (ap (λ (n : ℕ). with_first n f.folded block) c.in_ok-folding.ensures.limit) ∙ c.in_ok-add_first.ensures.ok in
    let rest = subst (λ (n : ℕ). OnTold b d (FoldsRest {A = Unit {0}} n next.folded c.fold_rest.new.folding.folded c.next_block.new.frames (g.H.Host.faults c.next_block.new.host) (g.H.Host.faults c.fold_rest.new.host) (Err ending)))
    (c.in_ok-add_first.ensures.limit ∙ c.in_ok-folding.ensures.limit) c.in_err-fold_rest.ensures.told in
    rw (p.1, p.2) (input_ended (Unit {0}) a b d c.args.limits.now.headers c.args.rules.now scan c.next_block.new.frames block next.folded c.fold_rest.new.folding.folded
    (g.H.Host.faults c.args.host.now) (g.H.Host.faults c.next_block.new.host) (g.H.Host.faults c.fold_rest.new.host) ending c.in_ok-block.ensures.later start added found rest)

pub returns-clause-told : goal.returns-clause-told
returns-clause-told g c =
    let scan = c.in_ok-frames.frames in
    let f = c.in_ok-folding.folding in
    let next = c.add_first.new.self in
    let last = c.fold_rest.new.folding in
    let block = c.in-Some.block in
    let a = g.H.Host.held c.args.host.now in
    let b = g.H.Host.held c.next_block.new.host in
    let d = g.H.Host.held c.fold_rest.new.host in
    let start : IsStart scan = record { frames = c.in_ok-frames.ensures.whole; bytes_taken = ap bytes_taken c.in_ok-frames.ensures.start } in
    let found = rw c.in-Some.is at c.in_ok-block.ensures.told in
    let added : with_first c.args.limits.now.headers (nothing_folded c.args.rules.now) block ≡ Ok next.folded =
    sym (ap (λ (folded : Folded). with_first c.args.limits.now.headers folded block) c.in_ok-folding.ensures.first)
    ∙ sym (ap (λ (n : ℕ). with_first n f.folded block) c.in_ok-folding.ensures.limit) ∙ c.in_ok-add_first.ensures.ok in
    let rest = subst (λ (n : ℕ). OnTold b d (FoldsRest {A = Unit {0}} n next.folded last.folded c.next_block.new.frames (g.H.Host.faults c.next_block.new.host) (g.H.Host.faults c.fold_rest.new.host) (Ok tt)))
    (c.in_ok-add_first.ensures.limit ∙ c.in_ok-folding.ensures.limit) c.in_ok-fold_rest.ensures.told in
    subst (λ (reply : Reply). OnTold a d (FoldsInput c.args.limits.now.headers c.args.rules.now (g.H.Host.faults c.args.host.now) (g.H.Host.faults c.fold_rest.new.host) (Ok reply))) (sym c.reply-2.ensures)
    (input_folded (Unit {0}) a b d c.args.limits.now.headers c.args.rules.now scan c.next_block.new.frames block next.folded last.folded
    (g.H.Host.faults c.args.host.now) (g.H.Host.faults c.next_block.new.host) (g.H.Host.faults c.fold_rest.new.host) tt start added found rest)
