use Rattle.std.proofs.Common.{ℕ, ◌+◌, Option, ap, ◌∙◌}
use Rattle.std.specs.Prelude.{unwrap_or}
use Rattle.chain_model.proofs.Missing.{height_or_zero}
use Rattle.chain_model.proofs.context.Context.below.Goals as goal

pub returns-clause-height : goal.returns-clause-height
returns-clause-height g c =
    let headers = (g.T.TreeView.tree c.args.tree.now).headers in
    ap (λ (n : ℕ). n + 1) (c.unwrap_or-below.ensures ∙ ap (λ (o : Option ℕ). unwrap_or o 0) c.height.ensures ∙ height_or_zero headers c.args.parent.now)
