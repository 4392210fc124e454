use Rattle.std.proofs.Common.{ℕ, Option, ap, ◌∙◌}
use Rattle.std.specs.Prelude.{unwrap_or}
use Rattle.chain_model.proofs.Missing.{median_or_zero}
use Rattle.chain_model.proofs.context.median_time.Goals as goal

pub returns : goal.returns
returns g c =
    c.unwrap_or.ensures
    ∙ ap (λ (o : Option ℕ). unwrap_or o 0) c.median_time.ensures
    ∙ median_or_zero (g.T.TreeView.tree c.args.tree.now).headers c.args.hash.now
