use Rattle.std.proofs.Common.{ℕ, ap, sym, ◌∙◌}
use Rattle.chain_model.specs.Tree.{fork}
use Rattle.header_tree.specs.State.{hash_at}
use Rattle.header_tree.proofs.Down.{sees_fork}
use Rattle.header_tree.proofs.tree.Tree.meeting.Goals as goal

pub returns-clause-fork : goal.returns-clause-fork
returns-clause-fork c =
    sym (sees_fork c.self.inside.entries.items c.self.inside.numbers c.self.inside.limit c.self.inside.rules c.self.invariant c.args.self.now c.self.view_is c.loop-left.left c.loop-left.invariant.left)
    ∙ ap (λ (n : ℕ). fork c.args.self.now.tree.headers (hash_at c.args.self.now c.loop-left.left) (hash_at c.args.self.now n)) c.loop-left-test.false
    ∙ c.loop-left.invariant.same
