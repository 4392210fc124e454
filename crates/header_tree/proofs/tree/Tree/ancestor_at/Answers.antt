use Rattle.std.proofs.Common.{◌≡◌, ℕ, ap, sym, ◌∙◌, arith}
use Rattle.chain_model.specs.Tree.{height, ancestor}
use Rattle.header_tree.specs.State.{hash_at}
use Rattle.header_tree.proofs.Down.{sees_self}
use Rattle.header_tree.proofs.tree.Tree.ancestor_at.Goals as goal

pub returns-clause-ancestor : goal.returns-clause-ancestor
returns-clause-ancestor c =
    let low = c.loop-at.invariant.low in
    let tall = c.height_at.ensures.value in
    let level : height c.args.self.now.tree.headers (hash_at c.args.self.now c.loop-at.at) ≡ c.args.height = omega arith in
    sym (sees_self c.self.inside.entries.items c.self.inside.numbers c.self.inside.limit c.self.inside.rules c.self.invariant c.args.self.now c.self.view_is c.loop-at.at c.loop-at.invariant.there)
    ∙ ap (λ (k : ℕ). ancestor c.args.self.now.tree.headers (hash_at c.args.self.now c.loop-at.at) k) level
    ∙ c.loop-at.invariant.same
