use Rattle.std.proofs.Common.{◌≡◌, Some, subst, sym, ◌∙◌}
use Rattle.std.specs.FinMap as finite
use Rattle.header_tree.specs.State.{State}
use Rattle.header_tree.proofs.Members.{member_header}
use Rattle.header_tree.proofs.tree.Tree.header.Goals as goal

pub returns-in-Some : goal.returns-in-Some
returns-in-Some c =
    subst (λ (s : State). Some c.index.result.now.header ≡ finite.get s.tree.headers c.args.hash.now) c.self.view_is
    (member_header c.self.inside.entries.items c.self.inside.numbers c.self.inside.limit c.self.inside.rules c.self.invariant c.args.hash.now c.in-Some.number c.index.result.now (sym c.get.ensures ∙ c.in-Some.is) c.index.ensures)
