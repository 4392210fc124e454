use Rattle.std.proofs.Common.{arith}
use Rattle.header_tree.proofs.Down.{reads, sees_end, sees_before}
use Rattle.header_tree.proofs.tree.Tree.before.Goals as goal

pub returns-then-entry-eq0 : goal.returns-then-entry-eq0
returns-then-entry-eq0 c =
    let at = reads c.self.inside.entries.items c.self.inside.numbers c.self.inside.limit c.self.inside.rules c.self.invariant c.args.self.now c.self.view_is c.args.number c.index-entry.result.now c.requires c.index-entry.ensures in
    sees_end c.self.inside.entries.items c.self.inside.numbers c.self.inside.limit c.self.inside.rules c.self.invariant c.args.self.now c.self.view_is c.args.number c.index-entry.result.now at c.if-entry-eq0.true

pub returns-else-entry-eq0 : goal.returns-else-entry-eq0
returns-else-entry-eq0 c =
    let at = reads c.self.inside.entries.items c.self.inside.numbers c.self.inside.limit c.self.inside.rules c.self.invariant c.args.self.now c.self.view_is c.args.number c.index-entry.result.now c.requires c.index-entry.ensures in
    sees_before c.self.inside.entries.items c.self.inside.numbers c.self.inside.limit c.self.inside.rules c.self.invariant c.args.self.now c.self.view_is c.args.number c.index-entry.result.now at (omega arith)
