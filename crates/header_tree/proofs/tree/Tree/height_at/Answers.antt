use Rattle.std.proofs.Common.{arith}
use Rattle.header_tree.proofs.Keeping.{low}
use Rattle.header_tree.proofs.Down.{reads, sees_height}
use Rattle.header_tree.proofs.tree.Tree.height_at.Goals as goal

pub returns-clause-value : goal.returns-clause-value
returns-clause-value c =
    sees_height c.self.inside.entries.items c.self.inside.numbers c.self.inside.limit c.self.inside.rules c.self.invariant c.args.self.now c.self.view_is c.args.number c.index.result.now
    (reads c.self.inside.entries.items c.self.inside.numbers c.self.inside.limit c.self.inside.rules c.self.invariant c.args.self.now c.self.view_is c.args.number c.index.result.now c.requires c.index.ensures)

pub returns-clause-small : goal.returns-clause-small
returns-clause-small c =
    let at = reads c.self.inside.entries.items c.self.inside.numbers c.self.inside.limit c.self.inside.rules c.self.invariant c.args.self.now c.self.view_is c.args.number c.index.result.now c.requires c.index.ensures in
    let less = low c.self.inside.entries.items c.self.inside.numbers c.self.inside.limit c.self.inside.rules c.self.invariant c.args.number c.index.result.now at in
    let count = c.self.invariant.count in
    let fits = c.self.invariant.fits in
    omega arith
