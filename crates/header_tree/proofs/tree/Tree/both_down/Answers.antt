use Rattle.header_tree.proofs.Down.{reads, sees_both_skips, sees_both_parents}
use Rattle.header_tree.proofs.tree.Tree.both_down.Goals as goal

pub returns-then-a-b : goal.returns-then-a-b
returns-then-a-b c =
    let left = reads c.self.inside.entries.items c.self.inside.numbers c.self.inside.limit c.self.inside.rules c.self.invariant c.args.self.now c.self.view_is c.args.left c.index-a.result.now c.requires.left c.index-a.ensures in
    let right = reads c.self.inside.entries.items c.self.inside.numbers c.self.inside.limit c.self.inside.rules c.self.invariant c.args.self.now c.self.view_is c.args.right c.index-b.result.now c.requires.right c.index-b.ensures in
    let way = sees_both_skips c.self.inside.entries.items c.self.inside.numbers c.self.inside.limit c.self.inside.rules c.self.invariant c.args.self.now c.self.view_is c.args.left c.args.right c.index-a.result.now c.index-b.result.now left right c.requires.level c.requires.differ c.if-a-b.true in
    record { left = way.left; right = way.right; level = way.level; fork = way.fork }

pub returns-else-a-b : goal.returns-else-a-b
returns-else-a-b c =
    let left = reads c.self.inside.entries.items c.self.inside.numbers c.self.inside.limit c.self.inside.rules c.self.invariant c.args.self.now c.self.view_is c.args.left c.index-a.result.now c.requires.left c.index-a.ensures in
    let right = reads c.self.inside.entries.items c.self.inside.numbers c.self.inside.limit c.self.inside.rules c.self.invariant c.args.self.now c.self.view_is c.args.right c.index-b.result.now c.requires.right c.index-b.ensures in
    let way = sees_both_parents c.self.inside.entries.items c.self.inside.numbers c.self.inside.limit c.self.inside.rules c.self.invariant c.args.self.now c.self.view_is c.args.left c.args.right c.index-a.result.now c.index-b.result.now left right c.requires.level c.requires.differ in
    record { left = way.left; right = way.right; level = way.level; fork = way.fork }
