use Rattle.std.proofs.Common.{arith}
use Rattle.header_tree.proofs.Down.{reads, sees_tall, sees_parent, sees_skip}
use Rattle.header_tree.proofs.tree.Tree.toward.Goals as goal

pub overflow_sub-entry : goal.overflow_sub-entry
overflow_sub-entry c =
    let at = reads c.self.inside.entries.items c.self.inside.numbers c.self.inside.limit c.self.inside.rules c.self.invariant c.args.self.now c.self.view_is c.args.number c.index-entry.result.now c.requires.there c.index-entry.ensures in
    let tall = sees_tall c.self.inside.entries.items c.self.inside.numbers c.self.inside.limit c.self.inside.rules c.self.invariant c.args.self.now c.self.view_is c.args.number c.args.height c.index-entry.result.now at c.requires.low in
    omega arith

pub returns-then-saturating_add-skip : goal.returns-then-saturating_add-skip
returns-then-saturating_add-skip c =
    let at = reads c.self.inside.entries.items c.self.inside.numbers c.self.inside.limit c.self.inside.rules c.self.invariant c.args.self.now c.self.view_is c.args.number c.index-entry.result.now c.requires.there c.index-entry.ensures in
    let way = sees_parent c.self.inside.entries.items c.self.inside.numbers c.self.inside.limit c.self.inside.rules c.self.invariant c.args.self.now c.self.view_is c.args.number c.args.height c.index-entry.result.now at c.requires.low in
    record { down = way.down; low = way.low; same = way.same }

pub returns-else-saturating_add-skip : goal.returns-else-saturating_add-skip
returns-else-saturating_add-skip c =
    let at = reads c.self.inside.entries.items c.self.inside.numbers c.self.inside.limit c.self.inside.rules c.self.invariant c.args.self.now c.self.view_is c.args.number c.index-entry.result.now c.requires.there c.index-entry.ensures in
    let reaches = c.skip_height-skip.ensures.value in
    let way = sees_skip c.self.inside.entries.items c.self.inside.numbers c.self.inside.limit c.self.inside.rules c.self.invariant c.args.self.now c.self.view_is c.args.number c.args.height c.index-entry.result.now at c.requires.low (omega arith) in
    record { down = way.down; low = way.low; same = way.same }
