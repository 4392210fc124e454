use Rattle.header_tree.proofs.Down.{reads, sees_time}
use Rattle.header_tree.proofs.tree.Tree.time_at.Goals as goal

pub returns : goal.returns
returns c = sees_time c.self.inside.entries.items c.self.inside.numbers c.self.inside.limit c.self.inside.rules c.self.invariant c.args.self.now c.self.view_is c.args.number c.index.result.now (reads c.self.inside.entries.items c.self.inside.numbers c.self.inside.limit c.self.inside.rules c.self.invariant c.args.self.now c.self.view_is c.args.number c.index.result.now c.requires c.index.ensures)
