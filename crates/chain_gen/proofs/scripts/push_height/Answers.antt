use Rattle.std.proofs.Common.{rules}
use Rattle.chain_gen.proofs.Heights.{push_1, push_2, push_3}
use Rattle.chain_gen.proofs.scripts.push_height.Goals as goal

pub returns-then-height : goal.returns-then-height
returns-then-height c = let push = push_1 c.args.height c.if-height-le16.false c.if-height.true in rw push (search rules)

pub returns-then-height-2 : goal.returns-then-height-2
returns-then-height-2 c = let push = push_2 c.args.height c.if-height.false c.if-height-2.true in rw push (search rules)

pub returns-else-height-2 : goal.returns-else-height-2
returns-else-height-2 c = let push = push_3 c.args.height c.if-height-2.false c.requires.1 in rw push (search rules)
