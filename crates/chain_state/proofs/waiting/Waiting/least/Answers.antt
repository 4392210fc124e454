use Rattle.std.proofs.Common.{sym, ◌∙◌}
use Rattle.chain_state.proofs.LeastBlock.{none_left, none_above, is_waiting, is_least}
use Rattle.chain_state.proofs.waiting.Waiting.least.Goals as goal

pub returns-in_err-block-clause-none : goal.returns-in_err-block-clause-none
returns-in_err-block-clause-none c e h = none_left c.args.self.now.blocks c.args.self.now.whole c.args.parent.now c.range.result (c.range.ensures.in_range tt) c.in_err-block.ensures.steps.0 h

pub returns-then-eq-clause-some : goal.returns-then-eq-clause-some
returns-then-eq-clause-some c = is_waiting c.args.self.now.blocks c.args.self.now.whole c.args.parent.now c.range.result (c.range.ensures.in_range tt) c.in_ok-block.block.now c.next.new.self c.in_ok-block.ensures.steps (sym c.eq.ensures ∙ c.if-eq.true)

pub returns-then-eq-clause-least : goal.returns-then-eq-clause-least
returns-then-eq-clause-least c = is_least c.args.self.now.blocks c.args.self.now.whole c.args.parent.now c.range.result (c.range.ensures.in_range tt) c.in_ok-block.block.now c.next.new.self c.in_ok-block.ensures.steps (sym c.eq.ensures ∙ c.if-eq.true)

pub returns-else-eq-clause-none : goal.returns-else-eq-clause-none
returns-else-eq-clause-none c e = none_above c.args.self.now.blocks c.args.self.now.whole c.args.parent.now c.range.result (c.range.ensures.in_range tt) c.in_ok-block.block.now c.next.new.self c.in_ok-block.ensures.steps (sym c.eq.ensures ∙ c.if-eq.false)
