use Rattle.std.proofs.Common.{◌≡◌, length, ap, ◌∙◌, arith}
use Rattle.command_text.specs.Lines.{without_return}
use Rattle.command_loop.proofs.Pieces.{without_last_return, without_other, without_none}
use Rattle.command_loop.proofs.pending.PendingLine.text.Goals as goal

pub returns-in-len1-up : goal.returns-in-len1-up
returns-in-len1-up c = without_last_return c.as_slice.result.now c.in-len1-up.len_at_least c.if-last-eq13.true ∙ ap without_return (c.as_slice.ensures.value ∙ c.self.view_is)

pub returns-in_default : goal.returns-in_default
returns-in_default c =
    let none : length c.as_slice.result.now ≡ 0 = let few = c.in_default.len_below in omega (arith, few) in
    without_none c.as_slice.result.now none ∙ ap without_return (c.as_slice.ensures.value ∙ c.self.view_is)

pub returns-in_default-2 : goal.returns-in_default-2
returns-in_default-2 c = without_other c.as_slice.result.now c.in-len1-up.len_at_least c.if-last-eq13.false ∙ ap without_return (c.as_slice.ensures.value ∙ c.self.view_is)
