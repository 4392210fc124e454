use Rattle.std.proofs.Common.{◌++◌, ◌+◌, ◌-◌, ℕ, List, sym, ap, ◌∙◌}
use Rattle.disk_model.proofs.Moments.{on_ok}
use Rattle.coins_inspect.specs.ChainReports.{chain_lines}
use Rattle.coins_inspect.proofs.ChainSteps.{nothing_left, one_more, broken_there, no_turn_left, all_printed}
use Rattle.coins_inspect.proofs.chain.put_chain.Goals as goal

pub loop-preserved : goal.loop-preserved
loop-preserved c =
    let k = c.loop.counter in
    let some = sym c.is_at_end.ensures ∙ c.if-is_at_end.false in
    c.in_ok-put_judged-in-Ok.ensures (λ next. chain_lines (c.args.most - (k + 1)) next c.read_header.new.cursor)
    ∙ ap (λ (l : List ℕ). c.loop.out.items ++ l) (sym (one_more c.args.most k c.loop.tree c.loop.cursor c.read_header.new.cursor c.in-Ok.header c.loop-test.true some c.in-Ok.ensures.exact))
    ∙ c.loop.invariant

pub returns-then-is_at_end : goal.returns-then-is_at_end
returns-then-is_at_end c =
    all_printed _ _ _ (nothing_left (c.args.most - c.loop.counter) c.loop.tree c.loop.cursor (sym c.is_at_end.ensures ∙ c.if-is_at_end.true)) c.loop.invariant

pub returns-in-Err : goal.returns-in-Err
returns-in-Err c =
    let some = sym c.is_at_end.ensures ∙ c.if-is_at_end.false in
    on_ok c.put_header_fault.result _ _
    (broken_there c.in-Err.fault c.loop.out.items c.put_header_fault.new.out.items _ c.args.most c.loop.counter c.loop.tree c.loop.cursor c.loop-test.true some c.in-Err.ensures.exact c.loop.invariant)
    c.put_header_fault.ensures

pub returns : goal.returns
returns c = all_printed _ _ _ (no_turn_left c.args.most c.loop.counter c.loop.tree c.loop.cursor c.loop-test.false) c.loop.invariant
