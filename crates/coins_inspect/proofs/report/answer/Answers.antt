use Rattle.std.proofs.Common.{◌≡◌, ◌+◌, ◌-◌, ◌≤◌, ◌++◌, [], ℕ, List, length, take, drop, ap, subst, ◌∙◌, arith}
use Rattle.std.specs.Prelude.{OnOk}
use Rattle.std.proofs.lemmas.List.{take_all, length-drop}
use Rattle.coins_inspect.specs.LineAnswers.{lines_for, form_named, answer_at}
use Rattle.coins_inspect.proofs.report.answer.Goals as goal

pub returns-in-Some : goal.returns-in-Some
returns-in-Some c =
    let text = c.args.line.now in
    let space = c.in-Some.space in
    let within : length (drop (space + 1) text) ≤ length text - (space + 1) = omega (arith, length-drop (space + 1) text) in
    let all = take_all (length text - (space + 1)) (drop (space + 1) text) within in
    let named = ap (λ (f : _). lines_for f (take (length text - (space + 1)) (drop (space + 1) text))) c.named.ensures in
    subst (λ (l : List ℕ). OnOk c.put_lines.result (c.put_lines.new.out.items ≡ c.args.out.now.items ++ l))
    (named ∙ ap (lines_for (form_named (take space text))) all ∙ ap (answer_at text) c.in-Some.ensures) c.put_lines.ensures

pub returns-in-None : goal.returns-in-None
returns-in-None c =
    let text = c.args.line.now in
    subst (λ (l : List ℕ). OnOk c.put_lines-in-None.result (c.put_lines-in-None.new.out.items ≡ c.args.out.now.items ++ l))
    (ap (λ (f : _). lines_for f []) c.named-in-None.ensures ∙ ap (answer_at text) c.in-None.ensures) c.put_lines-in-None.ensures
