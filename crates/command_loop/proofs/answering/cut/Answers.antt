use Rattle.std.proofs.Common.{◌≡◌, ◌≤◌, ◌+◌, ◌-◌, ◌∷◌, ℕ, suc, List, length, take, drop, sym, ap, ◌∙◌, arith}
use Rattle.std.proofs.lemmas.List.{take_all, length-drop}
use Rattle.command_text.specs.Lines.{pieces_between}
use Rattle.command_loop.proofs.Pieces.{no_feed, first_feed}
use Rattle.command_loop.proofs.answering.cut.Goals as goal

pub returns-in-Some : goal.returns-in-Some
returns-in-Some c =
    let bytes = c.args.bytes.now in
    let at = c.in-Some.at in
    let feed = first_feed bytes at (sym c.in-Some.ensures) in
    let next : suc at ≡ at + 1 = omega arith in
    let len = length-drop (at + 1) bytes in
    let within : length (drop (at + 1) bytes) ≤ length bytes - (at + 1) = omega (arith, len) in
    let all = take_all (length bytes - (at + 1)) (drop (at + 1) bytes) within in (
      feed.0 ∙ ap (λ (n : ℕ). take at bytes ∷ pieces_between 10 (drop n bytes)) next ∙ ap (λ (l : List ℕ). take at bytes ∷ pieces_between 10 l) (sym all),
      let same = ap length all in let less = feed.1 in omega (arith, same, len, less),
    )

pub returns-in-None : goal.returns-in-None
returns-in-None c = no_feed c.args.bytes.now (sym c.in-None.ensures)
