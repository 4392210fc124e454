use Rattle.std.proofs.Common.{◌≡◌, true, sym, ◌∙◌}
use Rattle.coin_index.specs.Hash.{eight_at}
use Rattle.coin_index.proofs.Words.{never_both, same_bytes}
use Rattle.coin_index.proofs.hash.has_same_bytes.Goals as goal
use Rattle.coin_index.proofs.hash.has_same_bytes.Goals.{then-has_same_word, else-has_same_word, then-has_same_word-2, else-has_same_word-2}

pub returns-then-has_same_word-3-clause-same : goal.returns-then-has_same_word-3-clause-same
returns-then-has_same_word-3-clause-same c = λ last.
    let a = c.args.a.now in
    let b = c.args.b.now in
    let second = c.if-has_same_word-3.true in
    let first : c.if-has_same_word.value ≡ true = elim c.if-has_same_word-2.branch [ then-has_same_word-2 w ↦ w.if-has_same_word-2.true | else-has_same_word-2 w ↦ sym w.value-is ∙ second ] in
    let start : c.has_same_word.result ≡ true = elim c.if-has_same_word.branch [ then-has_same_word w ↦ w.if-has_same_word.true | else-has_same_word w ↦ sym w.value-is ∙ first ] in
    let e1 : eight_at a 8 ≡ eight_at b 8 = elim c.if-has_same_word.branch [ then-has_same_word w ↦ w.has_same_word-then-has_same_word.ensures.same (sym w.value-is ∙ first) | else-has_same_word w ↦ absurd (never_both c.has_same_word.result start w.if-has_same_word.false) ] in
    let e2 : eight_at a 16 ≡ eight_at b 16 = elim c.if-has_same_word-2.branch [ then-has_same_word-2 w ↦ w.has_same_word-then-has_same_word-2.ensures.same (sym w.value-is ∙ second) | else-has_same_word-2 w ↦ absurd (never_both c.if-has_same_word.value first w.if-has_same_word-2.false) ] in
    same_bytes a b (c.has_same_word.ensures.same start) e1 e2 (c.has_same_word-then-has_same_word-3.ensures.same last) c.told-a c.told-b
