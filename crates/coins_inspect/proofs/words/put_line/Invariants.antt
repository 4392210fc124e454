use Rattle.std.proofs.Common.{◌≡◌, ◌++◌, take}
use Rattle.std.specs.Prelude.{fold}
use Rattle.coins_inspect.specs.Lines.{and_next}
use Rattle.coins_inspect.proofs.words.put_line.Given as goal

abbrev pub invariant-loop-word : goal.invariant-loop-word
invariant-loop-word l = l.out.items ≡ l.fn.out.items ++ fold and_next l.head (take l.word-index l.words)
