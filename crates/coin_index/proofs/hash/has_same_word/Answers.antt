use Rattle.std.proofs.Common.{sym, ◌∙◌}
use borrow.Author.Tests.{eqb-true}
use Rattle.coin_index.proofs.Words.{same_eight}
use Rattle.coin_index.proofs.hash.has_same_word.Goals as goal

pub returns-clause-same : goal.returns-clause-same
returns-clause-same c = λ e. same_eight c.args.a.now c.args.b.now c.args.at c.fits-a c.fits-b (sym c.word.ensures ∙ eqb-true c.word.result c.word-2.result e ∙ c.word-2.ensures)
