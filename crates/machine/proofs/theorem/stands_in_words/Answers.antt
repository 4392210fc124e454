use Rattle.machine.proofs.Marking.{in_words, from_words}
use Rattle.machine.proofs.theorem.stands_in_words.Goals as goal

pub returns : goal.returns
returns c = λ start before tip. (in_words start before tip, from_words start before tip)
