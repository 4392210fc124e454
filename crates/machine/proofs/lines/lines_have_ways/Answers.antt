use Rattle.machine.proofs.LineWays.{way}
use Rattle.machine.proofs.lines.lines_have_ways.Goals as goal

pub returns : goal.returns
returns c = λ setting now parsed. way setting now parsed
