use Rattle.machine.proofs.Telling.{told_since, well_since}
use Rattle.machine.proofs.calls.told_later.Goals as goal

pub returns-clause-call : goal.returns-clause-call
returns-clause-call g c = let C = g.C.OneCall in told_since C.limit C.given C.past C.left C.call C.flushes C.from c.requires.same c.requires.in_order c.requires.call

pub returns-clause-well : goal.returns-clause-well
returns-clause-well g c = let C = g.C.OneCall in λ well. well_since C.limit C.given C.past C.left C.call C.flushes C.from c.requires.same well
