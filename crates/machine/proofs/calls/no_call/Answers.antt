use Rattle.machine.proofs.Joining.{nothing_done}
use Rattle.machine.proofs.calls.no_call.Goals as goal

pub returns : goal.returns
returns g c = let C = g.C.OneCall in nothing_done C.limit C.given C.past C.time C.contents C.from c.requires.earlier c.requires.is_open
