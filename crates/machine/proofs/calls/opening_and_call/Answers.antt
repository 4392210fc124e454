use Rattle.machine.proofs.Opening.{opened_run}
use Rattle.machine.proofs.calls.opening_and_call.Goals as goal

pub returns : goal.returns
returns g c = opened_run g.C.TwoCalls.limit g.C.TwoCalls.given g.C.TwoCalls.past g.C.TwoCalls.between g.C.TwoCalls.left g.C.TwoCalls.first g.C.TwoCalls.second g.C.TwoCalls.from g.C.TwoCalls.on c.requires.first c.requires.second c.requires.next
