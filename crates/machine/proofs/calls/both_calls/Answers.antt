use Rattle.machine.proofs.Joining.{both_meet, both_well}
use Rattle.machine.proofs.calls.both_calls.Goals as goal

pub returns-clause-both : goal.returns-clause-both
returns-clause-both g c = both_meet g.C.TwoCalls.limit g.C.TwoCalls.given g.C.TwoCalls.past g.C.TwoCalls.between g.C.TwoCalls.left g.C.TwoCalls.first g.C.TwoCalls.second g.C.TwoCalls.from g.C.TwoCalls.on c.requires.first c.requires.well c.requires.second c.requires.next

pub returns-clause-well : goal.returns-clause-well
returns-clause-well g c = both_well g.C.TwoCalls.limit g.C.TwoCalls.given g.C.TwoCalls.past g.C.TwoCalls.between g.C.TwoCalls.left g.C.TwoCalls.first g.C.TwoCalls.second g.C.TwoCalls.from g.C.TwoCalls.on c.requires.first c.requires.well c.requires.second c.requires.next
