use Rattle.std.proofs.Common.{take}
use Rattle.disk_model.specs.Crash.{at_rest}
use Rattle.disk_model.specs.Replay.{file_after}
use Rattle.disk_model.specs.Replayed.{IsShown}
use Rattle.disk_model.proofs.replay.Replayed.at.Given as goal

abbrev pub invariant-loop-call : goal.invariant-loop-call
invariant-loop-call l = IsShown l.state (file_after l.moment l.file (take l.call-index l.calls) (at_rest l.start))
