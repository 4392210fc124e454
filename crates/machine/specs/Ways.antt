-- A way to do a line.
use Rattle.std.specs.Prelude.{◌≡◌, Result}
use Rattle.command_text.specs.declared.line.Line.{Line}
use Rattle.command_text.specs.declared.line.LineRefused.{LineRefused}
use Rattle.machine.specs.State.{Setting}
use Rattle.machine.specs.Steps.{Now, Did, Step}

-- the machine can do this line, without a fault of the host
pub record HasWay (setting : Setting) (now : Now) (parsed : Result Line LineRefused) : Type 0 where
  pub did : Did
  pub step : Step setting now parsed did
  pub faults : did.faults ≡ 0
