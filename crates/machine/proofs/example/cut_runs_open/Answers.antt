use Rattle.machine.proofs.Meets.{is_run}
use Rattle.machine.proofs.example.cut_runs_open.Goals as goal

pub opens_with_acknowledged_coins-requires-clause-runs : goal.opens_with_acknowledged_coins-requires-clause-runs
opens_with_acknowledged_coins-requires-clause-runs c = λ n. is_run
