use Rattle.std.proofs.Common.{◌≡◌, ◌++◌, ℕ, List, Result, sym, subst}
use Rattle.std.specs.Prelude.{OnOk}
use Rattle.disk_model.proofs.Moments.{on_ok}
use Rattle.coins_inspect.specs.LogReports.{log_lines, log_report}
use Rattle.coins_inspect.proofs.LogSteps.{damaged}
use Rattle.coins_inspect.proofs.logs.put_log.Goals as goal

pub returns-in-Ok : goal.returns-in-Ok
unfolding log_report
returns-in-Ok g c m told =
    let ok = c.in-Ok.ensures.ok m told in
    subst (λ (r : Result (List (List ℕ)) ℕ). OnOk c.put_records.result (c.put_records.new.out.items ≡ c.args.out.now.items ++ log_lines c.args.kind r)) (sym ok.1) (c.put_records.ensures ok.0 ok.2)

pub returns-in-Err : goal.returns-in-Err
returns-in-Err g c m told =
    on_ok c.put_fault.result _ _ (damaged c.args.kind c.in-Err.fault (m 1) c.args.out.now.items c.put_fault.new.out.items (c.in-Err.ensures.damaged m told)) c.put_fault.ensures
