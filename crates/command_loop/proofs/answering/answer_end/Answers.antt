use Rattle.std.proofs.Common.{◌≡◌, ℕ, List, [], ◌++◌, take, drop, map, length, sym, ap, subst}
use Rattle.std.specs.Prelude.{Some, OnOk}
use Rattle.std.specs.Io.KnownBytes.{Appends}
use Rattle.std.proofs.lemmas.Result.{err_from_is_err_and}
use Rattle.store_state.specs.State.{StoreState}
use Rattle.machine.specs.State.{State}
use Rattle.machine.specs.Work.{Moment}
use Rattle.command_loop.specs.Points.{IsOpenAt}
use Rattle.command_loop.specs.ServerCalls.{setting_of, WorkServed, EndDoes}
use Rattle.command_loop.specs.Telling.{told_now}
use Rattle.command_loop.proofs.LineAnswers.{adds_written, WritesLines, store_at, end_written, end_failed}
use Rattle.command_loop.proofs.answering.answer_end.Goals as goal

pub returns-in_err-finish-clause-served : goal.returns-in_err-finish-clause-served
returns-in_err-finish-clause-served g c = λ p held faults at.
    let q = err_from_is_err_and c.from_residual.result c.from_residual.ensures.1 in
    let setting = setting_of (g.S.Server.set_to c.args.server.now) in
    let disk = c.finish.new.disk in
    rw (q.1) (end_failed setting (g.D.Disk.left_since c.args.disk.now) (g.D.Disk.left_since disk) p (g.D.Disk.time disk) (g.D.Disk.contents disk) (Some held) faults
    c.args.flushes.now c.finish.new.flushes (g.O.Sink.written c.args.out.now) at.outer.members at.outer.output
    q.0 (c.in_err-finish.ensures.err p.outer.moment p.state p.store held faults (store_at (setting_of (g.S.Server.set_to c.args.server.now)) (g.S.Server.stands c.args.server.now) (g.D.Disk.time c.args.disk.now) (g.D.Disk.contents c.args.disk.now) (g.D.Disk.left_since c.args.disk.now) (Some held) faults (g.O.Sink.written c.args.out.now) c.args.flushes.now p at)))

pub returns-clause-served : goal.returns-clause-served
returns-clause-served g c = λ p held faults at.
    let setting = setting_of (g.S.Server.set_to c.args.server.now) in
    let past = g.D.Disk.left_since c.args.disk.now in
    let disk = c.finish.new.disk in
    let left = g.D.Disk.left_since disk in
    let stands = g.S.Server.stands c.finish.new.self in
    let fb = c.args.flushes.now in
    let fa = c.finish.new.flushes in
    let fc = c.write_lines.new.flushes in
    let lines = c.deref.result.now in
    let before = g.O.Sink.written c.args.out.now in
    let after = g.O.Sink.written c.write_lines.new.out in
    let IsNow : Moment → State → StoreState → Type 0 = λ moment state store. IsOpenAt setting stands (g.D.Disk.time disk) (g.D.Disk.contents disk) left (Some held) faults moment state store in
    let w0 = c.in_ok-finish.ensures.ok p.outer.moment p.state p.store held faults (store_at (setting_of (g.S.Server.set_to c.args.server.now)) (g.S.Server.stands c.args.server.now) (g.D.Disk.time c.args.disk.now) (g.D.Disk.contents c.args.disk.now) (g.D.Disk.left_since c.args.disk.now) (Some held) faults (g.O.Sink.written c.args.out.now) c.args.flushes.now p at) in
    let w1 : WorkServed setting past left p.outer.moment p.store (EndDoes p.outer.moment p.state) IsNow fb fa [] c.finish.new.out.items =
    subst (λ (l : List ℕ). WorkServed setting past left p.outer.moment p.store (EndDoes p.outer.moment p.state) IsNow fb fa l c.finish.new.out.items) c.new-lines.ensures.items w0 in
    let w : WorkServed setting past left p.outer.moment p.store (EndDoes p.outer.moment p.state) IsNow fb fa [] lines =
    subst (λ (l : List ℕ). WorkServed setting past left p.outer.moment p.store (EndDoes p.outer.moment p.state) IsNow fb fa [] l) (sym c.deref.ensures.value) w1 in
    let said = c.write_lines.ensures in
    let from : length c.as_slice-from.result.now ≡ length fb = ap length c.as_slice-from.ensures in
    let result = c.write_lines.result in
    let writes : WritesLines result before after lines fb fa fc = (subst (λ (n : ℕ). OnOk result ((fc ≡ take n fa ++ map told_now (drop n fa)) × Appends before after lines)) from said.ok, said.err, said.only) in
    end_written setting past left p stands (g.D.Disk.time disk) (g.D.Disk.contents disk) (Some held) faults fb fa fc lines before after at.outer.members at.outer.output w result writes

pub returns-clause-timed : goal.returns-clause-timed
returns-clause-timed g c =
    let fb = c.args.flushes.now in
    let fa = c.finish.new.flushes in
    let fc = c.write_lines.new.flushes in
    let lines = c.deref.result.now in
    let before = g.O.Sink.written c.args.out.now in
    let after = g.O.Sink.written c.write_lines.new.out in
    let said = c.write_lines.ensures in
    let result = c.write_lines.result in
    let from : length c.as_slice-from.result.now ≡ length fb = ap length c.as_slice-from.ensures in
    let writes : WritesLines result before after lines fb fa fc = (subst (λ (n : ℕ). OnOk result ((fc ≡ take n fa ++ map told_now (drop n fa)) × Appends before after lines)) from said.ok, said.err, said.only) in
    adds_written result before after lines (g.D.Disk.time c.args.disk.now) (g.D.Disk.time c.finish.new.disk) fb fa fc c.finish.ensures.timed writes
