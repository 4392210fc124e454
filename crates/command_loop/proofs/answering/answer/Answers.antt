use Rattle.std.proofs.Common.{◌≡◌, ℕ, List, [], ◌++◌, take, drop, map, length, sym, ap, subst}
use Rattle.std.specs.Prelude.{OnOk}
use Rattle.std.specs.Io.KnownBytes.{Appends}
use Rattle.std.proofs.lemmas.Result.{err_from_is_err_and}
use Rattle.command_text.specs.Lines.{line_of}
use Rattle.store_state.specs.State.{StoreState}
use Rattle.machine.specs.State.{State}
use Rattle.machine.specs.Work.{Moment}
use Rattle.command_loop.specs.Points.{Point, IsOpenAt}
use Rattle.command_loop.specs.ServerCalls.{setting_of, WorkServed, LineDoes}
use Rattle.command_loop.specs.Telling.{told_now}
use Rattle.command_loop.proofs.LineAnswers.{adds_written, WritesLines, store_at, line_written, line_failed}
use Rattle.command_loop.proofs.answering.answer.Goals as goal

pub returns-in_err-serve-clause-served : goal.returns-in_err-serve-clause-served
returns-in_err-serve-clause-served g c = λ p at.
    let q = err_from_is_err_and c.from_residual.result c.from_residual.ensures.1 in
    let setting = setting_of (g.S.Server.set_to c.args.server.now) in
    let disk = c.serve.new.disk in
    rw (q.1) (line_failed setting (g.D.Disk.left_since c.args.disk.now) (g.D.Disk.left_since disk) p (g.D.Disk.time disk) (g.D.Disk.contents disk) (g.H.Host.held c.serve.new.host) (g.H.Host.faults c.serve.new.host)
    c.args.flushes.now c.serve.new.flushes (g.O.Sink.written c.args.out.now) at.outer.members at.outer.output
    (line_of c.args.text.now) (λ (x : Point). Unit {0}) q.0 (c.in_err-serve.ensures.err p.outer.moment p.state p.store (store_at (setting_of (g.S.Server.set_to c.args.server.now)) (g.S.Server.stands c.args.server.now) (g.D.Disk.time c.args.disk.now) (g.D.Disk.contents c.args.disk.now) (g.D.Disk.left_since c.args.disk.now) (g.H.Host.held c.args.host.now) (g.H.Host.faults c.args.host.now) (g.O.Sink.written c.args.out.now) c.args.flushes.now p at)))

pub returns-clause-served : goal.returns-clause-served
returns-clause-served g c = λ p at.
    let setting = setting_of (g.S.Server.set_to c.args.server.now) in
    let past = g.D.Disk.left_since c.args.disk.now in
    let disk = c.serve.new.disk in
    let left = g.D.Disk.left_since disk in
    let stands = g.S.Server.stands c.serve.new.self in
    let held = g.H.Host.held c.serve.new.host in
    let faults = g.H.Host.faults c.serve.new.host in
    let fb = c.args.flushes.now in
    let fa = c.serve.new.flushes in
    let fc = c.write_lines.new.flushes in
    let lines = c.deref.result.now in
    let before = g.O.Sink.written c.args.out.now in
    let after = g.O.Sink.written c.write_lines.new.out in
    let ask = line_of c.args.text.now in
    let IsNow : Moment → State → StoreState → Type 0 = λ moment state store. IsOpenAt setting stands (g.D.Disk.time disk) (g.D.Disk.contents disk) left held faults moment state store in
    let w0 = c.in_ok-serve.ensures.ok p.outer.moment p.state p.store (store_at (setting_of (g.S.Server.set_to c.args.server.now)) (g.S.Server.stands c.args.server.now) (g.D.Disk.time c.args.disk.now) (g.D.Disk.contents c.args.disk.now) (g.D.Disk.left_since c.args.disk.now) (g.H.Host.held c.args.host.now) (g.H.Host.faults c.args.host.now) (g.O.Sink.written c.args.out.now) c.args.flushes.now p at) in
    let w1 : WorkServed setting past left p.outer.moment p.store (LineDoes setting p.outer.moment p.state ask) IsNow fb fa [] c.serve.new.out.items =
    subst (λ (l : List ℕ). WorkServed setting past left p.outer.moment p.store (LineDoes setting p.outer.moment p.state ask) IsNow fb fa l c.serve.new.out.items) c.new-lines.ensures.items w0 in
    let w : WorkServed setting past left p.outer.moment p.store (LineDoes setting p.outer.moment p.state ask) IsNow fb fa [] lines =
    subst (λ (l : List ℕ). WorkServed setting past left p.outer.moment p.store (LineDoes setting p.outer.moment p.state ask) IsNow fb fa [] l) (sym c.deref.ensures.value) w1 in
    let said = c.write_lines.ensures in
    let from : length c.as_slice-from.result.now ≡ length fb = ap length c.as_slice-from.ensures in
    let result = c.write_lines.result in
    let writes : WritesLines result before after lines fb fa fc = (subst (λ (n : ℕ). OnOk result ((fc ≡ take n fa ++ map told_now (drop n fa)) × Appends before after lines)) from said.ok, said.err, said.only) in
    line_written setting past left p stands (g.D.Disk.time disk) (g.D.Disk.contents disk) held faults fb fa fc lines before after at.outer.members at.outer.output ask w result writes

pub returns-clause-timed : goal.returns-clause-timed
returns-clause-timed g c =
    let fb = c.args.flushes.now in
    let fa = c.serve.new.flushes in
    let fc = c.write_lines.new.flushes in
    let lines = c.deref.result.now in
    let before = g.O.Sink.written c.args.out.now in
    let after = g.O.Sink.written c.write_lines.new.out in
    let said = c.write_lines.ensures in
    let result = c.write_lines.result in
    let from : length c.as_slice-from.result.now ≡ length fb = ap length c.as_slice-from.ensures in
    let writes : WritesLines result before after lines fb fa fc = (subst (λ (n : ℕ). OnOk result ((fc ≡ take n fa ++ map told_now (drop n fa)) × Appends before after lines)) from said.ok, said.err, said.only) in
    adds_written result before after lines (g.D.Disk.time c.args.disk.now) (g.D.Disk.time c.serve.new.disk) fb fa fc c.serve.ensures.timed writes
