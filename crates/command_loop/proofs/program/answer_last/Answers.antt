use Rattle.std.proofs.Common.{◌≡◌, [], ◌∷◌, sym, subst, inl}
use Rattle.std.specs.Prelude.{Option, Some}
use Rattle.std.proofs.lemmas.Result.{err_from_is_err_and}
use Rattle.command_text.specs.Lines.{line_of}
use Rattle.io_traits.specs.Host.{Held}
use Rattle.machine.proofs.Adding.{adds_then}
use Rattle.command_loop.specs.Points.{Outer, IsOuter, At}
use Rattle.command_loop.specs.ServerCalls.{setting_of}
use Rattle.command_loop.specs.Service.{Stopped, AnswersEnd}
use Rattle.command_loop.specs.declared.settings.RunSettings.{RunSettings}
use Rattle.command_loop.specs.declared.stop.Stop.{Stop}
use Rattle.command_loop.specs.declared.stop.Stop.TheVariants.{OutFault}
use Rattle.command_loop.proofs.LineAnswers.{last_answered, held_at}
use Rattle.command_loop.proofs.program.answer_last.Goals as goal

pub returns-in_err-answer-clause-served : goal.returns-in_err-answer-clause-served
returns-in_err-answer-clause-served g c = λ p now.
    let q = err_from_is_err_and c.from_residual.result c.from_residual.ensures.1 in
    let said = c.in_err-answer.ensures.served p now in
    let setting = setting_of (g.S.Server.set_to c.args.server.now) in
    let past = g.D.Disk.left_since c.args.disk.now in
    let left = g.D.Disk.left_since c.answer.new.disk in
    let stopped : Stopped setting past left (q.0 ≡ OutFault) (line_of c.args.text.now ∷ []) p said.0 = subst (λ (x : Stop). Stopped setting past left (x ≡ OutFault) (line_of c.args.text.now ∷ []) p said.0) (sym q.2) said.2 in
    rw (q.1) (said.0, said.1, inl stopped)

pub returns-clause-served : goal.returns-clause-served
returns-clause-served g c = λ p now.
    let setting = setting_of (g.S.Server.set_to c.args.server.now) in
    let past = g.D.Disk.left_since c.args.disk.now in
    let disk = c.answer.new.disk in
    let mid = g.D.Disk.left_since disk in
    let left = g.D.Disk.left_since c.answer_end.new.disk in
    let said = c.in_ok-answer.ensures.served p now in
    let q = said.0 in
    let faults = g.H.Host.faults c.answer.new.host in
    let stands = g.S.Server.stands c.answer.new.server in
    let host = said.1.outer.moment.host in
    let held = held_at setting stands (g.D.Disk.time disk) (g.D.Disk.contents disk) mid (g.H.Host.held c.answer.new.host) faults (g.O.Sink.written c.answer.new.out) c.answer.new.flushes q said.1 in
    let here : At (setting_of (g.S.Server.set_to c.answer.new.server)) stands (g.D.Disk.time disk) (g.D.Disk.contents disk) mid (Some host) faults (g.O.Sink.written c.answer.new.out) c.answer.new.flushes q =
    subst (λ (s : RunSettings). At (setting_of s) stands (g.D.Disk.time disk) (g.D.Disk.contents disk) mid (Some host) faults (g.O.Sink.written c.answer.new.out) c.answer.new.flushes q) (sym c.in_ok-answer.ensures.set) held in
    let ends = c.answer_end.ensures.served q host faults here in
    let IsThere : Outer → Type 0 = IsOuter (g.D.Disk.time c.answer_end.new.disk) (g.D.Disk.contents c.answer_end.new.disk) (g.H.Host.held c.answer.new.host) faults (g.O.Sink.written c.answer_end.new.out) c.answer_end.new.flushes in
    last_answered setting past mid left (line_of c.args.text.now) p q said.2 IsThere c.answer_end.result
    (subst (λ (h : Option Held). AnswersEnd setting mid left q (IsOuter (g.D.Disk.time c.answer_end.new.disk) (g.D.Disk.contents c.answer_end.new.disk) h faults (g.O.Sink.written c.answer_end.new.out) c.answer_end.new.flushes) c.answer_end.result) (sym said.1.outer.moment.held)
    (subst (λ (s : RunSettings). AnswersEnd (setting_of s) mid left q (IsOuter (g.D.Disk.time c.answer_end.new.disk) (g.D.Disk.contents c.answer_end.new.disk) (Some host) faults (g.O.Sink.written c.answer_end.new.out) c.answer_end.new.flushes) c.answer_end.result) c.in_ok-answer.ensures.set ends))

pub returns-clause-timed : goal.returns-clause-timed
returns-clause-timed g c =
    adds_then (g.D.Disk.time c.args.disk.now) (g.D.Disk.time c.answer.new.disk) (g.D.Disk.time c.answer_end.new.disk) c.args.flushes.now c.answer.new.flushes c.answer_end.new.flushes c.answer.ensures.timed c.answer_end.ensures.timed
