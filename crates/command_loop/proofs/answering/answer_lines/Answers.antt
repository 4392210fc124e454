use Rattle.std.proofs.Common.{◌≡◌, ◌∷◌, ◌++◌, [], List, ℕ, ap, sym, subst, ◌∙◌, arith, refl}
use Rattle.std.proofs.lemmas.Result.{err_from_is_err_and}
use Rattle.command_text.specs.Lines.{line_of, without_return}
use Rattle.machine.proofs.Adding.{adds_none, adds_then}
use Rattle.command_loop.specs.Asks.{asked, kept_of, last_of, pieces_behind}
use Rattle.command_loop.specs.Points.{Point, At}
use Rattle.command_loop.specs.ServerCalls.{Asked, setting_of}
use Rattle.command_loop.specs.Service.{Serves, Stopped}
use Rattle.command_loop.specs.declared.settings.RunSettings.{RunSettings}
use Rattle.command_loop.specs.declared.stop.Stop.{Stop}
use Rattle.command_loop.specs.declared.stop.Stop.TheVariants.{OutFault}
use Rattle.command_loop.proofs.LineAnswers.{nothing_served}
use Rattle.command_loop.proofs.Lines.{IsDone, IsDone-none, IsDone-more, IsDone-all, IsDone-halted, IsDone-stopped, last_feed, kept_end}
use Rattle.command_loop.proofs.answering.answer_lines.Goals as goal

pub loop-front-init : goal.loop-front-init
loop-front-init g c = record {
  done = λ p at. IsDone-none _ _ c.args.line.now c.args.bytes.now p _ at
      (nothing_served g.D.Disk.time g.D.Disk.contents g.D.Disk.left_since g.met.D.Disk.since_earlier c.args.disk.now (setting_of (g.S.Server.set_to c.args.server.now)) (g.S.Server.stands c.args.server.now) (g.H.Host.held c.args.host.now) (g.H.Host.faults c.args.host.now) (g.O.Sink.written c.args.out.now) c.args.flushes.now p at);
  last_kept = refl;
  set = refl;
  timed = adds_none (g.D.Disk.time c.args.disk.now) c.args.flushes.now;
  disk_later = omega arith;
  host_later = omega arith;
  steady = refl;
}

pub returns-in_err-push-clause-served : goal.returns-in_err-push-clause-served
returns-in_err-push-clause-served g c = λ p now.
    let at = c.loop-front in
    let q = err_from_is_err_and c.from_residual.result c.from_residual.ensures.1 in
    let done = at.invariant.done p now in
    rw (q.1) (done.q.outer, done.now.outer, IsDone-halted _ _ _ c.args.line.now c.args.bytes.now at.line at.rest.now p _ done _)

pub returns-in_err-push-2-clause-served : goal.returns-in_err-push-2-clause-served
returns-in_err-push-2-clause-served g c = λ p now.
    let at = c.loop-front in
    let q = err_from_is_err_and c.from_residual-in_err-push-2.result c.from_residual-in_err-push-2.ensures.1 in
    let done = at.invariant.done p now in
    rw (q.1) (done.q.outer, done.now.outer, IsDone-halted _ _ _ c.args.line.now c.args.bytes.now at.line at.rest.now p _ done _)

pub returns-in_err-answer-clause-served : goal.returns-in_err-answer-clause-served
returns-in_err-answer-clause-served g c = λ p now.
    let at = c.loop-front in
    let front = c.in-Some.front.now in
    let behind = c.in-Some.behind.now in
    let q = err_from_is_err_and c.from_residual-in_err-answer.result c.from_residual-in_err-answer.ensures.1 in
    let setting = setting_of (g.S.Server.set_to c.args.server.now) in
    let mid = g.D.Disk.left_since at.disk in
    let left = g.D.Disk.left_since c.answer.new.disk in
    let ask : line_of c.text.result.now ≡ asked (kept_of (at.line ++ front)) = ap line_of (c.text.ensures ∙ ap without_return c.in_ok-push.ensures) in
    let done = at.invariant.done p now in
    let here : At (setting_of (g.S.Server.set_to at.server)) (g.S.Server.stands at.server) (g.D.Disk.time at.disk) (g.D.Disk.contents at.disk) mid (g.H.Host.held at.host) (g.H.Host.faults at.host) (g.O.Sink.written at.out) at.flushes done.q =
    subst (λ (s : RunSettings). At (setting_of s) (g.S.Server.stands at.server) (g.D.Disk.time at.disk) (g.D.Disk.contents at.disk) mid (g.H.Host.held at.host) (g.H.Host.faults at.host) (g.O.Sink.written at.out) at.flushes done.q) (sym at.invariant.set) done.now in
    let said = c.in_err-answer.ensures.served done.q here in
    let stop = c.in_err-answer.field-0.0 in
    let moved : Stopped setting mid left (stop ≡ OutFault) (line_of c.text.result.now ∷ []) done.q said.0 =
    subst (λ (s : RunSettings). Stopped (setting_of s) mid left (stop ≡ OutFault) (line_of c.text.result.now ∷ []) done.q said.0) at.invariant.set said.2 in
    let asks : Stopped setting mid left (stop ≡ OutFault) (asked (kept_of (at.line ++ front)) ∷ []) done.q said.0 =
    subst (λ (x : Asked). Stopped setting mid left (stop ≡ OutFault) (x ∷ []) done.q said.0) ask moved in
    let stopped : Stopped setting mid left (q.0 ≡ OutFault) (asked (kept_of (at.line ++ front)) ∷ []) done.q said.0 =
    subst (λ (x : Stop). Stopped setting mid left (x ≡ OutFault) (asked (kept_of (at.line ++ front)) ∷ []) done.q said.0) (sym q.2) asks in
    rw (q.1) (said.0, said.1, IsDone-stopped setting _ mid left c.args.line.now c.args.bytes.now at.line at.rest.now front behind p _ c.in-Some.ensures.0 done (q.0 ≡ OutFault) said.0 stopped)

pub loop-front-preserved : goal.loop-front-preserved
loop-front-preserved g c =
    let at = c.loop-front in
    let front = c.in-Some.front.now in
    let behind = c.in-Some.behind.now in
    let setting = setting_of (g.S.Server.set_to c.args.server.now) in
    let past = g.D.Disk.left_since c.args.disk.now in
    let mid = g.D.Disk.left_since at.disk in
    let left = g.D.Disk.left_since c.answer.new.disk in
    let ask : line_of c.text.result.now ≡ asked (kept_of (at.line ++ front)) = ap line_of (c.text.ensures ∙ ap without_return c.in_ok-push.ensures) in
    record {
      done = λ p now.
          let done = at.invariant.done p now in
          let here : At (setting_of (g.S.Server.set_to at.server)) (g.S.Server.stands at.server) (g.D.Disk.time at.disk) (g.D.Disk.contents at.disk) mid (g.H.Host.held at.host) (g.H.Host.faults at.host) (g.O.Sink.written at.out) at.flushes done.q =
          subst (λ (s : RunSettings). At (setting_of s) (g.S.Server.stands at.server) (g.D.Disk.time at.disk) (g.D.Disk.contents at.disk) mid (g.H.Host.held at.host) (g.H.Host.faults at.host) (g.O.Sink.written at.out) at.flushes done.q) (sym at.invariant.set) done.now in
          let said = c.in_ok-answer.ensures.served done.q here in
          let served : Serves setting mid left (asked (kept_of (at.line ++ front)) ∷ []) done.q said.0 =
          subst (λ (x : Asked). Serves setting mid left (x ∷ []) done.q said.0) ask
          (subst (λ (s : RunSettings). Serves (setting_of s) mid left (line_of c.text.result.now ∷ []) done.q said.0) at.invariant.set said.2) in
          let IsNow : Point → Type 0 = At setting (g.S.Server.stands c.answer.new.server) (g.D.Disk.time c.answer.new.disk) (g.D.Disk.contents c.answer.new.disk) left (g.H.Host.held c.answer.new.host) (g.H.Host.faults c.answer.new.host) (g.O.Sink.written c.answer.new.out) c.answer.new.flushes in
          let then_at : IsNow said.0 =
          subst (λ (s : RunSettings). At (setting_of s) (g.S.Server.stands c.answer.new.server) (g.D.Disk.time c.answer.new.disk) (g.D.Disk.contents c.answer.new.disk) left (g.H.Host.held c.answer.new.host) (g.H.Host.faults c.answer.new.host) (g.O.Sink.written c.answer.new.out) c.answer.new.flushes said.0)
          at.invariant.set said.1 in
          subst (λ (l : List ℕ). IsDone setting past left c.args.line.now c.args.bytes.now l behind p IsNow) (sym c.clear.ensures)
          (IsDone-more setting past mid left c.args.line.now c.args.bytes.now at.line at.rest.now front behind p _ c.in-Some.ensures.0 done IsNow said.0 then_at served);
      last_kept = at.invariant.last_kept ∙ ap kept_of (last_feed at.line at.rest.now front behind c.in-Some.ensures.0) ∙ ap (λ (l : List ℕ). kept_of (last_of (pieces_behind l behind))) (sym c.clear.ensures);
      set = c.in_ok-answer.ensures.set ∙ at.invariant.set;
      timed = adds_then (g.D.Disk.time c.args.disk.now) (g.D.Disk.time at.disk) (g.D.Disk.time c.answer.new.disk) c.args.flushes.now at.flushes c.answer.new.flushes at.invariant.timed c.in_ok-answer.ensures.timed;
      disk_later = let x = at.invariant.disk_later in let y = c.in_ok-answer.ensures.later.0 in omega (arith, x, y);
      host_later = let x = at.invariant.host_later in let y = c.in_ok-answer.ensures.later.1 in omega (arith, x, y);
      steady = c.in_ok-answer.ensures.steady (λ is. cc) ∙ at.invariant.steady;
    }

pub returns-clause-served : goal.returns-clause-served
returns-clause-served g c = λ p now.
    let at = c.loop-front in
    let done = at.invariant.done p now in
    let whole = rw c.in_default.is at c.cut.ensures in
    (done.q, done.now, IsDone-all _ _ _ c.args.line.now c.args.bytes.now at.line at.rest.now p _ done whole)

-- Whatever is told, what is kept of the last line follows from the bytes alone.
pub returns-clause-kept : goal.returns-clause-kept
returns-clause-kept g c =
    let at = c.loop-front in
    let whole = rw c.in_default.is at c.cut.ensures in
    c.in_ok-push-2.ensures ∙ kept_end c.args.line.now c.args.bytes.now at.line at.rest.now at.invariant.last_kept whole

pub returns-in_err-answer-clause-timed : goal.returns-in_err-answer-clause-timed
returns-in_err-answer-clause-timed g c =
    let at = c.loop-front in
    adds_then (g.D.Disk.time c.args.disk.now) (g.D.Disk.time at.disk) (g.D.Disk.time c.answer.new.disk) c.args.flushes.now at.flushes c.answer.new.flushes at.invariant.timed c.answer.ensures.timed
