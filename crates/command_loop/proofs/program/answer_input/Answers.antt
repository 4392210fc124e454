use Rattle.std.proofs.Common.{◌≡◌, false, ◌≤◌, ◌+◌, [], ℕ, length, take, Err, ap, sym, subst, ◌∙◌, refl, arith}
use Rattle.std.specs.Prelude.{⊤}
use Rattle.std.specs.Io.KnownBytes.{Consumes, IsAtEnd}
use Rattle.std.proofs.lemmas.List.{length-take, length-take-le}
use Rattle.base_types.specs.declared.program.Status.{Status}
use Rattle.base_types.specs.declared.program.Status.TheVariants as status
use Rattle.command_text.specs.Lines.{line_of}
use Rattle.machine.specs.Answers.{comes_before}
use Rattle.machine.proofs.Adding.{adds_none, adds_then}
use Rattle.command_loop.specs.Asks.{ended_asks}
use Rattle.command_loop.specs.Ending.{AnswersInput}
use Rattle.command_loop.specs.Points.{Outer, Point, IsOuter, At}
use Rattle.command_loop.specs.ServerCalls.{setting_of}
use Rattle.command_loop.specs.Service.{Serves, Stopped, AnswersLast}
use Rattle.command_loop.specs.declared.settings.RunSettings.{RunSettings}
use Rattle.command_loop.specs.declared.stop.Stop.TheVariants as stop
use Rattle.command_loop.proofs.LineAnswers.{nothing_served}
use Rattle.command_loop.proofs.Running.{HasTaken-none, HasTaken-more, too_many, all_taken, IsRead-none, IsRead-more, IsRead-failed, IsRead-nothing, exit_kept, exit_long, exit_last, exit_among, no_memory_goes, in_fault_goes, end_after}
use Rattle.command_loop.proofs.program.answer_input.Goals as goal

pub returns-in_default-clause-served : goal.returns-in_default-clause-served
returns-in_default-clause-served g c = λ p bytes left_is now.
    let left = g.I.Source.left c.args.input.now in
    let setting = setting_of (g.S.Server.set_to c.args.server.now) in
    let past = g.D.Disk.left_since c.args.disk.now in
    let nothing = nothing_served g.D.Disk.time g.D.Disk.contents g.D.Disk.left_since g.met.D.Disk.since_earlier c.args.disk.now setting (g.S.Server.stands c.args.server.now) (g.H.Host.held c.args.host.now) (g.H.Host.faults c.args.host.now) (g.O.Sink.written c.args.out.now) c.args.flushes.now p now in
    let IsNow : Point → Type 0 = At setting (g.S.Server.stands c.args.server.now) (g.D.Disk.time c.args.disk.now) (g.D.Disk.contents c.args.disk.now) past (g.H.Host.held c.args.host.now) (g.H.Host.faults c.args.host.now) (g.O.Sink.written c.args.out.now) c.args.flushes.now in
    exit_kept setting past past bytes [] 0 left p left_is (omega arith) status.NoMemory left IsNow _ (λ q at. at.outer) (IsRead-none setting past [] left p IsNow refl now nothing) no_memory_goes.0 no_memory_goes.1

pub reading-init : goal.reading-init
reading-init g c = record {
  read = λ p now. IsRead-none (setting_of (g.S.Server.set_to c.args.server.now)) (g.D.Disk.left_since c.args.disk.now) c.new-line.result (g.I.Source.left c.args.input.now) p _ c.new-line.ensures now
      (nothing_served g.D.Disk.time g.D.Disk.contents g.D.Disk.left_since g.met.D.Disk.since_earlier c.args.disk.now (setting_of (g.S.Server.set_to c.args.server.now)) (g.S.Server.stands c.args.server.now) (g.H.Host.held c.args.host.now) (g.H.Host.faults c.args.host.now) (g.O.Sink.written c.args.out.now) c.args.flushes.now p now);
  bytes = HasTaken-none (g.I.Source.left c.args.input.now);
  within = omega arith;
  room = c.in-Ok.ensures;
  set = refl;
  timed = adds_none (g.D.Disk.time c.args.disk.now) c.args.flushes.now;
  disk_later = omega arith;
  host_later = omega arith;
  in_steady = refl;
  out_steady = refl;
}

pub returns-in_default-read-clause-served : goal.returns-in_default-read-clause-served
returns-in_default-read-clause-served g c = λ p bytes left_is now.
    let at = c.reading in
    let setting = setting_of (g.S.Server.set_to c.args.server.now) in
    let past = g.D.Disk.left_since c.args.disk.now in
    let left = g.D.Disk.left_since at.disk in
    let first = g.I.Source.left c.args.input.now in
    let failed = rw c.in_default-read.is at c.read.ensures.bytes in
    exit_kept setting past left bytes at.line at.taken first p left_is at.invariant.within status.InFault (g.I.Source.left c.read.new.self) _ _ (λ q at. at.outer)
    (IsRead-failed setting past left at.line at.taken first (g.I.Source.left at.input) p _ (at.invariant.read p now) (g.I.Source.left c.read.new.self) failed) in_fault_goes.0 in_fault_goes.1

pub returns-then-taken-eq-MAX_INPUT-clause-served : goal.returns-then-taken-eq-MAX_INPUT-clause-served
returns-then-taken-eq-MAX_INPUT-clause-served g c = λ p bytes left_is now.
    let at = c.reading in
    let setting = setting_of (g.S.Server.set_to c.args.server.now) in
    let past = g.D.Disk.left_since c.args.disk.now in
    let left = g.D.Disk.left_since at.disk in
    let count = c.in-Ok-read.count in
    let buf = c.read.new.buf in
    let first = g.I.Source.left c.args.input.now in
    let some = c.if-count-eq0.false in
    let bound = c.in-Ok-read.ensures.bound.0 in
    let len = c.read.auto.buf in
    let part = length-take c.clamp.result c.deref_mut.result.now in
    let clamped = c.clamp.ensures in
    let most = c.if-taken-eq-MAX_INPUT.true in
    let single : count ≡ 1 = omega (arith, some, bound, len, part, clamped, most) in
    let one : length (take count buf) ≡ 1 = length-take-le count buf bound ∙ single in
    exit_long setting past left bytes at.line at.taken first p left_is at.invariant.within (take count buf) (g.I.Source.left at.input) (g.I.Source.left c.read.new.self) _ _ (λ q at. at.outer)
    (at.invariant.read p now) most c.in-Ok-read.ensures.bytes.0 one

pub returns-then-count-eq0-clause-served : goal.returns-then-count-eq0-clause-served
returns-then-count-eq0-clause-served g c = λ p bytes left_is now.
    let at = c.reading in
    let setting = setting_of (g.S.Server.set_to c.args.server.now) in
    let past = g.D.Disk.left_since c.args.disk.now in
    let mid = g.D.Disk.left_since at.disk in
    let left = g.D.Disk.left_since c.answer_last.new.disk in
    let first = g.I.Source.left c.args.input.now in
    let rest = g.I.Source.left c.read.new.self in
    let len = c.read.auto.buf in
    let part = length-take c.clamp.result c.deref_mut.result.now in
    let clamped = c.clamp.ensures in
    let room = at.invariant.room in
    let nothing : Consumes (g.I.Source.left at.input) rest [] = subst (λ (n : ℕ). Consumes (g.I.Source.left at.input) rest (take n c.read.new.buf)) c.if-count-eq0.true c.in-Ok-read.ensures.bytes.0 in
    let ends : IsAtEnd rest = c.in-Ok-read.ensures.bytes.1 c.if-count-eq0.true (let deref = c.deref_mut.ensures.len in omega (arith, len, part, clamped, room, deref)) in
    let read = IsRead-nothing setting past mid at.line at.taken first (g.I.Source.left at.input) p _ (at.invariant.read p now) rest nothing in
    let here : At (setting_of (g.S.Server.set_to at.server)) (g.S.Server.stands at.server) (g.D.Disk.time at.disk) (g.D.Disk.contents at.disk) (g.D.Disk.left_since at.disk) (g.H.Host.held at.host) (g.H.Host.faults at.host) (g.O.Sink.written at.out) at.flushes read.q = subst (λ (s : RunSettings). At (setting_of s) (g.S.Server.stands at.server) (g.D.Disk.time at.disk) (g.D.Disk.contents at.disk) (g.D.Disk.left_since at.disk) (g.H.Host.held at.host) (g.H.Host.faults at.host) (g.O.Sink.written at.out) at.flushes read.q) (sym at.invariant.set) read.now in
    let IsThere : Outer → Type 0 = IsOuter (g.D.Disk.time c.answer_last.new.disk) (g.D.Disk.contents c.answer_last.new.disk) (g.H.Host.held c.answer_last.new.host) (g.H.Host.faults c.answer_last.new.host) (g.O.Sink.written c.answer_last.new.out) c.answer_last.new.flushes in
    let said : AnswersLast setting mid left (line_of c.text.result.now) read.q IsThere c.answer_last.result = subst (λ (s : RunSettings). AnswersLast (setting_of s) mid left (line_of c.text.result.now) read.q IsThere c.answer_last.result) at.invariant.set (c.answer_last.ensures.served read.q here) in
    subst (λ (s : Status). AnswersInput setting past left s bytes rest p IsThere) (sym c.status_of.ensures)
    (exit_last setting past mid left bytes at.line at.taken first rest p left_is _ IsThere read c.answer_last.result (line_of c.text.result.now) ends at.invariant.within (ap line_of c.text.ensures) said)

pub returns-in-Err-clause-served : goal.returns-in-Err-clause-served
returns-in-Err-clause-served g c = λ p bytes left_is now.
    let at = c.reading in
    let setting = setting_of (g.S.Server.set_to c.args.server.now) in
    let past = g.D.Disk.left_since c.args.disk.now in
    let mid = g.D.Disk.left_since at.disk in
    let left = g.D.Disk.left_since c.answer_lines.new.disk in
    let first = g.I.Source.left c.args.input.now in
    let rest = g.I.Source.left c.read.new.self in
    let count = c.in-Ok-read.count in
    let buf = c.read.new.buf in
    let bound = c.in-Ok-read.ensures.bound.0 in
    let len = c.read.auto.buf in
    let part = length-take c.clamp.result c.deref_mut.result.now in
    let clamped = c.clamp.ensures in
    let fewer = c.if-taken-eq-MAX_INPUT.false in
    let before_most = at.invariant.within in
    let within : at.taken + count ≤ 16777216 = omega (arith, bound, len, part, clamped, fewer, before_most) in
    let read = at.invariant.read p now in
    let here : At (setting_of (g.S.Server.set_to at.server)) (g.S.Server.stands at.server) (g.D.Disk.time at.disk) (g.D.Disk.contents at.disk) (g.D.Disk.left_since at.disk) (g.H.Host.held at.host) (g.H.Host.faults at.host) (g.O.Sink.written at.out) at.flushes read.q = subst (λ (s : RunSettings). At (setting_of s) (g.S.Server.stands at.server) (g.D.Disk.time at.disk) (g.D.Disk.contents at.disk) (g.D.Disk.left_since at.disk) (g.H.Host.held at.host) (g.H.Host.faults at.host) (g.O.Sink.written at.out) at.flushes read.q) (sym at.invariant.set) read.now in
    let IsThere : Outer → Type 0 = IsOuter (g.D.Disk.time c.answer_lines.new.disk) (g.D.Disk.contents c.answer_lines.new.disk) (g.H.Host.held c.answer_lines.new.host) (g.H.Host.faults c.answer_lines.new.host) (g.O.Sink.written c.answer_lines.new.out) c.answer_lines.new.flushes in
    let why = c.in-Err.stop in
    let said = c.in-Err.ensures.served read.q here in
    let stopped : Stopped setting mid left (why ≡ stop.OutFault) (ended_asks at.line (take count buf)) read.q said.0 = subst (λ (s : RunSettings). Stopped (setting_of s) mid left (why ≡ stop.OutFault) (ended_asks at.line (take count buf)) read.q said.0) at.invariant.set said.2 in
    subst (λ (s : Status). AnswersInput setting past left s bytes rest p IsThere) (sym c.status_of-in-Err.ensures)
    (exit_among setting past mid left bytes at.line at.taken first (g.I.Source.left at.input) p left_is _ IsThere read why (take count buf) count rest c.in-Ok-read.ensures.bytes.0 (length-take-le count buf bound) within said.0 said.1 stopped)

pub reading-preserved : goal.reading-preserved
reading-preserved g c =
    let at = c.reading in
    let setting = setting_of (g.S.Server.set_to c.args.server.now) in
    let past = g.D.Disk.left_since c.args.disk.now in
    let mid = g.D.Disk.left_since at.disk in
    let left = g.D.Disk.left_since c.answer_lines.new.disk in
    let first = g.I.Source.left c.args.input.now in
    let rest = g.I.Source.left c.read.new.self in
    let count = c.in-Ok-read.count in
    let buf = c.read.new.buf in
    let bound = c.in-Ok-read.ensures.bound.0 in
    let len = c.read.auto.buf in
    let part = length-take c.clamp.result c.deref_mut.result.now in
    let clamped = c.clamp.ensures in
    let fewer = c.if-taken-eq-MAX_INPUT.false in
    let before_most = at.invariant.within in
    let kept = c.in_default-answer_lines.ensures.kept in
    record {
      read = λ p now.
          let read = at.invariant.read p now in
          let here : At (setting_of (g.S.Server.set_to at.server)) (g.S.Server.stands at.server) (g.D.Disk.time at.disk) (g.D.Disk.contents at.disk) (g.D.Disk.left_since at.disk) (g.H.Host.held at.host) (g.H.Host.faults at.host) (g.O.Sink.written at.out) at.flushes read.q = subst (λ (s : RunSettings). At (setting_of s) (g.S.Server.stands at.server) (g.D.Disk.time at.disk) (g.D.Disk.contents at.disk) (g.D.Disk.left_since at.disk) (g.H.Host.held at.host) (g.H.Host.faults at.host) (g.O.Sink.written at.out) at.flushes read.q) (sym at.invariant.set) read.now in
          let said = c.in_default-answer_lines.ensures.served read.q here in
          let served : Serves setting mid left (ended_asks at.line (take count buf)) read.q said.0 = subst (λ (s : RunSettings). Serves (setting_of s) mid left (ended_asks at.line (take count buf)) read.q said.0) at.invariant.set said.2 in
          let now_at : At setting (g.S.Server.stands c.answer_lines.new.server) (g.D.Disk.time c.answer_lines.new.disk) (g.D.Disk.contents c.answer_lines.new.disk) (g.D.Disk.left_since c.answer_lines.new.disk) (g.H.Host.held c.answer_lines.new.host) (g.H.Host.faults c.answer_lines.new.host) (g.O.Sink.written c.answer_lines.new.out) c.answer_lines.new.flushes said.0 = subst (λ (s : RunSettings). At (setting_of s) (g.S.Server.stands c.answer_lines.new.server) (g.D.Disk.time c.answer_lines.new.disk) (g.D.Disk.contents c.answer_lines.new.disk) (g.D.Disk.left_since c.answer_lines.new.disk) (g.H.Host.held c.answer_lines.new.host) (g.H.Host.faults c.answer_lines.new.host) (g.O.Sink.written c.answer_lines.new.out) c.answer_lines.new.flushes said.0) at.invariant.set said.1 in
          IsRead-more setting past mid at.line at.taken first (g.I.Source.left at.input) p _ read left c.answer_lines.new.line (take count buf) count rest _ said.0 now_at c.in-Ok-read.ensures.bytes.0 (length-take-le count buf bound) served kept;
      within = omega (arith, bound, len, part, clamped, fewer, before_most);
      room = at.invariant.room;
      bytes = HasTaken-more at.taken count (take count buf) first (g.I.Source.left at.input) rest at.invariant.bytes c.in-Ok-read.ensures.bytes.0 (length-take-le count buf bound);
      set = c.in_default-answer_lines.ensures.set ∙ at.invariant.set;
      timed = adds_then (g.D.Disk.time c.args.disk.now) (g.D.Disk.time at.disk) (g.D.Disk.time c.answer_lines.new.disk) c.args.flushes.now at.flushes c.answer_lines.new.flushes at.invariant.timed c.answer_lines.ensures.timed;
      disk_later = let x = at.invariant.disk_later in let y = c.in_default-answer_lines.ensures.later.0 in omega (arith, x, y);
      host_later = let x = at.invariant.host_later in let y = c.in_default-answer_lines.ensures.later.1 in omega (arith, x, y);
      in_steady = c.in-Ok-read.ensures.cause.kept ∙ at.invariant.in_steady;
      out_steady = c.in_default-answer_lines.ensures.steady (λ is. cc) ∙ at.invariant.out_steady;
    }

pub returns-then-count-eq0-clause-kinds : goal.returns-then-count-eq0-clause-kinds
returns-then-count-eq0-clause-kinds g c = subst (λ (s : Status). comes_before s ≡ false) (sym c.status_of.ensures) (end_after c.answer_last.result)

pub returns-in-Err-clause-kinds : goal.returns-in-Err-clause-kinds
returns-in-Err-clause-kinds g c = subst (λ (s : Status). comes_before s ≡ false) (sym c.status_of-in-Err.ensures) (end_after {A = ⊤} (Err c.in-Err.stop))

-- ---- what was taken, whatever is told of the store

pub returns-then-taken-eq-MAX_INPUT-clause-too_long : goal.returns-then-taken-eq-MAX_INPUT-clause-too_long
returns-then-taken-eq-MAX_INPUT-clause-too_long g c = λ is.
    let at = c.reading in
    let count = c.in-Ok-read.count in
    let buf = c.read.new.buf in
    let some = c.if-count-eq0.false in
    let bound = c.in-Ok-read.ensures.bound.0 in
    let len = c.read.auto.buf in
    let part = length-take c.clamp.result c.deref_mut.result.now in
    let clamped = c.clamp.ensures in
    let most = c.if-taken-eq-MAX_INPUT.true in
    let single : count ≡ 1 = omega (arith, some, bound, len, part, clamped, most) in
    too_many at.taken (take count buf) (g.I.Source.left c.args.input.now) (g.I.Source.left at.input) (g.I.Source.left c.read.new.self) at.invariant.bytes most c.in-Ok-read.ensures.bytes.0 (length-take-le count buf bound ∙ single)

pub returns-then-count-eq0-clause-taken : goal.returns-then-count-eq0-clause-taken
returns-then-count-eq0-clause-taken g c = λ is.
    let at = c.reading in
    let rest = g.I.Source.left c.read.new.self in
    let len = c.read.auto.buf in
    let part = length-take c.clamp.result c.deref_mut.result.now in
    let clamped = c.clamp.ensures in
    let room = at.invariant.room in
    let nothing : Consumes (g.I.Source.left at.input) rest [] = subst (λ (n : ℕ). Consumes (g.I.Source.left at.input) rest (take n c.read.new.buf)) c.if-count-eq0.true c.in-Ok-read.ensures.bytes.0 in
    let ends : IsAtEnd rest = c.in-Ok-read.ensures.bytes.1 c.if-count-eq0.true (let deref = c.deref_mut.ensures.len in omega (arith, len, part, clamped, room, deref)) in
    all_taken at.taken (g.I.Source.left c.args.input.now) (g.I.Source.left at.input) rest at.invariant.bytes at.invariant.within nothing ends

-- ---- the clock, and what was added

pub returns-in_default-clause-timed : goal.returns-in_default-clause-timed
returns-in_default-clause-timed g c = adds_none (g.D.Disk.time c.args.disk.now) c.args.flushes.now

pub returns-then-count-eq0-clause-timed : goal.returns-then-count-eq0-clause-timed
returns-then-count-eq0-clause-timed g c =
    let at = c.reading in
    adds_then (g.D.Disk.time c.args.disk.now) (g.D.Disk.time at.disk) (g.D.Disk.time c.answer_last.new.disk) c.args.flushes.now at.flushes c.answer_last.new.flushes at.invariant.timed c.answer_last.ensures.timed

pub returns-in-Err-clause-timed : goal.returns-in-Err-clause-timed
returns-in-Err-clause-timed g c =
    let at = c.reading in
    adds_then (g.D.Disk.time c.args.disk.now) (g.D.Disk.time at.disk) (g.D.Disk.time c.answer_lines.new.disk) c.args.flushes.now at.flushes c.answer_lines.new.flushes at.invariant.timed c.answer_lines.ensures.timed
