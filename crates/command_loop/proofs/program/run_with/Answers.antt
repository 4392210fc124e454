use Rattle.std.proofs.Common.{◌≡◌, false, sym, subst, refl}
use Rattle.base_types.specs.declared.program.Status.{Status}
use Rattle.machine.specs.Answers.{needs_opening}
use Rattle.command_loop.specs.Ending.{AnswersInput}
use Rattle.command_loop.specs.Points.{Outer, IsOuter, At}
use Rattle.command_loop.specs.ServerCalls.{setting_of}
use Rattle.command_loop.specs.declared.settings.RunSettings.{RunSettings}
use Rattle.command_loop.proofs.Meeting.{fails_idle}
use Rattle.command_loop.proofs.Running.{fault_needs}
use Rattle.command_loop.proofs.Seeing.{unopened, opened}
use Rattle.command_loop.proofs.program.run_with.Goals as goal

pub returns-then-not-is_empty-clause-clauses : goal.returns-then-not-is_empty-clause-clauses
returns-then-not-is_empty-clause-clauses g c = λ run seen.
    let disk = c.args.disk.now in
    let settings = c.args.settings.now in
    unopened g.D.Disk.time g.D.Disk.contents g.D.Disk.left_since g.met.D.Disk.reads_as g.met.D.Disk.since_earlier (setting_of settings) disk disk _ _ _ _ _ run seen
    refl c.new-flushes.ensures refl (fails_idle settings.limits.headers settings.rules (g.D.Disk.left_since disk) (g.D.Disk.time disk))

pub returns-in-Err-clause-clauses : goal.returns-in-Err-clause-clauses
returns-in-Err-clause-clauses g c = λ run seen.
    unopened g.D.Disk.time g.D.Disk.contents g.D.Disk.left_since g.met.D.Disk.reads_as g.met.D.Disk.since_earlier (setting_of c.args.settings.now) c.args.disk.now c.open.new.disk _ _ _ _ _ run seen
    refl c.new-flushes.ensures (subst (λ (s : Status). needs_opening s ≡ false) (sym c.status_of_store.ensures) (fault_needs c.in-Err.fault)) (c.in-Err.ensures.err run.contents seen.contents)

pub returns-in-Ok-clause-clauses : goal.returns-in-Ok-clause-clauses
returns-in-Ok-clause-clauses g c = λ run seen.
    let settings = c.args.settings.now in
    let old = c.args.disk.now in
    let mid = c.open.new.disk in
    let said = c.answer_input-status in
    let new = said.new.disk in
    let stands = g.S.Server.stands c.in-Ok.server in
    let left_after = g.I.Source.left said.new.input in
    let IsThere : Outer → Type 0 = IsOuter (g.D.Disk.time new) (g.D.Disk.contents new) (g.H.Host.held said.new.host) (g.H.Host.faults said.new.host) (g.O.Sink.written said.new.out) said.new.flushes in
    opened g.D.Disk.time g.D.Disk.contents g.D.Disk.left_since g.met.D.Disk.reads_as g.met.D.Disk.since_earlier (setting_of settings) old new mid stands c.in-Ok.found c.clock-at.result c.new-flushes.result
    (g.I.Source.left c.args.input.now) left_after (g.O.Sink.written c.args.out.now) (g.O.Sink.written said.new.out) (g.H.Host.held c.args.host.now) (g.H.Host.held said.new.host)
    (g.H.Host.faults c.args.host.now) (g.H.Host.faults said.new.host) _ run seen (c.in-Ok.ensures.ok run.contents seen.contents) refl c.clock-at.ensures c.new-flushes.ensures said.ensures.kinds
    (λ p bytes left_is here.
    subst (λ (s : RunSettings). AnswersInput (setting_of s) (g.D.Disk.left_since mid) (g.D.Disk.left_since new) said.result bytes left_after p IsThere) c.in-Ok.ensures.set
    (said.ensures.served p bytes left_is
    (subst (λ (s : RunSettings). At (setting_of s) stands (g.D.Disk.time mid) (g.D.Disk.contents mid) (g.D.Disk.left_since mid) (g.H.Host.held c.args.host.now) (g.H.Host.faults c.args.host.now) (g.O.Sink.written c.args.out.now) c.new-flushes.result p) (sym c.in-Ok.ensures.set) here)))
    said.ensures.timed
