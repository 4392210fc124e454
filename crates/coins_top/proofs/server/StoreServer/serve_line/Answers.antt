use Rattle.std.proofs.Common.{ap, refl, sym, ◌∙◌}
use Rattle.std.specs.Prelude.{ℕ, List, Ok}
use Rattle.command_loop.specs.ServerCalls.{setting_of}
use Rattle.command_text.specs.declared.line.Line.TheVariants as line
use Rattle.store_lines.specs.Serving.{standing_of}
use Rattle.io_traits.proofs.Told.{OnTold-weaker}
use Rattle.coins_top.proofs.HostWork.{empty_served, line_served, line_stopped}
use Rattle.coins_top.proofs.Serving.{line_fails, memory_fails, serves_line, serves_still, stops_line}
use Rattle.coins_top.proofs.server.StoreServer.serve_line.Goals as goal

pub returns-in-Empty-clause-ok : goal.returns-in-Empty-clause-ok
returns-in-Empty-clause-ok g c =
    serves_still (g.D.Disk.left_since c.args.disk.now) (g.D.Disk.left_since c.args.disk.now) (g.D.Disk.time c.args.disk.now) (g.D.Disk.time c.args.disk.now) (g.D.Disk.contents c.args.disk.now) (g.D.Disk.contents c.args.disk.now)
    (g.H.Host.held c.args.host.now) (g.H.Host.held c.args.host.now) (g.H.Host.faults c.args.host.now) (g.H.Host.faults c.args.host.now) (Ok (tt {0})) c.args.flushes.now c.args.flushes.now
    (Ok c.args.line.now) (Ok line.Empty) c.args.out.now.items c.args.out.now.items (record { session = c.self.inside.session; settings = c.self.inside.settings }) c.args.self.now (ap Ok c.in-Empty.is) c.self.view_is
    (λ before state from at.
    empty_served (setting_of c.self.inside.settings) (standing_of c.self.inside.settings.limits.headers c.self.inside.session) (g.D.Disk.left_since c.args.disk.now) (g.D.Disk.time c.args.disk.now) (g.D.Disk.contents c.args.disk.now)
    (g.H.Host.held c.args.host.now) (g.H.Host.faults c.args.host.now) before state from at (λ t u m low high now. g.met.D.Disk.since_earlier c.args.disk.now t u m low high now) c.args.flushes.now c.args.out.now.items)

pub returns-in-Fold-clause-ok : goal.returns-in-Fold-clause-ok
returns-in-Fold-clause-ok g c =
    serves_still (g.D.Disk.left_since c.args.disk.now) (g.D.Disk.left_since c.args.disk.now) (g.D.Disk.time c.args.disk.now) (g.D.Disk.time c.args.disk.now) (g.D.Disk.contents c.args.disk.now) (g.D.Disk.contents c.args.disk.now)
    (g.H.Host.held c.args.host.now) (g.H.Host.held c.fold_line.new.host) (g.H.Host.faults c.args.host.now) (g.H.Host.faults c.fold_line.new.host) c.fold_line.result c.args.flushes.now c.args.flushes.now
    (Ok c.args.line.now) (Ok (line.Fold c.as_str.result.now)) c.args.out.now.items c.fold_line.new.out.items (record { session = c.self.inside.session; settings = c.self.inside.settings }) c.args.self.now (ap Ok (c.in-Fold.is ∙ ap line.Fold (sym c.as_str.ensures.text))) c.self.view_is
    (λ before state from at.
    line_served (setting_of c.self.inside.settings) (standing_of c.self.inside.settings.limits.headers c.self.inside.session) (g.D.Disk.left_since c.args.disk.now) (g.D.Disk.time c.args.disk.now) (g.D.Disk.contents c.args.disk.now) (g.H.Host.held c.args.host.now) (g.H.Host.faults c.args.host.now) before state from at
    (λ t u m low high now. g.met.D.Disk.since_earlier c.args.disk.now t u m low high now) c.args.flushes.now (Ok (line.Fold c.as_str.result.now)) (g.H.Host.held c.fold_line.new.host) (g.H.Host.faults c.fold_line.new.host) c.args.out.now.items c.fold_line.new.out.items c.fold_line.result c.fold_line.ensures.told)

pub returns-in-Fold-clause-err : goal.returns-in-Fold-clause-err
returns-in-Fold-clause-err g c =
    stops_line (g.D.Disk.left_since c.args.disk.now) (g.D.Disk.left_since c.args.disk.now) (g.D.Disk.time c.args.disk.now) (g.D.Disk.time c.args.disk.now) (g.D.Disk.contents c.args.disk.now) (g.D.Disk.contents c.args.disk.now)
    (g.H.Host.held c.args.host.now) (g.H.Host.held c.fold_line.new.host) (g.H.Host.faults c.args.host.now) (g.H.Host.faults c.fold_line.new.host) c.fold_line.result c.args.flushes.now c.args.flushes.now
    (Ok c.args.line.now) (Ok (line.Fold c.as_str.result.now)) (record { session = c.self.inside.session; settings = c.self.inside.settings }) c.args.self.now (ap Ok (c.in-Fold.is ∙ ap line.Fold (sym c.as_str.ensures.text))) c.self.view_is
    (λ before state from at.
    line_stopped (setting_of c.self.inside.settings) (standing_of c.self.inside.settings.limits.headers c.self.inside.session) (g.D.Disk.left_since c.args.disk.now) (g.D.Disk.time c.args.disk.now) (g.D.Disk.contents c.args.disk.now) (g.H.Host.held c.args.host.now) (g.H.Host.faults c.args.host.now) before state from at
    (λ t u m low high now. g.met.D.Disk.since_earlier c.args.disk.now t u m low high now) c.args.flushes.now (Ok (line.Fold c.as_str.result.now)) (g.H.Host.held c.fold_line.new.host) (g.H.Host.faults c.fold_line.new.host) c.args.out.now.items c.fold_line.new.out.items c.fold_line.result c.fold_line.ensures.told)

pub returns-in-Generate-clause-ok : goal.returns-in-Generate-clause-ok
returns-in-Generate-clause-ok g c =
    serves_still (g.D.Disk.left_since c.args.disk.now) (g.D.Disk.left_since c.args.disk.now) (g.D.Disk.time c.args.disk.now) (g.D.Disk.time c.args.disk.now) (g.D.Disk.contents c.args.disk.now) (g.D.Disk.contents c.args.disk.now)
    (g.H.Host.held c.args.host.now) (g.H.Host.held c.generate_line.new.host) (g.H.Host.faults c.args.host.now) (g.H.Host.faults c.generate_line.new.host) c.generate_line.result c.args.flushes.now c.args.flushes.now
    (Ok c.args.line.now) (Ok (line.Generate c.in-Generate.number c.in-Generate.count c.as_str-in-Generate.result.now)) c.args.out.now.items c.generate_line.new.out.items (record { session = c.self.inside.session; settings = c.self.inside.settings }) c.args.self.now (ap Ok (c.in-Generate.is ∙ ap (line.Generate c.in-Generate.number c.in-Generate.count) (sym c.as_str-in-Generate.ensures.text))) c.self.view_is
    (λ before state from at.
    line_served (setting_of c.self.inside.settings) (standing_of c.self.inside.settings.limits.headers c.self.inside.session) (g.D.Disk.left_since c.args.disk.now) (g.D.Disk.time c.args.disk.now) (g.D.Disk.contents c.args.disk.now) (g.H.Host.held c.args.host.now) (g.H.Host.faults c.args.host.now) before state from at
    (λ t u m low high now. g.met.D.Disk.since_earlier c.args.disk.now t u m low high now) c.args.flushes.now (Ok (line.Generate c.in-Generate.number c.in-Generate.count c.as_str-in-Generate.result.now)) (g.H.Host.held c.generate_line.new.host) (g.H.Host.faults c.generate_line.new.host) c.args.out.now.items c.generate_line.new.out.items c.generate_line.result (OnTold-weaker _ _ (g.H.Host.held c.args.host.now) (g.H.Host.held c.generate_line.new.host) (λ s t does. does (setting_of c.self.inside.settings)) c.generate_line.ensures.told))

pub returns-in-Generate-clause-err : goal.returns-in-Generate-clause-err
returns-in-Generate-clause-err g c =
    stops_line (g.D.Disk.left_since c.args.disk.now) (g.D.Disk.left_since c.args.disk.now) (g.D.Disk.time c.args.disk.now) (g.D.Disk.time c.args.disk.now) (g.D.Disk.contents c.args.disk.now) (g.D.Disk.contents c.args.disk.now)
    (g.H.Host.held c.args.host.now) (g.H.Host.held c.generate_line.new.host) (g.H.Host.faults c.args.host.now) (g.H.Host.faults c.generate_line.new.host) c.generate_line.result c.args.flushes.now c.args.flushes.now
    (Ok c.args.line.now) (Ok (line.Generate c.in-Generate.number c.in-Generate.count c.as_str-in-Generate.result.now)) (record { session = c.self.inside.session; settings = c.self.inside.settings }) c.args.self.now (ap Ok (c.in-Generate.is ∙ ap (line.Generate c.in-Generate.number c.in-Generate.count) (sym c.as_str-in-Generate.ensures.text))) c.self.view_is
    (λ before state from at.
    line_stopped (setting_of c.self.inside.settings) (standing_of c.self.inside.settings.limits.headers c.self.inside.session) (g.D.Disk.left_since c.args.disk.now) (g.D.Disk.time c.args.disk.now) (g.D.Disk.contents c.args.disk.now) (g.H.Host.held c.args.host.now) (g.H.Host.faults c.args.host.now) before state from at
    (λ t u m low high now. g.met.D.Disk.since_earlier c.args.disk.now t u m low high now) c.args.flushes.now (Ok (line.Generate c.in-Generate.number c.in-Generate.count c.as_str-in-Generate.result.now)) (g.H.Host.held c.generate_line.new.host) (g.H.Host.faults c.generate_line.new.host) c.args.out.now.items c.generate_line.new.out.items c.generate_line.result (OnTold-weaker _ _ (g.H.Host.held c.args.host.now) (g.H.Host.held c.generate_line.new.host) (λ s t does. does (setting_of c.self.inside.settings)) c.generate_line.ensures.told))

pub returns-in-Headers-clause-ok : goal.returns-in-Headers-clause-ok
returns-in-Headers-clause-ok g c =
    serves_line (g.D.Disk.left_since c.args.disk.now) (g.D.Disk.left_since c.headers_line.new.disk) (g.D.Disk.time c.args.disk.now) (g.D.Disk.time c.headers_line.new.disk) (g.D.Disk.contents c.args.disk.now) (g.D.Disk.contents c.headers_line.new.disk)
    (g.H.Host.held c.args.host.now) (g.H.Host.held c.headers_line.new.host) (g.H.Host.faults c.args.host.now) (g.H.Host.faults c.headers_line.new.host) c.headers_line.result c.args.flushes.now c.args.flushes.now
    (Ok c.args.line.now) (Ok (line.Headers c.as_str-in-Headers.result.now c.in-Headers.key)) (record { session = c.headers_line.new.session; settings = c.self.inside.settings }) c.args.out.now.items c.headers_line.new.out.items (record { session = c.self.inside.session; settings = c.self.inside.settings }) c.args.self.now (ap Ok (c.in-Headers.is ∙ ap (λ (name : List ℕ). line.Headers name c.in-Headers.key) (sym c.as_str-in-Headers.ensures.text))) c.self.view_is
    (λ before state from at. c.headers_line.ensures.ok (setting_of c.self.inside.settings) before state from c.args.flushes.now at c.self.invariant.rules)

pub returns-in-Headers-clause-err : goal.returns-in-Headers-clause-err
returns-in-Headers-clause-err g c =
    stops_line (g.D.Disk.left_since c.args.disk.now) (g.D.Disk.left_since c.headers_line.new.disk) (g.D.Disk.time c.args.disk.now) (g.D.Disk.time c.headers_line.new.disk) (g.D.Disk.contents c.args.disk.now) (g.D.Disk.contents c.headers_line.new.disk)
    (g.H.Host.held c.args.host.now) (g.H.Host.held c.headers_line.new.host) (g.H.Host.faults c.args.host.now) (g.H.Host.faults c.headers_line.new.host) c.headers_line.result c.args.flushes.now c.args.flushes.now
    (Ok c.args.line.now) (Ok (line.Headers c.as_str-in-Headers.result.now c.in-Headers.key)) (record { session = c.self.inside.session; settings = c.self.inside.settings }) c.args.self.now (ap Ok (c.in-Headers.is ∙ ap (λ (name : List ℕ). line.Headers name c.in-Headers.key) (sym c.as_str-in-Headers.ensures.text))) c.self.view_is
    (λ before state from at. c.headers_line.ensures.err (setting_of c.self.inside.settings) before state from c.args.flushes.now at c.self.invariant.rules)

pub returns-in-Import-clause-ok : goal.returns-in-Import-clause-ok
returns-in-Import-clause-ok g c =
    serves_line (g.D.Disk.left_since c.args.disk.now) (g.D.Disk.left_since c.import_line.new.disk) (g.D.Disk.time c.args.disk.now) (g.D.Disk.time c.import_line.new.disk) (g.D.Disk.contents c.args.disk.now) (g.D.Disk.contents c.import_line.new.disk)
    (g.H.Host.held c.args.host.now) (g.H.Host.held c.import_line.new.host) (g.H.Host.faults c.args.host.now) (g.H.Host.faults c.import_line.new.host) c.import_line.result c.args.flushes.now c.args.flushes.now
    (Ok c.args.line.now) (Ok (line.Import c.as_str-in-Import.result.now c.in-Import.key)) (record { session = c.import_line.new.session; settings = c.self.inside.settings }) c.args.out.now.items c.import_line.new.out.items (record { session = c.self.inside.session; settings = c.self.inside.settings }) c.args.self.now (ap Ok (c.in-Import.is ∙ ap (λ (name : List ℕ). line.Import name c.in-Import.key) (sym c.as_str-in-Import.ensures.text))) c.self.view_is
    (λ before state from at. c.import_line.ensures.ok (setting_of c.self.inside.settings) before state from c.args.flushes.now at c.self.invariant.rules)

pub returns-in-Import-clause-err : goal.returns-in-Import-clause-err
returns-in-Import-clause-err g c =
    stops_line (g.D.Disk.left_since c.args.disk.now) (g.D.Disk.left_since c.import_line.new.disk) (g.D.Disk.time c.args.disk.now) (g.D.Disk.time c.import_line.new.disk) (g.D.Disk.contents c.args.disk.now) (g.D.Disk.contents c.import_line.new.disk)
    (g.H.Host.held c.args.host.now) (g.H.Host.held c.import_line.new.host) (g.H.Host.faults c.args.host.now) (g.H.Host.faults c.import_line.new.host) c.import_line.result c.args.flushes.now c.args.flushes.now
    (Ok c.args.line.now) (Ok (line.Import c.as_str-in-Import.result.now c.in-Import.key)) (record { session = c.self.inside.session; settings = c.self.inside.settings }) c.args.self.now (ap Ok (c.in-Import.is ∙ ap (λ (name : List ℕ). line.Import name c.in-Import.key) (sym c.as_str-in-Import.ensures.text))) c.self.view_is
    (λ before state from at. c.import_line.ensures.err (setting_of c.self.inside.settings) before state from c.args.flushes.now at c.self.invariant.rules)

pub returns-in-Flush-clause-ok : goal.returns-in-Flush-clause-ok
returns-in-Flush-clause-ok g c =
    serves_line (g.D.Disk.left_since c.args.disk.now) (g.D.Disk.left_since c.flush_line.new.disk) (g.D.Disk.time c.args.disk.now) (g.D.Disk.time c.flush_line.new.disk) (g.D.Disk.contents c.args.disk.now) (g.D.Disk.contents c.flush_line.new.disk)
    (g.H.Host.held c.args.host.now) (g.H.Host.held c.args.host.now) (g.H.Host.faults c.args.host.now) (g.H.Host.faults c.args.host.now) c.flush_line.result c.args.flushes.now c.flush_line.new.flushes
    (Ok c.args.line.now) (Ok line.Flush) (record { session = c.flush_line.new.session; settings = c.self.inside.settings }) c.args.out.now.items c.flush_line.new.out.items (record { session = c.self.inside.session; settings = c.self.inside.settings }) c.args.self.now (ap Ok c.in-Flush.is) c.self.view_is
    (λ before state from at. c.flush_line.ensures.ok (setting_of c.self.inside.settings) before state from (g.H.Host.held c.args.host.now) (g.H.Host.faults c.args.host.now) at c.self.invariant.rules refl)

pub returns-in-Flush-clause-err : goal.returns-in-Flush-clause-err
returns-in-Flush-clause-err g c =
    stops_line (g.D.Disk.left_since c.args.disk.now) (g.D.Disk.left_since c.flush_line.new.disk) (g.D.Disk.time c.args.disk.now) (g.D.Disk.time c.flush_line.new.disk) (g.D.Disk.contents c.args.disk.now) (g.D.Disk.contents c.flush_line.new.disk)
    (g.H.Host.held c.args.host.now) (g.H.Host.held c.args.host.now) (g.H.Host.faults c.args.host.now) (g.H.Host.faults c.args.host.now) c.flush_line.result c.args.flushes.now c.flush_line.new.flushes
    (Ok c.args.line.now) (Ok line.Flush) (record { session = c.self.inside.session; settings = c.self.inside.settings }) c.args.self.now (ap Ok c.in-Flush.is) c.self.view_is
    (λ before state from at. c.flush_line.ensures.err (setting_of c.self.inside.settings) before state from (g.H.Host.held c.args.host.now) (g.H.Host.faults c.args.host.now) at c.self.invariant.rules)

pub returns-in-GetTxOut-clause-ok : goal.returns-in-GetTxOut-clause-ok
returns-in-GetTxOut-clause-ok g c =
    serves_line (g.D.Disk.left_since c.args.disk.now) (g.D.Disk.left_since c.coin_line.new.disk) (g.D.Disk.time c.args.disk.now) (g.D.Disk.time c.coin_line.new.disk) (g.D.Disk.contents c.args.disk.now) (g.D.Disk.contents c.coin_line.new.disk)
    (g.H.Host.held c.args.host.now) (g.H.Host.held c.args.host.now) (g.H.Host.faults c.args.host.now) (g.H.Host.faults c.args.host.now) c.coin_line.result c.args.flushes.now c.args.flushes.now
    (Ok c.args.line.now) (Ok (line.GetTxOut c.in-GetTxOut.key)) (record { session = c.coin_line.new.session; settings = c.self.inside.settings }) c.args.out.now.items c.coin_line.new.out.items (record { session = c.self.inside.session; settings = c.self.inside.settings }) c.args.self.now (ap Ok c.in-GetTxOut.is) c.self.view_is
    (λ before state from at. c.coin_line.ensures.ok (setting_of c.self.inside.settings) before state from (g.H.Host.held c.args.host.now) (g.H.Host.faults c.args.host.now) c.args.flushes.now at c.self.invariant.rules)

pub returns-in-GetTxOut-clause-err : goal.returns-in-GetTxOut-clause-err
returns-in-GetTxOut-clause-err g c =
    stops_line (g.D.Disk.left_since c.args.disk.now) (g.D.Disk.left_since c.coin_line.new.disk) (g.D.Disk.time c.args.disk.now) (g.D.Disk.time c.coin_line.new.disk) (g.D.Disk.contents c.args.disk.now) (g.D.Disk.contents c.coin_line.new.disk)
    (g.H.Host.held c.args.host.now) (g.H.Host.held c.args.host.now) (g.H.Host.faults c.args.host.now) (g.H.Host.faults c.args.host.now) c.coin_line.result c.args.flushes.now c.args.flushes.now
    (Ok c.args.line.now) (Ok (line.GetTxOut c.in-GetTxOut.key)) (record { session = c.self.inside.session; settings = c.self.inside.settings }) c.args.self.now (ap Ok c.in-GetTxOut.is) c.self.view_is
    (λ before state from at. c.coin_line.ensures.err (setting_of c.self.inside.settings) before state from (g.H.Host.held c.args.host.now) (g.H.Host.faults c.args.host.now) c.args.flushes.now at c.self.invariant.rules)

pub returns-in-Info-clause-ok : goal.returns-in-Info-clause-ok
returns-in-Info-clause-ok g c =
    serves_still (g.D.Disk.left_since c.args.disk.now) (g.D.Disk.left_since c.args.disk.now) (g.D.Disk.time c.args.disk.now) (g.D.Disk.time c.args.disk.now) (g.D.Disk.contents c.args.disk.now) (g.D.Disk.contents c.args.disk.now)
    (g.H.Host.held c.args.host.now) (g.H.Host.held c.args.host.now) (g.H.Host.faults c.args.host.now) (g.H.Host.faults c.args.host.now) c.info_line.result c.args.flushes.now c.args.flushes.now
    (Ok c.args.line.now) (Ok line.Info) c.args.out.now.items c.info_line.new.out.items (record { session = c.self.inside.session; settings = c.self.inside.settings }) c.args.self.now (ap Ok c.in-Info.is) c.self.view_is
    (λ before state from at. c.info_line.ensures.ok (setting_of c.self.inside.settings) before state from (g.H.Host.held c.args.host.now) (g.H.Host.faults c.args.host.now) c.args.flushes.now at)

pub returns-in-Info-clause-err : goal.returns-in-Info-clause-err
returns-in-Info-clause-err g c =
    stops_line (g.D.Disk.left_since c.args.disk.now) (g.D.Disk.left_since c.args.disk.now) (g.D.Disk.time c.args.disk.now) (g.D.Disk.time c.args.disk.now) (g.D.Disk.contents c.args.disk.now) (g.D.Disk.contents c.args.disk.now)
    (g.H.Host.held c.args.host.now) (g.H.Host.held c.args.host.now) (g.H.Host.faults c.args.host.now) (g.H.Host.faults c.args.host.now) c.info_line.result c.args.flushes.now c.args.flushes.now
    (Ok c.args.line.now) (Ok line.Info) (record { session = c.self.inside.session; settings = c.self.inside.settings }) c.args.self.now (ap Ok c.in-Info.is) c.self.view_is
    (λ before state from at. c.info_line.ensures.err (setting_of c.self.inside.settings) before state from (g.H.Host.held c.args.host.now) (g.H.Host.faults c.args.host.now) c.args.flushes.now at)

pub returns-in-Fold-clause-cause : goal.returns-in-Fold-clause-cause
returns-in-Fold-clause-cause g c = memory_fails (g.D.Disk.faults c.args.disk.now) (g.D.Disk.faults c.args.disk.now) c.fold_line.result c.fold_line.ensures.cause

pub returns-in-Generate-clause-cause : goal.returns-in-Generate-clause-cause
returns-in-Generate-clause-cause g c = memory_fails (g.D.Disk.faults c.args.disk.now) (g.D.Disk.faults c.args.disk.now) c.generate_line.result c.generate_line.ensures.cause

pub returns-in-Info-clause-cause : goal.returns-in-Info-clause-cause
returns-in-Info-clause-cause g c = memory_fails (g.D.Disk.faults c.args.disk.now) (g.D.Disk.faults c.args.disk.now) c.info_line.result c.info_line.ensures.cause

pub returns-in-Headers-clause-cause : goal.returns-in-Headers-clause-cause
returns-in-Headers-clause-cause g c = line_fails c.self.inside.session (g.D.Disk.faults c.args.disk.now) (g.D.Disk.faults c.headers_line.new.disk) c.headers_line.result c.self.invariant.files c.headers_line.ensures.cause

pub returns-in-Import-clause-cause : goal.returns-in-Import-clause-cause
returns-in-Import-clause-cause g c = line_fails c.self.inside.session (g.D.Disk.faults c.args.disk.now) (g.D.Disk.faults c.import_line.new.disk) c.import_line.result c.self.invariant.files c.import_line.ensures.cause

pub returns-in-Flush-clause-cause : goal.returns-in-Flush-clause-cause
returns-in-Flush-clause-cause g c = line_fails c.self.inside.session (g.D.Disk.faults c.args.disk.now) (g.D.Disk.faults c.flush_line.new.disk) c.flush_line.result c.self.invariant.files c.flush_line.ensures.cause

pub returns-in-GetTxOut-clause-cause : goal.returns-in-GetTxOut-clause-cause
returns-in-GetTxOut-clause-cause g c = line_fails c.self.inside.session (g.D.Disk.faults c.args.disk.now) (g.D.Disk.faults c.coin_line.new.disk) c.coin_line.result c.self.invariant.files c.coin_line.ensures.cause
