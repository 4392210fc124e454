use Rattle.command_loop.specs.ServerCalls.{setting_of}
use Rattle.command_text.specs.Lines.{line_of}
use Rattle.store_lines.specs.Serving.{standing_of}
use Rattle.coins_top.proofs.HostWork.{nothing_said, refusal_said}
use Rattle.coins_top.proofs.Serving.{ends_caused}
use Rattle.coins_top.proofs.server.StoreServerServer.serve.Goals as goal

pub returns-in-Ok-clause-caused : goal.returns-in-Ok-clause-caused
returns-in-Ok-clause-caused g c contents told =
    ends_caused c.args.self.now.settings (g.D.Disk.faults c.args.disk.now) (g.D.Disk.faults c.serve_line.new.disk) c.serve_line.result contents c.serve_line.ensures.cause

pub returns-in-Err-clause-ok : goal.returns-in-Err-clause-ok
returns-in-Err-clause-ok g c before state from at =
    refusal_said (setting_of c.args.self.now.settings) (standing_of c.args.self.now.settings.limits.headers c.args.self.now.session) (g.D.Disk.left_since c.args.disk.now) (g.D.Disk.time c.args.disk.now) (g.D.Disk.contents c.args.disk.now)
    (g.H.Host.held c.args.host.now) (g.H.Host.faults c.args.host.now) before state from at (λ t u m low high now. g.met.D.Disk.since_earlier c.args.disk.now t u m low high now) c.args.flushes.now
    c.args.text.now c.in-Err.fault c.args.out.now.items c.refuse.new.out.items c.refuse.result c.in-Err.ensures c.refuse.ensures.ok

pub returns-in-Err-clause-err : goal.returns-in-Err-clause-err
returns-in-Err-clause-err g c before state from at =
    nothing_said (setting_of c.args.self.now.settings) (standing_of c.args.self.now.settings.limits.headers c.args.self.now.session) (g.D.Disk.left_since c.args.disk.now) (g.D.Disk.time c.args.disk.now) (g.D.Disk.contents c.args.disk.now)
    (g.H.Host.held c.args.host.now) (g.H.Host.faults c.args.host.now) before state from at (λ t u m low high now. g.met.D.Disk.since_earlier c.args.disk.now t u m low high now) c.args.flushes.now (line_of c.args.text.now) c.refuse.result
