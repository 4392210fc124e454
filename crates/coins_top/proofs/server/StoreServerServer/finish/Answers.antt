use Rattle.std.proofs.Common.{refl}
use Rattle.std.specs.Prelude.{Some, None}
use Rattle.command_loop.specs.ServerCalls.{setting_of}
use Rattle.coins_top.proofs.Serving.{end_does, serves_seen, stops_seen}
use Rattle.coins_top.proofs.server.StoreServerServer.finish.Goals as goal

pub returns-clause-ok : goal.returns-clause-ok
returns-clause-ok g c before state from held faults at =
    serves_seen (g.D.Disk.left_since c.args.disk.now) (g.D.Disk.left_since c.flush_line.new.disk) (g.D.Disk.time c.args.disk.now) (g.D.Disk.time c.flush_line.new.disk) (g.D.Disk.contents c.args.disk.now) (g.D.Disk.contents c.flush_line.new.disk)
    (Some held) (Some held) faults faults c.flush_line.result c.args.flushes.now c.flush_line.new.flushes end_does (record { session = c.flush_line.new.session; settings = c.self.inside.settings }) c.args.out.now.items c.flush_line.new.out.items
    (record { session = c.self.inside.session; settings = c.self.inside.settings }) c.args.self.now c.self.view_is
    (λ before state from at. c.flush_line.ensures.ok (setting_of c.self.inside.settings) before state from (Some held) faults at c.self.invariant.rules refl) before state from at

pub returns-clause-err : goal.returns-clause-err
returns-clause-err g c before state from held faults at =
    stops_seen (g.D.Disk.left_since c.args.disk.now) (g.D.Disk.left_since c.flush_line.new.disk) (g.D.Disk.time c.args.disk.now) (g.D.Disk.time c.flush_line.new.disk) (g.D.Disk.contents c.args.disk.now) (g.D.Disk.contents c.flush_line.new.disk)
    (Some held) (Some held) faults faults c.flush_line.result c.args.flushes.now c.flush_line.new.flushes end_does None
    (record { session = c.self.inside.session; settings = c.self.inside.settings }) c.args.self.now c.self.view_is
    (λ before state from at. c.flush_line.ensures.err (setting_of c.self.inside.settings) before state from (Some held) faults at c.self.invariant.rules) before state from at
