use Rattle.std.proofs.Common.{◌≡◌, ◌≤◌, ◌-◌, vec_len}
use Rattle.machine.specs.Work.{AddsFlushes}
use Rattle.command_loop.specs.Points.{Point, At}
use Rattle.command_loop.specs.ServerCalls.{setting_of}
use Rattle.command_loop.proofs.Running.{IsRead, HasTaken}
use Rattle.command_loop.proofs.program.answer_input.Given as goal

abbrev pub invariant-reading : goal.invariant-reading
invariant-reading g l = record {
  read : (p : Point) → At (setting_of (g.S.Server.set_to l.fn.server)) (g.S.Server.stands l.fn.server) (g.D.Disk.time l.fn.disk) (g.D.Disk.contents l.fn.disk) (g.D.Disk.left_since l.fn.disk) (g.H.Host.held l.fn.host) (g.H.Host.faults l.fn.host) (g.O.Sink.written l.fn.out) l.fn.flushes p
      → IsRead (setting_of (g.S.Server.set_to l.fn.server)) (g.D.Disk.left_since l.fn.disk) (g.D.Disk.left_since l.disk) l.line l.taken (g.I.Source.left l.fn.input) (g.I.Source.left l.input) p
      (At (setting_of (g.S.Server.set_to l.fn.server)) (g.S.Server.stands l.server) (g.D.Disk.time l.disk) (g.D.Disk.contents l.disk) (g.D.Disk.left_since l.disk) (g.H.Host.held l.host) (g.H.Host.faults l.host) (g.O.Sink.written l.out) l.flushes);
  bytes : HasTaken l.taken (g.I.Source.left l.fn.input) (g.I.Source.left l.input);
  within : l.taken ≤ 16777216;
  room : vec_len l.room ≡ 65536;
  set : g.S.Server.set_to l.server ≡ g.S.Server.set_to l.fn.server;
  timed : AddsFlushes (g.D.Disk.time l.fn.disk) (g.D.Disk.time l.disk) l.fn.flushes l.flushes;
  disk_later : g.D.Disk.faults l.fn.disk ≤ g.D.Disk.faults l.disk;
  host_later : g.H.Host.faults l.fn.host ≤ g.H.Host.faults l.host;
  in_steady : g.I.Source.faults l.input ≡ g.I.Source.faults l.fn.input;
  out_steady : g.O.Sink.faults l.out ≡ g.O.Sink.faults l.fn.out;
}

abbrev pub decreases-reading : goal.decreases-reading
decreases-reading g l = 16777217 - l.taken
