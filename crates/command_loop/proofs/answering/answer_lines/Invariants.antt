use Rattle.std.proofs.Common.{◌≡◌, ◌≤◌, length}
use Rattle.machine.specs.Work.{AddsFlushes}
use Rattle.command_loop.specs.Asks.{kept_of, last_of, pieces_behind}
use Rattle.command_loop.specs.Points.{Point, At}
use Rattle.command_loop.specs.ServerCalls.{setting_of}
use Rattle.command_loop.proofs.Lines.{IsDone}
use Rattle.command_loop.proofs.answering.answer_lines.Given as goal

abbrev pub invariant-loop-front : goal.invariant-loop-front
invariant-loop-front g l = record {
  done : (p : Point) → At (setting_of (g.S.Server.set_to l.fn.server)) (g.S.Server.stands l.fn.server) (g.D.Disk.time l.fn.disk) (g.D.Disk.contents l.fn.disk) (g.D.Disk.left_since l.fn.disk) (g.H.Host.held l.fn.host) (g.H.Host.faults l.fn.host) (g.O.Sink.written l.fn.out) l.fn.flushes p
      → IsDone (setting_of (g.S.Server.set_to l.fn.server)) (g.D.Disk.left_since l.fn.disk) (g.D.Disk.left_since l.disk) l.fn.line l.fn.bytes l.line l.rest p
      (At (setting_of (g.S.Server.set_to l.fn.server)) (g.S.Server.stands l.server) (g.D.Disk.time l.disk) (g.D.Disk.contents l.disk) (g.D.Disk.left_since l.disk) (g.H.Host.held l.host) (g.H.Host.faults l.host) (g.O.Sink.written l.out) l.flushes);
  last_kept : kept_of (last_of (pieces_behind l.fn.line l.fn.bytes)) ≡ kept_of (last_of (pieces_behind l.line l.rest));
  set : g.S.Server.set_to l.server ≡ g.S.Server.set_to l.fn.server;
  timed : AddsFlushes (g.D.Disk.time l.fn.disk) (g.D.Disk.time l.disk) l.fn.flushes l.flushes;
  disk_later : g.D.Disk.faults l.fn.disk ≤ g.D.Disk.faults l.disk;
  host_later : g.H.Host.faults l.fn.host ≤ g.H.Host.faults l.host;
  steady : g.O.Sink.faults l.out ≡ g.O.Sink.faults l.fn.out;
}

abbrev pub decreases-loop-front : goal.decreases-loop-front
decreases-loop-front g l = length l.rest
