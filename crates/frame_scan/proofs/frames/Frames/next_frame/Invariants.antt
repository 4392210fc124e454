use Rattle.std.proofs.Common.{◌≡◌, ◌≤◌, ◌-◌}
use Rattle.io_traits.specs.Told.{OnTold}
use Rattle.frame_scan.specs.Scan.{Advances, bytes_taken, max_file_bytes}
use Rattle.frame_scan.proofs.frames.Frames.next_frame.Given as goal

abbrev pub invariant-loop-len : goal.invariant-loop-len
invariant-loop-len g l = record {
  steps : OnTold (g.H.Host.held l.fn.host) (g.H.Host.held l.host) (Advances l.fn.self l.self);
  passed : l.fn.self.passed ≤ l.self.passed;
  count : bytes_taken l.fn.self ≤ bytes_taken l.self;
  within : bytes_taken l.self ≤ max_file_bytes;
  same_key : l.self.key ≡ l.fn.self.key;
  steady : g.H.Host.faults l.host ≡ g.H.Host.faults l.fn.host;
}

abbrev pub decreases-loop-len : goal.decreases-loop-len
decreases-loop-len g l = max_file_bytes - bytes_taken l.self
