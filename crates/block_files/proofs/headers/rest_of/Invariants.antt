use Rattle.std.proofs.Common.{◌≡◌, ◌+◌, ◌-◌}
use Rattle.io_traits.specs.Told.{OnTold}
use Rattle.frame_scan.specs.Scan.{max_file_bytes}
use Rattle.block_files.proofs.Passing.{Going}
use Rattle.block_files.proofs.headers.rest_of.Given as goal

abbrev pub invariant-loop-headers : goal.invariant-loop-headers
invariant-loop-headers g l = record {
  going : OnTold (g.H.Host.held l.fn.host) (g.H.Host.held l.host) (Going l.fn.frames l.frames l.headers);
  steady : g.H.Host.faults l.host ≡ g.H.Host.faults l.fn.host;
}

abbrev pub decreases-loop-headers : goal.decreases-loop-headers
decreases-loop-headers g l = max_file_bytes + 1 - l.frames.passed
