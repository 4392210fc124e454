use Rattle.std.proofs.Common.{length}
use Rattle.frame_scan.specs.Search.{SameFrames, IsRest}
use Rattle.frame_scan.proofs.search.find_frame.Given as goal

abbrev pub invariant-loop-window : goal.invariant-loop-window
invariant-loop-window l = record {
  same : SameFrames l.is_end l.fn.window l.window;
  rest : IsRest l.fn.window l.window;
}

abbrev pub decreases-loop-window : goal.decreases-loop-window
decreases-loop-window l = length l.window
