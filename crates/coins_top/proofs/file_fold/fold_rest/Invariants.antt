use Rattle.std.proofs.Common.{◌≡◌, ◌+◌, ◌-◌}
use Rattle.io_traits.specs.Told.{OnTold}
use Rattle.frame_scan.specs.Scan.{max_file_bytes}
use Rattle.coins_top.proofs.FoldingFiles.{Going}
use Rattle.coins_top.proofs.file_fold.fold_rest.Given as goal

abbrev pub invariant-loop-block : goal.invariant-loop-block
invariant-loop-block g l = record {
  going : OnTold (g.H.Host.held l.fn.host) (g.H.Host.held l.host) (Going l.fn.folding.limit l.fn.folding.folded l.folding.folded l.fn.frames l.frames);
  limit : l.folding.limit ≡ l.fn.folding.limit;
  steady : g.H.Host.faults l.host ≡ g.H.Host.faults l.fn.host;
}

abbrev pub decreases-loop-block : goal.decreases-loop-block
decreases-loop-block g l = max_file_bytes + 1 - l.frames.passed
