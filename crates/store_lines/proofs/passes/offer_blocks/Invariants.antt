-- The blocks so far were offered.
use Rattle.std.proofs.Common.{◌≡◌, ◌≤◌, ◌+◌, ◌-◌, ℕ, Some}
use Rattle.block_files.specs.Passes.{Goes}
use Rattle.chainstates.specs.Offers.{Stands}
use Rattle.chainstates.specs.Standing.{KeepsFiles, KeepsSettings}
use Rattle.frame_scan.specs.Scan.{frames_left, max_file_bytes}
use Rattle.io_traits.specs.Host.{Held}
use Rattle.io_traits.specs.Told.{OnTold}
use Rattle.machine.specs.State.{State}
use Rattle.store_lines.proofs.PassSteps.{Passing}
use Rattle.store_state.specs.Settled.{IsSettled}
use Rattle.store_state.specs.State.{StoreState}
use Rattle.store_lines.proofs.passes.offer_blocks.Given as goal

abbrev pub invariant-loop-block : goal.invariant-loop-block
invariant-loop-block g l = record {
  done : (limit : ℕ) (state : State) (store : StoreState) (held : Held) → g.H.Host.held l.fn.host ≡ Some held
      → Stands limit (g.D.Disk.contents l.fn.disk) (g.D.Disk.left_since l.fn.disk (g.D.Disk.time l.fn.disk)) l.fn.session state store → IsSettled store
      → Passing limit (g.D.Disk.left_since l.fn.disk) (g.D.Disk.left_since l.disk) (g.D.Disk.time l.fn.disk) (g.D.Disk.time l.disk) (g.D.Disk.contents l.fn.disk) (g.D.Disk.contents l.disk) l.session state store l.fn.out.items l.out.items
      (frames_left l.fn.frames held) (g.H.Host.held l.host) l.frames l.bodies;
  going : OnTold (g.H.Host.held l.fn.host) (g.H.Host.held l.host) (Goes l.fn.frames l.frames);
  counted : l.bodies ≤ l.frames.passed;
  later : g.D.Disk.time l.fn.disk ≤ g.D.Disk.time l.disk;
  disk_faults : g.D.Disk.faults l.fn.disk ≤ g.D.Disk.faults l.disk;
  host_faults : g.H.Host.faults l.fn.host ≤ g.H.Host.faults l.host;
  set : KeepsSettings l.fn.session l.session;
  files : KeepsFiles l.fn.session l.session;
}

abbrev pub decreases-loop-block : goal.decreases-loop-block
decreases-loop-block g l = max_file_bytes + 1 - l.frames.passed
