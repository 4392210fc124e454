-- The chainstate is on its way, with a trial less left at each step.
use Rattle.std.proofs.Common.{◌≡◌, ◌≤◌, ◌-◌, ℕ, Some}
use Rattle.std.specs.FinMap.{get, len}
use Rattle.block_codec.specs.Text.{hash_of_header}
use Rattle.chain_state.specs.Standing.{IsStanding}
use Rattle.disk_model.specs.Disk.{Quiet}
use Rattle.machine.specs.State.{State}
use Rattle.reorg.proofs.Tried.{IsOnWay}
use Rattle.store_state.specs.Settled.{IsSettled}
use Rattle.store_state.specs.State.{StoreState}
use Rattle.reorg.proofs.forward.advance.Given as goal

abbrev pub invariant-loop-step : goal.invariant-loop-step
invariant-loop-step g l = record {
  way : (limit : ℕ) (state : State) (store : StoreState)
      → IsStanding limit (g.D.Disk.contents l.fn.disk) (g.D.Disk.left_since l.fn.disk (g.D.Disk.time l.fn.disk)) l.fn.shared l.fn.chain state store → IsSettled store
      → get state.bodies (hash_of_header l.fn.stored.header) ≡ Some l.fn.stored
      → IsOnWay limit (g.D.Disk.contents l.disk) (g.D.Disk.left_since l.disk (g.D.Disk.time l.disk)) l.fn.shared l.chain state store l.refusals (len l.fn.shared.tree.tree.headers - l._step);
  faults : g.D.Disk.faults l.fn.disk ≤ g.D.Disk.faults l.disk;
  contents : g.D.Disk.contents l.disk ≡ g.D.Disk.contents l.fn.disk;
  quiet : Quiet g.D.Disk.time g.D.Disk.left_since l.fn.disk l.disk;
  file : l.chain.store ≡ l.fn.chain.store;
}
