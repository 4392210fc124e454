-- The records of headers so far were read and taken.
use Rattle.std.proofs.Common.{◌≡◌, ◌≤◌, Ok, take}
use Rattle.disk_model.specs.Disk.{Quiet}
use Rattle.block_store.specs.OpenStore.{Payloads, Holds}
use Rattle.chainstates.specs.Reading.{tree_in}
use Rattle.chainstates.proofs.tree_reading.read_tree.Given as goal

abbrev pub invariant-loop-number : goal.invariant-loop-number
invariant-loop-number g l = record {
  tree : (payloads : Payloads) → Holds (g.D.Disk.contents l.fn.disk) (g.D.Disk.left_since l.fn.disk (g.D.Disk.time l.fn.disk)) l.fn.blocks payloads → tree_in l.fn.limits.headers (take l.number payloads.headers) ≡ Ok l.tree.tree;
  limit : l.tree.limit ≡ l.fn.limits.headers;
  faults : g.D.Disk.faults l.fn.disk ≤ g.D.Disk.faults l.disk;
  contents : g.D.Disk.contents l.disk ≡ g.D.Disk.contents l.fn.disk;
  quiet : Quiet g.D.Disk.time g.D.Disk.left_since l.fn.disk l.disk;
}
