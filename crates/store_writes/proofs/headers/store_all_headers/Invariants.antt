-- The payloads so far are stored.
use Rattle.std.proofs.Common.{◌≡◌, ◌≤◌, ℕ, length, Some}
use Rattle.chain_model.specs.HeaderRules.{tree_with}
use Rattle.chain_model.specs.Tree.{Tree}
use Rattle.coin_store.specs.declared.store.CoinStore.{CoinStore}
use Rattle.store_state.specs.State.{StoreState}
use Rattle.store_writes.specs.OnDisk.{OnDisk}
use Rattle.store_writes.specs.Written.{SameFiles}
use Rattle.store_writes.proofs.Chunks.{SoFar}
use Rattle.store_writes.proofs.headers.store_all_headers.Given as goal

abbrev pub invariant-loop-rest : goal.invariant-loop-rest
invariant-loop-rest g l = record {
  so_far : (limit : ℕ) (coins : CoinStore) (store : StoreState) (tree : Tree) → OnDisk limit (g.D.Disk.contents l.fn.disk) (g.D.Disk.left_since l.fn.disk (g.D.Disk.time l.fn.disk)) l.fn.blocks coins store → tree_with limit store.tree l.headers ≡ Some tree
      → SoFar limit (g.D.Disk.left_since l.fn.disk) (g.D.Disk.left_since l.disk) (g.D.Disk.time l.fn.disk) (g.D.Disk.time l.disk) (g.D.Disk.contents l.fn.disk) (g.D.Disk.contents l.disk) store l.headers l.rest l.blocks coins tree;
  files : SameFiles l.fn.blocks l.blocks;
  later : g.D.Disk.time l.fn.disk ≤ g.D.Disk.time l.disk;
  faults : g.D.Disk.faults l.fn.disk ≤ g.D.Disk.faults l.disk;
  read : g.D.Disk.bytes_read l.disk ≡ g.D.Disk.bytes_read l.fn.disk;
}

abbrev pub decreases-loop-rest : goal.decreases-loop-rest
decreases-loop-rest g l = length l.rest
