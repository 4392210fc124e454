-- Over calls that change nothing a chainstate stands as before.
use Rattle.std.proofs.Common.{◌≡◌, ℕ, Option, Some}
use Rattle.chain_state.specs.Standing.{IsStanding}
use Rattle.chain_state.specs.declared.state.ChainState.{ChainState}
use Rattle.chain_state.specs.declared.state.Shared.{Shared}
use Rattle.chain_state.proofs.Alike.{on_quiet}
use Rattle.disk_model.specs.Disk.{Image, Quiet}
use Rattle.disk_model.proofs.Moments.{IsSinceEarlier}
use Rattle.machine.specs.State.{State}
use Rattle.store_state.specs.State.{StoreState}

module _ {D : Type 0} (time : D → ℕ) (left : D → ℕ → Image → Type 0) (contents : D → Option Image) (earlier : IsSinceEarlier time left) (reads_as : (d : D) (m : Image) → contents d ≡ Some m → left d (time d) m)
    (old new : D) (quiet : Quiet time left old new) (same : contents new ≡ contents old) (limit : ℕ) where
  pub stands_still : (shared : Shared) (chain : ChainState) (state : State) (store : StoreState) → IsStanding limit (contents old) (left old (time old)) shared chain state store
      → IsStanding limit (contents new) (left new (time new)) shared chain state store
  stands_still shared chain state store s = record {
    files = on_quiet time left contents earlier reads_as old new quiet same limit shared.blocks chain.store store s.files;
    headers = s.headers;
    most = s.most;
    grown = s.grown;
    tree = s.tree;
    bodies = s.bodies;
    start = s.start;
    start_coins = s.start_coins;
    begun = s.begun;
    kept = s.kept;
    tip = s.tip;
    role = s.role;
    coins = s.coins;
  }
