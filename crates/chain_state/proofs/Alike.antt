-- Where a disk is only read, and where the machine stands alike.
use Rattle.std.proofs.Common.{◌≡◌, ◌⊎◌, ⊎_elim, inl, inr, ℕ, List, Option, Some, None, sym, ap, ◌∙◌, le_refl}
use Rattle.std.specs.FinMap.{contains_key, get}
use Rattle.std.specs.List.{list_any}
use Rattle.std.proofs.lemmas.Option.{none-some}
use Rattle.disk_model.specs.Disk.{Image, Quiet}
use Rattle.disk_model.proofs.Moments.{IsSinceEarlier}
use Rattle.base_types.specs.declared.hash.Hash32.{Hash32}
use Rattle.batch_log.proofs.CallerLemmas.{quiet_stands}
use Rattle.block_codec.specs.Text.{same_hash}
use Rattle.block_store.specs.OpenStore.{OpenStore}
use Rattle.block_store.proofs.StoreLaws.{quiet_holds}
use Rattle.chain_model.specs.Choice.{Bodies, is_at_or_below}
use Rattle.chain_model.specs.Tree.{Tree}
use Rattle.chain_state.specs.Waiting.{AreWaiting, IsOpenBlock}
use Rattle.chain_state.specs.declared.waiting.Waiting.{Waiting}
use Rattle.coin_store.specs.Store.{texts}
use Rattle.coin_store.specs.declared.store.CoinStore.{CoinStore}
use Rattle.machine.specs.State.{State}
use Rattle.store_state.specs.State.{StoreState}
use Rattle.store_writes.specs.OnDisk.{OnDisk}

-- the files of a store stand as they did, where the disk was only read
pub on_quiet : {D : Type 0} (time : D → ℕ) (left : D → ℕ → Image → Type 0) (contents : D → Option Image) → IsSinceEarlier time left → ((disk : D) (m : Image) → contents disk ≡ Some m → left disk (time disk) m)
    → (old new : D) → Quiet time left old new → contents new ≡ contents old → (limit : ℕ) (blocks : OpenStore) (coins : CoinStore) (store : StoreState)
    → OnDisk limit (contents old) (left old (time old)) blocks coins store → OnDisk limit (contents new) (left new (time new)) blocks coins store
on_quiet time left contents earlier reads_as old new quiet same limit blocks coins store on =
    let told = same ∙ on.told in
    record {
      image = on.image;
      told = told;
      is_open = record {
        reads = reads_as new on.image told;
        all = λ c now. on.is_open.all c (quiet.since (time old) c (le_refl (time old)) (earlier new (time old) (time new) c quiet.later (le_refl (time new)) now));
      };
      payloads = on.payloads;
      batches = on.batches;
      block_files = quiet_holds time left contents earlier old new quiet same blocks on.payloads on.block_files;
      coin_rows = record {
        knows = on.coin_rows.knows;
        stands = quiet_stands time left contents earlier old new quiet same coins.log (texts coins.mask on.batches) on.coin_rows.stands;
        base_stands = λ file is. absurd (none-some file (sym on.no_base ∙ is));
        apart = on.coin_rows.apart;
      };
      file = on.file;
      mask = on.mask;
      no_base = on.no_base;
    }

-- what waits hangs on the tree, the bodies, the refused blocks and the tip alone
open_alike : (a b : State) → b.tree ≡ a.tree → b.bodies ≡ a.bodies → b.active.refused ≡ a.active.refused → (parent hash : Hash32) → IsOpenBlock a parent hash → IsOpenBlock b parent hash
open_alike a b tree bodies refused parent hash is = record {
  header = is.header;
  known = ap (λ (t : Tree). get t.headers hash) tree ∙ is.known;
  above = is.above;
  stored = ap (λ (s : Bodies). contains_key s hash) bodies ∙ is.stored;
  open_still = ap (λ (l : List Hash32). list_any (same_hash hash) l) refused ∙ is.open_still;
}

pub waiting_alike : (waiting : Waiting) (a b : State) → b.tree ≡ a.tree → b.bodies ≡ a.bodies → b.active.refused ≡ a.active.refused → b.active.tip ≡ a.active.tip → AreWaiting waiting a → AreWaiting waiting b
waiting_alike waiting a b tree bodies refused tip are = record {
  only = λ parent hash is. open_alike a b tree bodies refused parent hash (are.only parent hash is);
  all = λ parent hash is. ⊎_elim
      (λ below. inl (ap (λ (t : Tree). is_at_or_below t.headers hash b.active.tip) tree ∙ ap (is_at_or_below a.tree.headers hash) tip ∙ below))
      (λ waits. inr waits)
      (are.all parent hash (open_alike b a (sym tree) (sym bodies) (sym refused) parent hash is));
  refused = λ hash is. ap (λ (s : Bodies). contains_key s hash) bodies ∙ are.refused hash (ap (λ (l : List Hash32). list_any (same_hash hash) l) (sym refused) ∙ is);
}
