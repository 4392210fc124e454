-- What the images of an open store have, and what the store then is.
use Rattle.std.proofs.Common.{◌≡◌, ◌⊎◌, inl, inr, ⊎_elim, ℕ, ◌&&◌, Bool, true, false, List, [], ◌∷◌, ◌++◌, Option, Some, None, Ok, refl, sym, ap, subst, ◌∙◌, cond}
use Rattle.std.specs.Prelude.{Result}
use Rattle.std.specs.List.{list_all}
use Rattle.std.specs.Option.{option_and_then}
use Rattle.std.specs.Result.{result_ok}
use Rattle.chain_model.specs.Apply.{replayed}
use Rattle.std.specs.FinMap.{get, empty}
use Rattle.std.proofs.lemmas.Option.{none-some}
use Rattle.disk_model.specs.Disk.{Image, At}
use Rattle.batch_log.specs.Records.{log, EndsClosed, WithOrWithout}
use Rattle.batch_log.proofs.RecordLaws.{log_closed}
use Rattle.base_types.specs.Coins.{Coins}
use Rattle.base_types.specs.declared.hash.Hash32.{Hash32}
use Rattle.block_codec.specs.Genesis.{genesis_hash}
use Rattle.block_codec.specs.declared.block.Block.{Block}
use Rattle.block_store.specs.OpenStore.{OpenStore, Payloads, Holds}
use Rattle.chain_model.specs.Choice.{blocks_of, coins_at, is_at_or_below}
use Rattle.chain_model.specs.Tree.{path}
use Rattle.chain_model.proofs.Replays.{on_chain_known, first_and_rest}
use Rattle.chain_model.proofs.Trees.{is_rooted}
use Rattle.coin_store.specs.Batches.{Batch}
use Rattle.coin_store.specs.Store as coins
use Rattle.coin_store.specs.Store.{texts}
use Rattle.coin_store.specs.declared.store.CoinStore.{CoinStore}
use Rattle.store_state.specs.State.{StoreState, StoredBody, Chainstate, header_file, body_file, coin_file, first_key, first_rules, choice_of, blocks_in, has_record, is_in, is_reached}
use Rattle.store_state.proofs.Appending.{Logs, HasLogs, IsRead, is_read, tree_is_read}
use Rattle.store_state.proofs.Settling.{no_block}
use Rattle.store_writes.specs.OnDisk.{OnDisk}

abbrev pub logs_of : Payloads → List Batch → Logs
logs_of payloads batches = record { headers = payloads.headers; bodies = payloads.bodies; coins = texts first_key batches }

-- a log of one file under another number for it
at_file : (payloads : List (List ℕ)) (c : Image) (file other : ℕ) → file ≡ other → EndsClosed payloads (c file) → log (c other) ≡ Ok payloads
at_file payloads c file other same closed = log_closed payloads (c other) (subst (λ (f : ℕ). EndsClosed payloads (c f)) same closed)

same_ok : {A E : Type 0} (a b : A) → (let x : Result A E = Ok a in x) ≡ Ok b → a ≡ b
same_ok a b e = cc

same_logs : (c : Image) (a b : Logs) → HasLogs c a → HasLogs c b → a ≡ b
same_logs c a b first second =
    let headers = same_ok a.headers b.headers (sym first.headers ∙ second.headers) in
    let bodies = same_ok a.bodies b.bodies (sym first.bodies ∙ second.bodies) in
    let coins = same_ok a.coins b.coins (sym first.coins ∙ second.coins) in
    λ i. record { headers = headers i; bodies = bodies i; coins = coins i }

-- what the open files know is in each image
pub holds_logs : (contents : Option Image) (images : Image → Type 0) (open_blocks : OpenStore) (open_coins : CoinStore) (payloads : Payloads) (batches : List Batch) → Holds contents images open_blocks payloads
    → coins.Holds contents images open_coins [] batches → open_coins.log.file ≡ coin_file → open_coins.mask ≡ first_key → (c : Image) → images c → HasLogs c (logs_of payloads batches)
holds_logs contents images open_blocks open_coins payloads batches blocks rows file mask c now = record {
  headers = at_file payloads.headers c open_blocks.headers.file header_file blocks.header_file (blocks.headers.holds.outcomes c now);
  bodies = at_file payloads.bodies c open_blocks.bodies.file body_file blocks.body_file (blocks.bodies.holds.outcomes c now);
  coins =
      subst (λ (key : List ℕ). log (c coin_file) ≡ Ok (texts key batches)) mask
      (at_file (texts open_coins.mask batches) c open_coins.log.file coin_file file (rows.stands.holds.outcomes c now));
}

module _ (limit : ℕ) (contents : Option Image) (images : Image → Type 0) (open_blocks : OpenStore) (open_coins : CoinStore) (store : StoreState)
    (on : OnDisk limit contents images open_blocks open_coins store) where
  pub each_has : (c : Image) → images c → HasLogs c (logs_of on.payloads on.batches)
  each_has c now = holds_logs contents images open_blocks open_coins on.payloads on.batches on.block_files on.coin_rows on.file on.mask c now

  pub all_read : IsRead limit first_rules (logs_of on.payloads on.batches) store
  all_read =
      let read = is_read limit first_rules on.image store (on.is_open.all on.image on.is_open.reads) in
      subst (λ (l : Logs). IsRead limit first_rules l store) (same_logs on.image read.0 (logs_of on.payloads on.batches) read.1 (each_has on.image on.is_open.reads)) read.2

-- ---- images after a step of one file

-- the logs with a payload of that file or without
module _ (e c : Image) (logs : Logs) (has : HasLogs e logs) where
  pub headers_step : (payload : List ℕ) → At header_file (WithOrWithout logs.headers payload) e c → HasLogs c logs ⊎ HasLogs c (record logs { headers = logs.headers ++ payload ∷ [] })
  headers_step payload step =
      let bodies = ap log (step.others body_file (λ same. absurd cc)) ∙ has.bodies in
      let coins = ap log (step.others coin_file (λ same. absurd cc)) ∙ has.coins in
      ⊎_elim
      (λ (old : EndsClosed logs.headers (c header_file)). inl (record { headers = log_closed logs.headers (c header_file) old; bodies = bodies; coins = coins }))
      (λ (new : EndsClosed (logs.headers ++ payload ∷ []) (c header_file)). inr (record { headers = log_closed (logs.headers ++ payload ∷ []) (c header_file) new; bodies = bodies; coins = coins }))
      step.here

  pub bodies_step : (payload : List ℕ) → At body_file (WithOrWithout logs.bodies payload) e c → HasLogs c logs ⊎ HasLogs c (record logs { bodies = logs.bodies ++ payload ∷ [] })
  bodies_step payload step =
      let headers = ap log (step.others header_file (λ same. absurd cc)) ∙ has.headers in
      let coins = ap log (step.others coin_file (λ same. absurd cc)) ∙ has.coins in
      ⊎_elim
      (λ (old : EndsClosed logs.bodies (c body_file)). inl (record { headers = headers; bodies = log_closed logs.bodies (c body_file) old; coins = coins }))
      (λ (new : EndsClosed (logs.bodies ++ payload ∷ []) (c body_file)). inr (record { headers = headers; bodies = log_closed (logs.bodies ++ payload ∷ []) (c body_file) new; coins = coins }))
      step.here

  pub coins_step : (payload : List ℕ) → At coin_file (WithOrWithout logs.coins payload) e c → HasLogs c logs ⊎ HasLogs c (record logs { coins = logs.coins ++ payload ∷ [] })
  coins_step payload step =
      let headers = ap log (step.others header_file (λ same. absurd cc)) ∙ has.headers in
      let bodies = ap log (step.others body_file (λ same. absurd cc)) ∙ has.bodies in
      ⊎_elim
      (λ (old : EndsClosed logs.coins (c coin_file)). inl (record { headers = headers; bodies = bodies; coins = log_closed logs.coins (c coin_file) old }))
      (λ (new : EndsClosed (logs.coins ++ payload ∷ []) (c coin_file)). inr (record { headers = headers; bodies = bodies; coins = log_closed (logs.coins ++ payload ∷ []) (c coin_file) new }))
      step.here

-- ---- a tip with coins is reached

stored_record : (bodies : List StoredBody) (hash : Hash32) (block : Block) → get (blocks_in empty bodies) hash ≡ Some block → has_record bodies hash ≡ true
stored_record bodies hash block found = go (has_record bodies hash) refl
  where
    go : (b : Bool) → has_record bodies hash ≡ b → has_record bodies hash ≡ true
    go true is = is
    go false is = absurd (none-some block (sym (no_block bodies hash is) ∙ found))

all_stored : (bodies : List StoredBody) (hashes : List Hash32) (blocks : List Block) → blocks_of (blocks_in empty bodies) hashes ≡ Some blocks → list_all (has_record bodies) hashes ≡ true
all_stored bodies [] blocks e = refl
all_stored bodies (hash ∷ hashes) blocks e =
    let parts = first_and_rest (get (blocks_in empty bodies) hash) (blocks_of (blocks_in empty bodies) hashes) blocks e in
    ap (λ (b : Bool). b && list_all (has_record bodies) hashes) (stored_record bodies hash parts.0 parts.2) ∙ all_stored bodies hashes parts.1 parts.3

pub record IsReached (store : StoreState) (tip : Hash32) : Type 0 where
  pub known : is_in store.tree tip ≡ true
  pub reached : is_reached store.tree store.bodies genesis_hash tip ≡ true

pub tip_reached : (limit : ℕ) (logs : Logs) (store : StoreState) (tip : Hash32) (coins : Coins) → IsRead limit first_rules logs store → coins_at (choice_of store store.active) tip ≡ Some coins → IsReached store tip
tip_reached limit logs store tip coins read replay =
    split (is_at_or_below store.tree.headers store.active.start tip) refl replay
  where
    replayed_from : Option (List Block) → Option Coins
    replayed_from o = option_and_then (λ blocks. result_ok (replayed store.tree store.active.start_coins blocks)) o

    start : store.active.start ≡ genesis_hash
    start = ap (λ (chain : Chainstate). chain.start) read.active

    split : (b : Bool) → is_at_or_below store.tree.headers store.active.start tip ≡ b → coins_at (choice_of store store.active) tip ≡ Some coins → IsReached store tip
    split false is e = absurd (none-some coins (sym (ap (λ (b : Bool). replayed_from (cond b (blocks_of (blocks_in empty store.bodies) (path store.tree.headers store.active.start tip)) None)) is) ∙ e))
    split true is e =
        stored (blocks_of (blocks_in empty store.bodies) (path store.tree.headers store.active.start tip)) refl
        (sym (ap (λ (b : Bool). replayed_from (cond b (blocks_of (blocks_in empty store.bodies) (path store.tree.headers store.active.start tip)) None)) is) ∙ e)
      where
        on : is_at_or_below store.tree.headers genesis_hash tip ≡ true
        on = ap (λ (h : Hash32). is_at_or_below store.tree.headers h tip) (sym start) ∙ is

        stored : (o : Option (List Block)) → blocks_of (blocks_in empty store.bodies) (path store.tree.headers store.active.start tip) ≡ o → replayed_from o ≡ Some coins → IsReached store tip
        stored None none e = absurd (none-some coins e)
        stored (Some blocks) found e = record {
          known = on_chain_known store.tree.headers (is_rooted limit store.tree (tree_is_read limit first_rules logs store read)) genesis_hash tip on;
          reached =
              ap (λ (b : Bool). b && list_all (has_record store.bodies) (path store.tree.headers genesis_hash tip)) on
              ∙ all_stored store.bodies (path store.tree.headers genesis_hash tip) blocks (ap (λ (h : Hash32). blocks_of (blocks_in empty store.bodies) (path store.tree.headers h tip)) (sym start) ∙ found);
        }
