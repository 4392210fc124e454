-- Where a flush begins: the file of coins and the cache, as the machine stands on them.
use Rattle.std.proofs.Common.{◌≡◌, ℕ, ◌+◌, Bool, true, false, cond, List, [], ◌∷◌, length, Option, Some, None, Ok, refl, sym, ap, ◌∙◌}
use Rattle.std.specs.FinMap.{empty}
use Rattle.std.specs.List.{AllByRecursion}
use Rattle.std.proofs.lemmas.Option.{none-some, same_Some}
use Rattle.disk_model.specs.Disk.{Image}
use Rattle.base_types.specs.declared.hash.Hash32.{Hash32}
use Rattle.block_codec.specs.Genesis.{genesis_hash}
use Rattle.chain_model.specs.Choice.{coins_at}
use Rattle.chain_state.specs.Standing.{IsStanding}
use Rattle.chain_state.specs.declared.state.ChainState.{ChainState}
use Rattle.chain_state.specs.declared.state.Shared.{Shared}
use Rattle.coin_store.specs.Base.{rows_after}
use Rattle.coin_store.specs.Batches.{Batch, BatchFits, batch_text}
use Rattle.coin_store.specs.Reading.{batch_of}
use Rattle.coin_store.specs.Places.{coins_after}
use Rattle.coin_store.specs.Store as coins
use Rattle.coin_store.specs.Store.{texts}
use Rattle.coin_store.specs.declared.marker.Marker.{Marker}
use Rattle.coin_store.specs.declared.marker.Marker.TheVariants.{At}
use Rattle.coin_store.specs.declared.store.CoinStore.{CoinStore}
use Rattle.coin_store.specs.Staging.{SameRows}
use Rattle.coin_store.proofs.BatchLaws.{batch_again}
use Rattle.coin_store.proofs.StagingLaws.{holds_same}
use Rattle.coin_views.specs.Layers.{tip_of}
use Rattle.block_store.specs.OpenStore.{OpenStore}
use Rattle.flusher.specs.Writing.{LeadsTo}
use Rattle.machine.specs.State.{State, active_coins, choice_of}
use Rattle.store_state.specs.Settled.{IsSettled}
use Rattle.store_state.specs.State as stored
use Rattle.store_state.specs.State.{Chainstate, Record, StoreState, coin_file, each_of, first_key, gated, is_at, marker_after, said, settled_batch}
use Rattle.store_state.proofs.EachRecord.{each_first}
use Rattle.store_writes.specs.OnDisk.{OnDisk}
use Rattle.store_writes.proofs.Images.{all_read}

-- ---- the coins

-- the machine chooses as its store does
choices : (state : State) (store : StoreState) (hash : Hash32) → state.tree ≡ store.tree → state.bodies ≡ stored.blocks_in empty store.bodies → state.active.start ≡ store.active.start → state.active.start_coins ≡ store.active.start_coins
    → coins_at (stored.choice_of store store.active) hash ≡ coins_at (choice_of state state.active) hash
choices state store hash tree bodies start coins =
    let there : coins_at (choice_of state state.active) hash ≡ coins_at (stored.choice_of store store.active) hash =
    (λ i. coins_at (record { tree = tree i; bodies = bodies i; start = start i; start_coins = coins i; tip = state.active.tip; is_candidate = λ h. true }) hash) in
    sym there

module _ (limit : ℕ) (contents : Option Image) (images : Image → Type 0) (shared : Shared) (chain : ChainState) (state : State) (store : StoreState) (stands : IsStanding limit contents images shared chain state store) (settled : IsSettled store) where
  pub leads : LeadsTo (tip_of chain.layers) chain.store store chain.tip (active_coins state)
  leads =
      let has = stands.coins settled in
      record {
        stands = has.carry.stand.over_parent;
        meaning = has.carry.tip;
        replay =
            ap (coins_at (stored.choice_of store store.active)) stands.tip
            ∙ choices state store state.active.tip stands.tree stands.bodies stands.start stands.start_coins ∙ has.valid;
        begun = stands.begun;
      }

-- ---- the last marker

abbrev read_batch : List ℕ → Option Batch
read_batch payload = settled_batch (batch_of first_key payload)

same_batch : (a b : Batch) → settled_batch (Some a) ≡ Some b → a ≡ b
same_batch a b e = go (is_at a.marker) refl where
  go : (t : Bool) → is_at a.marker ≡ t → a ≡ b
  go true at = same_Some a b (sym (ap (λ (t : Bool). cond t (Some a) None) at) ∙ e)
  go false at = absurd (none-some b (sym (ap (λ (t : Bool). cond t (Some a) None) at) ∙ e))

-- the records of batches say them
all_said : (at : ℕ) (batches : List Batch) (records : List (Record Batch)) → AllByRecursion BatchFits batches → each_of coin_file read_batch (gated at (texts first_key batches)) ≡ Ok records → said records ≡ batches
unfolding gated each_of
all_said at [] records fits e = let none : [] ≡ records = cc in ap said (sym none)
all_said at (batch ∷ batches) records fits e =
    let next = at + (5 + length (batch_text first_key batch)) in
    let first = each_first coin_file read_batch (at, batch_text first_key batch) (gated next (texts first_key batches)) records e in
    let same : batch ≡ first.0 = same_batch batch first.0 (sym (ap settled_batch (batch_again first_key batch fits.0)) ∙ first.2) in
    ap said first.4 ∙ ap (λ (b : Batch). b ∷ said first.1) (sym same) ∙ ap (λ (l : List Batch). batch ∷ l) (all_said next batches first.1 fits.1 first.3)

last_of : (start : Hash32) (first : Batch) (batches : List Batch) → coins.marker_after first.marker batches ≡ marker_after start (first ∷ batches)
last_of start first [] = refl
last_of start first (next ∷ batches) = last_of start next batches

same_marker : (start : Hash32) (batches : List Batch) → coins.marker_after (At start) batches ≡ marker_after start batches
same_marker start [] = refl
same_marker start (first ∷ batches) = last_of start first batches

-- the last marker of the file is that of the store
pub marker_is : (limit : ℕ) (contents : Option Image) (images : Image → Type 0) (blocks : OpenStore) (open_coins : CoinStore) (store : StoreState) (on : OnDisk limit contents images blocks open_coins store) → open_coins.start ≡ At store.active.start
    → coins.marker_after open_coins.start on.batches ≡ store.active.marker
marker_is limit contents images blocks open_coins store on begun =
    let read = all_read limit contents images blocks open_coins store on in
    let start : store.active.start ≡ genesis_hash = ap (λ (chain : Chainstate). chain.start) read.active in
    let marker : store.active.marker ≡ marker_after genesis_hash (said read.batches) = ap (λ (chain : Chainstate). chain.marker) read.active in
    ap (λ (m : Marker). coins.marker_after m on.batches) (begun ∙ ap (λ (h : Hash32). At h) start)
    ∙ same_marker genesis_hash on.batches
    ∙ ap (marker_after genesis_hash) (sym (all_said 0 on.batches read.batches on.coin_rows.knows.fits read.batch_records))
    ∙ sym marker

-- and the coins of its rows are those of the store
pub coins_are : (limit : ℕ) (contents : Option Image) (images : Image → Type 0) (blocks : OpenStore) (open_coins : CoinStore) (store : StoreState) (on : OnDisk limit contents images blocks open_coins store) → rows_after [] on.batches ≡ store.active.coins
coins_are limit contents images blocks open_coins store on =
    let read = all_read limit contents images blocks open_coins store on in
    ap (coins_after empty) (sym (all_said 0 on.batches read.batches on.coin_rows.knows.fits read.batch_records)) ∙ sym (ap (λ (chain : Chainstate). chain.coins) read.active)

-- ---- the file with rows that are staged

pub on_staged : (limit : ℕ) (contents : Option Image) (images : Image → Type 0) (blocks : OpenStore) (old new : CoinStore) (store : StoreState) → SameRows old new → OnDisk limit contents images blocks old store → OnDisk limit contents images blocks new store
on_staged limit contents images blocks old new store same on = record {
  image = on.image;
  told = on.told;
  is_open = on.is_open;
  payloads = on.payloads;
  batches = on.batches;
  block_files = on.block_files;
  coin_rows = holds_same contents images old new [] on.batches same on.coin_rows;
  file = same.log.file ∙ on.file;
  mask = same.mask ∙ on.mask;
  no_base = same.base ∙ on.no_base;
}
