-- The stored blocks of a settled store are those whose hashes records carry.
use Rattle.std.proofs.Common.{◌≡◌, ◌⊎◌, inl, inr, ◌||◌, ℕ, Bool, true, false, List, [], ◌∷◌, map, Option, Some, None, refl, sym, ap, ◌∙◌}
use Rattle.std.specs.Prelude.{All, is_some}
use Rattle.std.specs.FinMap.{insert, empty, contains_key}
use Rattle.std.proofs.lemmas.List.Elements.{All-head, All-tail}
use Rattle.disk_model.specs.Disk.{Image}
use Rattle.base_types.specs.declared.hash.Hash32.{Hash32}
use Rattle.block_codec.specs.Text.{same_hash}
use Rattle.block_codec.specs.declared.block.Block.{Block}
use Rattle.block_store.specs.Bodies.{body_of}
use Rattle.block_store.specs.OpenStore.{OpenStore}
use Rattle.chain_model.specs.Choice.{Bodies}
use Rattle.chain_model.specs.Tree.{Tree}
use Rattle.chain_model.proofs.Hashes.{get_other, get_same, same_or_not, same_true}
use Rattle.chainstates.proofs.BodySteps.{names_read}
use Rattle.chainstates.specs.Reading.{hash_of_body}
use Rattle.coin_store.specs.declared.store.CoinStore.{CoinStore}
use Rattle.store_state.specs.Settled.{IsBody}
use Rattle.store_state.specs.State.{StoreState, StoredBody, blocks_in, has_record, with_body}
use Rattle.store_state.proofs.Settling.{no_block}
use Rattle.store_writes.specs.OnDisk.{OnDisk}
use Rattle.store_writes.proofs.Images.{all_read}

-- ---- by the records

module _ (tree : Tree) (hash : Hash32) where
  -- a block stays as others are stored
  kept_one : (blocks : Bodies) (key : Hash32) (block : Block) → contains_key blocks hash ≡ true → contains_key (insert blocks key block) hash ≡ true
  kept_one blocks key block there = go (same_or_not hash key)
    where
      go : (hash ≡ key) ⊎ (hash ≡ key → ⊥) → contains_key (insert blocks key block) hash ≡ true
      go (inl is) = ap (λ (h : Hash32). contains_key (insert blocks key block) h) is ∙ ap (λ (o : Option Block). is_some o) (get_same blocks key block)
      go (inr apart) = ap (λ (o : Option Block). is_some o) (get_other blocks key block hash apart) ∙ there

  kept : (bodies : List StoredBody) (blocks : Bodies) → contains_key blocks hash ≡ true → contains_key (blocks_in blocks bodies) hash ≡ true
  unfolding blocks_in
  kept [] blocks there = there
  kept (body ∷ bodies) blocks there = kept bodies (with_body body.hash (body_of body.payload) blocks) (go (body_of body.payload))
    where
      go : (o : Option Block) → contains_key (with_body body.hash o blocks) hash ≡ true
      go None = there
      go (Some block) = kept_one blocks body.hash block there

  put : (bodies : List StoredBody) (blocks : Bodies) → All (IsBody tree) bodies → has_record bodies hash ≡ true → contains_key (blocks_in blocks bodies) hash ≡ true
  unfolding blocks_in
  put [] blocks all is = absurd cc
  put (body ∷ bodies) blocks all is = go (λ rest. put bodies (with_body body.hash (body_of body.payload) blocks) (All-tail (IsBody tree) body bodies all) rest) (same_hash body.hash hash) refl is
    where
      here : body.hash ≡ hash → contains_key (with_body body.hash (body_of body.payload) blocks) hash ≡ true
      here same =
          let one = All-head (IsBody tree) body bodies all in
          ap (λ (o : Option Block). contains_key (with_body body.hash o blocks) hash) one.is
          ∙ ap (λ (h : Hash32). contains_key (insert blocks body.hash one.block) h) (sym same)
          ∙ ap (λ (o : Option Block). is_some o) (get_same blocks body.hash one.block)

      go : (has_record bodies hash ≡ true → contains_key (blocks_in (with_body body.hash (body_of body.payload) blocks) bodies) hash ≡ true) → (b : Bool) → same_hash body.hash hash ≡ b → (b || has_record bodies hash) ≡ true
          → contains_key (blocks_in (with_body body.hash (body_of body.payload) blocks) bodies) hash ≡ true
      go others true same rest = kept bodies (with_body body.hash (body_of body.payload) blocks) (here (same_true body.hash hash same))
      go others false same rest = others rest

pub stored_is : (tree : Tree) (bodies : List StoredBody) → All (IsBody tree) bodies → (hash : Hash32) → contains_key (blocks_in empty bodies) hash ≡ has_record bodies hash
stored_is tree bodies all hash = go (has_record bodies hash) refl
  where
    go : (b : Bool) → has_record bodies hash ≡ b → contains_key (blocks_in empty bodies) hash ≡ has_record bodies hash
    go true is = put tree hash bodies empty all is ∙ sym is
    go false is = ap (λ (o : Option Block). is_some o) (no_block bodies hash is) ∙ sym is

-- ---- by the hashes that an open store knows

pub named_by : (limit : ℕ) (contents : Option Image) (images : Image → Type 0) (open_blocks : OpenStore) (open_coins : CoinStore) (store : StoreState) → OnDisk limit contents images open_blocks open_coins store
    → map hash_of_body store.bodies ≡ open_blocks.hashes
named_by limit contents images open_blocks open_coins store on =
    let read = all_read limit contents images open_blocks open_coins store on in
    ap (map hash_of_body) read.bodies ∙ names_read on.payloads.bodies open_blocks.hashes read.known read.body_records on.block_files.hashes
