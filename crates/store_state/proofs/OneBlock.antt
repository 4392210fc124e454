-- Images of one block that was flushed: what they stand for, and that they are settled.
use Rattle.std.proofs.Common.{◌≡◌, ℕ, Bool, true, List, [], ◌∷◌, Option, Some, None, Ok, refl, ap, ◌∙◌, cond, arith}
use Rattle.std.specs.Prelude.{is_some, ◌&&◌}
use Rattle.std.specs.List.{list_all}
use Rattle.std.specs.Option.{option_and_then}
use Rattle.std.specs.Result.{result_ok}
use Rattle.std.proofs.lemmas.List.Elements.{All-nil, All-cons}
use Rattle.std.specs.FinMap.{empty, insert}
use Rattle.disk_model.specs.Disk.{Image}
use Rattle.batch_log.specs.Records.{log}
use Rattle.base_types.specs.Coins.{Coins}
use Rattle.base_types.specs.declared.hash.Hash32.{Hash32}
use Rattle.base_types.specs.declared.program.Rules.{Rules}
use Rattle.block_codec.specs.declared.block.Block.{Block}
use Rattle.block_codec.specs.declared.block.Header.{Header}
use Rattle.block_codec.proofs.HasText.{text_is}
use Rattle.block_codec.specs.Text.{block_text}
use Rattle.block_store.specs.Bodies.{body_of}
use Rattle.block_store.specs.Headers.{headers_text}
use Rattle.block_store.proofs.PayloadLaws.{hash_again, body_again}
use Rattle.chain_model.specs.Apply.{replayed}
use Rattle.chain_model.specs.Choice.{Choice, Bodies, blocks_of, blocks_to, coins_at, is_valid, is_at_or_below, and_block}
use Rattle.chain_model.specs.Tree.{Tree, path}
use Rattle.block_codec.specs.Genesis.{genesis_hash}
use Rattle.coin_store.specs.declared.marker.Marker.TheVariants.{At}
use Rattle.coin_store.specs.Batches.{Batch, BatchFits}
use Rattle.store_state.specs.State.{Record, StoreState, StoredBody, stored_body, and_payload, with_body, blocks_in, is_in, is_reached, has_record, tips_of, body_file, coin_file, true_or_broken, records_of, each_of, each_passes, last_reached, read_bodies, read_batches, choice_of, first_rules}
use Rattle.store_state.specs.Settled.{IsBody, IsSettled}
use Rattle.store_state.proofs.BrokenImages.{read_batch}
use Rattle.store_state.proofs.BrokenReferences.{knows_tips, knows_body, reads_batch, tip_known}
use Rattle.store_state.specs.HashLength.{hash_long}
use Rattle.store_state.proofs.ReadingSteps.{goes_on, one_record, one_each, one_passes, store_is}
use Rattle.store_state.specs.SmallImages.{HasLogs, StandsSettled, batch_at, payload_at}
use Rattle.store_state.specs.SmallStores.{FirstBlock, hash_of, tree_of, body_payload, body_stored, store_of_block}
use Rattle.chain_model.proofs.Hashes.{get_same, same_self}
use Rattle.chain_model.proofs.SmallTrees.{known_of_one, reaches_one, path_of_one, apart_of_one}
use Rattle.store_state.proofs.OneHeader.{reads_tree}
use Rattle.store_state.specs.Roles.{Alone}

-- the blocks on a path, if they are stored
pub stored_path : (choice : Choice) (hash : Hash32) (hashes : List Hash32) (blocks : List Block)
    → is_at_or_below choice.tree.headers choice.start hash ≡ true → path choice.tree.headers choice.start hash ≡ hashes → blocks_of choice.bodies hashes ≡ Some blocks
    → blocks_to choice hash ≡ Some blocks
stored_path choice hash hashes blocks reached is stored =
    ap (λ (b : Bool). cond b (blocks_of choice.bodies (path choice.tree.headers choice.start hash)) None) reached
    ∙ ap (λ (l : List Hash32). blocks_of choice.bodies l) is ∙ stored

-- one batch, whose tips are reached
pub last_batch : (tree : Tree) (bodies : List StoredBody) (start : Hash32) (at : ℕ) (batch : Batch) → list_all (is_reached tree bodies start) (tips_of batch.marker) ≡ true
    → last_reached tree bodies start ((at, batch) ∷ []) ≡ Ok ((at, batch) ∷ [])
unfolding last_reached
last_batch tree bodies start at batch reached =
    let one : List (Record Batch) = (at, batch) ∷ [] in
    ap (λ (b : Bool). true_or_broken coin_file at b one) reached

module _ (limit : ℕ) (given : Rules) (first : FirstBlock limit first_rules) where
  abbrev hash : Hash32
  hash = hash_of limit first_rules first

  abbrev tree : Tree
  tree = tree_of limit first_rules first

  abbrev text : List ℕ
  text = body_payload limit first_rules first

  abbrev body : StoredBody
  body = body_stored limit first_rules first

  abbrev store : StoreState
  store = store_of_block limit first_rules first

  pub batch_fits : BatchFits (batch_at hash first.rows)
  batch_fits = record { marker = hash_long first.block.header; rows = first.rows_fit }

  pub reads_body : stored_body text ≡ Some body
  reads_body = ap (and_payload text) (hash_again hash first.block (hash_long first.block.header))

  pub reads_block : body_of text ≡ Some first.block
  reads_block = body_again hash first.block (block_text first.block) (hash_long first.block.header) (text_is first.block (block_text first.block) first.fits refl)

  known : is_in tree hash ≡ true
  known = ap (λ (o : Option Header). is_some o) (known_of_one limit first_rules first.block.header first.child)

  -- the bodies of a file with this body
  pub reads_bodies : (image : Image) → log (image body_file) ≡ Ok (text ∷ []) → read_bodies tree image ≡ Ok (body ∷ [])
  reads_bodies image is =
      goes_on (records_of image body_file) _ ((0, text) ∷ []) (one_record image body_file text is)
      ∙ goes_on (each_of body_file stored_body ((0, text) ∷ [])) _ ((0, body) ∷ []) (one_each body_file stored_body 0 text body reads_body)
      ∙ goes_on (each_passes body_file (knows_body tree) ((0, body) ∷ [])) _ ((0, body) ∷ []) (one_passes body_file (knows_body tree) (0, body) known)

  has_body : list_all (has_record (body ∷ [])) (hash ∷ []) ≡ true
  has_body = rw (same_self hash) refl

  reached : is_reached tree (body ∷ []) genesis_hash hash ≡ true
  reached =
      ap (λ (b : Bool). b && list_all (has_record (body ∷ [])) (path tree.headers genesis_hash hash)) (reaches_one limit first_rules first.block.header first.child)
      ∙ ap (λ (l : List Hash32). list_all (has_record (body ∷ [])) l) (path_of_one limit first_rules first.block.header first.child)
      ∙ has_body

  -- the batches of a file with one batch at this block
  pub reads_batches : (image : Image) → log (image coin_file) ≡ Ok (payload_at hash first.rows ∷ []) → read_batches tree (body ∷ []) image ≡ Ok (batch_at hash first.rows ∷ [])
  reads_batches image is =
      let payload = payload_at hash first.rows in
      let batch = batch_at hash first.rows in
      goes_on (records_of image coin_file) _ ((0, payload) ∷ []) (one_record image coin_file payload is)
      ∙ goes_on (each_of coin_file read_batch ((0, payload) ∷ [])) _ ((0, batch) ∷ [])
      (one_each coin_file read_batch 0 payload batch (reads_batch hash first.rows batch_fits))
      ∙ goes_on (each_passes coin_file (knows_tips tree) ((0, batch) ∷ [])) _ ((0, batch) ∷ [])
      (one_passes coin_file (knows_tips tree) (0, batch) (tip_known (is_in tree) hash true known))
      ∙ goes_on (last_reached tree (body ∷ []) genesis_hash ((0, batch) ∷ [])) _ ((0, batch) ∷ [])
      (last_batch tree (body ∷ []) genesis_hash 0 batch (tip_known (is_reached tree (body ∷ []) genesis_hash) hash true reached))

  -- the stored block by its hash
  pub stored_block : blocks_in empty (body ∷ []) ≡ insert empty hash first.block
  unfolding blocks_in
  stored_block = ap (λ (o : Option Block). with_body hash o empty) reads_block

  blocks_there : blocks_of (blocks_in empty (body ∷ [])) (hash ∷ []) ≡ Some (first.block ∷ [])
  blocks_there =
      ap (λ (b : Bodies). blocks_of b (hash ∷ [])) stored_block
      ∙ ap (λ (o : Option Block). and_block o (Some [])) (get_same empty hash first.block)

  replayed_one : replayed tree empty (first.block ∷ []) ≡ Ok first.coins
  unfolding replayed
  replayed_one = rw first.applies refl

  -- the coins of the rows are the replay to the block
  pub block_replayed : coins_at (choice_of store store.active) hash ≡ Some first.coins
  block_replayed =
      ap (option_and_then (λ blocks. result_ok (replayed tree empty blocks)))
      (stored_path (choice_of store store.active) hash (hash ∷ []) (first.block ∷ []) (reaches_one limit first_rules first.block.header first.child) (path_of_one limit first_rules first.block.header first.child) blocks_there)
      ∙ ap result_ok replayed_one

  block_settled : IsSettled store
  block_settled = let Valid : Hash32 → Type 0 = λ tip. is_valid (choice_of store store.active) tip ≡ true in record {
    bodies = All-cons (IsBody tree) body [] (record { block = first.block; is = reads_block; header = known_of_one limit first_rules first.block.header first.child; above = apart_of_one limit first_rules first.block.header first.child; meets = first.meets }) (All-nil (IsBody tree));
    distinct = λ i j d low high. absurd (omega arith);
    tips = All-cons Valid hash [] (ap is_some block_replayed) (All-nil Valid);
    rows = block_replayed;
  }

  -- an image with the block's header, its body and one batch stands for this store, and is settled
  pub one_block_stands : (image : Image) → HasLogs image (headers_text (first.block.header ∷ []) ∷ []) (text ∷ []) (payload_at hash first.rows ∷ []) → StandsSettled limit given image store
  one_block_stands image has = record {
    stands_for =
        ap result_ok (store_is limit given image tree (body ∷ []) (batch_at hash first.rows ∷ [])
        (reads_tree limit given first.block.header first.fits.header first.child image has.headers) (reads_bodies image has.bodies) (reads_batches image has.coins))
        ∙ ap (λ (coins : Coins). Some (record { tree = tree; bodies = body ∷ []; active = record { start = genesis_hash; start_coins = empty; marker = At hash; coins = coins }; role = Alone })) first.rows_give;
    settled = block_settled;
  }
