-- The blocks of a store's bodies, as they are read back, and the coins of its rows.
use Rattle.std.proofs.Common.{◌≡◌, ◌⊎◌, inl, inr, ⊎_elim, ℕ, zero, suc, ◌+◌, Bool, true, false, cond, List, [], ◌∷◌, length, map, Option, Some, None, Ok, refl, sym, ap, subst, ◌∙◌, arith}
use Rattle.std.specs.Prelude.{All, slice_get}
use Rattle.std.specs.List.{AllByRecursion}
use Rattle.std.specs.Ordering.{is_eq}
use Rattle.std.specs.FinMap.{empty, get, insert, get-empty}
use Rattle.std.proofs.lemmas.List.Elements.{All-head, All-tail}
use Rattle.std.proofs.lemmas.Option.{same_Some, none-some}
use Rattle.base_types.specs.Coins.{Coins}
use Rattle.base_types.specs.Keys.{hash_cmp}
use Rattle.base_types.specs.declared.hash.Hash32.{Hash32}
use Rattle.block_codec.specs.Genesis.{genesis_hash}
use Rattle.block_codec.specs.declared.block.Block.{Block}
use Rattle.block_store.specs.Bodies.{body_hash, body_of}
use Rattle.block_store.specs.Index.{last_from, last_place}
use Rattle.block_store.specs.OpenStore.{OpenStore}
use Rattle.block_store.proofs.IndexLaws.{is_itself, is_same}
use Rattle.chain_model.specs.BodyRules.{body_broken, place_below}
use Rattle.chain_model.specs.Choice.{Bodies}
use Rattle.chain_model.specs.Tree.{Tree}
use Rattle.chain_model.proofs.Hashes.{get_other, get_same}
use Rattle.coin_store.specs.Base.{rows_after}
use Rattle.coin_store.specs.Batches.{Batch, BatchFits, batch_text}
use Rattle.coin_store.specs.Places.{coins_after}
use Rattle.coin_store.specs.Store.{texts}
use Rattle.coin_store.specs.declared.store.CoinStore.{CoinStore}
use Rattle.coin_store.specs.Reading.{batch_of}
use Rattle.coin_store.proofs.BatchLaws.{batch_again}
use Rattle.disk_model.specs.Disk.{Image}
use Rattle.store_state.specs.Settled.{IsBody}
use Rattle.store_state.specs.State.{Chainstate, Record, StoreState, StoredBody, and_payload, blocks_in, body_file, coin_file, each_of, first_key, first_rules, gated, is_at, said, settled_batch, stored_body, with_body}
use Rattle.store_state.proofs.Appending.{IsRead}
use Rattle.store_state.proofs.EachRecord.{each_first}
use Rattle.store_writes.specs.OnDisk.{OnDisk}
use Rattle.store_writes.proofs.Images.{all_read, logs_of}

-- ---- the bodies of payloads

-- each body is that of a payload
AreOf : List (List ℕ) → List StoredBody → Type 0
AreOf [] [] = Unit {0}
AreOf [] (body ∷ bodies) = ⊥
AreOf (payload ∷ payloads) [] = ⊥
AreOf (payload ∷ payloads) (body ∷ bodies) = (body.payload ≡ payload) × (body_hash payload ≡ Some body.hash) × AreOf payloads bodies

body_parts : (payload : List ℕ) (body : StoredBody) → stored_body payload ≡ Some body → (body.payload ≡ payload) × (body_hash payload ≡ Some body.hash)
body_parts payload body e = go (body_hash payload) refl e
  where
    go : (o : Option Hash32) → body_hash payload ≡ o → and_payload payload o ≡ Some body → (body.payload ≡ payload) × (body_hash payload ≡ Some body.hash)
    go None is e = absurd (none-some body e)
    go (Some hash) is e =
        let same = same_Some (record { hash = hash; payload = payload }) body e in
        (ap (λ (b : StoredBody). b.payload) (sym same), is ∙ ap (λ (b : StoredBody). Some b.hash) same)

are_of : (at : ℕ) (payloads : List (List ℕ)) (known : List (Record StoredBody)) → each_of body_file stored_body (gated at payloads) ≡ Ok known → AreOf payloads (said known)
unfolding each_of gated AreOf
are_of at [] [] e = tt
are_of at [] (one ∷ known) e = absurd cc
are_of at (payload ∷ payloads) known e =
    let first = each_first body_file stored_body (at, payload) (gated (at + (5 + length payload)) payloads) known e in
    let parts = body_parts payload first.0 first.2 in
    subst (λ (k : List (Record StoredBody)). AreOf (payload ∷ payloads) (said k)) (sym first.4) (parts.0, parts.1, are_of (at + (5 + length payload)) payloads first.1 first.3)

-- where a body stands, its payload does
place_of_payload : (payloads : List (List ℕ)) (bodies : List StoredBody) → AreOf payloads bodies → (i : ℕ) (body : StoredBody) → slice_get bodies i ≡ Some body → slice_get payloads i ≡ Some body.payload
unfolding AreOf
place_of_payload [] [] are i body e = absurd (none-some body e)
place_of_payload [] (b ∷ bodies) are i body e = absurd are
place_of_payload (payload ∷ payloads) [] are i body e = absurd are
place_of_payload (payload ∷ payloads) (b ∷ bodies) are zero body e = ap (λ (p : List ℕ). Some p) (sym are.0 ∙ ap (λ (x : StoredBody). x.payload) (same_Some b body e))
place_of_payload (payload ∷ payloads) (b ∷ bodies) are (suc i) body e = place_of_payload payloads bodies are.2 i body e

some_hash : Hash32 → Option Hash32
some_hash hash = Some hash

hashes_of : (payloads : List (List ℕ)) (bodies : List StoredBody) → AreOf payloads bodies → (hashes : List Hash32) → map body_hash payloads ≡ map (λ (h : Hash32). Some h) hashes → map (λ (b : StoredBody). b.hash) bodies ≡ hashes
unfolding AreOf
hashes_of [] [] are [] e = refl
hashes_of [] [] are (h ∷ hashes) e = absurd cc
hashes_of [] (b ∷ bodies) are hashes e = absurd are
hashes_of (payload ∷ payloads) [] are hashes e = absurd are
hashes_of (payload ∷ payloads) (b ∷ bodies) are [] e = absurd cc
hashes_of (payload ∷ payloads) (b ∷ bodies) are (h ∷ hashes) e =
    let first : body_hash payload ≡ Some h = cc in
    let rest : map body_hash payloads ≡ map (λ (h : Hash32). Some h) hashes = cc in
    let same = same_Some b.hash h (sym are.1 ∙ first) in
    let more = hashes_of payloads bodies are.2 hashes rest in
    λ i. same i ∷ more i

-- ---- the last body of a hash

-- this body stands so many places on, and is read as the block
record Stands (tree : Tree) (bodies : List StoredBody) (block : Block) (last : Option ℕ) (at : ℕ) : Type 0 where
  place : ℕ
  body : StoredBody
  sound : IsBody tree body
  there : slice_get bodies place ≡ Some body
  is : body_of body.payload ≡ Some block
  last_is : last ≡ Some (at + place)

last_body : (tree : Tree) (hash : Hash32) (block : Block) (bodies : List StoredBody) → All (IsBody tree) bodies → (at : ℕ) (found : Option ℕ) (blocks : Bodies) → get (blocks_in blocks bodies) hash ≡ Some block
    → ((last_from at found (map (λ (b : StoredBody). b.hash) bodies) hash ≡ found) × (get blocks hash ≡ Some block)) ⊎ Stands tree bodies block (last_from at found (map (λ (b : StoredBody). b.hash) bodies) hash) at
unfolding blocks_in
last_body tree hash block [] all at found blocks e = inl (refl, e)
last_body tree hash block (body ∷ bodies) all at found blocks e =
    let is = All-head (IsBody tree) body bodies all in
    go is (is_eq (hash_cmp body.hash hash)) refl
    (last_body tree hash block bodies (All-tail (IsBody tree) body bodies all) (at + 1) (cond (is_eq (hash_cmp body.hash hash)) (Some at) found) (with_body body.hash (body_of body.payload) blocks) e)
  where
    hashes : List Hash32
    hashes = map (λ (b : StoredBody). b.hash) bodies

    go : (is : IsBody tree body) → (b : Bool) → is_eq (hash_cmp body.hash hash) ≡ b
        → ((last_from (at + 1) (cond (is_eq (hash_cmp body.hash hash)) (Some at) found) hashes hash ≡ cond (is_eq (hash_cmp body.hash hash)) (Some at) found) × (get (with_body body.hash (body_of body.payload) blocks) hash ≡ Some block))
        ⊎ Stands tree bodies block (last_from (at + 1) (cond (is_eq (hash_cmp body.hash hash)) (Some at) found) hashes hash) (at + 1)
        → ((last_from at found (body.hash ∷ hashes) hash ≡ found) × (get blocks hash ≡ Some block)) ⊎ Stands tree (body ∷ bodies) block (last_from at found (body.hash ∷ hashes) hash) at
    go is b t (inr later) = let sum : at + 1 + later.place ≡ at + suc later.place = omega arith in inr (record {
      place = suc later.place;
      body = later.body;
      sound = later.sound;
      there = later.there;
      is = later.is;
      last_is = later.last_is ∙ ap (λ (n : ℕ). Some n) sum;
    })
    go is true t (inl none) =
        let here : insert blocks body.hash is.block ≡ with_body body.hash (body_of body.payload) blocks = ap (λ (o : Option Block). with_body body.hash o blocks) (sym is.is) in
        let same : is.block ≡ block = same_Some is.block block
        (sym (get_same blocks body.hash is.block) ∙ ap (λ (m : Bodies). get m body.hash) here ∙ ap (get (with_body body.hash (body_of body.payload) blocks)) (is_same body.hash hash t) ∙ none.1) in
        let sum : at ≡ at + 0 = omega arith in
        inr (record {
          place = zero;
          body = body;
          sound = is;
          there = refl;
          is = is.is ∙ ap (λ (x : Block). Some x) same;
          last_is = none.0 ∙ ap (λ (b : Bool). cond b (Some at) found) t ∙ ap (λ (n : ℕ). Some n) sum;
        })
    go is false t (inl none) =
        let apart : hash ≡ body.hash → ⊥ = λ same. absurd (let ties : is_eq (hash_cmp body.hash hash) ≡ true = ap (λ (h : Hash32). is_eq (hash_cmp body.hash h)) same ∙ is_itself body.hash in cc) in
        inl (
          none.0 ∙ ap (λ (b : Bool). cond b (Some at) found) t,
          sym (get_other blocks body.hash is.block hash apart) ∙ ap (λ (o : Option Block). get (with_body body.hash o blocks) hash) (sym is.is) ∙ none.1,
        )

-- ---- of an open store

module _ (limit : ℕ) (contents : Option Image) (images : Image → Type 0) (open_blocks : OpenStore) (open_coins : CoinStore) (store : StoreState)
    (on : OnDisk limit contents images open_blocks open_coins store) where
  reading : IsRead limit first_rules (logs_of on.payloads on.batches) store
  reading = all_read limit contents images open_blocks open_coins store on

  -- the payload that counts for a stored block
  pub record IsStored (hash : Hash32) (block : Block) : Type 0 where
    pub number : ℕ
    pub payload : List ℕ
    pub last : last_place open_blocks.hashes hash ≡ Some number
    pub there : slice_get on.payloads.bodies number ≡ Some payload
    pub is : body_of payload ≡ Some block
    pub meets : body_broken (place_below store.tree block.header.prev) block ≡ None

  pub stored_there : All (IsBody store.tree) store.bodies → (hash : Hash32) (block : Block) → get (blocks_in empty store.bodies) hash ≡ Some block → IsStored hash block
  stored_there all hash block found = ⊎_elim
      (λ none. absurd (none-some block (sym (get-empty hash_cmp hash) ∙ none.1)))
      (λ stands. record {
        number = stands.place;
        payload = stands.body.payload;
        last = let sum : 0 + stands.place ≡ stands.place = omega arith in ap (λ (hashes : List Hash32). last_place hashes hash) (sym hashes) ∙ stands.last_is ∙ ap (λ (n : ℕ). Some n) sum;
        there = place_of_payload on.payloads.bodies store.bodies are stands.place stands.body stands.there;
        is = stands.is;
        meets =
            ap (λ (b : Block). body_broken (place_below store.tree b.header.prev) b) (same_Some block stands.sound.block (sym stands.is ∙ stands.sound.is))
            ∙ stands.sound.meets;
      })
      (last_body store.tree hash block store.bodies all 0 None empty found)
    where
      are : AreOf on.payloads.bodies store.bodies
      are = subst (AreOf on.payloads.bodies) (sym reading.bodies) (are_of 0 on.payloads.bodies reading.known reading.body_records)

      hashes : map (λ (b : StoredBody). b.hash) store.bodies ≡ open_blocks.hashes
      hashes = hashes_of on.payloads.bodies store.bodies are open_blocks.hashes on.block_files.hashes

  -- ---- the coins of its rows

  abbrev read_batch : List ℕ → Option Batch
  read_batch payload = settled_batch (batch_of first_key payload)

  batch_is : (batch read : Batch) → BatchFits batch → read_batch (batch_text first_key batch) ≡ Some read → read ≡ batch
  batch_is batch read fits e = go (is_at batch.marker) refl (sym (ap settled_batch (batch_again first_key batch fits)) ∙ e)
    where
      go : (b : Bool) → is_at batch.marker ≡ b → settled_batch (Some batch) ≡ Some read → read ≡ batch
      go true is e = sym (same_Some batch read (sym (ap (λ (b : Bool). cond b (Some batch) None) is) ∙ e))
      go false is e = absurd (none-some read (sym (ap (λ (b : Bool). cond b (Some batch) None) is) ∙ e))

  batches_are : (at : ℕ) (batches : List Batch) → AllByRecursion BatchFits batches → (known : List (Record Batch)) → each_of coin_file read_batch (gated at (texts first_key batches)) ≡ Ok known → said known ≡ batches
  unfolding each_of gated
  batches_are at [] fits [] e = refl
  batches_are at [] fits (one ∷ known) e = absurd cc
  batches_are at (batch ∷ batches) fits known e =
      let first = each_first coin_file read_batch (at, batch_text first_key batch) (gated (at + (5 + length (batch_text first_key batch))) (texts first_key batches)) known e in
      let same = batch_is batch first.0 fits.0 first.2 in
      let rest = batches_are (at + (5 + length (batch_text first_key batch))) batches fits.1 first.1 first.3 in
      ap (λ (k : List (Record Batch)). said k) first.4 ∙ (λ i. same i ∷ rest i)

  pub rows_are : rows_after [] on.batches ≡ store.active.coins
  rows_are =
      ap (λ (batches : List Batch). coins_after empty batches) (sym (batches_are 0 on.batches on.coin_rows.knows.fits reading.batches reading.batch_records))
      ∙ ap (λ (c : Chainstate). c.coins) (sym reading.active)
