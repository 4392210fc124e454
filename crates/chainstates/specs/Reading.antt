-- What is read of the logs of a store, as far as they are whole.
use Rattle.std.specs.Prelude.{⊤, ◌≡◌, ℕ, Bool, true, List, ◌∷◌, ◌++◌, map, Option, None, Some, Ok}
use Rattle.std.specs.List.{list_all}
use Rattle.base_types.specs.declared.fault.StoreFault.{StoreFault}
use Rattle.base_types.specs.declared.fault.StoreFault.TheVariants.{NoMemory, DiskFailed, Damaged, Full, CacheFull}
use Rattle.base_types.specs.declared.hash.Hash32.{Hash32}
use Rattle.batch_log.specs.OpenLog.{places_of}
use Rattle.block_codec.specs.Genesis.{genesis_hash}
use Rattle.block_codec.specs.declared.block.Header.{Header}
use Rattle.block_store.specs.Bodies.{body_hash}
use Rattle.block_store.specs.Headers.{headers_of}
use Rattle.block_store.specs.OpenStore.{OpenStore}
use Rattle.chain_model.specs.HeaderRules.{first_tree, tree_with}
use Rattle.chain_model.specs.Tree.{Tree}
use Rattle.coin_store.specs.Batches.{Batch}
use Rattle.coin_store.specs.Reading.{batch_of}
use Rattle.store_state.specs.State.{◌>>=◌, Read, Record, StoredBody, gated, each_of, each_passes, tree_after, last_reached, said, stored_body, settled_batch, is_at, is_in, tips_of, header_file, body_file, coin_file, first_key, first_rules}

-- the tree of the payloads of headers
abbrev pub tree_in : ℕ → List (List ℕ) → Read Tree
tree_in limit payloads = each_of header_file headers_of (gated 0 payloads) >>= λ lists. tree_after limit (first_tree first_rules) lists

-- the bodies of payloads, whose hashes are all in the tree
abbrev pub bodies_in : Tree → List (List ℕ) → Read (List StoredBody)
bodies_in tree payloads =
    each_of body_file stored_body (gated 0 payloads) >>= λ bodies.
    each_passes body_file (λ body. is_in tree body.hash) bodies >>= λ known.
    Ok (said known)

-- the payloads of an open store's bodies
pub record HasBodies (store : OpenStore) (payloads : List (List ℕ)) : Type 0 where
  pub hashes : map body_hash payloads ≡ map Some store.hashes
  pub places : store.bodies.places ≡ places_of 0 payloads

abbrev pub hash_of_body : StoredBody → Hash32
hash_of_body body = body.hash

-- a batch of a chainstate whose last flush was whole
abbrev pub batch_in : List ℕ → Option Batch
batch_in payload = settled_batch (batch_of first_key payload)

abbrev pub known_tips : Tree → Batch → Bool
known_tips tree batch = list_all (is_in tree) (tips_of batch.marker)

-- each batch has a marker `At` a tip
abbrev pub AllAt : List Batch → Type 0
AllAt batches = list_all (λ batch. is_at batch.marker) batches ≡ true

-- the batches of payloads, whose tips are all in the tree, the last ones reached by these bodies
abbrev pub batches_in : Tree → List StoredBody → List (List ℕ) → Read (List Batch)
batches_in tree bodies payloads =
    each_of coin_file batch_in (gated 0 payloads) >>= λ batches.
    each_passes coin_file (known_tips tree) batches >>= λ known.
    last_reached tree bodies genesis_hash known >>= λ reached.
    Ok (said reached)

-- why a check of the records of this file may fail
abbrev pub CheckCause : ℕ → StoreFault → Type 0
CheckCause file NoMemory = ⊤
CheckCause file (Damaged f at) = f ≡ file
CheckCause file DiskFailed = ⊥
CheckCause file (Full f) = ⊥
CheckCause file CacheFull = ⊥

-- a payload of headers that are refused in the tree of those before it, with the offset of its gate
pub record IsRefused (limit : ℕ) (payloads : List (List ℕ)) (at : ℕ) : Type 0 where
  pub before : List (List ℕ)
  pub payload : List ℕ
  pub after : List (Record (List ℕ))
  pub parts : gated 0 payloads ≡ gated 0 before ++ (at, payload) ∷ after
  pub tree : Tree
  pub grown : tree_in limit before ≡ Ok tree
  pub headers : List Header
  pub are : headers_of payload ≡ Some headers
  pub refused : tree_with limit tree headers ≡ None
