-- The places of an image that are broken.
use Rattle.std.specs.Prelude.{◌≡◌, ◌⊎◌, ℕ, List, [], ◌∷◌, ◌++◌, false, Some, None, Ok, Err, IsNone}
use Rattle.std.specs.List.{list_all}
use Rattle.disk_model.specs.Disk.{Image}
use Rattle.batch_log.specs.Records.{log}
use Rattle.base_types.specs.Views.{BrokenPlace}
use Rattle.base_types.specs.declared.program.Rules.{Rules}
use Rattle.block_codec.specs.declared.block.Header.{Header}
use Rattle.chain_model.specs.Tree.{Tree}
use Rattle.block_codec.specs.Genesis.{genesis_hash}
use Rattle.chain_model.specs.HeaderRules.{first_tree, tree_with}
use Rattle.coin_store.specs.Batches.{Batch}
use Rattle.coin_store.specs.Reading.{batch_of}
use Rattle.block_store.specs.Headers.{headers_of}
use Rattle.store_state.specs.State.{Record, header_file, body_file, coin_file, first_key, StoredBody, stored_body, settled_batch, tips_of, is_in, is_reached, records_of, each_of, tree_after, read_tree, read_bodies, state_of, first_rules}

-- a log of the image has these records, and then one whose gate has this offset and that payload, and then those
abbrev pub HasRecord : Image → ℕ → List (Record (List ℕ)) → ℕ → List ℕ → List (Record (List ℕ)) → Type 0
HasRecord image file before at payload after = records_of image file ≡ Ok (before ++ (at, payload) ∷ after)

abbrev pub Records : Type 0
Records = List (Record (List ℕ))

pub data IsBroken (limit : ℕ) (given : Rules) (image : Image) : BrokenPlace → Type 0 where
  -- an open gate of a log has no whole record behind it
  DamagedLog : (file gate : ℕ) → (file ≡ header_file) ⊎ (file ≡ body_file) ⊎ (file ≡ coin_file) → log (image file) ≡ Err gate
      → IsBroken limit given image (record { file = file; at = gate })
  -- a record isn't of its form
  NoHeaders : (before after : Records) (at : ℕ) (payload : List ℕ) → HasRecord image header_file before at payload after → headers_of payload ≡ None
      → IsBroken limit given image (record { file = header_file; at = at })
  NoBody : (before after : Records) (at : ℕ) (payload : List ℕ) → HasRecord image body_file before at payload after → stored_body payload ≡ None
      → IsBroken limit given image (record { file = body_file; at = at })
  NoBatch : (before after : Records) (at : ℕ) (payload : List ℕ) → HasRecord image coin_file before at payload after → settled_batch (batch_of first_key payload) ≡ None
      → IsBroken limit given image (record { file = coin_file; at = at })
  -- a header is refused in the tree of those before it
  RefusedHeader : (before after : Records) (at : ℕ) (payload : List ℕ) (lists : List (Record (List Header))) (tree : Tree) (headers : List Header)
      → HasRecord image header_file before at payload after
      → each_of header_file headers_of before ≡ Ok lists → tree_after limit (first_tree first_rules) lists ≡ Ok tree
      → headers_of payload ≡ Some headers → tree_with limit tree headers ≡ None
      → IsBroken limit given image (record { file = header_file; at = at })
  -- a body's hash isn't in the tree
  UnknownBody : (before after : Records) (at : ℕ) (payload : List ℕ) (tree : Tree) (body : StoredBody) → HasRecord image body_file before at payload after
      → read_tree limit given image ≡ Ok tree → stored_body payload ≡ Some body → is_in tree body.hash ≡ false
      → IsBroken limit given image (record { file = body_file; at = at })
  -- a tip of a marker isn't in the tree
  UnknownTip : (before after : Records) (at : ℕ) (payload : List ℕ) (tree : Tree) (batch : Batch) → HasRecord image coin_file before at payload after
      → read_tree limit given image ≡ Ok tree → settled_batch (batch_of first_key payload) ≡ Some batch → list_all (is_in tree) (tips_of batch.marker) ≡ false
      → IsBroken limit given image (record { file = coin_file; at = at })
  -- a tip of the last marker isn't at or above the start, or a body of a block on the way to it has no record
  Unreached : (before : Records) (at : ℕ) (payload : List ℕ) (tree : Tree) (bodies : List StoredBody) (batch : Batch) → HasRecord image coin_file before at payload []
      → read_tree limit given image ≡ Ok tree → read_bodies tree image ≡ Ok bodies → settled_batch (batch_of first_key payload) ≡ Some batch
      → list_all (is_reached tree bodies genesis_hash) (tips_of batch.marker) ≡ false
      → IsBroken limit given image (record { file = coin_file; at = at })

-- an image stands for nothing exactly where some place of it is broken
pub record BreaksAre (limit : ℕ) (given : Rules) (image : Image) : Type 0 where
  pub some : IsNone (state_of limit given image) → (place : BrokenPlace) × IsBroken limit given image place
  pub none : (place : BrokenPlace) → IsBroken limit given image place → IsNone (state_of limit given image)
