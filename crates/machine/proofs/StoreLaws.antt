-- What is known of small stores.
use Rattle.std.proofs.Common.{◌≡◌, ℕ, [], ◌∷◌}
use Rattle.std.specs.FinMap.{empty, insert}
use Rattle.disk_model.specs.Disk.{Image}
use Rattle.base_types.specs.declared.program.Rules.{Rules}
use Rattle.block_codec.specs.declared.block.Header.{Header}
use Rattle.block_codec.specs.Fitting.{HeaderFits}
use Rattle.block_store.specs.Headers.{headers_text}
use Rattle.chain_model.specs.HeaderRules.{first_tree}
use Rattle.block_codec.specs.Genesis.{genesis_hash}
use Rattle.store_state.specs.State.{blocks_in, first_rules}
use Rattle.store_state.specs.SmallImages.{HasLogs, StandsSettled, payload_at}
use Rattle.store_state.specs.SmallStores.{FirstBlock, hash_of, body_payload, body_stored, store_of_block, store_of_header}
use Rattle.chain_model.specs.SmallTrees.{IsChild}

-- the laws of images with one header and with one block
pub record StoreLaws : Type 0 where
  pub header : (limit : ℕ) (given : Rules) (header : Header) → HeaderFits header → IsChild limit (first_tree first_rules) genesis_hash header → (image : Image)
      → HasLogs image (headers_text (header ∷ []) ∷ []) [] [] → StandsSettled limit given image (store_of_header first_rules header)
  pub block : (limit : ℕ) (given : Rules) (first : FirstBlock limit first_rules) (image : Image)
      → HasLogs image (headers_text (first.block.header ∷ []) ∷ []) (body_payload limit first_rules first ∷ []) (payload_at (hash_of limit first_rules first) first.rows ∷ [])
      → StandsSettled limit given image (store_of_block limit first_rules first)
  pub stored : (limit : ℕ) (first : FirstBlock limit first_rules) → blocks_in empty (body_stored limit first_rules first ∷ []) ≡ insert empty (hash_of limit first_rules first) first.block
