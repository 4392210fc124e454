-- The stored blocks that wait as a store is opened.
use Rattle.std.specs.Prelude.{Bool, false, not, ◌&&◌, List}
use Rattle.std.specs.List.{list_any}
use Rattle.std.specs.Option.{option_map_or}
use Rattle.std.specs.FinMap.{get}
use Rattle.base_types.specs.declared.hash.Hash32.{Hash32}
use Rattle.block_codec.specs.Text.{same_hash}
use Rattle.chain_model.specs.Choice.{is_at_or_below}
use Rattle.chain_model.specs.Tree.{Headers}

abbrev pub is_among : List Hash32 → Hash32 → Bool
is_among hashes hash = list_any (λ one. same_hash one hash) hashes

-- a block of the tree has this parent
abbrev pub is_child : Headers → Hash32 → Hash32 → Bool
is_child headers parent hash = option_map_or (λ header. same_hash header.prev parent) (get headers hash) false

-- a block with one of these bodies, above its parent
abbrev pub is_stored_child : Headers → List Hash32 → Hash32 → Hash32 → Bool
is_stored_child headers hashes parent hash = is_among hashes hash && is_child headers parent hash

-- that, but for the tip and its ancestors
abbrev pub is_left_over : Headers → List Hash32 → Hash32 → Hash32 → Hash32 → Bool
is_left_over headers hashes tip parent hash = is_stored_child headers hashes parent hash && not (is_at_or_below headers hash tip)
