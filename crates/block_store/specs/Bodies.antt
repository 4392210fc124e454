-- A payload of the bodies' file: the hash of a block, and then the block.
use Rattle.std.specs.Prelude.{ℕ, List, ◌++◌, length, take, drop, Option, Some, None, nat_le, if◌then◌else◌}
use Rattle.std.specs.Result.{result_ok}
use Rattle.base_types.specs.declared.hash.Hash32.{Hash32}
use Rattle.block_codec.specs.declared.block.Block.{Block}
use Rattle.block_codec.specs.Reading.{block_of}
use Rattle.block_codec.specs.Text.{block_text}

abbrev pub body_text : Hash32 → Block → List ℕ
body_text hash block = hash.bytes ++ block_text block

-- the hash that a payload carries
abbrev pub body_hash : List ℕ → Option Hash32
body_hash payload = if nat_le 32 (length payload) then Some (record { bytes = take 32 payload }) else None

-- the block behind the hash
abbrev pub body_of : List ℕ → Option Block
body_of payload = result_ok (block_of (drop 32 payload))
