-- Sizes of blocks in bytes, and their weight (BIP 141).
use Rattle.std.specs.Prelude.{ℕ, ◌+◌, ◌*◌, List, length, ◌++◌}
use Rattle.std.specs.List.{flat_map}
use Rattle.base_types.specs.Bytes.{compact}
use Rattle.block_codec.specs.declared.block.Block.{Block}
use Rattle.block_codec.specs.Text.{header_text, stripped_text, block_text}

-- a block with each transaction in the form without witness
abbrev pub stripped_block_text : Block → List ℕ
stripped_block_text b = header_text b.header ++ compact (length b.txs) ++ flat_map stripped_text b.txs

abbrev pub stripped_size_of : Block → ℕ
stripped_size_of b = length (stripped_block_text b)

-- the size as written
abbrev pub total_size_of : Block → ℕ
total_size_of b = length (block_text b)

-- so that a byte of a witness counts a quarter of another byte
abbrev pub weight_of : Block → ℕ
weight_of b = 3 * stripped_size_of b + total_size_of b
