-- What is printed of a frame of a block file.
use Rattle.std.specs.Prelude.{ℕ, ◌-◌, List, [], ◌∷◌, codes, decimal}
use Rattle.base_types.specs.Printed.{printed}
use Rattle.block_codec.specs.Text.{hash_of_header}
use Rattle.block_codec.specs.Weight.{total_size_of}
use Rattle.block_codec.specs.declared.block.Block.{Block}
use Rattle.coins_inspect.specs.Lines.{line}
use Rattle.coins_inspect.specs.Reports.{shown_size}

-- the frame of a block that ends at an offset: where it begins, eight bytes before the block, the block's length and its hash
unfoldable pub frame_line : ℕ → Block → List ℕ
frame_line end block =
    line (codes "frame") (decimal (end - shown_size (total_size_of block) - 8) ∷ codes "length" ∷ decimal (shown_size (total_size_of block)) ∷
    codes "block" ∷ printed (hash_of_header block.header) ∷ [])
