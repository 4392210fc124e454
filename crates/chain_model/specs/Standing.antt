-- Where a block may be applied.
use Rattle.std.specs.Prelude.{◌≡◌}
use Rattle.std.specs.declared.option.Option.TheVariants.{Some, None}
use Rattle.std.specs.FinMap.{get}
use Rattle.block_codec.specs.declared.block.Block.{Block}
use Rattle.block_codec.specs.Text.{hash_of_header}
use Rattle.chain_model.specs.Tree.{Tree}
use Rattle.chain_model.specs.BodyRules.{body_broken, place_below}

-- a block's header stands in a tree under its hash, and its body breaks no rule there
pub record Stands (tree : Tree) (block : Block) : Type 0 where
  pub known : get tree.headers (hash_of_header block.header) ≡ Some block.header
  pub sound : body_broken (place_below tree block.header.prev) block ≡ None
