-- Trees of genesis and headers above it.
use Rattle.std.specs.Prelude.{◌≡◌, ℕ}
use Rattle.std.specs.declared.option.Option.TheVariants.{None}
use Rattle.base_types.specs.declared.hash.Hash32.{Hash32}
use Rattle.base_types.specs.declared.program.Rules.{Rules}
use Rattle.block_codec.specs.Genesis.{genesis_hash}
use Rattle.block_codec.specs.declared.block.Header.{Header}
use Rattle.chain_model.specs.Tree.{Tree}
use Rattle.chain_model.specs.HeaderRules.{first_tree, with_header, header_broken}

-- a header is acceptable in a tree, as a child of this block
pub record IsChild (limit : ℕ) (tree : Tree) (parent : Hash32) (header : Header) : Type 0 where
  pub accepted : header_broken limit tree header ≡ None
  pub below : header.prev ≡ parent

-- genesis and one header above it
module _ (limit : ℕ) (given : Rules) (header : Header) (child : IsChild limit (first_tree given) genesis_hash header) where
  abbrev pub tree_of_one : Tree
  tree_of_one = with_header (first_tree given) header
