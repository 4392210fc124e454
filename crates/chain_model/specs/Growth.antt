-- A tree of headers that grows.
use Rattle.std.specs.Prelude.{◌≡◌, ℕ}
use Rattle.std.specs.declared.option.Option.TheVariants.{Some}
use Rattle.std.specs.FinMap.{get}
use Rattle.base_types.specs.declared.hash.Hash32.{Hash32}
use Rattle.block_codec.specs.declared.block.Header.{Header}
use Rattle.chain_model.specs.Tree.{Tree}
use Rattle.chain_model.specs.HeaderRules.{IsTree}

-- what was in the tree is in it still, and the same rules hold
pub record Grows (limit : ℕ) (old new : Tree) : Type 0 where
  pub before : IsTree limit old
  pub after : IsTree limit new
  pub kept : (hash : Hash32) (header : Header) → get old.headers hash ≡ Some header → get new.headers hash ≡ Some header
  pub rules : new.rules ≡ old.rules
