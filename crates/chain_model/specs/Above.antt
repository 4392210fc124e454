-- Blocks below blocks.
use Rattle.std.specs.Prelude.{◌≡◌, ℕ, zero, suc}
use Rattle.std.specs.declared.option.Option.TheVariants.{Some}
use Rattle.std.specs.FinMap.{get}
use Rattle.base_types.specs.declared.hash.Hash32.{Hash32}
use Rattle.block_codec.specs.declared.block.Header.{Header}
use Rattle.chain_model.specs.Tree.{Headers}
use Rattle.block_codec.specs.Genesis.{genesis_hash}

-- a block other than genesis has this header
pub record IsBlock (headers : Headers) (hash : Hash32) (header : Header) : Type 0 where
  pub later : hash ≡ genesis_hash → ⊥
  pub found : get headers hash ≡ Some header

-- so many steps to parents lead from one block to another
abbrev pub IsAbove : Headers → ℕ → Hash32 → Hash32 → Type 0
IsAbove headers zero from to = from ≡ to
IsAbove headers (suc n) from to = (header : Header) × IsBlock headers from header × IsAbove headers n header.prev to
