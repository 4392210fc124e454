-- What making a block gives.
use Rattle.std.specs.Prelude.{◌≡◌, Option, Some, None, Result, Ok, Err}
use Rattle.base_types.specs.declared.hash.Hash32.{Hash32}
use Rattle.block_codec.specs.declared.block.Block.{Block}
use Rattle.block_codec.specs.Text.{hash_of_header}
use Rattle.chain_gen.specs.declared.fault.GenFault.{GenFault}
use Rattle.chain_gen.specs.declared.fault.GenFault.TheVariants.{NoMemory, HostFailed, NoNonce}

-- the block and its hash, or that there is none; want of memory is free, and no host is called
abbrev pub IsBlock : Result (Block × Hash32) GenFault → Option Block → Type 0
IsBlock (Ok made) block = (block ≡ Some made.0) × (made.1 ≡ hash_of_header made.0.header)
IsBlock (Err NoMemory) block = Unit {0}
IsBlock (Err HostFailed) block = ⊥
IsBlock (Err NoNonce) block = block ≡ None
