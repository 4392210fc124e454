-- A fault that tells what is wrong with the bytes.
use Rattle.block_codec.specs.declared.fault.BlockFault.{BlockFault}
use Rattle.block_codec.specs.declared.fault.BlockFault.TheVariants.{NoMemory, Bad}

-- the bytes are wrong, and memory didn't run out
abbrev pub IsTold : BlockFault → Type 0
IsTold NoMemory = ⊥
IsTold (Bad error at) = Unit {0}
