-- What making a chain gives, and what it leaves at the host.
use Rattle.std.specs.Prelude.{◌≡◌, ℕ, List, Some, Result, Ok, Err, IsOk, IsErr}
use Rattle.base_types.specs.declared.hash.Hash32.{Hash32}
use Rattle.block_codec.specs.declared.block.Block.{Block}
use Rattle.io_traits.specs.Host.{Held, ChangesOnly}
use Rattle.io_traits.specs.HostRuns.{IsMade, IsDone}
use Rattle.chain_model.specs.Generated.{tip_of}
use Rattle.chain_model.specs.Generated.{blocks_of}
use Rattle.chain_gen.specs.declared.fault.GenFault.{GenFault}
use Rattle.chain_gen.specs.declared.fault.GenFault.TheVariants.{NoMemory, HostFailed, NoNonce}

-- all blocks were made and this is the hash of the last, or some block has no nonce
abbrev pub IsTip : Result Hash32 GenFault → Result (List Block) (List Block) → Type 0
IsTip (Ok tip) made = IsOk made × (tip ≡ tip_of (blocks_of made))
IsTip (Err NoMemory) made = Unit {0}
IsTip (Err HostFailed) made = Unit {0}
IsTip (Err NoNonce) made = IsErr made

-- the created file has these bytes; where the work was cut off, it may have any
abbrev pub Leaves : Result Hash32 GenFault → List ℕ → List ℕ → Held → Held → Type 0
Leaves (Ok tip) name bytes s t = IsMade name bytes s t
Leaves (Err NoNonce) name bytes s t = IsMade name bytes s t
Leaves (Err NoMemory) name bytes s t = ChangesOnly name s t × (t.created ≡ Some name)
Leaves (Err HostFailed) name bytes s t = ChangesOnly name s t × (t.created ≡ Some name)

-- the file has these bytes; where the work was cut off, nothing is said of it
abbrev pub Ends : Result Hash32 GenFault → List ℕ → List ℕ → Held → Held → Type 0
Ends (Ok tip) name bytes s t = IsDone name bytes s t
Ends (Err NoNonce) name bytes s t = IsDone name bytes s t
Ends (Err NoMemory) name bytes s t = Unit {0}
Ends (Err HostFailed) name bytes s t = Unit {0}
