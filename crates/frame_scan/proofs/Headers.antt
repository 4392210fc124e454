-- The header with which a block begins.
use Rattle.std.proofs.Common.{◌≡◌, ℕ, List, length, refl, ap, subst}
use Rattle.std.specs.Prelude.{Result, Ok, Err, true, is_ok}
use Rattle.base_types.specs.Reading.{Input}
use Rattle.block_codec.specs.declared.block.Header.{Header}
use Rattle.block_codec.specs.declared.block.Block.{Block}
use Rattle.block_codec.specs.declared.fault.BlockError.{BlockError}
use Rattle.block_codec.specs.declared.fault.BlockFault.{BlockFault}
use Rattle.block_codec.specs.declared.fault.BlockFault.TheVariants.{Bad}
use Rattle.block_codec.specs.Reading.{Wrong, Fails, header_at, block_of}
use Rattle.block_codec.proofs.BlockLaws.{header_of_block}

same_value : {A : Type 0} (x y : A) (read : Result A Wrong) → read ≡ Ok x → read ≡ Ok y → x ≡ y
same_value x y read one other = cc

apart : {A : Type 0} (x : A) (wrong : Wrong) (read : Result A Wrong) → read ≡ Ok x → read ≡ Err wrong → ⊥
apart x wrong read one other = absurd cc

block_read : (read : Result Block Wrong) → is_ok read ≡ true → (block : Block) × (read ≡ Ok block)
block_read (Ok block) read = (block, refl)
block_read (Err wrong) read = absurd cc

-- what stands where a block does
pub block_there : (bytes : List ℕ) → is_ok (block_of bytes) ≡ true → (block : Block) × (block_of bytes ≡ Ok block)
block_there bytes is = block_read (block_of bytes) is

-- a header that was read is the block's
pub header_is : (bytes : List ℕ) (header : Header) (new : Input) (block : Block) → block_of bytes ≡ Ok block → header_at (record { end = length bytes; rest = bytes }) ≡ Ok (header, new) → header ≡ block.header
header_is bytes header new block is read =
    let first = header_of_block bytes block is in
    ap (λ (front : Header × Input). front.0) (same_value (header, new) (block.header, first.0) (header_at (record { end = length bytes; rest = bytes })) read first.1)

-- where a block stands, reading its header meets no fault
pub no_fault : (bytes : List ℕ) (block : Block) (fault : BlockFault) (error : BlockError) (place : ℕ) → fault ≡ Bad error place → block_of bytes ≡ Ok block → Fails fault (header_at (record { end = length bytes; rest = bytes })) → ⊥
no_fault bytes block fault error place is whole fails =
    let first = header_of_block bytes block whole in
    let wrong : header_at (record { end = length bytes; rest = bytes }) ≡ Err (error, place) = subst (λ (f : BlockFault). Fails f (header_at (record { end = length bytes; rest = bytes }))) is fails in
    apart (block.header, first.0) (error, place) (header_at (record { end = length bytes; rest = bytes })) first.1 wrong
