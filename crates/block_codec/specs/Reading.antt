-- Reading a block from the left, with the first fault that is met and its offset.
use Rattle.std.specs.Prelude.{◌≡◌, ℕ, List, [], ◌∷◌, length, Result, Ok, Err, ◌==◌, if◌then◌else◌}
use Rattle.std.specs.Int.{w32, w64, cast_signed}
use Rattle.base_types.specs.Reading.{Input, place, ◌>>=◌, byte_at, bytes_at, number_at, length_at}
use Rattle.base_types.specs.Codec.{Reader, field, many_at}
use Rattle.base_types.specs.declared.cursor.ReadError.{ReadError}
use Rattle.base_types.specs.declared.cursor.ReadError.TheVariants as read
use Rattle.base_types.specs.declared.coin.TxOut.{TxOut}
use Rattle.block_codec.specs.declared.block.TxIn.{TxIn}
use Rattle.block_codec.specs.declared.block.Tx.{Tx}
use Rattle.block_codec.specs.declared.block.Header.{Header}
use Rattle.block_codec.specs.declared.block.Block.{Block}
use Rattle.block_codec.specs.declared.fault.BlockError.{BlockError}
use Rattle.block_codec.specs.declared.fault.BlockError.TheVariants.{Short, LongSpelling, TooLarge, BadFlag, EmptyWitness, Trailing}
use Rattle.block_codec.specs.declared.fault.BlockFault.{BlockFault}
use Rattle.block_codec.specs.declared.fault.BlockFault.TheVariants.{NoMemory, Bad}
use Rattle.block_codec.specs.Text.{some_witness, with_stack}

-- what is wrong, and at which offset
abbrev pub Wrong : Type 0
Wrong = BlockError × ℕ

-- bytes that end too early are wrong at their end, a field that is there at its first byte
abbrev pub wrong : Input → ReadError → Wrong
wrong i read.Short = (Short, i.end)
wrong i read.LongSpelling = (LongSpelling, place i)
wrong i read.TooLarge = (TooLarge, place i)

-- ---- what a function returned is what reading gives, unless memory ran out

abbrev pub Fails : {Y : Type 0} → BlockFault → Result Y Wrong → Type 0
Fails NoMemory read = Unit {0}
Fails (Bad error at) read = read ≡ Err (error, at)

-- of what view shows
abbrev pub ReadsAs : {X Y : Type 0} → (X → Y) → Result X BlockFault → Input → Result (Y × Input) Wrong → Type 0
ReadsAs view (Ok x) new read = read ≡ Ok (view x, new)
ReadsAs view (Err fault) new read = Fails fault read

abbrev pub Reads : {X : Type 0} → Result X BlockFault → Input → Result (X × Input) Wrong → Type 0
Reads (Ok x) new read = read ≡ Ok (x, new)
Reads (Err fault) new read = Fails fault read

-- of all bytes
abbrev pub Answers : {X : Type 0} → Result X BlockFault → Result X Wrong → Type 0
Answers (Ok x) read = read ≡ Ok x
Answers (Err fault) read = Fails fault read

-- ---- the parts of a transaction

unfoldable pub script_at : Reader Wrong (List ℕ)
script_at i = do
  n ← field wrong length_at i
  field wrong (bytes_at n.0) n.1

unfoldable pub output_at : Reader Wrong TxOut
output_at i = do
  value ← field wrong (number_at w64) i
  script ← script_at value.1
  Ok (record { value = cast_signed w64 value.0; script = script.0 }, script.1)

unfoldable pub input_at : Reader Wrong TxIn
input_at i = do
  txid ← field wrong (bytes_at 32) i
  index ← field wrong (number_at w32) txid.1
  script ← script_at index.1
  sequence ← field wrong (number_at w32) script.1
  Ok (record { prev = record { txid = record { bytes = txid.0 }; index = index.0 }; script = script.0; sequence = sequence.0; stack = [] }, sequence.1)

unfoldable pub stack_at : Reader Wrong (List (List ℕ))
stack_at i = do
  n ← field wrong length_at i
  many_at script_at n.0 n.1

-- a stack for each of the inputs
unfoldable pub stacks_at : List TxIn → Reader Wrong (List TxIn)
stacks_at [] i = Ok ([], i)
stacks_at (input ∷ inputs) i = do
  stack ← stack_at i
  others ← stacks_at inputs stack.1
  Ok (with_stack input stack.0 ∷ others.0, others.1)

-- so many inputs, and the outputs behind their number
unfoldable pub lists_at : ℕ → Reader Wrong (List TxIn × List TxOut)
lists_at count i = do
  inputs ← many_at input_at count i
  n ← field wrong length_at inputs.1
  outputs ← many_at output_at n.0 n.1
  Ok ((inputs.0, outputs.0), outputs.1)

-- ---- transactions, behind their version

-- the lock time, which ends a transaction
unfoldable pub ended_at : ℕ → List TxIn → List TxOut → Reader Wrong Tx
ended_at version inputs outputs i = do
  lock_time ← field wrong (number_at w32) i
  Ok (record { version = version; inputs = inputs; outputs = outputs; lock_time = lock_time.0 }, lock_time.1)

-- the form without witness, behind the number of inputs
unfoldable pub stripped_at : ℕ → ℕ → Reader Wrong Tx
stripped_at version count i = do
  lists ← lists_at count i
  ended_at version lists.0.0 lists.0.1 lists.1

-- the form with witness, behind the flag that stands at an offset
unfoldable pub full_at : ℕ → ℕ → Reader Wrong Tx
full_at version flag i = do
  count ← field wrong length_at i
  lists ← lists_at count.0 count.1
  inputs ← stacks_at lists.0.0 lists.1
  if some_witness inputs.0 then ended_at version inputs.0 lists.0.1 inputs.1 else Err (EmptyWitness, flag)

-- behind a number of inputs that is 0: the flag
unfoldable pub flagged_at : ℕ → Reader Wrong Tx
flagged_at version i = do
  flag ← field wrong byte_at i
  if flag.0 == 0 then ended_at version [] [] flag.1 else
      if flag.0 == 1 then full_at version (place i) flag.1 else
      Err (BadFlag, place i)

unfoldable pub tx_at : Reader Wrong Tx
tx_at i = do
  version ← field wrong (number_at w32) i
  count ← field wrong length_at version.1
  if count.0 == 0 then flagged_at version.0 count.1 else stripped_at version.0 count.0 count.1

-- ---- blocks

unfoldable pub header_at : Reader Wrong Header
header_at i = do
  version ← field wrong (number_at w32) i
  prev ← field wrong (bytes_at 32) version.1
  root ← field wrong (bytes_at 32) prev.1
  time ← field wrong (number_at w32) root.1
  bits ← field wrong (number_at w32) time.1
  nonce ← field wrong (number_at w32) bits.1
  Ok (record { version = cast_signed w32 version.0; prev = record { bytes = prev.0 }; root = record { bytes = root.0 }; time = time.0; bits = bits.0; nonce = nonce.0 }, nonce.1)

unfoldable pub block_at : Reader Wrong Block
block_at i = do
  header ← header_at i
  n ← field wrong length_at header.1
  txs ← many_at tx_at n.0 n.1
  Ok (record { header = header.0; txs = txs.0 }, txs.1)

-- the block that all of the bytes are, or the first fault
unfoldable pub block_of : List ℕ → Result Block Wrong
block_of bytes = do
  block ← block_at (record { end = length bytes; rest = bytes })
  if length block.1.rest == 0 then Ok block.0 else Err (Trailing, place block.1)
