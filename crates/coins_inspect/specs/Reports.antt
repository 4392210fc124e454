-- What is printed of bytes in the form of a number, an amount, a script, a coin, a key, a header, a transaction or a block.
use Rattle.std.specs.Prelude.{ℕ, ◌^◌, ◌-◌, min, List, [], ◌∷◌, ◌++◌, length, map, codes, decimal, Option, Some, None, Result, Ok, Err}
use Rattle.std.specs.Fmt.{signed_decimal}
use Rattle.std.specs.List.{flat_map}
use Rattle.hex.specs.Hex.{encode_lower}
use Rattle.base_types.specs.Printed.{printed}
use Rattle.base_types.specs.Reading.{Input, place}
use Rattle.base_types.specs.Codec.{at}
use Rattle.base_types.specs.declared.cursor.ReadError.{ReadError}
use Rattle.base_types.specs.declared.cursor.ReadError.TheVariants as read
use Rattle.base_types.specs.declared.coin.Coin.{Coin}
use Rattle.base_types.specs.declared.hash.Hash32.{Hash32}
use Rattle.base_types.specs.declared.hash.OutPoint.{OutPoint}
use Rattle.coin_codec.specs.Reading.{amount_at, script_at, coin_at, key_at, Wrong}
use Rattle.block_codec.specs.Commitment.{commitment_of}
use Rattle.block_codec.specs.Merkle.{merkle_root, is_mutated}
use Rattle.block_codec.specs.Reading.{header_at, block_of, Wrong as BlockWrong}
use Rattle.block_codec.specs.Text.{hash_of_header, txid_of, wtxid_of, is_coinbase}
use Rattle.block_codec.specs.TxAlone.{tx_of, stripped_tx_size_of, total_tx_size_of, tx_weight_of}
use Rattle.block_codec.specs.Weight.{stripped_size_of, total_size_of, weight_of}
use Rattle.block_codec.specs.declared.block.Block.{Block}
use Rattle.block_codec.specs.declared.block.Header.{Header}
use Rattle.block_codec.specs.declared.block.Tx.{Tx}
use Rattle.block_codec.specs.declared.fault.BlockError.{BlockError}
use Rattle.block_codec.specs.declared.fault.BlockFault.{BlockFault}
use Rattle.block_codec.specs.declared.fault.BlockFault.TheVariants.{NoMemory, Bad}
use Rattle.coins_inspect.specs.Lines.{line}
use Rattle.coins_inspect.specs.Names.{read_error, coin_error, block_error, truth}

-- what a cursor has before the first of the bytes
abbrev pub all_of : List ℕ → Input
all_of bytes = at (length bytes) bytes

-- a fault and its offset
unfoldable pub fault_line : List ℕ → ℕ → List ℕ
fault_line name offset = line (codes "fault") (name ∷ decimal offset ∷ [])

-- a fact of the fault of bytes and its offset, where no memory was wanted
abbrev pub IsFault : BlockFault → (BlockError → ℕ → Type 0) → Type 0
IsFault (Bad error offset) P = P error offset
IsFault NoMemory P = ⊥

-- where the bytes, or what was read of them, end
unfoldable pub end_line : ℕ → List ℕ
end_line end = line (codes "end") (decimal end ∷ [])

-- the offset of a fault: the end of the bytes where they end too early, and else where the field begins
abbrev pub error_place : ReadError → ℕ → ℕ → ℕ
error_place read.Short field end = end
error_place read.LongSpelling field end = field
error_place read.TooLarge field end = field

-- ---- numbers

-- a number, and the offset behind it
unfoldable pub number_line : ℕ → ℕ → List ℕ
number_line n end = line (codes "number") (decimal n ∷ codes "end" ∷ decimal end ∷ [])

-- bytes of this length, which begin with the number
abbrev pub number_report : ℕ → Result (ℕ × Input) ReadError → List ℕ
number_report len (Ok found) = number_line found.0 (place found.1)
number_report len (Err error) = fault_line (read_error error) (error_place error 0 len)

-- ---- coins and their parts

unfoldable pub amount_line : ℕ → ℕ → List ℕ
amount_line value end = line (codes "amount") (decimal value ∷ codes "end" ∷ decimal end ∷ [])

abbrev pub amount_or_fault : Result (ℕ × Input) Wrong → List ℕ
amount_or_fault (Ok found) = amount_line found.0 (place found.1)
amount_or_fault (Err wrong) = fault_line (coin_error wrong.0) wrong.1

abbrev pub amount_report : List ℕ → List ℕ
amount_report bytes = amount_or_fault (amount_at (all_of bytes))

-- a coin without its script, and the offset behind it
unfoldable pub coin_line : ℕ → List ℕ → ℕ → ℕ → List ℕ
coin_line height coinbase value end =
    line (codes "coin") (codes "height" ∷ decimal height ∷ codes "coinbase" ∷ coinbase ∷ codes "value" ∷ decimal value ∷ codes "end" ∷ decimal end ∷ [])

unfoldable pub script_line : List ℕ → List ℕ
script_line script = line (codes "script") (encode_lower script ∷ [])

abbrev pub script_or_fault : Result (List ℕ × Input) Wrong → List ℕ
script_or_fault (Ok found) = script_line found.0 ++ end_line (place found.1)
script_or_fault (Err wrong) = fault_line (coin_error wrong.0) wrong.1

abbrev pub script_report : List ℕ → List ℕ
script_report bytes = script_or_fault (script_at (all_of bytes))

abbrev pub coin_lines : Coin → ℕ → List ℕ
coin_lines coin end = coin_line coin.height (truth coin.coinbase) coin.value end ++ script_line coin.script

abbrev pub coin_or_fault : Result (Coin × Input) Wrong → List ℕ
coin_or_fault (Ok found) = coin_lines found.0 (place found.1)
coin_or_fault (Err wrong) = fault_line (coin_error wrong.0) wrong.1

abbrev pub coin_report : List ℕ → List ℕ
coin_report bytes = coin_or_fault (coin_at (all_of bytes))

-- a coin by its outpoint, without its script
unfoldable pub unspent_line : OutPoint → ℕ → List ℕ → ℕ → List ℕ
unspent_line key height coinbase value =
    line (codes "unspent") (printed key.txid ∷ decimal key.index ∷ codes "height" ∷ decimal height ∷ codes "coinbase" ∷ coinbase ∷ codes "value" ∷ decimal value ∷ [])

abbrev pub unspent_lines : OutPoint → Coin → List ℕ
unspent_lines key coin = unspent_line key coin.height (truth coin.coinbase) coin.value ++ script_line coin.script

unfoldable pub key_line : OutPoint → ℕ → List ℕ
key_line key end = line (codes "key") (printed key.txid ∷ decimal key.index ∷ codes "end" ∷ decimal end ∷ [])

-- another letter is a long spelling, at the first byte; a number that is too large begins behind the letter and 32 bytes
abbrev pub key_place : ReadError → ℕ → ℕ
key_place read.Short end = end
key_place read.LongSpelling end = 0
key_place read.TooLarge end = 33

abbrev pub key_or_fault : ℕ → Result (OutPoint × Input) ReadError → List ℕ
key_or_fault len (Ok found) = key_line found.0 (place found.1)
key_or_fault len (Err error) = fault_line (read_error error) (key_place error len)

abbrev pub key_report : List ℕ → List ℕ
key_report bytes = key_or_fault (length bytes) (key_at (all_of bytes))

-- ---- headers

unfoldable pub header_lines : Header → ℕ → List ℕ
header_lines header end =
    line (codes "header") (printed (hash_of_header header) ∷ codes "version" ∷ signed_decimal header.version ∷ codes "time" ∷ decimal header.time ∷
    codes "bits" ∷ decimal header.bits ∷ codes "nonce" ∷ decimal header.nonce ∷ codes "end" ∷ decimal end ∷ [])
    ++ line (codes "parent") (printed header.prev ∷ codes "root" ∷ printed header.root ∷ [])

abbrev pub header_or_fault : Result (Header × Input) BlockWrong → List ℕ
header_or_fault (Ok found) = header_lines found.0 (place found.1)
header_or_fault (Err wrong) = fault_line (block_error wrong.0) wrong.1

abbrev pub header_report : List ℕ → List ℕ
header_report bytes = header_or_fault (header_at (all_of bytes))

-- ---- blocks

-- a size, as far as 64 bits hold it
abbrev pub shown_size : ℕ → ℕ
shown_size n = min n (2 ^ 64 - 1)

unfoldable pub sizes_line : Block → List ℕ
sizes_line block =
    line (codes "block") (printed (hash_of_header block.header) ∷ codes "transactions" ∷ decimal (length block.txs) ∷
    codes "stripped" ∷ decimal (shown_size (stripped_size_of block)) ∷ codes "size" ∷ decimal (shown_size (total_size_of block)) ∷
    codes "weight" ∷ decimal (shown_size (weight_of block)) ∷ [])

-- the root that the header has, and that of the transactions
unfoldable pub root_line : Block → List ℕ
root_line block =
    line (codes "root") (printed block.header.root ∷ codes "computed" ∷ printed (merkle_root (map txid_of block.txs)) ∷
    codes "mutated" ∷ truth (is_mutated (map txid_of block.txs)) ∷ [])

unfoldable pub commitment_line : Option Hash32 → List ℕ
commitment_line None = line (codes "commitment") (codes "none" ∷ [])
commitment_line (Some hash) = line (codes "commitment") (printed hash ∷ [])

-- a transaction by its two hashes and the numbers of its inputs and outputs
unfoldable pub counted_tx_line : Hash32 → Hash32 → ℕ → ℕ → List ℕ
counted_tx_line txid wtxid inputs outputs =
    line (codes "transaction") (printed txid ∷ codes "with-witness" ∷ printed wtxid ∷ codes "inputs" ∷ decimal inputs ∷ codes "outputs" ∷ decimal outputs ∷ [])

unfoldable pub tx_line : Tx → List ℕ
tx_line tx = counted_tx_line (txid_of tx) (wtxid_of tx) (length tx.inputs) (length tx.outputs)

unfoldable pub measures_line : ℕ → ℕ → ℕ → List ℕ → List ℕ
measures_line stripped size weight coinbase =
    line (codes "sizes") (codes "stripped" ∷ decimal stripped ∷ codes "size" ∷ decimal size ∷ codes "weight" ∷ decimal weight ∷ codes "coinbase" ∷ coinbase ∷ [])

unfoldable pub tx_sizes_line : Tx → List ℕ
tx_sizes_line tx = measures_line (shown_size (stripped_tx_size_of tx)) (shown_size (total_tx_size_of tx)) (shown_size (tx_weight_of tx)) (truth (is_coinbase tx))

abbrev pub tx_or_fault : Result Tx BlockWrong → List ℕ
tx_or_fault (Ok tx) = tx_line tx ++ tx_sizes_line tx
tx_or_fault (Err wrong) = fault_line (block_error wrong.0) wrong.1

abbrev pub tx_report : List ℕ → List ℕ
tx_report bytes = tx_or_fault (tx_of bytes)

abbrev pub block_lines : Block → List ℕ
block_lines block = sizes_line block ++ root_line block ++ commitment_line (commitment_of block) ++ flat_map tx_line block.txs

abbrev pub block_or_fault : Result Block BlockWrong → List ℕ
block_or_fault (Ok block) = block_lines block
block_or_fault (Err wrong) = fault_line (block_error wrong.0) wrong.1

unfoldable pub block_report : List ℕ → List ℕ
block_report bytes = block_or_fault (block_of bytes)
