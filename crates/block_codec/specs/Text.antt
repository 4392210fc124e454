-- The one text of a transaction and of a block, and the hashes that name them.
use Rattle.std.specs.Prelude.{ℕ, ℤ, pos, negsuc, ◌^◌, Bool, true, not, ◌&&◌, ◌||◌, ◌==◌, List, [], ◌∷◌, ◌++◌, length, Some, None, nat_lt, nat_le, nat_eq, if◌then◌else◌, replicate}
use Rattle.std.specs.Cmp.Lexicographic.{pointwise}
use Rattle.std.specs.declared.option.Option.{Option}
use Rattle.std.specs.List.{flat_map, list_all, list_any}
use Rattle.std.specs.Int.{w32, w64, cast_unsigned}
use Rattle.base_types.specs.Bytes.{compact, number_text, hash_twice}
use Rattle.base_types.specs.Parameters.{max_size}
use Rattle.base_types.specs.declared.hash.OutPoint.{OutPoint}
use Rattle.base_types.specs.declared.hash.Hash32.{Hash32}
use Rattle.base_types.specs.declared.coin.TxOut.{TxOut}
use Rattle.block_codec.specs.declared.block.TxIn.{TxIn}
use Rattle.block_codec.specs.declared.block.Tx.{Tx}
use Rattle.block_codec.specs.declared.block.Header.{Header}
use Rattle.block_codec.specs.declared.block.Block.{Block}

-- a script, or an item of a witness, behind its length
abbrev pub script_text : List ℕ → List ℕ
script_text script = compact (length script) ++ script

abbrev pub outpoint_text : OutPoint → List ℕ
outpoint_text o = o.txid.bytes ++ number_text w32 o.index

abbrev pub output_text : TxOut → List ℕ
output_text o = number_text w64 (cast_unsigned w64 o.value) ++ script_text o.script

abbrev pub input_text : TxIn → List ℕ
input_text i = outpoint_text i.prev ++ script_text i.script ++ number_text w32 i.sequence

-- the items of one input's witness
abbrev pub stack_text : List (List ℕ) → List ℕ
stack_text stack = compact (length stack) ++ flat_map script_text stack

-- the inputs and the outputs, each behind their number
abbrev pub lists_text : Tx → List ℕ
lists_text t = compact (length t.inputs) ++ flat_map input_text t.inputs ++ compact (length t.outputs) ++ flat_map output_text t.outputs

-- the form without witness
abbrev pub stripped_text : Tx → List ℕ
stripped_text t = number_text w32 t.version ++ lists_text t ++ number_text w32 t.lock_time

-- marker and flag stand where the number of inputs would
abbrev pub marker_and_flag : List ℕ
marker_and_flag = 0 ∷ 1 ∷ []

-- the form with witness: one stack for each input behind the outputs
abbrev pub full_text : Tx → List ℕ
full_text t = number_text w32 t.version ++ marker_and_flag ++ lists_text t ++ flat_map (λ i. stack_text i.stack) t.inputs ++ number_text w32 t.lock_time

-- an input with another witness
abbrev pub with_stack : TxIn → List (List ℕ) → TxIn
with_stack i stack = record { prev = i.prev; script = i.script; sequence = i.sequence; stack = stack }

-- whether some stack isn't empty
abbrev pub some_witness : List TxIn → Bool
some_witness inputs = list_any (λ i. not (length i.stack == 0)) inputs

abbrev pub has_witness : Tx → Bool
has_witness t = some_witness t.inputs

-- a transaction as it is written
abbrev pub tx_text : Tx → List ℕ
tx_text t = if has_witness t then full_text t else stripped_text t

abbrev pub header_text : Header → List ℕ
header_text h =
    number_text w32 (cast_unsigned w32 h.version) ++ h.prev.bytes ++ h.root.bytes ++
    number_text w32 h.time ++ number_text w32 h.bits ++ number_text w32 h.nonce

abbrev pub block_text : Block → List ℕ
block_text b = header_text b.header ++ compact (length b.txs) ++ flat_map tx_text b.txs

-- ---- hashes

abbrev pub hash_of_text : List ℕ → Hash32
hash_of_text text = record { bytes = hash_twice text }

-- the hash of the form without witness
abbrev pub txid_of : Tx → Hash32
txid_of t = hash_of_text (stripped_text t)

-- the hash of the form as written
abbrev pub wtxid_of : Tx → Hash32
wtxid_of t = hash_of_text (tx_text t)

abbrev pub hash_of_header : Header → Hash32
hash_of_header h = hash_of_text (header_text h)

abbrev pub zero_hash : Hash32
zero_hash = record { bytes = replicate 32 0 }

-- whether two hashes are equal
abbrev pub same_hash : Hash32 → Hash32 → Bool
same_hash a b = pointwise nat_eq a.bytes b.bytes

-- whether an input names no output
abbrev pub names_nothing : TxIn → Bool
names_nothing i = same_hash i.prev.txid zero_hash && (i.prev.index == 4294967295)

-- whether a transaction is a coinbase: its one input names no output
abbrev pub is_coinbase : Tx → Bool
is_coinbase t = (length t.inputs == 1) && list_all names_nothing t.inputs

-- ---- what has a text

-- whether each test holds
abbrev pub every : List Bool → Bool
every [] = true
every (b ∷ bs) = b && every bs

-- a length or a count
abbrev pub is_length : ℕ → Bool
is_length n = nat_le n max_size

abbrev pub is_u32 : ℕ → Bool
is_u32 n = nat_lt n (2 ^ 32)

abbrev pub is_i32 : ℤ → Bool
is_i32 (pos n) = nat_lt n (2 ^ 31)
is_i32 (negsuc n) = nat_lt n (2 ^ 31)

abbrev pub is_i64 : ℤ → Bool
is_i64 (pos n) = nat_lt n (2 ^ 63)
is_i64 (negsuc n) = nat_lt n (2 ^ 63)

abbrev pub is_hash : Hash32 → Bool
is_hash h = length h.bytes == 32

abbrev pub script_has_text : List ℕ → Bool
script_has_text script = is_length (length script)

abbrev pub output_has_text : TxOut → Bool
output_has_text o = every (is_i64 o.value ∷ script_has_text o.script ∷ [])

abbrev pub stack_has_text : List (List ℕ) → Bool
stack_has_text stack = every (is_length (length stack) ∷ list_all script_has_text stack ∷ [])

abbrev pub input_has_text : TxIn → Bool
input_has_text i = every (is_hash i.prev.txid ∷ is_u32 i.prev.index ∷ script_has_text i.script ∷ is_u32 i.sequence ∷ stack_has_text i.stack ∷ [])

-- outputs without an input have no text, since marker and flag would be taken for their number
abbrev pub tx_has_text : Tx → Bool
tx_has_text t = every (
    is_u32 t.version ∷ is_length (length t.inputs) ∷ list_all input_has_text t.inputs ∷ is_length (length t.outputs) ∷
    list_all output_has_text t.outputs ∷ is_u32 t.lock_time ∷ (not (length t.inputs == 0) || (length t.outputs == 0)) ∷ [])

abbrev pub header_has_text : Header → Bool
header_has_text h = every (is_i32 h.version ∷ is_hash h.prev ∷ is_hash h.root ∷ is_u32 h.time ∷ is_u32 h.bits ∷ is_u32 h.nonce ∷ [])

abbrev pub block_has_text : Block → Bool
block_has_text b = every (header_has_text b.header ∷ is_length (length b.txs) ∷ list_all tx_has_text b.txs ∷ [])

-- the text of a block, or none
abbrev pub text_of : Block → Option (List ℕ)
text_of b = if block_has_text b then Some (block_text b) else None
