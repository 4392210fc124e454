-- The rules of bodies.
use Rattle.std.specs.Prelude.{ℕ, zero, suc, ◌+◌, ◌*◌, ◌/◌, ◌%◌, ℤ, pos, negsuc, ◌+ℤ◌, Bool, true, false, not, ◌&&◌, ◌||◌, ◌==◌, List, [], ◌∷◌, ◌++◌, length, drop, map, nat_lt, nat_le, nat_eq, is_some, cond}
use Rattle.std.specs.declared.option.Option.{Option}
use Rattle.std.specs.declared.option.Option.TheVariants.{Some, None}
use Rattle.std.specs.List.{list_any, list_all, starts_with}
use Rattle.base_types.specs.Parameters.{max_money}
use Rattle.base_types.specs.declared.hash.Hash32.{Hash32}
use Rattle.base_types.specs.declared.hash.OutPoint.{OutPoint}
use Rattle.base_types.specs.declared.coin.TxOut.{TxOut}
use Rattle.base_types.specs.declared.program.Rules.{Rules}
use Rattle.base_types.specs.declared.refused.BodyRefused.{BodyRefused}
use Rattle.base_types.specs.declared.refused.BodyRefused.TheVariants.{BadMerkle, Mutated, TooLarge, FirstNotCoinbase, SecondCoinbase, NoInputs, NoOutputs, BadValue, DuplicateInput, CoinbaseScript, NullInput, NotFinal, BadHeight, WitnessNonce, WitnessCommitment, UnexpectedWitness, Weight}
use Rattle.block_codec.specs.declared.block.TxIn.{TxIn}
use Rattle.block_codec.specs.declared.block.Tx.{Tx}
use Rattle.block_codec.specs.declared.block.Block.{Block}
use Rattle.block_codec.specs.Text.{txid_of, has_witness, is_coinbase, names_nothing, same_hash}
use Rattle.block_codec.specs.Weight.{stripped_size_of, weight_of}
use Rattle.block_codec.specs.Merkle.{merkle_root, is_mutated}
use Rattle.block_codec.specs.Commitment.{commitment_of, computed_commitment}
use Rattle.chain_model.specs.Rules.{first_broken, first_some}
use Rattle.chain_model.specs.Tree.{Tree, height, median_time}

-- where a block stands: its height, its parent's median time, and the rules of its tree
pub record Place : Type 0 where
  pub at : ℕ
  pub median : ℕ
  pub rules : Rules

-- ---- one transaction

-- a value, or a sum of values, is out of range
abbrev pub is_out_of_range : ℤ → Bool
is_out_of_range (pos n) = nat_lt max_money n
is_out_of_range (negsuc n) = true

-- an output's value, or a sum of the first outputs, is out of range
unfoldable pub has_bad_value : ℤ → List TxOut → Bool
has_bad_value before [] = false
has_bad_value before (output ∷ outputs) = is_out_of_range output.value || is_out_of_range (before +ℤ output.value) || has_bad_value (before +ℤ output.value) outputs

abbrev pub same_outpoint : OutPoint → OutPoint → Bool
same_outpoint a b = same_hash a.txid b.txid && (a.index == b.index)

-- two inputs name one outpoint
unfoldable pub has_twin_inputs : List TxIn → Bool
has_twin_inputs [] = false
has_twin_inputs (input ∷ inputs) = list_any (λ other. same_outpoint input.prev other.prev) inputs || has_twin_inputs inputs

-- a coinbase's script has fewer than 2 or more than 100 bytes
abbrev pub has_bad_coinbase_script : Tx → Bool
has_bad_coinbase_script tx = is_coinbase tx && list_any (λ input. nat_lt (length input.script) 2 || nat_lt 100 (length input.script)) tx.inputs

-- another transaction has an input that names no output
abbrev pub has_null_input : Tx → Bool
has_null_input tx = not (is_coinbase tx) && list_any names_nothing tx.inputs

abbrev pub tx_broken : Tx → Option BodyRefused
tx_broken tx = first_broken (
    (length tx.inputs == 0, NoInputs) ∷
    (length tx.outputs == 0, NoOutputs) ∷
    (has_bad_value (pos 0) tx.outputs, BadValue) ∷
    (has_twin_inputs tx.inputs, DuplicateInput) ∷
    (has_bad_coinbase_script tx, CoinbaseScript) ∷
    (has_null_input tx, NullInput) ∷
    [])

-- the time by which lock times are judged: the parent's median time (BIP 113), and before that rule the block's own
abbrev pub lock_clock : Place → Block → ℕ
lock_clock place block = cond (nat_le place.rules.csv place.at) place.median block.header.time

-- a lock time is a height below 500,000,000, and a time from there on
abbrev pub lock_has_passed : Place → Block → ℕ → Bool
lock_has_passed place block lock = cond (nat_lt lock 500000000) (nat_lt lock place.at) (nat_lt lock (lock_clock place block))

abbrev pub is_final : Place → Block → Tx → Bool
is_final place block tx = (tx.lock_time == 0) || lock_has_passed place block tx.lock_time || list_all (λ input. input.sequence == 0xffffffff) tx.inputs

-- ---- the coinbase

-- the least number of bytes, the lowest first, at most so many
unfoldable pub least_bytes : ℕ → ℕ → List ℕ
least_bytes zero n = []
least_bytes (suc most) zero = []
least_bytes (suc most) (suc n) = suc n % 256 ∷ least_bytes most (suc n / 256)

-- a zero byte behind a last byte from 80 on, whose top bit would be a sign
unfoldable pub without_sign : List ℕ → List ℕ
without_sign [] = []
without_sign (byte ∷ []) = cond (nat_lt byte 128) (byte ∷ []) (byte ∷ 0 ∷ [])
without_sign (byte ∷ next ∷ bytes) = byte ∷ without_sign (next ∷ bytes)

-- the push of a height (BIP 34): one byte for 1 to 16, else a length and the number's bytes
abbrev pub height_push : ℕ → List ℕ
height_push at =
    cond (nat_le 1 at && nat_le at 16) ((0x50 + at) ∷ [])
    (length (without_sign (least_bytes 8 at)) ∷ without_sign (least_bytes 8 at))

abbrev pub first_script : List Tx → List ℕ
first_script [] = []
first_script (coinbase ∷ txs) = script_in coinbase.inputs
  where
    script_in : List TxIn → List ℕ
    script_in [] = []
    script_in (input ∷ inputs) = input.script

-- the items of the first input's witness
abbrev pub stack_in : List TxIn → List (List ℕ)
stack_in [] = []
stack_in (input ∷ inputs) = input.stack

abbrev pub first_stack : List Tx → List (List ℕ)
first_stack [] = []
first_stack (coinbase ∷ txs) = stack_in coinbase.inputs

-- ---- witnesses (BIP 141)

-- the one item of 32 bytes that a coinbase's witness is, where there is a commitment
abbrev pub nonce_of : List (List ℕ) → Option (List ℕ)
nonce_of [] = None
nonce_of (item ∷ []) = cond (length item == 32) (Some item) None
nonce_of (item ∷ other ∷ items) = None

abbrev pub has_bad_nonce : Option Hash32 → List (List ℕ) → Bool
has_bad_nonce None stack = false
has_bad_nonce (Some committed) stack = not (is_some (nonce_of stack))

-- the commitment isn't the computed one
abbrev pub commits_wrongly : Block → Option Hash32 → Option (List ℕ) → Bool
commits_wrongly block None item = false
commits_wrongly block (Some committed) None = false
commits_wrongly block (Some committed) (Some item) = not (same_hash committed (computed_commitment block item))

abbrev pub is_none_of : {A : Type 0} → Option A → Bool
is_none_of o = not (is_some o)

-- ---- the body

abbrev pub others_of : List Tx → List Tx
others_of txs = drop 1 txs

abbrev pub starts_with_coinbase : List Tx → Bool
starts_with_coinbase [] = false
starts_with_coinbase (tx ∷ txs) = is_coinbase tx

-- at least the height from which witnesses are known
abbrev pub knows_witnesses : Place → Bool
knows_witnesses place = nat_le place.rules.segwit place.at

-- ---- the rules in groups, each in its order

-- rules, each with whether it is broken
abbrev pub RuleList : Type 0
RuleList = List (Bool × BodyRefused)

-- there is no transaction, or the block or the number of its transactions is too large
abbrev pub is_too_large : Block → Bool
is_too_large block = (length block.txs == 0) || nat_lt 4000000 (4 * stripped_size_of block) || nat_lt 4000000 (4 * length block.txs)

-- root, size and coinbase
abbrev pub structure_rules : Block → RuleList
structure_rules block =
    (not (same_hash (merkle_root (map txid_of block.txs)) block.header.root), BadMerkle) ∷
    (is_mutated (map txid_of block.txs), Mutated) ∷
    (is_too_large block, TooLarge) ∷
    (not (starts_with_coinbase block.txs), FirstNotCoinbase) ∷
    (list_any is_coinbase (others_of block.txs), SecondCoinbase) ∷
    []

-- some transaction isn't final
abbrev pub has_unfinal : Place → Block → Bool
has_unfinal place block = list_any (λ tx. not (is_final place block tx)) block.txs

-- the coinbase's script has to begin with the height, and doesn't
abbrev pub has_bad_height : Place → Block → Bool
has_bad_height place block = nat_le place.rules.bip34 place.at && not (starts_with nat_eq (first_script block.txs) (height_push place.at))

-- witnesses, by whether they are known and by the commitment to them
abbrev pub witness_rules : Bool → Option Hash32 → Block → RuleList
witness_rules known committed block =
    (known && has_bad_nonce committed (first_stack block.txs), WitnessNonce) ∷
    (known && commits_wrongly block committed (nonce_of (first_stack block.txs)), WitnessCommitment) ∷
    ((not known || is_none_of committed) && list_any has_witness block.txs, UnexpectedWitness) ∷
    []

-- those that ask where the block stands, and the weight
abbrev pub place_rules : Place → Block → RuleList
place_rules place block =
    (has_unfinal place block, NotFinal) ∷
    (has_bad_height place block, BadHeight) ∷
    witness_rules (knows_witnesses place) (commitment_of block) block ++
    (nat_lt 4000000 (weight_of block), Weight) ∷
    []

-- the first rule that a block's body breaks
unfoldable pub body_broken : Place → Block → Option BodyRefused
body_broken place block = first_some (
    first_broken (structure_rules block) ∷
    first_some (map tx_broken block.txs) ∷
    first_broken (place_rules place block) ∷
    [])

-- where a block stands whose parent is in the tree
abbrev pub place_below : Tree → Hash32 → Place
place_below tree parent = record { at = height tree.headers parent + 1; median = median_time tree.headers parent; rules = tree.rules }
