-- The commitment to the witnesses of a block (BIP 141).
use Rattle.std.specs.Prelude.{ℕ, Bool, ◌&&◌, List, [], ◌∷◌, ◌++◌, length, take, drop, map, Some, None, nat_le, nat_eq, cond}
use Rattle.std.specs.declared.option.Option.{Option}
use Rattle.std.specs.List.{starts_with}
use Rattle.base_types.specs.declared.hash.Hash32.{Hash32}
use Rattle.base_types.specs.declared.coin.TxOut.{TxOut}
use Rattle.block_codec.specs.declared.block.Tx.{Tx}
use Rattle.block_codec.specs.declared.block.Block.{Block}
use Rattle.block_codec.specs.Text.{hash_of_text, zero_hash, wtxid_of}
use Rattle.block_codec.specs.Merkle.{merkle_root}

-- OP_RETURN, a push of 36 bytes, and the four bytes that mark a commitment
abbrev pub commitment_start : List ℕ
commitment_start = 0x6a ∷ 0x24 ∷ 0xaa ∷ 0x21 ∷ 0xa9 ∷ 0xed ∷ []

-- whether a script holds a commitment
abbrev pub commits : List ℕ → Bool
commits script = nat_le 38 (length script) && starts_with nat_eq script commitment_start

-- the hash behind the start
abbrev pub committed_hash : List ℕ → Hash32
committed_hash script = record { bytes = take 32 (drop 6 script) }

-- the commitment of the last of the outputs that hold one, else this
abbrev pub last_commitment : Option Hash32 → List TxOut → Option Hash32
last_commitment before [] = before
last_commitment before (output ∷ outputs) = last_commitment (cond (commits output.script) (Some (committed_hash output.script)) before) outputs

-- the commitment in the outputs of the first transaction
abbrev pub commitment_in : List Tx → Option Hash32
commitment_in [] = None
commitment_in (coinbase ∷ txs) = last_commitment None coinbase.outputs

abbrev pub commitment_of : Block → Option Hash32
commitment_of b = commitment_in b.txs

-- the wtxids with zero in the coinbase's place
abbrev pub witness_hashes : List Tx → List Hash32
witness_hashes [] = []
witness_hashes (coinbase ∷ txs) = zero_hash ∷ map wtxid_of txs

abbrev pub witness_root_of : Block → Hash32
witness_root_of b = merkle_root (witness_hashes b.txs)

-- the commitment that a block ought to have, given the item of 32 bytes in the coinbase's stack
abbrev pub computed_commitment : Block → List ℕ → Hash32
computed_commitment b item = hash_of_text ((witness_root_of b).bytes ++ item)
