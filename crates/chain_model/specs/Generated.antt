-- Generated chains: blocks that a number determines, with the least nonces, and the block file of the first of them.
use Rattle.std.specs.Prelude.{ℕ, zero, suc, ◌+◌, ◌*◌, ◌-◌, ◌/◌, ◌%◌, ◌^◌, pos, ◌==◌, List, [], ◌∷◌, ◌++◌, length, take, map, fold, nat_le, if◌then◌else◌}
use Rattle.std.specs.declared.option.Option.{Option}
use Rattle.std.specs.declared.option.Option.TheVariants.{Some, None}
use Rattle.std.specs.Option.{option_map}
use Rattle.std.specs.declared.result.Result.{Result}
use Rattle.std.specs.declared.result.Result.TheVariants.{Ok, Err}
use Rattle.std.specs.List.{flat_map}
use Rattle.std.specs.Int.{w32, w64}
use Rattle.sha2.specs.Sha256.{sha256}
use Rattle.base_types.specs.Bytes.{number_text}
use Rattle.base_types.specs.declared.hash.Hash32.{Hash32}
use Rattle.block_codec.specs.declared.block.Tx.{Tx}
use Rattle.block_codec.specs.declared.block.Header.{Header}
use Rattle.block_codec.specs.declared.block.Block.{Block}
use Rattle.block_codec.specs.Text.{txid_of, block_text, hash_of_header, zero_hash}
use Rattle.block_codec.specs.Merkle.{merkle_root}
use Rattle.base_types.specs.Parameters.{message_start}
use Rattle.block_codec.specs.Genesis.{genesis, genesis_hash}
use Rattle.chain_model.specs.HeaderRules.{meets_target}
use Rattle.base_types.specs.Parameters.{target_bits}
use Rattle.chain_model.specs.BodyRules.{height_push}
use Rattle.base_types.specs.Parameters.{subsidy, target_bits}

-- ---- scripts

-- the bytes from which the script of a height is made: the hash of the number and the height
abbrev pub seed : ℕ → ℕ → List ℕ
seed number at = sha256 (number_text w64 number ++ number_text w32 at)

-- by turns: pay to a key hash, pay to a script hash, pay to a key, and a script that anyone can spend
abbrev pub script_at : ℕ → ℕ → List ℕ
script_at number at =
    let turn = (at + number % 4) % 4 in
    if turn == 0 then 0x76 ∷ 0xa9 ∷ 0x14 ∷ take 20 (seed number at) ++ 0x88 ∷ 0xac ∷ [] else
    if turn == 1 then 0xa9 ∷ 0x14 ∷ take 20 (seed number at) ++ 0x87 ∷ [] else
    if turn == 2 then 0x21 ∷ 0x02 ∷ seed number at ++ 0xac ∷ [] else
    0x51 ∷ []

-- ---- transactions

-- the coinbase of a height: its script is the push of the height and the push of the number's eight bytes
abbrev pub coinbase_at : ℕ → ℕ → Tx
coinbase_at number at = record {
  version = 2;
  inputs = record { prev = record { txid = zero_hash; index = 0xffffffff }; script = height_push at ++ 8 ∷ number_text w64 number; sequence = 0xffffffff; stack = [] } ∷ [];
  outputs = record { value = pos (subsidy at); script = script_at number at } ∷ [];
  lock_time = 0;
}

-- the transaction that spends the coinbase of a hundred blocks before: half of it, rounded down, to the script of the
-- height, and the rest to a script that anyone can spend
abbrev pub spend_at : ℕ → ℕ → Tx
spend_at number at =
    let value = subsidy (at - 100) in
    record {
      version = 2;
      inputs = record { prev = record { txid = txid_of (coinbase_at number (at - 100)); index = 0 }; script = []; sequence = 0xffffffff; stack = [] } ∷ [];
      outputs = record { value = pos (value / 2); script = script_at number at } ∷ record { value = pos (value - value / 2); script = 0x51 ∷ [] } ∷ [];
      lock_time = 0;
    }

-- the block of a height spends from height 101 on
unfoldable pub txs_at : ℕ → ℕ → List Tx
txs_at number at = coinbase_at number at ∷ (if nat_le 101 at then spend_at number at ∷ [] else [])

-- ---- blocks

-- a header over the previous block's hash, before its nonce is chosen
abbrev pub header_at : ℕ → Hash32 → ℕ → Header
header_at number prev at = record {
  version = pos 0x20000000;
  prev = prev;
  root = merkle_root (map txid_of (txs_at number at));
  time = genesis.time + 600 * at;
  bits = target_bits;
  nonce = 0;
}

abbrev pub with_nonce : Header → ℕ → Header
with_nonce header nonce = record header { nonce = nonce }

-- the least of so many nonces, from this one on, with which a header meets the target
unfoldable pub least_nonce : ℕ → ℕ → Header → Option ℕ
least_nonce zero nonce header = None
least_nonce (suc more) nonce header = if meets_target (hash_of_header (with_nonce header nonce)) then Some nonce else least_nonce more (suc nonce) header

-- the block of a height over the previous block's hash; none where no nonce meets the target
unfoldable pub block_at : ℕ → Hash32 → ℕ → Option Block
block_at number prev at =
    let header = header_at number prev at in
    option_map (λ nonce. record { header = with_nonce header nonce; txs = txs_at number at }) (least_nonce (2 ^ 32) 0 header)

-- ---- chains

-- the hash of the last of blocks over genesis
abbrev pub tip_of : List Block → Hash32
tip_of blocks = fold (λ _ block. hash_of_header block.header) genesis_hash blocks

-- blocks and one more, or, where there is none, where they end
abbrev pub and_block : List Block → Option Block → Result (List Block) (List Block)
and_block blocks None = Err blocks
and_block blocks (Some block) = Ok (blocks ++ block ∷ [])

abbrev pub and_next : ℕ → ℕ → Result (List Block) (List Block) → Result (List Block) (List Block)
and_next number at (Ok blocks) = and_block blocks (block_at number (tip_of blocks) at)
and_next number at (Err blocks) = Err blocks

-- the first so many blocks over genesis, or, as an error, those before the first that has no nonce
unfoldable pub chain : ℕ → ℕ → Result (List Block) (List Block)
chain number zero = Ok []
chain number (suc count) = and_next number (suc count) (chain number count)

-- the blocks of a chain, or those before the first that has no nonce
abbrev pub blocks_of : Result (List Block) (List Block) → List Block
blocks_of (Ok blocks) = blocks
blocks_of (Err blocks) = blocks

-- ---- the file

-- a block behind its head
abbrev pub frame_text : Block → List ℕ
frame_text block = message_start ++ number_text w32 (length (block_text block)) ++ block_text block

-- a block file
abbrev pub file_text : List Block → List ℕ
file_text blocks = flat_map frame_text blocks
