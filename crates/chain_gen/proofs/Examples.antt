-- The definitions of generated chains computed on small cases.
use Rattle.std.specs.Prelude.{◌≡◌, ℕ, List, [], ◌∷◌, ◌++◌, length, map, replicate, pos, refl}
use Rattle.base_types.specs.Bytes.{compact, number_text}
use Rattle.base_types.specs.declared.coin.TxOut.{TxOut}
use Rattle.block_codec.specs.declared.block.Block.{Block}
use Rattle.block_codec.specs.Text.{stripped_text, zero_hash}
use Rattle.chain_model.specs.Generated.{coinbase_at, spend_at, txs_at, script_at, chain, frame_text, file_text}
use Rattle.chain_model.specs.Generated.{blocks_of}

-- ---- the first coinbase of the number 2, of 71 bytes

abbrev coinbase_text : List ℕ
coinbase_text =
    (0x02 ∷ 0 ∷ 0 ∷ 0 ∷ 0x01 ∷ []) ++ replicate 32 0 ++ (0xff ∷ 0xff ∷ 0xff ∷ 0xff ∷ 0x0a ∷ []) ++
    (0x51 ∷ 0x08 ∷ 0x02 ∷ 0 ∷ 0 ∷ 0 ∷ 0 ∷ 0 ∷ 0 ∷ 0 ∷ []) ++ (0xff ∷ 0xff ∷ 0xff ∷ 0xff ∷ 0x01 ∷ []) ++
    (0x00 ∷ 0xf2 ∷ 0x05 ∷ 0x2a ∷ 0x01 ∷ 0x00 ∷ 0x00 ∷ 0x00 ∷ []) ++ (0x01 ∷ 0x51 ∷ []) ++ replicate 4 0

pub first_coinbase : stripped_text (coinbase_at 2 1) ≡ coinbase_text
unfolding compact number_text
first_coinbase = refl

pub of_71_bytes : length (stripped_text (coinbase_at 2 1)) ≡ 71
unfolding compact number_text
of_71_bytes = refl

-- ---- scripts and values

-- the height and what the number leaves over fours leave 3 over fours
pub anyone_can_spend : script_at 3 200 ≡ 0x51 ∷ []
anyone_can_spend = refl

-- after nine halvings the subsidy is odd, and the smaller part goes to the script of the height
pub halves : map (λ (out : TxOut). out.value) (spend_at 0 1450).outputs ≡ pos 4882812 ∷ pos 4882813 ∷ []
halves = refl

-- a block spends from height 101 on
pub spends_none : length (txs_at 2 100) ≡ 1
unfolding txs_at
spends_none = refl

pub spends_one : length (txs_at 2 101) ≡ 2
unfolding txs_at
spends_one = refl

-- ---- files

pub no_blocks : blocks_of (chain 2 0) ≡ []
unfolding chain
no_blocks = refl

pub no_bytes : file_text [] ≡ []
no_bytes = refl

-- a block without transactions: the message start of regtest, 81 bytes, and the bytes of the block
abbrev bare_block : Block
bare_block = record { header = record { version = pos 0; prev = zero_hash; root = zero_hash; time = 0; bits = 0; nonce = 0 }; txs = [] }

pub bare_frame : frame_text bare_block ≡ (0xfa ∷ 0xbf ∷ 0xb5 ∷ 0xda ∷ 81 ∷ 0 ∷ 0 ∷ 0 ∷ []) ++ replicate 81 0
unfolding compact number_text
bare_frame = refl
