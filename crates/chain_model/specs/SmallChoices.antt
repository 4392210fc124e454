-- Small trees, by symbols of one byte for the hashes of blocks, and small blocks.
use Rattle.std.specs.Prelude.{ℕ, true, pos, List, [], ◌∷◌}
use Rattle.std.specs.FinMap.{empty, from_entries}
use Rattle.base_types.specs.declared.coin.TxOut.{TxOut}
use Rattle.base_types.specs.declared.hash.Hash32.{Hash32}
use Rattle.base_types.specs.declared.hash.OutPoint.{OutPoint}
use Rattle.block_codec.specs.Genesis.{genesis}
use Rattle.block_codec.specs.Text.{zero_hash, txid_of}
use Rattle.block_codec.specs.declared.block.Block.{Block}
use Rattle.block_codec.specs.declared.block.Header.{Header}
use Rattle.block_codec.specs.declared.block.Tx.{Tx}
use Rattle.block_codec.specs.declared.block.TxIn.{TxIn}
use Rattle.chain_model.specs.Choice.{Choice, Bodies}
use Rattle.chain_model.specs.Tree.{Headers}

abbrev pub symbol : ℕ → Hash32
symbol n = record { bytes = n ∷ [] }

-- the hash of genesis, byte by byte
abbrev pub first : Hash32
first = record {
  bytes =
      0x06 ∷ 0x22 ∷ 0x6e ∷ 0x46 ∷ 0x11 ∷ 0x1a ∷ 0x0b ∷ 0x59 ∷ 0xca ∷ 0xaf ∷ 0x12 ∷ 0x60 ∷ 0x43 ∷ 0xeb ∷ 0x5b ∷ 0xbf ∷
      0x28 ∷ 0xc3 ∷ 0x4f ∷ 0x3a ∷ 0x5e ∷ 0x33 ∷ 0x2a ∷ 0x1f ∷ 0xc7 ∷ 0xb2 ∷ 0xb7 ∷ 0x3c ∷ 0xf1 ∷ 0x88 ∷ 0x91 ∷ 0x0f ∷ [];
}

abbrev pub below : Hash32 → Header
below prev = record genesis { prev = prev }

-- the input that names an output of nothing, as a coinbase has it
abbrev pub nothing : OutPoint
nothing = record { txid = zero_hash; index = 0xffffffff }

abbrev pub spends : OutPoint → TxIn
spends key = record { prev = key; script = []; sequence = 0; stack = [] }

-- a transaction that spends a coin for one of a satoshi, or for none
abbrev pub spending : OutPoint → List TxOut → Tx
spending key outputs = record { version = 2; inputs = spends key ∷ []; outputs = outputs; lock_time = 0 }

abbrev pub one_satoshi : TxOut
one_satoshi = record { value = pos 1; script = [] }

-- a coinbase, a transaction that spends a coin, and one that spends its output
abbrev pub chained : OutPoint → List Tx
chained key =
    let first = spending key (one_satoshi ∷ []) in
    spending nothing [] ∷ first ∷ spending (record { txid = txid_of first; index = 0 }) [] ∷ []

-- a coinbase that pays one satoshi more than the first subsidy, or no transaction
abbrev pub greedy : List Tx
greedy = spending nothing (record { value = pos 5000000001; script = [] } ∷ []) ∷ []

abbrev pub block_on : Hash32 → List Tx → Block
block_on prev txs = record { header = below prev; txs = txs }

-- block 2 on genesis, and blocks 3 and 1 on genesis and on 3
abbrev pub a : Hash32
a = symbol 2

abbrev pub b : Hash32
b = symbol 3

abbrev pub c : Hash32
c = symbol 1

abbrev pub two_branches : Headers
two_branches = from_entries ((c, below b) ∷ (a, below first) ∷ (b, below first) ∷ (first, genesis) ∷ [])

abbrev pub their_bodies : List Tx → Bodies
their_bodies txs = from_entries ((c, block_on b txs) ∷ (a, block_on first []) ∷ (b, block_on first []) ∷ [])

-- the tip of the chainstate, and the transactions of the last block
abbrev pub choice_at : Hash32 → List Tx → Choice
choice_at tip txs = record {
  tree = record { headers = two_branches; rules = record { version4 = 1; bip34 = 1; csv = 1; segwit = 1 } };
  bodies = their_bodies txs;
  start = first;
  start_coins = empty;
  tip = tip;
  is_candidate = λ hash. true;
}
