-- The one text of an outpoint, by which the stores order coins (the keys of Bitcoin Core's `txdb.cpp`).
use Rattle.std.specs.Prelude.{◌≡◌, ℕ, ◌^◌, ◌<◌, List, ◌∷◌, ◌++◌, length}
use Rattle.base_types.specs.Bytes.{varint}
use Rattle.base_types.specs.declared.hash.OutPoint.{OutPoint}

-- the letter C, the bytes of the transaction's hash and the VARINT of the number
unfoldable pub key_text : OutPoint → List ℕ
key_text key = 0x43 ∷ key.txid.bytes ++ varint key.index

-- the ranges of an outpoint's parts
pub record KeyFits (key : OutPoint) : Type 0 where
  pub txid : length key.txid.bytes ≡ 32
  pub index : key.index < 2 ^ 32
