-- The first header of regtest (Bitcoin Core's `kernel/chainparams.cpp`).
use Rattle.std.specs.Prelude.{pos, [], ◌∷◌}
use Rattle.base_types.specs.declared.hash.Hash32.{Hash32}
use Rattle.block_codec.specs.declared.block.Header.{Header}
use Rattle.block_codec.specs.Text.{zero_hash, hash_of_header}

-- the hash of its one transaction
abbrev pub genesis_root : Hash32
genesis_root = record {
  bytes =
      0x3b ∷ 0xa3 ∷ 0xed ∷ 0xfd ∷ 0x7a ∷ 0x7b ∷ 0x12 ∷ 0xb2 ∷ 0x7a ∷ 0xc7 ∷ 0x2c ∷ 0x3e ∷ 0x67 ∷ 0x76 ∷ 0x8f ∷ 0x61 ∷
      0x7f ∷ 0xc8 ∷ 0x1b ∷ 0xc3 ∷ 0x88 ∷ 0x8a ∷ 0x51 ∷ 0x32 ∷ 0x3a ∷ 0x9f ∷ 0xb8 ∷ 0xaa ∷ 0x4b ∷ 0x1e ∷ 0x5e ∷ 0x4a ∷ [];
}

abbrev pub genesis : Header
genesis = record { version = pos 1; prev = zero_hash; root = genesis_root; time = 1296688602; bits = 0x207fffff; nonce = 2 }

unfoldable pub genesis_hash : Hash32
genesis_hash = hash_of_header genesis
