-- How a hash is shown to people.
use Rattle.std.specs.Prelude.{ℕ, List, reverse}
use Rattle.hex.specs.Hex.{encode_lower}
use Rattle.base_types.specs.declared.hash.Hash32.{Hash32}

-- the lower-case hexadecimal digits of the bytes, the last byte first
abbrev pub printed : Hash32 → List ℕ
printed hash = encode_lower (reverse hash.bytes)
