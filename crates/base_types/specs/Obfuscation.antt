-- The obfuscation of stored bytes with a key of eight bytes.
use Rattle.std.specs.Prelude.{ℕ, suc, ◌%◌, List, [], ◌∷◌, get_or, bit_xor}

-- bytes that stand from an offset on, each joined by exclusive or to the key's byte at its own offset modulo 8
abbrev pub obfuscated : List ℕ → ℕ → List ℕ → List ℕ
obfuscated key offset [] = []
obfuscated key offset (byte ∷ bytes) = bit_xor byte (get_or key (offset % 8) 0) ∷ obfuscated key (suc offset) bytes
