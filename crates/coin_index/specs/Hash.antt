-- The bucket of an outpoint, by a salted hash over words of eight bytes.
use Rattle.std.specs.Prelude.{ℕ, ◌+◌, ◌*◌, ◌/◌, ◌%◌, ◌^◌, List, [], ◌∷◌, bit_xor, slice_index}
use Rattle.std.specs.Int.{w64, from_le_bytes}
use Rattle.base_types.specs.declared.hash.OutPoint.{OutPoint}
use Rattle.base_types.specs.declared.program.Salt.{Salt}

-- the halves of the product of two words
unfoldable pub folded : ℕ → ℕ → ℕ
folded a b = bit_xor (a * b % 2 ^ 64) (a * b / 2 ^ 64)

-- the eight bytes from i on
abbrev pub eight_at : List ℕ → ℕ → List ℕ
eight_at bs i = slice_index bs i ∷ slice_index bs (i + 1) ∷ slice_index bs (i + 2) ∷ slice_index bs (i + 3) ∷ slice_index bs (i + 4) ∷ slice_index bs (i + 5) ∷ slice_index bs (i + 6) ∷ slice_index bs (i + 7) ∷ []

-- and as a number, the lowest first
unfoldable pub word_at : List ℕ → ℕ → ℕ
word_at bs i = from_le_bytes w64 (eight_at bs i)

unfoldable pub hash_of : Salt → OutPoint → ℕ
hash_of s k =
    let bs = k.txid.bytes in
    let low = folded (bit_xor (word_at bs 0) s.a) (bit_xor (word_at bs 8) s.b) in
    let high = folded (bit_xor (word_at bs 16) s.b) (bit_xor (word_at bs 24) s.a) in
    folded (bit_xor low k.index) (bit_xor high 0x9e37_79b9_7f4a_7c15)

-- the key's bucket among n: as far among them as the hash is among all words
unfoldable pub bucket_of : Salt → ℕ → OutPoint → ℕ
bucket_of s n k = hash_of s k * n / 2 ^ 64
