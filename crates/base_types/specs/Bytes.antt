-- Bytes and hashes: the one text of a number, and the hash of a text.
use Rattle.std.specs.Prelude.{ℕ, zero, suc, ◌+◌, ◌/◌, ◌%◌, ◌^◌, List, [], ◌∷◌, ◌++◌, nat_lt, if◌then◌else◌}
use Rattle.std.specs.Int.{Width, w16, w32, w64, to_le_bytes}
use Rattle.sha2.specs.Sha256.{sha256}

-- SHA-256 of the SHA-256
abbrev pub hash_twice : List ℕ → List ℕ
hash_twice bytes = sha256 (sha256 bytes)

-- the bytes of a number, the lowest first
unfoldable pub number_text : Width → ℕ → List ℕ
number_text w n = to_le_bytes w n

-- CompactSize: the shortest of four forms
unfoldable pub compact : ℕ → List ℕ
compact n =
    if nat_lt n 253 then n ∷ [] else
    if nat_lt n (2 ^ 16) then 253 ∷ number_text w16 n else
    if nat_lt n (2 ^ 32) then 254 ∷ number_text w32 n else
    255 ∷ number_text w64 n

-- the groups of seven bits above the last one, marked by the top bit; each is one less than what is left, so that no
-- number has two texts (there are at most as many as the first argument says)
unfoldable pub marked : ℕ → ℕ → List ℕ
marked zero n = []
marked (suc most) zero = []
marked (suc most) (suc n) = marked most (n / 128) ++ (128 + n % 128) ∷ []

-- VARINT: groups of seven bits, the highest first, the last one without a mark
unfoldable pub varint : ℕ → List ℕ
varint n = marked n (n / 128) ++ (n % 128) ∷ []
