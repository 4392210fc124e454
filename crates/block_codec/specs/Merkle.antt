-- The merkle root of hashes, and the mark of a list that was lengthened without changing the root (CVE-2012-2459).
use Rattle.std.specs.Prelude.{ℕ, zero, suc, Bool, false, ◌||◌, List, [], ◌∷◌, ◌++◌, length}
use Rattle.base_types.specs.Bytes.{hash_twice}
use Rattle.base_types.specs.declared.hash.Hash32.{Hash32}
use Rattle.block_codec.specs.Text.{zero_hash, same_hash}

-- the hash of a pair
abbrev pub pair_hash : Hash32 → Hash32 → Hash32
pair_hash a b = record { bytes = hash_twice (a.bytes ++ b.bytes) }

-- the level above: neighbours are paired, an odd last one with itself
unfoldable pub level_above : List Hash32 → List Hash32
level_above [] = []
level_above (a ∷ []) = pair_hash a a ∷ []
level_above (a ∷ b ∷ hashes) = pair_hash a b ∷ level_above hashes

-- whether two hashes of a pair are equal, before an odd last one is repeated
unfoldable pub has_twins : List Hash32 → Bool
has_twins [] = false
has_twins (a ∷ []) = false
has_twins (a ∷ b ∷ hashes) = same_hash a b || has_twins hashes

-- the one hash of the top level, so many levels up at most
unfoldable pub root_within : ℕ → List Hash32 → Hash32
root_within levels [] = zero_hash
root_within levels (a ∷ []) = a
root_within zero (a ∷ b ∷ hashes) = zero_hash
root_within (suc levels) (a ∷ b ∷ hashes) = root_within levels (level_above (a ∷ b ∷ hashes))

-- whether some level has twins, so many levels up at most
unfoldable pub twins_within : ℕ → List Hash32 → Bool
twins_within levels [] = false
twins_within levels (a ∷ []) = false
twins_within zero (a ∷ b ∷ hashes) = false
twins_within (suc levels) (a ∷ b ∷ hashes) = has_twins (a ∷ b ∷ hashes) || twins_within levels (level_above (a ∷ b ∷ hashes))

-- the merkle root: there are fewer levels than hashes, since each has about half of those below
abbrev pub merkle_root : List Hash32 → Hash32
merkle_root hashes = root_within (length hashes) hashes

-- whether at some level two hashes of a pair are equal
abbrev pub is_mutated : List Hash32 → Bool
is_mutated hashes = twins_within (length hashes) hashes
