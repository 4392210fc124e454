-- The definitions computed on small cases.
use Rattle.std.specs.Prelude.{◌≡◌, ℕ, true, false, List, [], ◌∷◌, ◌++◌, replicate, Some, None, refl, pos}
use Rattle.base_types.specs.declared.hash.Hash32.{Hash32}
use Rattle.base_types.specs.declared.coin.TxOut.{TxOut}
use Rattle.block_codec.specs.Merkle.{pair_hash, level_above, has_twins, root_within, twins_within, merkle_root, is_mutated}
use Rattle.block_codec.specs.Commitment.{commitment_start, last_commitment}

-- ---- merkle roots

root_of_one : (a : Hash32) → merkle_root (a ∷ []) ≡ a
unfolding root_within
root_of_one a = refl

root_of_two : (a b : Hash32) → merkle_root (a ∷ b ∷ []) ≡ pair_hash a b
unfolding root_within level_above
root_of_two a b = refl

-- an odd last hash is repeated, so a list with it repeated has the same root
same_root : (a b c : Hash32) → merkle_root (a ∷ b ∷ c ∷ c ∷ []) ≡ merkle_root (a ∷ b ∷ c ∷ [])
unfolding root_within level_above
same_root a b c = refl

abbrev hash_of_byte : ℕ → Hash32
hash_of_byte b = record { bytes = replicate 32 b }

repeated_is_mutated : is_mutated (hash_of_byte 1 ∷ hash_of_byte 2 ∷ hash_of_byte 3 ∷ hash_of_byte 3 ∷ []) ≡ true
unfolding twins_within has_twins
repeated_is_mutated = refl

one_is_not_mutated : (a : Hash32) → is_mutated (a ∷ []) ≡ false
unfolding twins_within
one_is_not_mutated a = refl

-- ---- commitments

abbrev output_of : List ℕ → TxOut
output_of script = record { value = pos 0; script = script }

abbrev committing : ℕ → TxOut
committing b = output_of (commitment_start ++ replicate 32 b)

-- the last one counts, and one byte less than 38 is none
last_counts : last_commitment None (committing 1 ∷ committing 2 ∷ output_of (commitment_start ++ replicate 31 3) ∷ output_of [] ∷ []) ≡ Some (hash_of_byte 2)
last_counts = refl

none_there : last_commitment None (output_of (0x6a ∷ []) ∷ []) ≡ None
none_there = refl
