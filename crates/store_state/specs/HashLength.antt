-- A hash has 32 bytes.
use Rattle.std.proofs.Common.{◌≡◌, ℕ, suc, zero, ◌+◌, List, length, refl, arith, length-append}
use Rattle.std.specs.Int.{to_be_bytes, w32}
use Rattle.std.specs.Prelude.{slice_index}
use Rattle.sha2.specs.Sha256.{sha256, digest_bytes, final_hash, initial_hash_256}
use Rattle.block_codec.specs.declared.block.Header.{Header}
use Rattle.block_codec.specs.Text.{hash_of_header, header_text}

word_long : (n : ℕ) → length (to_be_bytes w32 n) ≡ 4
word_long n = refl

words_long : (h : List ℕ) (n : ℕ) → length (digest_bytes h n) ≡ n + n + n + n
unfolding digest_bytes
words_long h zero = refl
words_long h (suc n) = omega (arith, length-append (digest_bytes h n) (to_be_bytes w32 (slice_index h n)), words_long h n, word_long (slice_index h n))

digest_long : (bytes : List ℕ) → length (sha256 bytes) ≡ 32
unfolding sha256
digest_long bytes = words_long (final_hash initial_hash_256 bytes) 8

pub hash_long : (header : Header) → length (hash_of_header header).bytes ≡ 32
hash_long header = digest_long (sha256 (header_text header))
