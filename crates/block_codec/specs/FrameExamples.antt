-- The frames of small files.
use Rattle.std.specs.Prelude.{◌≡◌, ℕ, List, [], ◌∷◌, ◌++◌, replicate, Some, None, refl, Ok, pos}
use Rattle.base_types.specs.Reading.{compact_at, length_at}
use Rattle.base_types.specs.Codec.{many_at}
use Rattle.base_types.specs.Obfuscation.{obfuscated}
use Rattle.base_types.specs.Parameters.{message_start}
use Rattle.block_codec.specs.declared.block.Block.{Block}
use Rattle.block_codec.specs.Text.{zero_hash}
use Rattle.block_codec.specs.Reading.{header_at, block_at, block_of}
use Rattle.block_codec.specs.Frames.{frame_at, frames_after, frames, whole_after, whole_frames}

-- a block of zeros without a transaction, and its frame
abbrev empty_block : Block
empty_block = record { header = record { version = pos 0; prev = zero_hash; root = zero_hash; time = 0; bits = 0; nonce = 0 }; txs = [] }

abbrev empty_frame : List ℕ
empty_frame = message_start ++ (81 ∷ 0 ∷ 0 ∷ 0 ∷ []) ++ replicate 81 0

one_block : block_of (replicate 81 0) ≡ Ok empty_block
unfolding block_of block_at header_at length_at compact_at many_at
one_block = refl

two_frames : whole_frames (empty_frame ++ empty_frame) ≡ Some (empty_block ∷ empty_block ∷ [])
unfolding whole_after frame_at block_of block_at header_at length_at compact_at many_at
two_frames = refl

-- a frame behind the beginning of another
behind_a_beginning : frames ((0xfa ∷ 0xbf ∷ 0xb5 ∷ 0xda ∷ 0xfa ∷ []) ++ empty_frame) None ≡ empty_block ∷ []
unfolding frames_after frame_at block_of block_at header_at length_at compact_at many_at
behind_a_beginning = refl

abbrev key : List ℕ
key = 1 ∷ 2 ∷ 3 ∷ 4 ∷ 5 ∷ 6 ∷ 7 ∷ 8 ∷ []

with_a_key : frames (obfuscated key 0 (7 ∷ empty_frame)) (Some key) ≡ empty_block ∷ []
unfolding frames_after frame_at block_of block_at header_at length_at compact_at many_at
with_a_key = refl
