-- The frames of a block file.
use Rattle.std.specs.Prelude.{ℕ, zero, suc, ◌+◌, Bool, ◌&&◌, List, [], ◌∷◌, length, take, drop, Some, None, nat_le, if◌then◌else◌, nat_eq}
use Rattle.std.specs.declared.option.Option.{Option}
use Rattle.std.specs.Option.{option_map}
use Rattle.std.specs.Result.{result_ok}
use Rattle.std.specs.List.{starts_with}
use Rattle.std.specs.Int.{w32, from_le_bytes}
use Rattle.base_types.specs.Obfuscation.{obfuscated}
use Rattle.base_types.specs.Parameters.{message_start}
use Rattle.block_codec.specs.declared.block.Block.{Block}
use Rattle.block_codec.specs.Reading.{block_of}

-- the least length of a frame's block, which is that of its header
abbrev pub min_frame_size : ℕ
min_frame_size = 80

-- the greatest (`MAX_BLOCK_SERIALIZED_SIZE` in Bitcoin Core's `consensus/consensus.h`)
abbrev pub max_frame_size : ℕ
max_frame_size = 4000000

-- the length that stands behind the message start
abbrev pub frame_len : List ℕ → ℕ
frame_len bytes = from_le_bytes w32 (take 4 (drop 4 bytes))

-- whether bytes begin with the message start, the length of a block, and that many bytes
abbrev pub begins_frame : List ℕ → Bool
begins_frame bytes =
    let len = frame_len bytes in
    starts_with nat_eq bytes message_start && nat_le min_frame_size len && nat_le len max_frame_size && nat_le (8 + len) (length bytes)

-- the block of the frame with which bytes begin, if they begin with one
unfoldable pub frame_at : List ℕ → Option Block
frame_at bytes = if begins_frame bytes then result_ok (block_of (take (frame_len bytes) (drop 8 bytes))) else None

-- ---- all bytes of a file

-- a block that stands here and the blocks behind it, else those from the next byte on
abbrev pub found_or : Option Block → List Block → List Block → List Block
found_or None next behind = next
found_or (Some block) next behind = block ∷ behind

-- the blocks of the frames, once so many bytes are passed over: the scan goes on behind a frame, and else at the next byte
unfoldable pub frames_after : ℕ → List ℕ → List Block
frames_after n [] = []
frames_after (suc n) (byte ∷ bytes) = frames_after n bytes
frames_after zero (byte ∷ bytes) = found_or (frame_at (byte ∷ bytes)) (frames_after zero bytes) (frames_after (7 + frame_len (byte ∷ bytes)) bytes)

-- the bytes of a file that may be obfuscated with a key of eight bytes
abbrev pub plain_bytes : Option (List ℕ) → List ℕ → List ℕ
plain_bytes None bytes = bytes
plain_bytes (Some key) bytes = obfuscated key 0 bytes

-- the blocks of the frames of all bytes of a file
abbrev pub frames : List ℕ → Option (List ℕ) → List Block
frames bytes key = frames_after 0 (plain_bytes key bytes)

-- a block that stands here and the blocks behind it, if both are there
abbrev pub found_and : Option Block → Option (List Block) → Option (List Block)
found_and None behind = None
found_and (Some block) behind = option_map (λ blocks. block ∷ blocks) behind

-- the blocks of frames that follow one another to the end, once so many bytes are passed over
unfoldable pub whole_after : ℕ → List ℕ → Option (List Block)
whole_after zero [] = Some []
whole_after (suc n) [] = None
whole_after (suc n) (byte ∷ bytes) = whole_after n bytes
whole_after zero (byte ∷ bytes) = found_and (frame_at (byte ∷ bytes)) (whole_after (7 + frame_len (byte ∷ bytes)) bytes)

-- the blocks of a file that is a concatenation of frames without a key
abbrev pub whole_frames : List ℕ → Option (List Block)
whole_frames bytes = whole_after 0 bytes
