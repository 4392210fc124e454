-- What the first bytes say of a frame.
use Rattle.std.specs.Prelude.{◌≡◌, ℕ, ◌+◌, ◌<◌, ◌≤◌, true, false, List, ◌++◌, length, nat_eq}
use Rattle.std.specs.List.{starts_with}
use Rattle.base_types.specs.Parameters.{message_start}
use Rattle.block_codec.specs.Frames.{begins_frame, frame_len}
use Rattle.frame_scan.specs.declared.head.Head.{Head}
use Rattle.frame_scan.specs.declared.head.Head.TheVariants.{Absent, Cut, Whole}

-- a head stands first, and fewer bytes follow it than it claims
pub record IsCutShort (bytes : List ℕ) : Type 0 where
  pub begins : starts_with nat_eq bytes message_start ≡ true
  pub least : 80 ≤ frame_len bytes
  pub most : frame_len bytes ≤ 4000000
  pub short : length bytes < 8 + frame_len bytes

-- whatever follows the bytes
abbrev pub IsHeadOf : List ℕ → Head → Type 0
IsHeadOf bytes Absent = (0 < length bytes) × ((rest : List ℕ) → begins_frame (bytes ++ rest) ≡ false)
IsHeadOf bytes Cut = (begins_frame bytes ≡ false) × (length bytes < 4000008) × (8 ≤ length bytes → IsCutShort bytes)
IsHeadOf bytes (Whole len) = (8 + len ≤ length bytes) × ((rest : List ℕ) → (begins_frame (bytes ++ rest) ≡ true) × (frame_len (bytes ++ rest) ≡ len))
