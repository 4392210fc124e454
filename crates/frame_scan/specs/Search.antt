-- Going through bytes that others may follow.
use Rattle.std.specs.Prelude.{◌≡◌, ℕ, ◌+◌, ◌<◌, ◌≤◌, Bool, true, false, List, [], ◌∷◌, ◌++◌, length, drop, Option, Some, None, ⊤, is_ok}
use Rattle.std.specs.List.{between}
use Rattle.block_codec.specs.declared.block.Block.{Block}
use Rattle.block_codec.specs.declared.block.Header.{Header}
use Rattle.block_codec.specs.Frames.{frames_after}
use Rattle.block_codec.specs.Reading.{block_of}
use Rattle.io_traits.specs.Host.{Held, unread_bytes}
use Rattle.frame_scan.specs.declared.head.Head.TheVariants.{Whole}
use Rattle.frame_scan.specs.Head.{IsHeadOf, IsCutShort}

-- what may follow: at the end of the file nothing
abbrev pub Follows : Bool → List ℕ → Type 0
Follows true rest = rest ≡ []
Follows false rest = ⊤

abbrev pub Ends : Bool → Held → Type 0
Ends true held = unread_bytes held ≡ []
Ends false held = ⊤

-- the second bytes have the same frames as the first, whatever follows
abbrev pub SameFrames : Bool → List ℕ → List ℕ → Type 0
SameFrames is_end xs ys = (rest : List ℕ) → Follows is_end rest → frames_after 0 (xs ++ rest) ≡ frames_after 0 (ys ++ rest)

-- the first bytes have the frame of this block, and then the frames of the second
abbrev pub HasFrame : Bool → List ℕ → Block → List ℕ → Type 0
HasFrame is_end xs block ys = (rest : List ℕ) → Follows is_end rest → frames_after 0 (xs ++ rest) ≡ block ∷ frames_after 0 (ys ++ rest)

-- the first bytes have the frame of a block with this header, and then the frames of the second
abbrev pub HasHeader : List ℕ → Header → List ℕ → Type 0
HasHeader xs header ys = (block : Block) × HasFrame false xs block ys × (header ≡ block.header)

-- the second bytes are the first behind so many
pub record IsRest (xs ys : List ℕ) : Type 0 where
  pub count : ℕ
  pub within : count ≤ length xs
  pub is : ys ≡ drop count xs

-- the frame of a block of so many bytes stands first
pub record BeginsBlock (len : ℕ) (bytes : List ℕ) : Type 0 where
  pub head : IsHeadOf bytes (Whole len)
  pub block : is_ok (block_of (between 8 (8 + len) bytes)) ≡ true

-- no frame stands first, as far as the bytes go: they are too few, or fewer than a head claims; at the end of the file there are none
pub record IsStuck (is_end : Bool) (bytes : List ℕ) : Type 0 where
  pub few : length bytes < 4000008
  pub ended : is_end ≡ true → bytes ≡ []
  pub short : 8 ≤ length bytes → IsCutShort bytes

-- before the second bytes no frame is left, and with them one begins or may yet begin
abbrev pub Finds : Bool → Option ℕ → List ℕ → List ℕ → Type 0
Finds is_end (Some len) xs ys = SameFrames is_end xs ys × BeginsBlock len ys
Finds is_end None xs ys = SameFrames is_end xs ys × IsStuck is_end ys
