-- How far a scan over the open input of a host has come, and what it has before it.
use Rattle.std.specs.Prelude.{◌≡◌, ℕ, ◌+◌, ◌-◌, ◌<◌, ◌≤◌, List, [], ◌++◌, length, take, drop, Option, Some, None, refl}
use Rattle.std.specs.Coded.{Coded, code_by, coded_ℕ, coded_list, coded_option, coded×}
use Rattle.block_codec.specs.declared.block.Block.{Block}
use Rattle.base_types.specs.Obfuscation.{obfuscated}
use Rattle.block_codec.specs.Frames.{frame_at, frames_after}
use Rattle.io_traits.specs.Host.{Held, unread_bytes, after_reading}
use Rattle.frame_scan.specs.Head.{IsCutShort}

-- The key, if the file is obfuscated; the offset up to which the scan is done; and the plain bytes that were taken from there on.
pub record Scan : Type 0 where
  pub key : Option (List ℕ)
  pub passed : ℕ
  pub ahead : List ℕ

abbrev pub scan_code : Coded Scan
scan_code = code_by (Option (List ℕ) × (ℕ × List ℕ)) (coded× (coded_option (coded_list coded_ℕ)) (coded× coded_ℕ (coded_list coded_ℕ)))
    (λ s. (s.key, (s.passed, s.ahead)))
    (λ p. record { key = p.0; passed = p.1.0; ahead = p.1.1 })
    (λ _. refl)

-- the most bytes that are taken of a file, before the one that shows that it is too long
abbrev pub max_file_bytes : ℕ
max_file_bytes = 68719476736

-- the most bytes before a scan: a frame of the greatest length, and a piece of 64 KiB
abbrev pub max_ahead : ℕ
max_ahead = 4065544

-- a scan that has taken so many bytes, of which these are before it
abbrev pub scan_of : Option (List ℕ) → ℕ → List ℕ → Scan
scan_of key bytes_taken ahead = record { key = key; passed = bytes_taken - length ahead; ahead = ahead }

-- before the first byte
abbrev pub at_start : Option (List ℕ) → Scan
at_start key = scan_of key 0 []

-- how many bytes of the file were taken
abbrev pub bytes_taken : Scan → ℕ
bytes_taken scan = scan.passed + length scan.ahead

-- bytes that stand from an offset of the file on, without their obfuscation
abbrev pub plain_from : Option (List ℕ) → ℕ → List ℕ → List ℕ
plain_from None p bytes = bytes
plain_from (Some key) p bytes = obfuscated key p bytes

-- the plain bytes that the scan has before it
abbrev pub bytes_left : Scan → Held → List ℕ
bytes_left scan held = scan.ahead ++ plain_from scan.key (bytes_taken scan) (unread_bytes held)

-- the blocks of their frames
abbrev pub frames_left : Scan → Held → List Block
frames_left scan held = frames_after 0 (bytes_left scan held)

-- the input moved by as many bytes as were taken
abbrev pub Moves : Scan → Scan → Held → Held → Type 0
Moves old new s t = t ≡ after_reading (bytes_taken new - bytes_taken old) s

-- what is before the scan is what was, behind the bytes that were passed
abbrev pub Passes : Scan → Scan → Held → Held → Type 0
Passes old new s t = bytes_left new t ≡ drop (new.passed - old.passed) (bytes_left old s)

-- scan and input have moved forward, and no frame was lost or passed
pub record Advances (old new : Scan) (s t : Held) : Type 0 where
  pub frames : frames_left new t ≡ frames_left old s
  pub moves : Moves old new s t
  pub passes : Passes old new s t
  pub read : bytes_taken new ≤ bytes_taken old + length (unread_bytes s)

-- the bytes before the scan begin with the frame of a block
abbrev pub BeginsFrame : Scan → Type 0
BeginsFrame scan = (block : Block) × (frame_at scan.ahead ≡ Some block)

-- more bytes than half a piece are before the scan, and they begin with a head that claims more than are there
abbrev pub OutgrowsPiece : Scan → Type 0
OutgrowsPiece scan = IsCutShort scan.ahead × (32768 < length scan.ahead)

-- the bytes have grown by those that were read
pub record Takes (key : Option (List ℕ)) (offset : ℕ) (xs ys : List ℕ) (s t : Held) : Type 0 where
  pub bytes : ys ≡ xs ++ plain_from key offset (take (length ys - length xs) (unread_bytes s))
  pub within : length ys - length xs ≤ length (unread_bytes s)
  pub moves : t ≡ after_reading (length ys - length xs) s

-- these bytes were read
pub record ReadsPlain (key : Option (List ℕ)) (offset : ℕ) (bytes : List ℕ) (s t : Held) : Type 0 where
  pub plain : bytes ≡ plain_from key offset (take (length bytes) (unread_bytes s))
  pub within : length bytes ≤ length (unread_bytes s)
  pub moves : t ≡ after_reading (length bytes) s
