-- What reading a block file of a host gives.
use Rattle.std.specs.Prelude.{⊤, ◌≡◌, ℕ, ◌+◌, ◌<◌, ◌≤◌, List, [], ◌∷◌, length, map, Option, Some, None, Result, Ok, Err}
use Rattle.std.specs.FinMap.{get}
use Rattle.block_codec.specs.Frames.{frames}
use Rattle.block_codec.specs.declared.block.Block.{Block}
use Rattle.block_codec.specs.declared.block.Header.{Header}
use Rattle.frame_scan.specs.Scan.{Scan, bytes_taken, frames_left, max_file_bytes}
use Rattle.frame_scan.specs.declared.fault.FrameFault.{FrameFault}
use Rattle.frame_scan.specs.declared.fault.FrameFault.TheVariants.{NoMemory, HostFailed, FileTooLong}
use Rattle.io_traits.specs.Causes.{Rose}
use Rattle.io_traits.specs.Host.{Held, unread_bytes}

abbrev pub header_of : Block → Header
header_of block = block.header

-- ---- a scan over the open input

-- the length of a file of which a scan has taken some bytes
abbrev pub size : Scan → Held → ℕ
size scan held = bytes_taken scan + length (unread_bytes held)

-- the host's files stay, and the file keeps its length
pub record Goes (old new : Scan) (s t : Held) : Type 0 where
  pub files : t.files ≡ s.files
  pub size : size new t ≡ size old s

-- the file has too many bytes, or the host failed
abbrev pub StopsPass : ℕ → Type 0 → FrameFault → Type 0
StopsPass n rose NoMemory = ⊤
StopsPass n rose HostFailed = rose
StopsPass n rose FileTooLong = max_file_bytes < n

abbrev pub NextIs : Scan → Scan → Type 0 → Result (Option Block) FrameFault → Held → Held → Type 0
NextIs old new rose (Ok (Some block)) s t = frames_left old s ≡ block ∷ frames_left new t
NextIs old new rose (Ok None) s t = (frames_left old s ≡ []) × (size old s ≤ max_file_bytes)
NextIs old new rose (Err fault) s t = StopsPass (size old s) rose fault

-- the next block of a file
pub record NextBlock (old new : Scan) (before now : ℕ) (result : Result (Option Block) FrameFault) (s t : Held) : Type 0 where
  pub goes : Goes old new s t
  pub next : NextIs old new (Rose before now) result s t

-- ---- a file by its name

-- a scan stands before the blocks of a file
pub record StandsBefore (key : Option (List ℕ)) (bytes : List ℕ) (scan : Scan) (held : Held) : Type 0 where
  pub blocks : frames_left scan held ≡ frames bytes key
  pub size : size scan held ≡ length bytes

abbrev pub OpenedIs : Option (List ℕ) → Option (List ℕ) → Type 0 → Result Scan FrameFault → Held → Type 0
OpenedIs key None rose (Ok scan) held = ⊥
OpenedIs key (Some bytes) rose (Ok scan) held = StandsBefore key bytes scan held
OpenedIs key file rose (Err NoMemory) held = ⊤
OpenedIs key None rose (Err HostFailed) held = ⊤
OpenedIs key (Some bytes) rose (Err HostFailed) held = rose
OpenedIs key file rose (Err FileTooLong) held = ⊥

-- the file of a name was opened
pub record OpensFile (name : List ℕ) (key : Option (List ℕ)) (before now : ℕ) (result : Result Scan FrameFault) (s t : Held) : Type 0 where
  pub files : t.files ≡ s.files
  pub opened : OpenedIs key (get s.files name) (Rose before now) result t

-- ---- the headers of a whole file

-- those that are left
abbrev pub RestIs : ℕ → List Block → Type 0 → Result (List Header) FrameFault → Type 0
RestIs n blocks rose (Ok headers) = (headers ≡ map header_of blocks) × (n ≤ max_file_bytes)
RestIs n blocks rose (Err fault) = StopsPass n rose fault

-- the headers of the blocks that are left of the open input
pub record ReadsRest (scan : Scan) (before now : ℕ) (result : Result (List Header) FrameFault) (s t : Held) : Type 0 where
  pub files : t.files ≡ s.files
  pub rest : RestIs (size scan s) (frames_left scan s) (Rose before now) result

abbrev pub HeadersAre : Option (List ℕ) → Option (List ℕ) → Type 0 → Result (List Header) FrameFault → Type 0
HeadersAre key None rose (Ok headers) = ⊥
HeadersAre key (Some bytes) rose (Ok headers) = (headers ≡ map header_of (frames bytes key)) × (length bytes ≤ max_file_bytes)
HeadersAre key file rose (Err NoMemory) = ⊤
HeadersAre key None rose (Err HostFailed) = ⊤
HeadersAre key (Some bytes) rose (Err HostFailed) = rose
HeadersAre key None rose (Err FileTooLong) = ⊥
HeadersAre key (Some bytes) rose (Err FileTooLong) = max_file_bytes < length bytes

-- the headers of the blocks of the file of a name, in the order of their frames
pub record ReadsHeaders (name : List ℕ) (key : Option (List ℕ)) (before now : ℕ) (result : Result (List Header) FrameFault) (s t : Held) : Type 0 where
  pub files : t.files ≡ s.files
  pub headers : HeadersAre key (get s.files name) (Rose before now) result
