-- What folding a block file answers.
use Rattle.std.specs.Prelude.{◌≡◌, ◌⊎◌, ℕ, ◌+◌, ◌<◌, ◌≤◌, List, [], ◌∷◌, length, Option, Some, None, Result, Ok, Err, IfOk, ⊤}
use Rattle.std.specs.FinMap.{get}
use Rattle.base_types.specs.declared.program.Rules.{Rules}
use Rattle.block_codec.specs.declared.block.Block.{Block}
use Rattle.block_codec.specs.Frames.{frames}
use Rattle.io_traits.specs.Causes.{Rose}
use Rattle.io_traits.specs.Host.{Held, unread_bytes}
use Rattle.chain_model.specs.Folding.{Folded, FoldRefused, with_blocks, fold_of}
use Rattle.command_text.specs.declared.reply.Reply.{Reply}
use Rattle.command_text.specs.declared.reply.Reply.TheVariants as says
use Rattle.frame_scan.specs.Scan.{Scan, bytes_taken, frames_left}
use Rattle.machine.specs.Steps.{IsFoldReply, longest_file}
use Rattle.coins_top.specs.declared.fold_end.FoldEnd.{FoldEnd}
use Rattle.coins_top.specs.declared.fold_end.FoldEnd.TheVariants.{NoMemory, Replied}

-- the length of a file of which a scan has taken some bytes
abbrev pub size : Scan → Held → ℕ
size scan held = bytes_taken scan + length (unread_bytes held)

-- the host's files stay, and the file keeps its length
pub record Goes (old new : Scan) (s t : Held) : Type 0 where
  pub files : t.files ≡ s.files
  pub size : size new t ≡ size old s

-- the reply to the fold of a file of so many bytes, or a fault of the host
abbrev pub IsReply : ℕ → Result Folded FoldRefused → Type 0 → Reply → Type 0
IsReply n meant rose reply = IsFoldReply n meant reply ⊎ ((reply ≡ says.HostFault) × rose)

-- the file is too long, or the host failed
abbrev pub StopsScan : ℕ → Type 0 → FoldEnd → Type 0
StopsScan n rose NoMemory = ⊤
StopsScan n rose (Replied reply) = ((reply ≡ says.FileTooLong) × (longest_file < n)) ⊎ ((reply ≡ says.HostFault) × rose)

abbrev pub NextIs : Scan → Scan → ℕ → ℕ → Result (Option Block) FoldEnd → Held → Held → Type 0
NextIs old new before now (Ok (Some block)) s t = frames_left old s ≡ block ∷ frames_left new t
NextIs old new before now (Ok None) s t = (frames_left old s ≡ []) × (size old s ≤ longest_file)
NextIs old new before now (Err ending) s t = StopsScan (size old s) (Rose before now) ending

-- the next block of a file
pub record NextBlock (old new : Scan) (before now : ℕ) (result : Result (Option Block) FoldEnd) (s t : Held) : Type 0 where
  pub goes : Goes old new s t
  pub next : NextIs old new before now result s t

-- what an ending replies, unless no memory was left
abbrev pub Replies : FoldEnd → (Reply → Type 0) → Type 0
Replies NoMemory P = ⊤
Replies (Replied reply) P = P reply

abbrev pub RestIs : {A : Type 0} → ℕ → Result Folded FoldRefused → Folded → Type 0 → Result A FoldEnd → Type 0
RestIs n meant last rose (Ok done) = (meant ≡ Ok last) × (n ≤ longest_file)
RestIs n meant last rose (Err ending) = Replies ending (IsReply n meant rose)

-- the blocks of all further frames
pub record FoldsRest {A : Type 0} (limit : ℕ) (first last : Folded) (scan : Scan) (before now : ℕ) (result : Result A FoldEnd) (s t : Held) : Type 0 where
  pub files : t.files ≡ s.files
  pub rest : RestIs (size scan s) (with_blocks limit first (frames_left scan s)) last (Rose before now) result

-- what is meant by the bytes of a file
abbrev pub folding_of : ℕ → Rules → List ℕ → Result Folded FoldRefused
folding_of limit rules bytes = fold_of limit rules (frames bytes None)

abbrev pub InputIs : ℕ → Rules → List ℕ → Type 0 → Result Reply FoldEnd → Type 0
InputIs limit rules bytes rose (Ok reply) = IsReply (length bytes) (folding_of limit rules bytes) rose reply
InputIs limit rules bytes rose (Err ending) = Replies ending (IsReply (length bytes) (folding_of limit rules bytes) rose)

-- the open input
pub record FoldsInput (limit : ℕ) (rules : Rules) (before now : ℕ) (result : Result Reply FoldEnd) (s t : Held) : Type 0 where
  pub files : t.files ≡ s.files
  pub reply : InputIs limit rules (unread_bytes s) (Rose before now) result

abbrev pub FileIs : ℕ → Rules → Option (List ℕ) → Type 0 → Reply → Type 0
FileIs limit rules None rose reply = reply ≡ says.HostFault
FileIs limit rules (Some bytes) rose reply = IsReply (length bytes) (folding_of limit rules bytes) rose reply

-- the file of a name
pub record FoldsFile {E : Type 0} (limit : ℕ) (rules : Rules) (name : List ℕ) (before now : ℕ) (result : Result Reply E) (s t : Held) : Type 0 where
  pub files : t.files ≡ s.files
  pub reply : IfOk result (FileIs limit rules (get s.files name) (Rose before now))
