-- Bodies of a file's blocks, offered to an open store one after the other.
use Rattle.std.specs.Prelude.{⊤, ◌≡◌, ℕ, ◌+◌, List, [], ◌++◌, length, Option, Some, None, Result, Ok, Err}
use Rattle.std.specs.FinMap as finite
use Rattle.std.specs.List.{flat_map}
use Rattle.disk_model.specs.Disk.{Image}
use Rattle.base_types.specs.declared.fault.StoreFault.{StoreFault}
use Rattle.block_codec.specs.declared.block.Block.{Block}
use Rattle.block_files.specs.Passes.{StopsPass}
use Rattle.chainstates.specs.Offers.{Stands}
use Rattle.chainstates.specs.declared.offers.Offered.{Offered}
use Rattle.chainstates.specs.declared.offers.Offered.TheVariants.{Stored, Known, NoHeader, Refused}
use Rattle.chainstates.specs.declared.session.Info.{Info}
use Rattle.chainstates.specs.declared.session.Session.{Session}
use Rattle.command_text.specs.Replies.{reply_text}
use Rattle.command_text.specs.declared.reply.Reply.TheVariants as says
use Rattle.machine.specs.Answers.{flushes_told_by}
use Rattle.machine.specs.State.{Moved, Setting, State}
use Rattle.machine.specs.Steps.{OffersAll}
use Rattle.store_lines.specs.Taking.{SaysFault}
use Rattle.store_lines.specs.declared.passes.PassEnd.{PassEnd}
use Rattle.store_lines.specs.declared.passes.PassEnd.TheVariants.{Whole, Broken}
use Rattle.store_lines.specs.declared.taking.TakenHeaders.{TakenHeaders}
use Rattle.store_state.specs.Settled.{IsSettled}
use Rattle.store_state.specs.State.{StoreState}
use Rattle.store_writes.specs.Written.{WritesAll, WritesSome}

-- how many bodies an offer stored
abbrev pub stored_by : Offered → ℕ
stored_by (Stored refusals) = 1
stored_by Known = 0
stored_by NoHeader = 0
stored_by (Refused why) = 0

-- These blocks were offered, as the machine does it under any setting. So many of their bodies were stored, and the lines of the
-- replies were added to a text; none tells of a flush.
pub record HasPassed (limit : ℕ) (past left : ℕ → Image → Type 0) (entered ended : ℕ) (before now : Option Image) (session : Session) (state : State) (store : StoreState) (text_before text_after : List ℕ) (blocks : List Block) (bodies : ℕ) : Type 0 where
  pub moved : Moved
  pub does : (setting : Setting) → OffersAll setting state blocks moved
  pub count : finite.len moved.state.bodies ≡ finite.len state.bodies + bodies
  pub text : text_after ≡ text_before ++ flat_map reply_text moved.replies
  pub untold : flushes_told_by moved.replies ≡ []
  pub on : StoreState
  pub writes : WritesAll limit past left entered ended before now [] moved.events store on
  pub settled : IsSettled on
  pub stands : Stands limit now (left ended) session moved.state on

-- or the offers were cut, with a first part of what the machine may do
pub record HasPassedPart (limit : ℕ) (past left : ℕ → Image → Type 0) (entered ended : ℕ) (before now : Option Image) (state : State) (store : StoreState) (blocks : List Block) : Type 0 where
  pub moved : Moved
  pub does : (setting : Setting) → OffersAll setting state blocks moved
  pub writes : WritesSome limit past left entered ended before now [] moved.events store

-- the blocks of a first part were offered
pub record HasPassedFirst (limit : ℕ) (past left : ℕ → Image → Type 0) (entered ended : ℕ) (before now : Option Image) (session : Session) (state : State) (store : StoreState) (text_before text_after : List ℕ) (blocks : List Block) : Type 0 where
  pub first : List Block
  pub rest : List Block
  pub parts : blocks ≡ first ++ rest
  pub bodies : ℕ
  pub passed : HasPassed limit past left entered ended before now session state store text_before text_after first bodies

-- all blocks were offered, or the file couldn't be read on
abbrev pub Passes : ℕ → (ℕ → Image → Type 0) → (ℕ → Image → Type 0) → ℕ → ℕ → Option Image → Option Image → Session → State → StoreState → List ℕ → List ℕ → List Block → PassEnd → Type 0
Passes limit past left entered ended before now session state store text_before text_after blocks (Whole bodies) =
    HasPassed limit past left entered ended before now session state store text_before text_after blocks bodies
Passes limit past left entered ended before now session state store text_before text_after blocks (Broken fault) =
    HasPassedFirst limit past left entered ended before now session state store text_before text_after blocks

-- ---- the file

-- the pass over a file of so many bytes ended early with a cause
abbrev pub StopsAt : ℕ → Type 0 → Result PassEnd StoreFault → Type 0
StopsAt n rose (Ok (Whole bodies)) = ⊤
StopsAt n rose (Ok (Broken fault)) = StopsPass n rose fault
StopsAt n rose (Err fault) = ⊤

-- the same, where the host holds the file
abbrev pub StopsIn : Option (List ℕ) → Type 0 → Result PassEnd StoreFault → Type 0
StopsIn None rose result = ⊤
StopsIn (Some bytes) rose result = StopsAt (length bytes) rose result

-- ---- what is said

-- how many frames, new headers and new bodies there were, and the tip; or why the file can't be read on
abbrev pub SaysEnd : Info → TakenHeaders → PassEnd → List ℕ → List ℕ → Type 0
SaysEnd info taken (Whole bodies) before after = after ≡ before ++ reply_text (says.Import taken.frames taken.added bodies info.height info.tip)
SaysEnd info taken (Broken fault) before after = SaysFault fault before after
