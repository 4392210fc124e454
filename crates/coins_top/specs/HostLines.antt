-- Lines that leave the store as it is: they read and write files of the host.
use Rattle.std.specs.Prelude.{◌≡◌, ◌⊎◌, ℕ, List, [], ◌++◌, Result, Ok, Err}
use Rattle.std.specs.FinMap.{insert}
use Rattle.std.specs.List.{flat_map}
use Rattle.io_traits.specs.Causes.{Rose, RoseBy}
use Rattle.io_traits.specs.Host.{Files}
use Rattle.chain_model.specs.Generated.{chain as generated_chain}
use Rattle.command_loop.specs.ServerCalls.{Asked}
use Rattle.command_text.specs.Replies.{reply_text}
use Rattle.command_text.specs.declared.line.LineFault.{LineFault}
use Rattle.command_text.specs.declared.line.LineFault.TheVariants.{NoMemory, Refused}
use Rattle.command_text.specs.declared.reply.Reply.{Reply}
use Rattle.command_text.specs.declared.reply.Reply.TheVariants as says
use Rattle.machine.specs.Answers.{SameBut, file_begun, flushes_told_by}
use Rattle.machine.specs.State.{Setting, State}
use Rattle.machine.specs.Steps.{Did, Step, OthersStay, Generation, generated_reply, generated_bytes}

-- the line was done, and the lines of its replies were added to a text
pub record HostDone (setting : Setting) (ask : Asked) (before now : ℕ) (text_before text_after : List ℕ) (s t : Files) (state : State) : Type 0 where
  pub did : Did
  pub step : Step setting (record { state = state; files = s }) ask did
  pub stays : did.now ≡ record { state = state; files = t }
  pub events : did.events ≡ []
  pub untold : flushes_told_by did.replies ≡ []
  pub text : text_after ≡ text_before ++ flat_map reply_text did.replies
  pub host : RoseBy did.faults before now

-- or it was cut, and the file that it makes may have been begun
pub record HostCut (setting : Setting) (ask : Asked) (before now : ℕ) (s t : Files) (state : State) : Type 0 where
  pub did : Did
  pub step : Step setting (record { state = state; files = s }) ask did
  pub files : SameBut (file_begun ask) s t
  pub host : RoseBy did.faults before now

-- wherever the store stands
abbrev pub HostLine : {A E : Type 0} → Setting → Asked → ℕ → ℕ → List ℕ → List ℕ → Result A E → Files → Files → Type 0
HostLine setting ask before now text_before text_after (Ok done) s t = (state : State) → HostDone setting ask before now text_before text_after s t state
HostLine setting ask before now text_before text_after (Err fault) s t = (state : State) → HostCut setting ask before now s t state

-- ---- a file that is made

abbrev pub WritesIs : ℕ → Generation → Type 0 → Reply → List ℕ → Files → Files → Type 0
WritesIs count generated rose reply name s t =
    ((reply ≡ generated_reply count generated) × (t ≡ insert s name (generated_bytes generated)))
    ⊎ ((reply ≡ says.HostFault) × rose × OthersStay name s t)

-- a file was generated, or no memory was left and it may have any bytes
abbrev pub LineWritten : {E : Type 0} → ℕ → ℕ → List ℕ → ℕ → ℕ → Result Reply E → Files → Files → Type 0
LineWritten number count name before now (Ok reply) s t = WritesIs count (generated_chain number count) (Rose before now) reply name s t
LineWritten number count name before now (Err error) s t = OthersStay name s t

-- ---- a line that isn't a command

abbrev pub SaysRefusal : LineFault → List ℕ → List ℕ → Type 0
SaysRefusal NoMemory before after = ⊥
SaysRefusal (Refused why) before after = after ≡ before ++ reply_text (says.Refused why)
