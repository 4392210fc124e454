-- Lines that an open store serves.
use Rattle.std.specs.Prelude.{⊤, ◌≡◌, ◌⊎◌, ℕ}
use Rattle.disk_model.specs.Disk.{Rose}
use Rattle.base_types.specs.declared.fault.StoreFault.{StoreFault}
use Rattle.base_types.specs.declared.fault.StoreFault.TheVariants.{NoMemory, DiskFailed, Damaged, Full, CacheFull}
use Rattle.base_types.specs.declared.flushes.Why.{Why}
use Rattle.chainstates.specs.Offers.{Stands}
use Rattle.chainstates.specs.declared.session.Session.{Session}
use Rattle.command_loop.specs.Points.{Standing}
use Rattle.command_text.specs.declared.line.Line.{Line}
use Rattle.machine.specs.Moves.{flush}
use Rattle.machine.specs.State.{Setting, State}
use Rattle.machine.specs.Steps.{Now, Did, Does, moved_on}
use Rattle.machine.specs.Work.{Moment}
use Rattle.store_state.specs.State.{body_file, coin_file}

-- how an open session stands, as a server does
abbrev pub standing_of : ℕ → Session → Standing
standing_of limit session = λ contents images state store. Stands limit contents images session state store

-- the machine with the host's files at a moment
abbrev pub now_at : Moment → State → Now
now_at before state = record { state = state; files = before.files }

-- the work of a line, and that of a flush
abbrev pub DoesLine : Setting → Moment → State → Line → Did → Type 0
DoesLine setting before state line did = Does setting (now_at before state) line did

abbrev pub DoesFlush : Why → Moment → State → Did → Type 0
DoesFlush why before state did = did ≡ moved_on (now_at before state) (flush why state)

-- a file of the open store
abbrev pub IsFileOf : Session → ℕ → Type 0
IsFileOf session file =
    (file ≡ session.shared.blocks.headers.file) ⊎ (file ≡ session.shared.blocks.bodies.file) ⊎ (file ≡ session.active.store.log.file)

-- why a line may not be served: a body or a coin that is read is broken, or a file of the store is full
abbrev pub LineFails : Session → ℕ → ℕ → StoreFault → Type 0
LineFails session before now NoMemory = ⊤
LineFails session before now DiskFailed = Rose before now
LineFails session before now (Damaged file at) = (file ≡ body_file) ⊎ (file ≡ coin_file)
LineFails session before now (Full file) = IsFileOf session file
LineFails session before now CacheFull = ⊥
