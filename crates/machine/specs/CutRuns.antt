-- Runs that meet the clauses: each opens an empty disk, flushes at the end of an empty input, and is cut after that.
use Rattle.std.specs.Prelude.{◌≡◌, [], ◌∷◌, true, Some, None}
use Rattle.std.specs.FinMap.{empty}
use Rattle.disk_model.specs.Disk.{Image}
use Rattle.base_types.specs.declared.flushes.Chain.TheVariants.{Full}
use Rattle.base_types.specs.declared.flushes.Flushed.{Flushed}
use Rattle.base_types.specs.declared.flushes.Why.TheVariants.{End}
use Rattle.base_types.specs.declared.program.Rules.{Rules}
use Rattle.base_types.specs.declared.program.Status.TheVariants as status
use Rattle.block_codec.specs.Genesis.{genesis_hash}
use Rattle.chain_model.specs.HeaderRules.{first_tree}
use Rattle.store_state.specs.State.{StoreState, chainstate_of}
use Rattle.machine.specs.declared.report.Opened.TheVariants.{Yes}
use Rattle.machine.specs.State.{Setting, begins}
use Rattle.machine.specs.Steps.{Now, Did, answered, at_end}
use Rattle.machine.specs.Courses.{text_of}
use Rattle.machine.specs.Runs.{Run}
use Rattle.machine.specs.Answers.{found_of}
use Rattle.machine.specs.Histories.{Stop, Stopped}
use Rattle.store_state.specs.Roles.{Alone}

abbrev pub no_bytes : Image
no_bytes file = []

-- the one image of an empty disk
abbrev pub IsEmptyDisk : Image → Type 0
IsEmptyDisk c = c ≡ no_bytes

abbrev pub from_the_start : Rules
from_the_start = record { version4 = 1; bip34 = 1; csv = 1; segwit = 1 }

abbrev pub setting : Setting
setting = record { limit = 1; cache = 100000; given = from_the_start }

-- what an empty disk stands for
abbrev pub no_blocks : StoreState
no_blocks = record { tree = first_tree from_the_start; bodies = []; active = chainstate_of genesis_hash empty []; role = Alone }

abbrev pub first_now : Now
first_now = record { state = begins no_blocks; files = empty }

-- the one line of an empty input, which is empty
abbrev pub empty_line : Did
empty_line = answered first_now []

abbrev pub the_flush : Flushed
the_flush = record { chain = Full; tip = genesis_hash; why = End; begun = 2; done = Some 3; told = true }

abbrev pub the_run : Run
the_run = record {
  setting = setting;
  entered = 0;
  ended = 4;
  contents = no_bytes;
  after = no_bytes;
  taken = [];
  at_end = true;
  wrote = text_of (empty_line ∷ at_end first_now ∷ []);
  files_before = empty;
  files_after = empty;
  faults_before = 0;
  faults_after = 0;
  status = status.Done;
  flushes = the_flush ∷ [];
  opened = Yes 1 (Some (found_of no_blocks.active)) None;
}

abbrev pub the_stop : Stop
the_stop = Stopped 3 no_bytes
