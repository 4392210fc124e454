-- Runs that meet the clauses, above genesis: the first imports a block and flushes, and is cut by a crash after that; each
-- later one opens at the block.
use Rattle.std.specs.Prelude.{◌≡◌, ◌⊎◌, ℕ, zero, suc, ◌<◌, ◌≤◌, ◌^◌, List, [], ◌∷◌, length, codes, true, Some, None}
use Rattle.std.specs.FinMap.{empty, insert}
use Rattle.disk_model.specs.Disk.{Image}
use Rattle.base_types.specs.declared.flushes.Chain.TheVariants.{Full}
use Rattle.base_types.specs.declared.flushes.Flushed.{Flushed}
use Rattle.base_types.specs.declared.flushes.Why.TheVariants.{End}
use Rattle.base_types.specs.declared.hash.Hash32.{Hash32}
use Rattle.base_types.specs.declared.program.Status.TheVariants as status
use Rattle.block_codec.specs.Frames.{frames}
use Rattle.block_store.specs.Headers.{headers_text}
use Rattle.io_traits.specs.Host.{Files}
use Rattle.store_state.specs.State.{StoreState, first_rules}
use Rattle.store_state.specs.SmallImages.{image_of, payload_at}
use Rattle.store_state.specs.SmallStores.{FirstBlock, hash_of, body_payload, store_of_block}
use Rattle.machine.specs.declared.report.Opened.TheVariants.{Yes}
use Rattle.machine.specs.State.{Setting, begins}
use Rattle.machine.specs.Steps.{Now, Did, answered, at_end, longest_file}
use Rattle.machine.specs.Courses.{text_of}
use Rattle.machine.specs.Runs.{Run}
use Rattle.machine.specs.Answers.{found_of}
use Rattle.machine.specs.Histories.{Stop, Stopped}
use Rattle.machine.specs.CutRuns.{no_bytes}
use Rattle.machine.specs.SmallStates.{genesis_store, imported}

-- a run's setting with these limits, under the first rules
abbrev pub setting_of : ℕ → ℕ → Setting
setting_of limit cache = record { limit = limit; cache = cache; given = first_rules }

-- a block that can be applied above genesis, a file that has it, and records that can have it
pub record BlockFile (limit cache : ℕ) : Type 0 where
  pub first : FirstBlock limit first_rules
  pub bytes : List ℕ
  pub short : length bytes ≤ longest_file
  pub one_frame : frames bytes None ≡ first.block ∷ []
  pub body_fits : length (body_payload limit first_rules first) < 2 ^ 32
  pub batch_fits : length (payload_at (hash_of limit first_rules first) first.rows) < 2 ^ 32

abbrev pub name : List ℕ
name = codes "a.dat"

module _ (limit cache : ℕ) (file : BlockFile limit cache) where
  abbrev pub files : Files
  files = insert empty name file.bytes

  abbrev pub block_hash : Hash32
  block_hash = hash_of limit first_rules file.first

  abbrev pub block_store : StoreState
  block_store = store_of_block limit first_rules file.first

  -- ---- images

  -- with the header alone, and with the header, the body and the batch
  abbrev pub header_image : Image
  header_image = image_of (headers_text (file.first.block.header ∷ []) ∷ []) [] []

  abbrev pub block_image : Image
  block_image = image_of (headers_text (file.first.block.header ∷ []) ∷ []) (body_payload limit first_rules file.first ∷ []) (payload_at block_hash file.first.rows ∷ [])

  -- what a crash in the first run since a reading of the clock may leave: before the flush is done at 9 also less
  abbrev pub LeftByFirst : ℕ → Image → Type 0
  LeftByFirst t c = (c ≡ block_image) ⊎ ((t < 9) × ((c ≡ no_bytes) ⊎ (c ≡ header_image)))

  abbrev pub IsBlockImage : Image → Type 0
  IsBlockImage c = c ≡ block_image

  -- ---- what each line does

  -- the import of the file from genesis
  abbrev pub import_did : Did
  import_did = imported (setting_of limit cache) file.first files

  -- where a later run begins, and its one line, which is empty
  abbrev pub later_now : Now
  later_now = record { state = begins block_store; files = files }

  abbrev pub later_line : Did
  later_line = answered later_now []

  -- ---- the runs

  abbrev pub flush_at : ℕ → ℕ → Flushed
  flush_at begun done = record { chain = Full; tip = block_hash; why = End; begun = begun; done = Some done; told = true }

  abbrev pub first_run : Run
  first_run = record {
    setting = setting_of limit cache;
    entered = 0;
    ended = 10;
    contents = no_bytes;
    after = block_image;
    taken = codes "import a.dat";
    at_end = true;
    wrote = text_of (import_did ∷ at_end import_did.now ∷ []);
    files_before = files;
    files_after = files;
    faults_before = 0;
    faults_after = 0;
    status = status.Done;
    flushes = flush_at 5 9 ∷ [];
    opened = Yes 1 (Some (found_of (genesis_store first_rules).active)) None;
  }

  abbrev pub later_run : Run
  later_run = record {
    setting = setting_of limit cache;
    entered = 0;
    ended = 4;
    contents = block_image;
    after = block_image;
    taken = [];
    at_end = true;
    wrote = text_of (later_line ∷ at_end later_now ∷ []);
    files_before = files;
    files_after = files;
    faults_before = 0;
    faults_after = 0;
    status = status.Done;
    flushes = flush_at 2 3 ∷ [];
    opened = Yes 1 (Some (found_of block_store.active)) None;
  }

  -- ---- their list

  abbrev pub run_at : ℕ → Run
  run_at zero = first_run
  run_at (suc n) = later_run

  abbrev pub entry_at : ℕ → Image → Type 0
  entry_at zero c = c ≡ no_bytes
  entry_at (suc n) c = IsBlockImage c

  abbrev pub left_at : ℕ → ℕ → Image → Type 0
  left_at zero t c = LeftByFirst t c
  left_at (suc n) t c = IsBlockImage c

  -- each is cut after its flush is done
  abbrev pub stop_at : ℕ → Stop
  stop_at zero = Stopped 9 block_image
  stop_at (suc n) = Stopped 3 block_image
