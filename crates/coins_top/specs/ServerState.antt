-- An open store with what its run is set to, and why its work may end.
use Rattle.std.specs.Prelude.{⊤, ◌≡◌, ◌⊎◌, ℕ, ◌≤◌, List, Result, Ok, Err, refl}
use Rattle.std.specs.Coded.{Coded, code_by, coded×}
use Rattle.disk_model.specs.Disk.{Image, Rose}
use Rattle.base_types.specs.declared.fault.StoreFault.{StoreFault}
use Rattle.base_types.specs.declared.fault.StoreFault.TheVariants.{NoMemory, DiskFailed, Damaged, Full, CacheFull}
use Rattle.chainstates.specs.Standing.{HasStoreFiles}
use Rattle.chainstates.specs.declared.session.Session.{Session}
use Rattle.chainstates.specs.contracts.session.Session as session
use Rattle.command_loop.specs.ServerCalls.{Asked}
use Rattle.command_loop.specs.declared.settings.RunSettings.{RunSettings}
use Rattle.command_loop.specs.contracts.settings.RunSettings as settings
use Rattle.command_text.specs.declared.line.Line.TheVariants as line
use Rattle.store_state.specs.State.{header_file, body_file, coin_file, first_rules}

pub record ServerState : Type 0 where
  pub session : Session
  pub settings : RunSettings

abbrev pub server_code : Coded ServerState
server_code =
    code_by (Session × RunSettings) (coded× session.the_row.coded settings.the_row.coded)
    (λ s. (s.session, s.settings))
    (λ p. record { session = p.0; settings = p.1 })
    (λ _. refl)

-- a line asks for some blocks, and not for too many
abbrev pub IsCounted : Asked → Type 0
IsCounted (Ok line.Empty) = ⊤
IsCounted (Ok (line.Fold file)) = ⊤
IsCounted (Ok (line.Headers file key)) = ⊤
IsCounted (Ok (line.Import file key)) = ⊤
IsCounted (Ok (line.Generate number count file)) = (1 ≤ count) × (count ≤ 100000)
IsCounted (Ok line.Flush) = ⊤
IsCounted (Ok (line.GetTxOut key)) = ⊤
IsCounted (Ok line.Info) = ⊤
IsCounted (Err why) = ⊤

-- its files are those of a store, and the rules hold from the first block on
pub record IsServer (session : Session) (settings : RunSettings) : Type 0 where
  pub files : HasStoreFiles session
  pub rules : settings.rules ≡ first_rules

-- a file of a store
abbrev pub IsStoreFile : ℕ → Type 0
IsStoreFile file = (file ≡ header_file) ⊎ (file ≡ body_file) ⊎ (file ≡ coin_file)

-- a record that is told as broken and a file that is full are of the store; the cache is never full
abbrev pub store_causes : RunSettings → StoreFault → Image → Type 0
store_causes settings NoMemory contents = ⊤
store_causes settings DiskFailed contents = ⊤
store_causes settings (Damaged file at) contents = IsStoreFile file
store_causes settings (Full file) contents = IsStoreFile file
store_causes settings CacheFull contents = ⊥

-- why a line may not be served
abbrev pub ServerFails : ℕ → ℕ → StoreFault → Type 0
ServerFails before now NoMemory = ⊤
ServerFails before now DiskFailed = Rose before now
ServerFails before now (Damaged file at) = IsStoreFile file
ServerFails before now (Full file) = IsStoreFile file
ServerFails before now CacheFull = ⊥
