-- What opening finds in the two files.
use Rattle.std.specs.Prelude.{◌≡◌, ◌≢◌, ◌⊎◌, ⊤, ℕ, Bool, not, List, find, Option, Some, None, Result, Ok, Err, nat_le}
use Rattle.base_types.specs.Reading.{◌>>=◌}
use Rattle.base_types.specs.Views.{BrokenPlace}
use Rattle.base_types.specs.declared.fault.StoreFault.{StoreFault}
use Rattle.base_types.specs.declared.fault.StoreFault.TheVariants.{NoMemory, DiskFailed, Damaged, Full, CacheFull}
use Rattle.disk_model.specs.Disk.{Image, BothTold, Rose}
use Rattle.batch_log.specs.Reading.{WhereDamaged}
use Rattle.batch_log.specs.Records.{log}
use Rattle.batch_log.specs.OpenLog.{places_of}
use Rattle.batch_log.specs.declared.places.Place.{Place}
use Rattle.block_store.specs.declared.payload_kind.PayloadKind.{PayloadKind}
use Rattle.block_store.specs.declared.payload_kind.PayloadKind.TheVariants.{Headers, Bodies}
use Rattle.block_store.specs.Headers.{is_headers_length}
use Rattle.block_store.specs.OpenStore.{OpenStore, Payloads, Holds}

-- the number of the file
abbrev pub file_of : PayloadKind → ℕ
file_of Headers = 1
file_of Bodies = 2

-- whether a payload may have so many bytes
abbrev pub has_length : PayloadKind → ℕ → Bool
has_length Headers n = is_headers_length n
has_length Bodies n = nat_le 32 n

-- the first payload of a wrong length
abbrev pub first_wrong : PayloadKind → List Place → Option Place
first_wrong kind places = find (λ place. not (has_length kind place.len)) places

abbrev pub unless_wrong : PayloadKind → Option Place → List (List ℕ) → Result (List (List ℕ)) BrokenPlace
unless_wrong kind None payloads = Ok payloads
unless_wrong kind (Some place) payloads = Err (record { file = file_of kind; at = place.at })

abbrev pub right_lengths : PayloadKind → Result (List (List ℕ)) ℕ → Result (List (List ℕ)) BrokenPlace
right_lengths kind (Ok payloads) = unless_wrong kind (first_wrong kind (places_of 0 payloads)) payloads
right_lengths kind (Err gate) = Err (record { file = file_of kind; at = gate })

-- the payloads of a file, each of a right length, or the place that is damaged
abbrev pub payloads_in : PayloadKind → Image → Result (List (List ℕ)) BrokenPlace
payloads_in kind image = right_lengths kind (log (image (file_of kind)))

-- the payloads of both files, or the first damage, that of the headers before that of the bodies
abbrev pub stored_payloads : Image → Result Payloads BrokenPlace
stored_payloads image = do
  headers ← payloads_in Headers image
  bodies ← payloads_in Bodies image
  Ok (record { headers = headers; bodies = bodies })

-- a store is opened: it holds the payloads that the logs of its two files had
pub record OpensAs (before : Image) (contents : Option Image) (left : Image → Type 0) (store : OpenStore) : Type 0 where
  pub payloads : Payloads
  pub found : stored_payloads before ≡ Ok payloads
  pub header_log : log (before 1) ≡ Ok payloads.headers
  pub body_log : log (before 2) ≡ Ok payloads.bodies
  pub holds : Holds contents left store payloads

-- where damage is answered, it is this
abbrev pub DamagedAs : {A : Type 0} → Result A BrokenPlace → StoreFault → Type 0
DamagedAs found fault = WhereDamaged (λ file at. found ≡ Err (record { file = file; at = at })) fault

-- why a store may not be opened
abbrev pub OpenCause : ℕ → ℕ → StoreFault → Type 0
OpenCause before now NoMemory = ⊤
OpenCause before now DiskFailed = Rose before now
OpenCause before now (Damaged file at) = (file ≡ 1) ⊎ (file ≡ 2)
OpenCause before now (Full file) = ⊥
OpenCause before now CacheFull = ⊥

-- both files take this step, and the others stay
pub record InBoth (Step : List ℕ → List ℕ → Type 0) (old new : Image) : Type 0 where
  pub headers : Step (old 1) (new 1)
  pub bodies : Step (old 2) (new 2)
  pub others : (f : ℕ) → f ≢ 1 → f ≢ 2 → new f ≡ old f

-- contents are told as before, and but for these two files they read the same
abbrev pub OthersKeptBoth : Option Image → Option Image → Type 0
OthersKeptBoth old new = BothTold (λ m n. (f : ℕ) → f ≢ 1 → f ≢ 2 → n f ≡ m f) old new
