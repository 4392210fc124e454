-- What a view of a store answers.
use Rattle.std.specs.Prelude.{⊤, ◌≡◌, ℕ, List, [], ◌∷◌, map, Option, None, IsSome, Result, Ok, Err, option_map}
use Rattle.disk_model.specs.Disk.{Image, Rose}
use Rattle.base_types.specs.Coins.{Coins}
use Rattle.base_types.specs.Views.{BrokenPlace, ViewCounts}
use Rattle.base_types.specs.declared.coin.Coin.{Coin}
use Rattle.base_types.specs.declared.fault.StoreFault.{StoreFault}
use Rattle.base_types.specs.declared.fault.StoreFault.TheVariants.{NoMemory, DiskFailed, Damaged, Full, CacheFull}
use Rattle.coin_store.specs.declared.batch.Gate.{Gate}
use Rattle.coin_store.specs.declared.places.CoinPlace.{CoinPlace}
use Rattle.coin_store.specs.OpenIndex.{OpenIndex}
use Rattle.coin_store.specs.Places.{coin_there, coins_at_places}

-- why a place may not be read
abbrev pub PlaceCause : {T : Type 0} → ℕ → ℕ → Result T StoreFault → Type 0
PlaceCause before now (Ok value) = now ≡ before
PlaceCause before now (Err NoMemory) = now ≡ before
PlaceCause before now (Err DiskFailed) = Rose before now
PlaceCause before now (Err (Damaged file at)) = ⊥
PlaceCause before now (Err (Full file)) = ⊥
PlaceCause before now (Err CacheFull) = ⊥

-- why a call of a view may fail at this place
abbrev pub FaultCause : ℕ → ℕ → CoinPlace → StoreFault → Type 0
FaultCause before now place NoMemory = ⊤
FaultCause before now place DiskFailed = Rose before now
FaultCause before now place (Damaged file at) = (file ≡ place.file) × (at ≡ place.gate)
FaultCause before now place (Full file) = ⊥
FaultCause before now place CacheFull = ⊥

-- the coin at this place is answered where its bytes mean one, and damage where they mean none
abbrev pub AnswersPlace : List ℕ → Image → CoinPlace → Result (Option Coin) StoreFault → Type 0
AnswersPlace mask image place (Ok coin) = IsSome coin × (coin ≡ coin_there mask image place)
AnswersPlace mask image place (Err (Damaged file at)) = coin_there mask image place ≡ None
AnswersPlace mask image place (Err NoMemory) = ⊤
AnswersPlace mask image place (Err DiskFailed) = ⊤
AnswersPlace mask image place (Err (Full file)) = ⊤
AnswersPlace mask image place (Err CacheFull) = ⊤

abbrev pub broken_places : List Gate → List BrokenPlace
broken_places gates = map (λ gate. record { file = gate.file; at = gate.at }) gates

-- how often the disk failed, and the records that were found broken
abbrev pub view_counts : ℕ → List Gate → ViewCounts
view_counts faults gates = record { faults = faults; broken = broken_places gates; entries = 0 }

-- the place that a fault says is broken
abbrev pub broken_in : StoreFault → List BrokenPlace
broken_in (Damaged file at) = record { file = file; at = at } ∷ []
broken_in NoMemory = []
broken_in DiskFailed = []
broken_in (Full file) = []
broken_in CacheFull = []

abbrev pub found_broken : {T : Type 0} → Result T StoreFault → List BrokenPlace
found_broken (Ok x) = []
found_broken (Err fault) = broken_in fault

-- the fault of a place that was found broken: damage, or want of memory
abbrev pub IsBrokenFault : CoinPlace → StoreFault → Type 0
IsBrokenFault place NoMemory = ⊤
IsBrokenFault place (Damaged file at) = (file ≡ place.file) × (at ≡ place.gate)
IsBrokenFault place DiskFailed = ⊥
IsBrokenFault place (Full file) = ⊥
IsBrokenFault place CacheFull = ⊥

-- the coins at the places of an index, where the disk tells its contents
abbrev pub coins_seen : List ℕ → OpenIndex → Option Image → Option Coins
coins_seen mask index contents = option_map (λ image. coins_at_places mask image index.places) contents
