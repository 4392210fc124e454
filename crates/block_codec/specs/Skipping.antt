-- Passing what is read, with nothing kept of it.
use Rattle.std.specs.Prelude.{◌≡◌, Result, Ok, Err, IsErr}
use Rattle.base_types.specs.Reading.{Input}
use Rattle.block_codec.specs.Reading.{Wrong}

-- a value stands there and was passed, or reading has a fault
abbrev pub Skips : {A X E : Type 0} → Result A E → Input → Result (X × Input) Wrong → Type 0
Skips {X = X} (Ok a) new read = (x : X) × (read ≡ Ok (x, new))
Skips (Err e) new read = IsErr read

-- the same, where something is said of the value
abbrev pub Shows : {A X E : Type 0} → (A → X → Type 0) → Result A E → Input → Result (X × Input) Wrong → Type 0
Shows {X = X} Says (Ok a) new read = (x : X) × Says a x × (read ≡ Ok (x, new))
Shows Says (Err e) new read = IsErr read
