-- What the calls of a view answer, and when they fail.
use Rattle.std.specs.Prelude.{⊤, ◌≡◌, ℕ, ◌+◌, ◌-◌, ◌^◌, ◌<◌, ◌≤◌, min, List, [], ◌∷◌, ◌++◌, Option, Some, None, Result, Ok, Err, IfOk}
use Rattle.std.specs.FinMap.{get, insert, remove}
use Rattle.base_types.specs.Coins.{Coins}
use Rattle.base_types.specs.declared.coin.Coin.{Coin}
use Rattle.base_types.specs.declared.fault.StoreFault.{StoreFault}
use Rattle.base_types.specs.declared.fault.StoreFault.TheVariants.{NoMemory, DiskFailed, Damaged, Full, CacheFull}
use Rattle.base_types.specs.declared.hash.OutPoint.{OutPoint}

-- a record that was found broken: the number of its file, and the offset of its gate
pub record BrokenPlace : Type 0 where
  pub file : ℕ
  pub at : ℕ

-- how often a view has failed, the records that it found broken, the oldest first, and the number of entries of its largest
-- cache, or 0
pub record ViewCounts : Type 0 where
  pub faults : ℕ
  pub broken : List BrokenPlace
  pub entries : ℕ

-- the greatest number of entries of a cache
abbrev pub max_entries : ℕ
max_entries = 4294967294

-- no call failed, and no record was found broken
pub record FoundNothing (old new : ViewCounts) : Type 0 where
  pub faults : new.faults ≡ old.faults
  pub broken : new.broken ≡ old.broken

-- a call failed: the count of faults rose, or stands at its type's end
pub record CallFailed (old new : ViewCounts) : Type 0 where
  pub rose : min (old.faults + 1) (2 ^ 64 - 1) ≤ new.faults
  pub broken : new.broken ≡ old.broken

-- this record was found broken
pub record FoundBroken (place : BrokenPlace) (old new : ViewCounts) : Type 0 where
  pub faults : new.faults ≡ old.faults
  pub broken : new.broken ≡ old.broken ++ place ∷ []

-- a cache has too many entries for one that one of so many calls would need
pub record CacheIsFull (calls : ℕ) (old new : ViewCounts) : Type 0 where
  pub nothing : FoundNothing old new
  pub entries : max_entries < old.entries + calls

-- what so many calls of a view have met, by how the last one ended: those before it were answered
abbrev pub HasViewCause : {T : Type 0} → ℕ → ViewCounts → ViewCounts → Result T StoreFault → Type 0
HasViewCause calls old new (Ok value) = FoundNothing old new
HasViewCause calls old new (Err NoMemory) = FoundNothing old new
HasViewCause calls old new (Err DiskFailed) = CallFailed old new
HasViewCause calls old new (Err (Damaged file at)) = FoundBroken (record { file = file; at = at }) old new
HasViewCause calls old new (Err (Full file)) = ⊥
HasViewCause calls old new (Err CacheFull) = CacheIsFull calls old new

-- so many calls of a view: each makes at most one entry more, and a fault has its cause
pub record FindsFault {T : Type 0} (calls : ℕ) (old new : ViewCounts) (result : Result T StoreFault) : Type 0 where
  pub entries : new.entries ≤ old.entries + calls
  pub cause : HasViewCause calls old new result

-- the coin that an outpoint has
abbrev pub AnswersCoin : Option Coins → OutPoint → Result (Option Coin) StoreFault → Type 0
AnswersCoin None key result = ⊤
AnswersCoin (Some coins) key result = IfOk result (λ coin. coin ≡ get coins key)

-- the coins with this one; as they were where the call failed
abbrev pub with_coin : {T : Type 0} → Result T StoreFault → OutPoint → Coin → Coins → Coins
with_coin (Ok _) key coin coins = insert coins key coin
with_coin (Err _) key coin coins = coins

-- the coins without this one; as they were where the call failed
abbrev pub without_coin : {T : Type 0} → Result T StoreFault → OutPoint → Coins → Coins
without_coin (Ok _) key coins = remove coins key
without_coin (Err _) key coins = coins

-- the coins, where they are told, have none at this outpoint
abbrev pub HasNoCoin : Option Coins → OutPoint → Type 0
HasNoCoin None key = ⊤
HasNoCoin (Some coins) key = get coins key ≡ None
