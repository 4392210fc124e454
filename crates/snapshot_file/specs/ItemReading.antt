-- What a function that reads an item returns.
use Rattle.std.specs.Prelude.{◌≡◌, ℕ, ◌<◌, ◌≤◌, List, [], length, drop, Some, None, Result, Ok, Err}
use Rattle.base_types.specs.Reading.{Input}
use Rattle.base_types.specs.Codec.{at}
use Rattle.base_types.specs.declared.hash.Hash32.{Hash32}
use Rattle.base_types.specs.declared.snapshot_error.SnapError.TheVariants.{LeftOver}
use Rattle.coin_codec.specs.declared.fault.CoinFault.{CoinFault}
use Rattle.coin_codec.specs.declared.fault.CoinFault.TheVariants as coin
use Rattle.snapshot_file.specs.Items.{Stop, coin_stop}
use Rattle.snapshot_file.specs.declared.item_fault.ItemFault.{ItemFault}
use Rattle.snapshot_file.specs.declared.item_fault.ItemFault.TheVariants.{Unfinished, NoMemory, Bad}

-- the fault says why an item was not read
abbrev pub Says : ItemFault → Stop → Type 0
Says Unfinished stop = stop ≡ None
Says NoMemory stop = Unit {0}
Says (Bad error offset) stop = stop ≡ Some (error, offset)

-- the fault of a coin, as that of its item
abbrev pub OfCoin : CoinFault → ItemFault → Type 0
OfCoin coin.NoMemory fault = fault ≡ NoMemory
OfCoin (coin.Bad error offset) fault = Says fault (coin_stop (error, offset))

-- the fault is what reading gives, unless memory ran out
abbrev pub Fails : {X : Type 0} → ItemFault → Result X Stop → Type 0
Fails Unfinished given = given ≡ Err None
Fails NoMemory given = Unit {0}
Fails (Bad error offset) given = given ≡ Err (Some (error, offset))

-- What was returned is what reading gives.
abbrev pub ReadsItem : {X : Type 0} → Result X ItemFault → Input → Result (X × Input) Stop → Type 0
ReadsItem (Ok x) new given = given ≡ Ok (x, new)
ReadsItem (Err e) new given = Fails e given

-- The same of a hash, of which reading gives the bytes.
abbrev pub ReadsHash : Result Hash32 ItemFault → Input → Result (List ℕ × Input) Stop → Type 0
ReadsHash (Ok hash) new given = given ≡ Ok (hash.bytes, new)
ReadsHash (Err e) new given = Fails e given

-- The same of whole bytes, of which so many were read.
abbrev pub ReadsFront : {X Y : Type 0} → (X → Y) → (X → ℕ) → Result X ItemFault → List ℕ → Result (Y × Input) Stop → Type 0
ReadsFront view len (Ok x) bytes given = (given ≡ Ok (view x, at (length bytes) (drop (len x) bytes))) × (len x ≤ length bytes)
ReadsFront view len (Err e) bytes given = Fails e given

-- what stands where all coins were read: nothing, or bytes that are left over
abbrev pub IsEnd : ItemFault → List ℕ → Type 0
IsEnd Unfinished bytes = bytes ≡ []
IsEnd NoMemory bytes = ⊥
IsEnd (Bad error offset) bytes = (error ≡ LeftOver) × (offset ≡ 0) × (0 < length bytes)
