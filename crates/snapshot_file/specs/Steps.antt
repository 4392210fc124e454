-- How a reader goes from item to item.
use Rattle.std.specs.Prelude.{◌≡◌, ℕ, zero, suc, ◌+◌, ◌*◌, ◌<◌, ◌≤◌, ◌==◌, List, [], ◌∷◌, ◌++◌, length, take, drop, Option, Some, None, Result, Ok, Err, if◌then◌else◌}
use Rattle.base_types.specs.Reading.{Input, place}
use Rattle.base_types.specs.Codec.{IsBytes, at}
use Rattle.base_types.specs.declared.snapshot_error.SnapError.{SnapError}
use Rattle.base_types.specs.declared.snapshot_error.SnapError.TheVariants.{LeftOver}
use Rattle.snapshot_file.specs.Items.{Wrong, Stop, from_first, head_at, group_at, member_at}
use Rattle.snapshot_file.specs.Part.{Found, read_coins}
use Rattle.snapshot_file.specs.declared.coins.SnapCoin.{SnapCoin}
use Rattle.snapshot_file.specs.declared.fault.SnapFault.{SnapFault}
use Rattle.snapshot_file.specs.declared.fault.SnapFault.TheVariants as snap
use Rattle.snapshot_file.specs.declared.head.SnapHead.{SnapHead}
use Rattle.snapshot_file.specs.declared.item_fault.ItemFault.{ItemFault}
use Rattle.snapshot_file.specs.declared.item_fault.ItemFault.TheVariants.{Unfinished, NoMemory, Bad}
use Rattle.snapshot_file.specs.declared.progress.Progress.{Progress}

-- what the bytes from an offset on say to a reader that stands there
abbrev pub read_from : Progress → ℕ → List ℕ → Found
read_from s at bytes = read_coins s.height s.left s.members s.txid at bytes

-- coins that were found before
abbrev pub after : List SnapCoin → Found → Found
after coins found = record { coins = coins ++ found.coins; fault = found.fault }

-- how many bytes an item has
abbrev pub len_of : {X : Type 0} → Result (X × Input) Stop → Result ℕ Stop
len_of (Ok p) = Ok (place p.1)
len_of (Err stop) = Err stop

unfoldable pub item_len : Option ℕ → ℕ → ℕ → List ℕ → Result ℕ Stop
item_len height zero members [] = Err None
item_len height zero members (byte ∷ rest) = Err (Some (LeftOver, 0))
item_len height (suc left) zero bytes = len_of (group_at (suc left) (from_first bytes))
item_len height (suc left) (suc members) bytes = len_of (member_at height (from_first bytes))

abbrev pub next_len : Progress → List ℕ → Result ℕ Stop
next_len s bytes = item_len s.height s.left s.members bytes

-- the bytes end within the next item
pub record Waits (s : Progress) (bytes : List ℕ) : Type 0 where
  pub short : next_len s bytes ≡ Err None

-- A reader between two items: where it stands, the offset of the next byte, the bytes that are there from it on, and the
-- coins that it has.
pub record Point : Type 0 where
  pub progress : Progress
  pub offset : ℕ
  pub bytes : List ℕ
  pub coins : List SnapCoin

abbrev pub point : Progress → ℕ → List ℕ → List SnapCoin → Point
point progress offset bytes coins = record { progress = progress; offset = offset; bytes = bytes; coins = coins }

-- what a call leaves: where the reader stands, and the coins that it has
pub record Outcome : Type 0 where
  pub progress : Progress
  pub coins : List SnapCoin

abbrev pub outcome : Progress → List SnapCoin → Outcome
outcome progress coins = record { progress = progress; coins = coins }

-- where a call leaves the reader that took so many of the bytes
abbrev pub after_bytes : Point → ℕ → Outcome → Point
after_bytes old len new = point new.progress (old.offset + len) (drop len old.bytes) new.coins

-- the same point with more bytes
abbrev pub with_more : Point → List ℕ → Point
with_more old more = point old.progress old.offset (old.bytes ++ more) old.coins

-- what its bytes say, and others behind them
abbrev pub read_on : Point → List ℕ → Found
read_on old more = read_from old.progress old.offset (old.bytes ++ more)

-- A reader went on, and added the coins that it found.
pub record Goes (old new : Point) : Type 0 where
  pub found : List SnapCoin
  pub coins : new.coins ≡ old.coins ++ found
  pub goes_on : (more : List ℕ) → read_on old more ≡ after found (read_on new more)
  pub counted : length found + new.progress.left ≡ old.progress.left
  pub height : new.progress.height ≡ old.progress.height

-- The bytes break the form behind the coins that it found and added.
pub record Breaks (old : Point) (wrong : Wrong) (coins_now : List SnapCoin) : Type 0 where
  pub found : List SnapCoin
  pub coins : coins_now ≡ old.coins ++ found
  pub breaks : (more : List ℕ) → read_on old more ≡ record { coins = found; fault = Some wrong }

-- how many items may still come, at most
abbrev pub rank : Progress → ℕ
rank s = 2 * s.left + (if s.members == 0 then 1 else 0)

-- an item was read, of so many bytes
pub record TakesItem (old : Point) (len : ℕ) (new : Outcome) : Type 0 where
  pub goes : Goes old (after_bytes old len new)
  pub within : len ≤ length old.bytes
  pub fits : IsBytes old.bytes
  pub is : next_len old.progress old.bytes ≡ Ok len
  pub less : rank new.progress < rank old.progress

-- the next item breaks the form
pub record BreaksItem (old : Point) (error : SnapError) (offset : ℕ) (coins_now : List SnapCoin) : Type 0 where
  pub breaks : Breaks old (error, old.offset + offset) coins_now
  pub within : offset ≤ length old.bytes

-- the next item isn't whole
pub record Stays (old : Point) (new : Outcome) : Type 0 where
  pub waits : Waits old.progress old.bytes
  pub same : new.progress ≡ old.progress
  pub coins : new.coins ≡ old.coins

-- what reading one item does
abbrev pub ItemStep : Result ℕ ItemFault → Point → Outcome → Type 0
ItemStep (Ok len) old new = TakesItem old len new
ItemStep (Err Unfinished) old new = Stays old new
ItemStep (Err NoMemory) old new = Unit {0}
ItemStep (Err (Bad error offset)) old new = BreaksItem old error offset new.coins

-- the fault is this one, unless memory ran out
abbrev pub Stops : SnapFault → Point → List SnapCoin → Type 0
Stops snap.NoMemory old coins_now = Unit {0}
Stops (snap.Bad error offset) old coins_now = Breaks old (error, offset) coins_now

-- all items that are whole were read
pub record TakesItems (old : Point) (used : ℕ) (new : Outcome) : Type 0 where
  pub goes : Goes old (after_bytes old used new)
  pub within : used ≤ length old.bytes
  pub waits : Waits new.progress (drop used old.bytes)

abbrev pub ItemsStep : Result ℕ SnapFault → Point → Outcome → Type 0
ItemsStep (Ok used) old new = TakesItems old used new
ItemsStep (Err fault) old new = Stops fault old new.coins

-- the item that was begun became whole with so many bytes of a piece
pub record CompletesItem (old : Point) (piece : List ℕ) (used : ℕ) (new : Outcome) : Type 0 where
  pub goes : Goes (with_more old piece) (point new.progress (old.offset + length old.bytes + used) (drop used piece) new.coins)
  pub within : used ≤ length piece

-- or not with all of them
pub record StillWaits (old : Point) (piece : List ℕ) (new : Outcome) : Type 0 where
  pub waits : Waits old.progress (old.bytes ++ piece)
  pub same : new.progress ≡ old.progress
  pub coins : new.coins ≡ old.coins

abbrev pub CompleteStep : Result (Option ℕ) SnapFault → Point → List ℕ → Outcome → Type 0
CompleteStep (Ok (Some used)) old piece new = CompletesItem old piece used new
CompleteStep (Ok None) old piece new = StillWaits old piece new
CompleteStep (Err fault) old piece new = Stops fault (with_more old piece) new.coins

-- ---- the metadata

-- bytes of a piece made the metadata whole
pub record HeadWhole (head : SnapHead) (used : ℕ) (held piece : List ℕ) : Type 0 where
  pub within : used ≤ length piece
  pub len : length (held ++ take used piece) ≡ 51
  pub is : head_at (from_first (held ++ take used piece)) ≡ Ok (head, at 51 [])

-- or all of them did not
pub record HeadWaits (held piece now : List ℕ) : Type 0 where
  pub all : now ≡ held ++ piece
  pub waits : head_at (from_first now) ≡ Err None

abbrev pub HeadStep : Result (Option (SnapHead × ℕ)) SnapFault → List ℕ → List ℕ → List ℕ → Type 0
HeadStep (Ok (Some whole)) held piece now = HeadWhole whole.0 whole.1 held piece
HeadStep (Ok None) held piece now = HeadWaits held piece now
HeadStep (Err snap.NoMemory) held piece now = Unit {0}
HeadStep (Err (snap.Bad error offset)) held piece now = head_at (from_first (held ++ piece)) ≡ Err (Some (error, offset))
