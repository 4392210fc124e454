-- What a reader was fed, and what it answers.
use Rattle.std.specs.Prelude.{◌≡◌, ◌⊎◌, ◌↔◌, ℕ, ◌+◌, ◌<◌, ◌==◌, Bool, true, false, not, List, [], ◌∷◌, ◌++◌, length, map, Option, Some, None, option_map, is_some, Result, Ok, Err}
use Rattle.std.specs.List.{AllByRecursion}
use Rattle.base_types.specs.Codec.{IsBytes, at}
use Rattle.base_types.specs.declared.hash.Hash32.{Hash32}
use Rattle.base_types.specs.declared.hash.OutPoint.{OutPoint}
use Rattle.base_types.specs.declared.coin.Coin.{Coin}
use Rattle.base_types.specs.declared.snapshot_error.SnapError.{SnapError}
use Rattle.base_types.specs.declared.snapshot_error.SnapError.TheVariants.{Short}
use Rattle.snapshot_file.specs.Text.{IsSnapshot}
use Rattle.snapshot_file.specs.Items.{Wrong, from_first, head_at, is_above}
use Rattle.snapshot_file.specs.Part.{Part, no_group, read_coins, read_part}
use Rattle.snapshot_file.specs.Steps.{read_from, after, Point, point, Waits, Goes, Stops}
use Rattle.snapshot_file.specs.declared.coins.SnapCoin.{SnapCoin}
use Rattle.snapshot_file.specs.declared.fault.SnapFault.{SnapFault}
use Rattle.snapshot_file.specs.declared.fault.SnapFault.TheVariants.{NoMemory, Bad}
use Rattle.snapshot_file.specs.declared.head.SnapHead.{SnapHead}
use Rattle.snapshot_file.specs.declared.progress.Progress.{Progress}
use Rattle.snapshot_file.specs.declared.reader.Stage.{Stage}
use Rattle.snapshot_file.specs.declared.reader.Stage.TheVariants.{Head, Coins, Failed}
use Rattle.snapshot_file.specs.declared.reader.Pieces.{Pieces}
use Rattle.snapshot_file.specs.declared.reader.Reader.{Reader}

-- how many bytes it was fed
abbrev pub bytes_fed : Reader → ℕ
bytes_fed reader = reader.at + length reader.held.items

abbrev pub stage_fault : Stage → Option SnapFault
stage_fault Head = None
stage_fault (Coins progress) = None
stage_fault (Failed fault) = Some fault

-- what each later call answers, where there is such a fault
abbrev pub fault_of : Reader → Option SnapFault
fault_of reader = stage_fault reader.stage

-- the bytes of an item that isn't whole yet, and the offset at which they begin
pub record Ahead : Type 0 where
  pub offset : ℕ
  pub held : List ℕ

abbrev pub ahead : ℕ → List ℕ → Ahead
ahead offset held = record { offset = offset; held = held }

-- The metadata is whole, and the reader stands behind the items that are.
pub record BehindHead (progress : Progress) (next : Ahead) (height : Option ℕ) (fed : List ℕ) : Type 0 where
  pub head : SnapHead
  pub body : List ℕ
  pub coins : List SnapCoin
  pub begins : head_at (from_first fed) ≡ Ok (head, at (length fed) body)
  pub len : length fed ≡ 51 + length body
  pub reads : (ys : List ℕ) → read_coins height head.count 0 no_group 51 (body ++ ys) ≡ after coins (read_from progress next.offset (next.held ++ ys))
  pub waits : Waits progress next.held
  pub counted : length coins + progress.left ≡ head.count
  pub same_height : progress.height ≡ height
  -- until the first byte behind the metadata
  pub fresh : body ≡ [] → (progress.left ≡ head.count) × (progress.members ≡ 0) × (next.held ≡ []) × (next.offset ≡ 51)

-- The metadata is whole, and the bytes behind it break the form.
pub record BrokenBody (error : SnapError) (offset : ℕ) (height : Option ℕ) (fed : List ℕ) : Type 0 where
  pub head : SnapHead
  pub body : List ℕ
  pub coins : List SnapCoin
  pub begins : head_at (from_first fed) ≡ Ok (head, at (length fed) body)
  pub len : length fed ≡ 51 + length body
  pub some : 0 < length body
  pub breaks : (ys : List ℕ) → read_coins height head.count 0 no_group 51 (body ++ ys) ≡ record { coins = coins; fault = Some (error, offset) }

pub record WithinHead (held : List ℕ) (height : Option ℕ) (fed : List ℕ) : Type 0 where
  pub all : held ≡ fed
  pub no_height : height ≡ None
  pub waits : head_at (from_first fed) ≡ Err None

abbrev pub StandsAt : Stage → Ahead → Option ℕ → List ℕ → Type 0
StandsAt Head next height fed = WithinHead next.held height fed
StandsAt (Coins progress) next height fed = BehindHead progress next height fed
StandsAt (Failed NoMemory) next height fed = ⊥
StandsAt (Failed (Bad error place)) next height fed = BrokenBody error place height fed

-- The reader was fed these bytes in all, under this height, if one was set, and no call failed. Where the last call
-- made something whole and the bytes then break the form, the next one fails.
pub record HasFed (reader : Reader) (height : Option ℕ) (fed : List ℕ) : Type 0 where
  pub bytes : IsBytes fed
  pub count : bytes_fed reader ≡ length fed
  pub stands : StandsAt reader.stage (ahead reader.at reader.held.items) height fed

-- ---- what `feed` answers

-- what wasn't there before
abbrev pub news : Option SnapHead → Option SnapHead → Option SnapHead
news None now = now
news (Some head) now = None

-- what became whole
pub record Became (before part : Part) (head : Option SnapHead) (coins : List SnapCoin) : Type 0 where
  pub head_is : head ≡ news before.head part.head
  pub coins_are : part.coins ≡ before.coins ++ coins

abbrev pub is_empty : Pieces → Bool
is_empty pieces = elim pieces.coins [ [] ↦ not (is_some pieces.head) | coin ∷ coins ↦ false ]

abbrev pub bad : Wrong → SnapFault
bad wrong = Bad wrong.0 wrong.1

-- Something became whole, or the bytes break no form. A fault is answered by the next call.
pub record Gave (before part : Part) (pieces : Pieces) (next : Option SnapFault) : Type 0 where
  pub became : Became before part pieces.head pieces.coins
  pub some : (part.fault ≡ None) ⊎ (is_empty pieces ≡ false)
  pub later : next ≡ option_map bad part.fault

-- The bytes break the form, and nothing became whole.
pub record Refused (before part : Part) (wrong : Wrong) : Type 0 where
  pub fault : part.fault ≡ Some wrong
  pub head : part.head ≡ before.head
  pub coins : part.coins ≡ before.coins

-- a call that feeds a piece behind the bytes that were fed before, under a height, if one was set
pub record Feeding : Type 0 where
  pub height : Option ℕ
  pub fed : List ℕ
  pub piece : List ℕ

abbrev pub feeding : Option ℕ → List ℕ → List ℕ → Feeding
feeding height fed piece = record { height = height; fed = fed; piece = piece }

-- what the bytes say before it and after it
abbrev pub part_before : Feeding → Part
part_before call = read_part call.height call.fed

abbrev pub part_after : Feeding → Part
part_after call = read_part call.height (call.fed ++ call.piece)

abbrev pub FeedAnswer : Feeding → Result Pieces SnapFault → Reader → Type 0
FeedAnswer call (Ok pieces) new = HasFed new call.height (call.fed ++ call.piece) × Gave (part_before call) (part_after call) pieces (fault_of new)
FeedAnswer call (Err NoMemory) new = Unit {0}
FeedAnswer call (Err (Bad error offset)) new = Refused (part_before call) (part_after call) (error, offset)

-- What a longer part says: the same metadata, the same coins first, and the same fault.
pub record Grows (part more : Part) : Type 0 where
  pub head : (head : SnapHead) → part.head ≡ Some head → more.head ≡ Some head
  pub coins : (others : List SnapCoin) × (more.coins ≡ part.coins ++ others)
  pub fault : (wrong : Wrong) → part.fault ≡ Some wrong → more ≡ part

-- ---- what `finish` answers

-- as many coins as the metadata says
abbrev pub is_whole : Part → Bool
is_whole part = elim part.head [ None ↦ false | Some head ↦ length part.coins == head.count ]

abbrev pub end_of : Option Wrong → Bool → ℕ → Result (Unit {0}) SnapFault
end_of (Some wrong) whole end = Err (bad wrong)
end_of None true end = Ok tt
end_of None false end = Err (Bad Short end)

abbrev pub finish_of : Option ℕ → List ℕ → Result (Unit {0}) SnapFault
finish_of height fed = let part = read_part height fed in end_of part.fault (is_whole part) (length fed)

-- ---- whole files

abbrev pub entry : SnapCoin → OutPoint × Coin
entry coin = (coin.key, coin.coin)

-- a part with these coins and no other, at this base
pub record IsAll (part : Part) (base : Hash32) (coins : List (OutPoint × Coin)) : Type 0 where
  pub head : part.head ≡ Some (record { base = base; count = length coins })
  pub entries : map entry part.coins ≡ coins
  pub no_fault : part.fault ≡ None

-- no coin is above the height, where one was set
abbrev pub NoneAbove : Option ℕ → List (OutPoint × Coin) → Type 0
NoneAbove height coins = AllByRecursion (λ e. is_above height e.1.height ≡ false) coins

-- A snapshot, with no coin above the height, is exactly a part that is whole.
abbrev pub IsWholeFile : Option ℕ → List ℕ → Type 0
IsWholeFile height bytes = (base : Hash32) (coins : List (OutPoint × Coin)) → (IsSnapshot bytes base coins × NoneAbove height coins) ↔ IsAll (read_part height bytes) base coins

-- `finish` answers Ok exactly there, and then these are the coins of the part.
pub record Finishes (height : Option ℕ) (fed : List ℕ) (result : Result (Unit {0}) SnapFault) : Type 0 where
  pub exactly : (base : Hash32) (coins : List (OutPoint × Coin)) → (IsSnapshot fed base coins × NoneAbove height coins) ↔ ((result ≡ Ok tt) × IsAll (read_part height fed) base coins)
  pub found : result ≡ Ok tt → (base : Hash32) × IsAll (read_part height fed) base (map entry (read_part height fed).coins)

-- ---- what the reader's own functions do

-- where one stands behind the metadata
abbrev pub first_progress : SnapHead → Progress
first_progress head = record { height = None; left = head.count; members = 0; txid = head.base }

-- a piece for a reader that stands behind the metadata, and the coins before and after it
pub record Move : Type 0 where
  pub progress : Progress
  pub piece : List ℕ
  pub had : List SnapCoin
  pub has : List SnapCoin

abbrev pub move : Progress → List ℕ → List SnapCoin → List SnapCoin → Move
move progress piece had has = record { progress = progress; piece = piece; had = had; has = has }

-- where the reader stands, with the piece behind the bytes that it holds
abbrev pub from_there : Move → Reader → Point
from_there move old = point move.progress old.at (old.held.items ++ move.piece) move.had

-- the reader went on over a piece
pub record MovesOn (call : Move) (old new : Reader) : Type 0 where
  pub progress : Progress
  pub stage : new.stage ≡ Coins progress
  pub goes : Goes (from_there call old) (point progress new.at new.held.items call.has)
  pub waits : Waits progress new.held.items
  pub count : bytes_fed new ≡ bytes_fed old + length call.piece
  pub idle : call.piece ≡ [] → (progress ≡ call.progress) × (new.at ≡ old.at) × (new.held.items ≡ old.held.items)

abbrev pub MoveStep : Result (Unit {0}) SnapFault → Move → Reader → Reader → Type 0
MoveStep (Ok done) call old new = MovesOn call old new
MoveStep (Err fault) call old new = Stops fault (from_there call old) call.has × (0 < length call.piece)

-- what a piece made whole was taken, and the bytes break no form
pub record TakesPiece (call : Feeding) (new : Reader) (pieces : Pieces) : Type 0 where
  pub fed_more : HasFed new call.height (call.fed ++ call.piece)
  pub on : fault_of new ≡ None
  pub became : Became (part_before call) (part_after call) pieces.head pieces.coins
  pub no_fault : (part_after call).fault ≡ None

-- or they do
pub record BreaksForm (call : Feeding) (error : SnapError) (offset : ℕ) (pieces : Pieces) : Type 0 where
  pub became : Became (part_before call) (part_after call) pieces.head pieces.coins
  pub fault : (part_after call).fault ≡ Some (error, offset)
  pub behind : is_empty pieces ≡ false → BrokenBody error offset call.height (call.fed ++ call.piece)

abbrev pub TakeStep : Feeding → Result (Unit {0}) SnapFault → Reader → Pieces → Type 0
TakeStep call (Ok done) new pieces = TakesPiece call new pieces
TakeStep call (Err NoMemory) new pieces = Unit {0}
TakeStep call (Err (Bad error offset)) new pieces = BreaksForm call error offset pieces
