-- What holds of the entries and of their numbers.
use Rattle.std.specs.Prelude.{◌≡◌, ℕ, suc, ◌+◌, ◌<◌, ◌≤◌, ◌^◌, List, length, map, reverse, slice_get, ◌-◌, ◌%◌, ◌==◌, nat_lt, bit_and, if◌then◌else◌}
use Rattle.std.specs.declared.option.Option.{Option}
use Rattle.std.specs.declared.option.Option.TheVariants.{Some, None}
use Rattle.std.specs.FinMap.{FinMap, get}
use Rattle.std.specs.FinMap as finite
use Rattle.base_types.specs.declared.hash.Hash32.{Hash32}
use Rattle.base_types.specs.declared.program.Rules.{Rules}
use Rattle.base_types.specs.Keys.{hash_cmp}
use Rattle.block_codec.specs.Text.{hash_of_header}
use Rattle.chain_model.specs.Tree.{Headers, Tree}
use Rattle.block_codec.specs.Genesis.{genesis_hash}
use Rattle.header_tree.specs.declared.entry.Entry.{Entry}
use Rattle.chain_model.specs.Above.{IsAbove}
use Rattle.header_tree.specs.State.{State, IsAcceptedInOrder}

abbrev pub Numbers : Type 0
Numbers = FinMap hash_cmp ℕ

-- the headers by their hashes
abbrev pub headers_of : List Entry → Headers
headers_of entries = finite.from_entries (map (λ e. (e.hash, e.header)) (reverse entries))

abbrev pub order_of : List Entry → List Hash32
order_of entries = map (λ e. e.hash) entries

abbrev pub tree_of : List Entry → Rules → Tree
tree_of entries rules = record { headers = headers_of entries; rules = rules }

abbrev pub state_of : List Entry → ℕ → Rules → State
state_of entries limit rules = record { tree = tree_of entries rules; limit = limit; order = order_of entries }

-- the entry before an entry that isn't genesis
pub record HasParent (entries : List Entry) (e : Entry) : Type 0 where
  pub parent : Entry
  pub there : slice_get entries e.parent ≡ Some parent
  pub named : parent.hash ≡ e.header.prev
  pub higher : e.height ≡ suc parent.height

-- a number without its lowest bit
abbrev pub without_lowest : ℕ → ℕ
without_lowest n = bit_and n (n - 1)

-- the height to which the skip of a block leads
abbrev pub skip_height : ℕ → ℕ
skip_height h = if nat_lt h 2 then 0 else if h % 2 == 1 then without_lowest (without_lowest (h - 1)) + 1 else without_lowest h

-- the skip leads down, so many steps
pub record HasSkip (entries : List Entry) (headers : Headers) (e : Entry) : Type 0 where
  pub target : Entry
  pub there : slice_get entries e.skip ≡ Some target
  pub steps : ℕ
  pub down : IsAbove headers steps e.hash target.hash
  pub heights : e.height ≡ steps + target.height
  pub lands : target.height ≡ skip_height e.height

-- an entry at its number
pub record IsPlaced (entries : List Entry) (headers : Headers) (numbers : Numbers) (number : ℕ) (e : Entry) : Type 0 where
  pub named : e.hash ≡ hash_of_header e.header
  pub numbered : get numbers e.hash ≡ Some number
  pub found : get headers e.hash ≡ Some e.header
  pub high : IsAbove headers e.height e.hash genesis_hash
  pub low : e.height ≤ number
  pub parent : 0 < e.height → HasParent entries e
  pub skip : HasSkip entries headers e
  pub earlier : 0 < e.height → (e.parent < number) × (e.skip < number)

-- the entry of a hash, where it has a number
abbrev pub IsNumbered : List Entry → Headers → Hash32 → Option ℕ → Type 0
IsNumbered entries headers hash None = get headers hash ≡ None
IsNumbered entries headers hash (Some number) = (e : Entry) × (slice_get entries number ≡ Some e) × (e.hash ≡ hash)

pub record IsKept (entries : List Entry) (numbers : Numbers) (limit : ℕ) (rules : Rules) : Type 0 where
  pub in_order : IsAcceptedInOrder (state_of entries limit rules)
  pub count : finite.len (headers_of entries) ≡ length entries
  pub some : 0 < length entries
  pub fits : length entries < 2 ^ 32
  pub numbered : (hash : Hash32) → IsNumbered entries (headers_of entries) hash (get numbers hash)
  pub placed : (number : ℕ) (e : Entry) → slice_get entries number ≡ Some e → IsPlaced entries (headers_of entries) numbers number e
