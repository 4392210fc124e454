-- The tree of headers: blocks by their hashes, each but the first below its parent.
use Rattle.std.specs.Prelude.{ℕ, zero, suc, ◌-◌, ◌/◌, not, List, [], ◌∷◌, length, take, map, reverse, take_while, slice_get, nat_le, cond, unwrap_or}
use Rattle.std.specs.declared.option.Option.{Option}
use Rattle.std.specs.declared.option.Option.TheVariants.{Some, None}
use Rattle.std.specs.Option.{option_map_or}
use Rattle.std.specs.List.{find, list_any}
use Rattle.std.specs.FinMap.{FinMap, get, contains_key}
use Rattle.std.specs.FinMap as finite
use Rattle.base_types.specs.Keys.{hash_cmp}
use Rattle.base_types.specs.declared.hash.Hash32.{Hash32}
use Rattle.base_types.specs.declared.program.Rules.{Rules}
use Rattle.block_codec.specs.declared.block.Header.{Header}
use Rattle.block_codec.specs.Genesis.{genesis, genesis_hash}
use Rattle.block_codec.specs.Text.{same_hash}

-- headers by their hashes
abbrev pub Headers : Type 0
Headers = FinMap hash_cmp Header

-- headers, and the heights from which four rules hold among them
pub record Tree : Type 0 where
  pub headers : Headers
  pub rules : Rules

-- genesis alone
abbrev pub first_headers : Headers
first_headers = finite.insert finite.empty genesis_hash genesis

-- a block and those below its header's parent; nothing where there is no header
abbrev pub and_below : Hash32 → Option Header → (Hash32 → List Hash32) → List Hash32
and_below hash None below = []
and_below hash (Some header) below = hash ∷ below header.prev

-- the blocks from this one down to genesis, at most so many of them
unfoldable pub chain_within : ℕ → Headers → Hash32 → List Hash32
chain_within zero headers hash = []
chain_within (suc most) headers hash =
    cond (same_hash hash genesis_hash) (hash ∷ []) (and_below hash (get headers hash) (λ parent. chain_within most headers parent))

-- the blocks from this one down to genesis, this one first; none where it isn't there
abbrev pub chain : Headers → Hash32 → List Hash32
chain headers hash = chain_within (finite.len headers) headers hash

-- the number of blocks below a block
abbrev pub height : Headers → Hash32 → ℕ
height headers hash = length (chain headers hash) - 1

-- the block's ancestor, or itself, at a height
abbrev pub ancestor : Headers → Hash32 → ℕ → Option Hash32
ancestor headers hash at = slice_get (reverse (chain headers hash)) at

-- the blocks after an ancestor up to a block, the lowest first
abbrev pub path : Headers → Hash32 → Hash32 → List Hash32
path headers from to = reverse (take_while (λ hash. not (same_hash hash from)) (chain headers to))

-- the highest block that stands on the chains of both
abbrev pub fork : Headers → Hash32 → Hash32 → Option Hash32
fork headers a b = find (λ hash. list_any (same_hash hash) (chain headers b)) (chain headers a)

-- ---- times

-- a number among numbers that rise
unfoldable pub among : ℕ → List ℕ → List ℕ
among n [] = n ∷ []
among n (m ∷ ms) = cond (nat_le n m) (n ∷ m ∷ ms) (m ∷ among n ms)

-- the numbers in rising order
unfoldable pub rising : List ℕ → List ℕ
rising [] = []
rising (n ∷ ns) = among n (rising ns)

-- of rising numbers the one in the middle, and the upper of two
abbrev pub median : List ℕ → ℕ
median ns = unwrap_or (slice_get (rising ns) (length ns / 2)) 0

abbrev pub time : Headers → Hash32 → ℕ
time headers hash = option_map_or (λ header. header.time) (get headers hash) 0

-- the median of the times of a block and of up to ten blocks before it (BIP 113)
abbrev pub median_time : Headers → Hash32 → ℕ
median_time headers hash = median (map (time headers) (take 11 (chain headers hash)))

-- what is asked of a block that may not be there
abbrev pub of_member : {A : Type 0} → Headers → Hash32 → A → Option A
of_member headers hash a = cond (contains_key headers hash) (Some a) None
