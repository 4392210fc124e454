-- The rules of headers, and the trees that they allow.
use Rattle.std.specs.Prelude.{◌≡◌, ℕ, zero, suc, ◌+◌, ◌*◌, ℤ, pos, negsuc, Bool, true, false, not, ◌&&◌, ◌||◌, ◌==◌, List, [], ◌∷◌, ◌++◌, length, fold, nat_lt, nat_le, cond}
use Rattle.std.specs.declared.option.Option.{Option}
use Rattle.std.specs.declared.option.Option.TheVariants.{Some, None}
use Rattle.std.specs.FinMap.{contains_key}
use Rattle.std.specs.FinMap as finite
use Rattle.base_types.specs.Parameters.{target, target_bits}
use Rattle.base_types.specs.declared.hash.Hash32.{Hash32}
use Rattle.base_types.specs.declared.program.Rules.{Rules}
use Rattle.base_types.specs.declared.refused.HeaderRefused.{HeaderRefused}
use Rattle.base_types.specs.declared.refused.HeaderRefused.TheVariants.{Known, HighHash, NoParent, BadBits, TooOld, BadVersion, TreeFull}
use Rattle.block_codec.specs.declared.block.Header.{Header}
use Rattle.block_codec.specs.Text.{hash_of_header}
use Rattle.chain_model.specs.Rules.{first_broken}
use Rattle.chain_model.specs.Tree.{Tree, first_headers, height, median_time}

-- the number whose lowest byte stands first
abbrev pub number_of : List ℕ → ℕ
number_of [] = 0
number_of (byte ∷ bytes) = byte + 256 * number_of bytes

-- a hash is no greater than the target as a number whose lowest byte stands first
abbrev pub meets_target : Hash32 → Bool
meets_target hash = nat_le (number_of hash.bytes) target

abbrev pub is_below : ℤ → ℕ → Bool
is_below (pos n) limit = nat_lt n limit
is_below (negsuc n) limit = true

-- the version is out of date at a height: below 4 (BIP 65) or below 2 (BIP 34)
abbrev pub is_outdated : Rules → ℕ → ℤ → Bool
is_outdated rules at version = (is_below version 4 && nat_le rules.version4 at) || (is_below version 2 && nat_le rules.bip34 at)

-- the first rule that a header breaks in a tree, of which there are at most so many members
unfoldable pub header_broken : ℕ → Tree → Header → Option HeaderRefused
header_broken limit tree header = first_broken (
    (contains_key tree.headers (hash_of_header header), Known) ∷
    (not (meets_target (hash_of_header header)), HighHash) ∷
    (not (contains_key tree.headers header.prev), NoParent) ∷
    (not (header.bits == target_bits), BadBits) ∷
    (nat_le header.time (median_time tree.headers header.prev), TooOld) ∷
    (is_outdated tree.rules (height tree.headers header.prev + 1) header.version, BadVersion) ∷
    (nat_le limit (finite.len tree.headers), TreeFull) ∷
    [])

-- the tree with one more header
abbrev pub with_header : Tree → Header → Tree
with_header tree header = record tree { headers = finite.insert tree.headers (hash_of_header header) header }

-- ---- trees

-- genesis alone, under rules
abbrev pub first_tree : Rules → Tree
first_tree rules = record { headers = first_headers; rules = rules }

-- the tree with a header, unless the header breaks a rule
abbrev pub and_header : Option HeaderRefused → Tree → Header → Option Tree
and_header None tree header = Some (with_header tree header)
and_header (Some rule) tree header = None

abbrev pub and_then : Option Tree → (Tree → Option Tree) → Option Tree
and_then None next = None
and_then (Some tree) next = next tree

-- the tree after headers that come one after the other; none where one of them breaks a rule
unfoldable pub tree_with : ℕ → Tree → List Header → Option Tree
tree_with limit tree [] = Some tree
tree_with limit tree (header ∷ headers) = and_then (and_header (header_broken limit tree header) tree header) (λ next. tree_with limit next headers)

-- a tree comes from genesis alone by headers that break no rule, one after the other
pub record IsTree (limit : ℕ) (tree : Tree) : Type 0 where
  pub accepted : List Header
  pub comes : tree_with limit (first_tree tree.rules) accepted ≡ Some tree

-- ---- the closure of a tree under the headers of a file

-- a tree, the headers that were added in their order, and whether a further header found it full
pub record Closed : Type 0 where
  pub tree : Tree
  pub added : List Header
  pub full : Bool

-- a header that breaks no rule is added; where the tree is full it ends the work; any other is passed over
abbrev pub closed_with : Option HeaderRefused → Closed → Header → Closed
closed_with None closed header = record closed { tree = with_header closed.tree header; added = closed.added ++ header ∷ [] }
closed_with (Some TreeFull) closed header = record closed { full = true }
closed_with (Some Known) closed header = closed
closed_with (Some HighHash) closed header = closed
closed_with (Some NoParent) closed header = closed
closed_with (Some BadBits) closed header = closed
closed_with (Some TooOld) closed header = closed
closed_with (Some BadVersion) closed header = closed

abbrev pub closed_after : ℕ → Closed → Header → Closed
closed_after limit closed header = cond closed.full closed (closed_with (header_broken limit closed.tree header) closed header)

-- one round over the headers in their order
abbrev pub round : ℕ → List Header → Closed → Closed
round limit headers closed = fold (closed_after limit) closed headers

-- so many rounds
unfoldable pub rounds : ℕ → ℕ → List Header → Closed → Closed
rounds limit zero headers closed = closed
rounds limit (suc n) headers closed = rounds limit n headers (round limit headers closed)

-- The rounds go on until one adds nothing. Each round before that adds a header, so there are no more than headers.
abbrev pub closure : ℕ → Tree → List Header → Closed
closure limit tree headers = rounds limit (length headers) headers (record { tree = tree; added = []; full = false })
