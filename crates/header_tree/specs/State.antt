-- What a tree of headers holds.
use Rattle.std.specs.Prelude.{◌≡◌, ◌<◌, length, map, slice_get, ℕ, Option, Some, None, IsTrue, List, [], ◌∷◌, ◌++◌, get_or, refl}
use Rattle.std.specs.Coded.{Coded, code_by, coded×, coded_ℕ, coded_list}
use Rattle.std.specs.FinMap as finite
use Rattle.base_types.specs.declared.hash.Hash32.{Hash32}
use Rattle.base_types.specs.declared.program.Rules.{Rules}
use Rattle.base_types.specs.contracts.hash.Hash32 as hash
use Rattle.base_types.specs.contracts.program.Rules as rules
use Rattle.block_codec.specs.declared.block.Header.{Header}
use Rattle.block_codec.specs.contracts.block.Header as header
use Rattle.block_codec.specs.Text.{hash_of_header}
use Rattle.chain_model.specs.Tree.{Headers, Tree, chain}
use Rattle.block_codec.specs.Genesis.{genesis_hash}
use Rattle.chain_model.specs.HeaderRules.{first_tree, with_header, tree_with}

-- the tree, how many headers it may hold, and the hashes in the order in which their headers were accepted
pub record State : Type 0 where
  pub tree : Tree
  pub limit : ℕ
  pub order : List Hash32

abbrev pub state_code : Coded State
state_code =
    code_by (Headers × (Rules × (ℕ × List Hash32)))
    (coded× (finite.code hash.the_row.coded header.the_row.coded) (coded× rules.the_row.coded (coded× coded_ℕ (coded_list hash.the_row.coded))))
    (λ s. (s.tree.headers, (s.tree.rules, (s.limit, s.order))))
    (λ p. record { tree = record { headers = p.0; rules = p.1.0 }; limit = p.1.1.0; order = p.1.1.1 })
    (λ _. refl)

-- genesis alone
abbrev pub first_state : ℕ → Rules → State
first_state limit rules = record { tree = first_tree rules; limit = limit; order = genesis_hash ∷ [] }

-- one more header
abbrev pub after_header : State → Header → State
after_header state header = record state { tree = with_header state.tree header; order = state.order ++ hash_of_header header ∷ [] }

-- the headers of the order broke no rule in the tree before them, one after the other
pub record IsAcceptedInOrder (state : State) : Type 0 where
  pub accepted : List Header
  pub comes : tree_with state.limit (first_tree state.tree.rules) accepted ≡ Some state.tree
  pub listed : state.order ≡ genesis_hash ∷ map hash_of_header accepted

-- each member of the tree stands once in the order, genesis first
pub record IsListing (headers : Headers) (order : List Hash32) : Type 0 where
  pub first : slice_get order 0 ≡ Some genesis_hash
  pub all : (hash : Hash32) → IsTrue (finite.contains_key headers hash) → (number : ℕ) × (slice_get order number ≡ Some hash)
  pub only : (number : ℕ) (hash : Hash32) → slice_get order number ≡ Some hash → IsTrue (finite.contains_key headers hash)
  pub once : (n m : ℕ) (hash : Hash32) → slice_get order n ≡ Some hash → slice_get order m ≡ Some hash → n ≡ m

-- the hash that was accepted after so many others
abbrev pub hash_at : State → ℕ → Hash32
hash_at state number = get_or state.order number genesis_hash

-- the number of the block before another
abbrev pub IsBefore : State → ℕ → Option ℕ → Type 0
IsBefore state number None = chain state.tree.headers (hash_at state number) ≡ hash_at state number ∷ []
IsBefore state number (Some parent) =
    (parent < length state.order) × (chain state.tree.headers (hash_at state number) ≡ hash_at state number ∷ chain state.tree.headers (hash_at state parent))
