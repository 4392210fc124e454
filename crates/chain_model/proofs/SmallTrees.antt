-- The chains of trees of genesis and one or two headers above it.
use Rattle.std.proofs.Common.{◌≡◌, ℕ, suc, ◌+◌, ◌-◌, Bool, true, false, cond, List, [], ◌∷◌, length, Option, Some, None, refl, sym, ap, ◌∙◌}
use Rattle.std.specs.Prelude.{not, ◌||◌, reverse, take_while}
use Rattle.std.specs.List.{list_any}
use Rattle.std.specs.FinMap.{get}
use Rattle.std.specs.FinMap as finite
use Rattle.base_types.specs.declared.hash.Hash32.{Hash32}
use Rattle.base_types.specs.declared.program.Rules.{Rules}
use Rattle.block_codec.specs.Genesis.{genesis, genesis_hash}
use Rattle.block_codec.specs.Text.{hash_of_header, same_hash}
use Rattle.block_codec.specs.declared.block.Header.{Header}
use Rattle.chain_model.specs.Choice.{is_at_or_below}
use Rattle.chain_model.specs.HeaderRules.{first_tree, header_broken}
use Rattle.chain_model.specs.SmallTrees.{IsChild, tree_of_one}
use Rattle.chain_model.specs.Tree.{Tree, Headers, first_headers, chain_within, chain, path, height, and_below}
use Rattle.chain_model.proofs.Hashes.{same_self, same_false, get_same, get_other, len_new, apart_from}
use Rattle.chain_model.proofs.Trees.{acceptable, genesis_known, one_member}

-- a header that is accepted is new
pub is_new : (limit : ℕ) (tree : Tree) (header : Header) → header_broken limit tree header ≡ None → get tree.headers (hash_of_header header) ≡ None
is_new limit tree header fine = (acceptable limit tree header fine).fresh

-- ---- chains

pub at_genesis : (n : ℕ) (headers : Headers) → chain_within (suc n) headers genesis_hash ≡ genesis_hash ∷ []
unfolding chain_within
at_genesis n headers =
    ap (λ (b : Bool). cond b (genesis_hash ∷ []) (and_below genesis_hash (get headers genesis_hash) (λ parent. chain_within n headers parent))) (same_self genesis_hash)

pub above : (n : ℕ) (headers : Headers) (hash : Hash32) (header : Header) → (hash ≡ genesis_hash → ⊥) → get headers hash ≡ Some header
    → chain_within (suc n) headers hash ≡ hash ∷ chain_within n headers header.prev
unfolding chain_within
above n headers hash header apart is =
    ap (λ (b : Bool). cond b (hash ∷ []) (and_below hash (get headers hash) (λ parent. chain_within n headers parent))) (same_false hash genesis_hash apart)
    ∙ ap (λ (o : Option Header). and_below hash o (λ parent. chain_within n headers parent)) is

or_true : (a b : Bool) → b ≡ true → (a || b) ≡ true
or_true true b e = refl
or_true false b e = e

-- a test that holds of a member
pub any_second : (test : Hash32 → Bool) (a b : Hash32) → test b ≡ true → list_any test (a ∷ b ∷ []) ≡ true
any_second test a b e = or_true (test a) (test b || false) (ap (λ (x : Bool). x || false) e)

pub any_third : (test : Hash32 → Bool) (a b c : Hash32) → test c ≡ true → list_any test (a ∷ b ∷ c ∷ []) ≡ true
any_third test a b c e = or_true (test a) (list_any test (b ∷ c ∷ [])) (any_second test b c e)

-- the first members up to one that fails a test
pub taken_one : (test : Hash32 → Bool) (a b : Hash32) → test a ≡ true → test b ≡ false → take_while test (a ∷ b ∷ []) ≡ a ∷ []
taken_one test a b first second = rw (first, second) refl

pub taken_two : (test : Hash32 → Bool) (a b c : Hash32) → test a ≡ true → test b ≡ true → test c ≡ false → take_while test (a ∷ b ∷ c ∷ []) ≡ a ∷ b ∷ []
taken_two test a b c first second third = rw (first, second, third) refl

-- a block isn't genesis, or is
abbrev pub is_past_genesis : Hash32 → Bool
is_past_genesis hash = not (same_hash hash genesis_hash)

pub past : (hash : Hash32) → (hash ≡ genesis_hash → ⊥) → is_past_genesis hash ≡ true
past hash apart = ap not (same_false hash genesis_hash apart)

pub not_past : is_past_genesis genesis_hash ≡ false
not_past = ap not (same_self genesis_hash)

-- ---- one header above genesis

module _ (limit : ℕ) (given : Rules) (header : Header) (child : IsChild limit (first_tree given) genesis_hash header) where
  pub new_in_first : get first_headers (hash_of_header header) ≡ None
  new_in_first = is_new limit (first_tree given) header child.accepted

  pub apart_of_one : hash_of_header header ≡ genesis_hash → ⊥
  apart_of_one = apart_from first_headers (hash_of_header header) genesis_hash genesis new_in_first genesis_known

  pub two_members : finite.len (tree_of_one limit given header child).headers ≡ 2
  two_members = len_new first_headers (hash_of_header header) header new_in_first ∙ ap (λ (n : ℕ). n + 1) one_member

  pub known_of_one : get (tree_of_one limit given header child).headers (hash_of_header header) ≡ Some header
  known_of_one = get_same first_headers (hash_of_header header) header

  pub genesis_of_one : get (tree_of_one limit given header child).headers genesis_hash ≡ Some genesis
  genesis_of_one = get_other first_headers (hash_of_header header) header genesis_hash (λ e. apart_of_one (sym e)) ∙ genesis_known

  pub chain_of_one : chain (tree_of_one limit given header child).headers (hash_of_header header) ≡ hash_of_header header ∷ genesis_hash ∷ []
  chain_of_one =
      ap (λ (n : ℕ). chain_within n (tree_of_one limit given header child).headers (hash_of_header header)) two_members
      ∙ above 1 (tree_of_one limit given header child).headers (hash_of_header header) header apart_of_one known_of_one
      ∙ ap (λ (h : Hash32). hash_of_header header ∷ chain_within 1 (tree_of_one limit given header child).headers h) child.below
      ∙ ap (λ (l : List Hash32). hash_of_header header ∷ l) (at_genesis 0 (tree_of_one limit given header child).headers)

  pub genesis_in_one : chain (tree_of_one limit given header child).headers genesis_hash ≡ genesis_hash ∷ []
  genesis_in_one = ap (λ (n : ℕ). chain_within n (tree_of_one limit given header child).headers genesis_hash) two_members ∙ at_genesis 1 (tree_of_one limit given header child).headers

  pub height_of_one : height (tree_of_one limit given header child).headers (hash_of_header header) ≡ 1
  height_of_one = ap (λ (l : List Hash32). length l - 1) chain_of_one

  pub reaches_one : is_at_or_below (tree_of_one limit given header child).headers genesis_hash (hash_of_header header) ≡ true
  reaches_one = ap (λ (l : List Hash32). list_any (same_hash genesis_hash) l) chain_of_one ∙ any_second (same_hash genesis_hash) (hash_of_header header) genesis_hash (same_self genesis_hash)

  pub path_of_one : path (tree_of_one limit given header child).headers genesis_hash (hash_of_header header) ≡ hash_of_header header ∷ []
  path_of_one =
      ap (λ (l : List Hash32). reverse (take_while is_past_genesis l)) chain_of_one
      ∙ ap (λ (l : List Hash32). reverse l) (taken_one is_past_genesis (hash_of_header header) genesis_hash (past (hash_of_header header) apart_of_one) not_past)
