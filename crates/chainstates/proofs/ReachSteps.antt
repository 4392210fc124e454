-- The way down from a tip, body by body.
use Rattle.std.proofs.Common.{◌≡◌, ℕ, zero, suc, ◌&&◌, ◌||◌, not, Bool, true, false, List, [], ◌∷◌, map, reverse, Option, Some, None, refl, sym, ap, ◌∙◌, cond, ◌+◌, ◌-◌, ◌<◌, arith}
use Rattle.std.specs.Prelude.{take_while, is_some, slice_get}
use Rattle.std.specs.List.{list_all, list_any}
use Rattle.std.specs.FinMap.{get, len}
use Rattle.std.proofs.lemmas.List.{reverse-append}
use Rattle.std.proofs.lemmas.List.Folds.{list_all-append}
use Rattle.std.proofs.lemmas.List.Sums.{take_while-cons}
use Rattle.base_types.specs.declared.hash.Hash32.{Hash32}
use Rattle.block_codec.specs.Genesis.{genesis_hash}
use Rattle.block_codec.specs.Text.{same_hash}
use Rattle.block_codec.specs.declared.block.Header.{Header}
use Rattle.block_store.specs.Index.{last_place}
use Rattle.block_store.proofs.IndexLaws.{last_is, last_later}
use Rattle.chain_model.specs.Tree.{Tree, Headers, chain, chain_within, and_below}
use Rattle.chain_model.proofs.Hashes.{same_self, same_false}
use Rattle.chainstates.specs.Reading.{hash_of_body}
use Rattle.chainstates.proofs.Gates.{same_value}
use Rattle.store_state.specs.State.{StoredBody, has_record, is_reached}

abbrev is_other : Hash32 → Bool
is_other hash = not (same_hash hash genesis_hash)

-- genesis is among the blocks, and each before it has a body
abbrev pub reached_along : List StoredBody → List Hash32 → Bool
reached_along bodies hashes = list_any (same_hash genesis_hash) hashes && list_all (has_record bodies) (take_while is_other hashes)

or_true : (a b : Bool) → b ≡ true → (a || b) ≡ true
or_true true b e = refl
or_true false b e = e

-- ---- in any order

and_last : (a b : Bool) → (a && (b && true)) ≡ (b && a)
and_last true true = refl
and_last true false = refl
and_last false true = refl
and_last false false = refl

all_turned : (p : Hash32 → Bool) (xs : List Hash32) → list_all p (reverse xs) ≡ list_all p xs
all_turned p [] = refl
all_turned p (x ∷ xs) =
    ap (list_all p) (reverse-append (x ∷ []) xs) ∙ list_all-append p (reverse xs) (x ∷ []) ∙ and_last (list_all p (reverse xs)) (p x)
    ∙ ap (λ (b : Bool). p x && b) (all_turned p xs)

pub reached_is : (tree : Tree) (bodies : List StoredBody) (tip : Hash32) → is_reached tree bodies genesis_hash tip ≡ reached_along bodies (chain_within (len tree.headers) tree.headers tip)
reached_is tree bodies tip = ap (λ (b : Bool). list_any (same_hash genesis_hash) (chain tree.headers tip) && b) (all_turned (has_record bodies) (take_while is_other (chain tree.headers tip)))

-- ---- one block of the way

module _ (bodies : List StoredBody) (headers : Headers) (k : ℕ) (hash : Hash32) where
  along : ℕ → Hash32 → Bool
  along n from = reached_along bodies (chain_within n headers from)

  pub ends_at_genesis : hash ≡ genesis_hash → reached_along bodies (chain_within (suc k) headers hash) ≡ true
  unfolding chain_within
  ends_at_genesis is =
      let self : same_hash hash genesis_hash ≡ true = ap (λ (h : Hash32). same_hash h genesis_hash) is ∙ same_self genesis_hash in
      let other : same_hash genesis_hash hash ≡ true = ap (same_hash genesis_hash) is ∙ same_self genesis_hash in
      ap (λ (b : Bool). reached_along bodies (cond b (hash ∷ []) (and_below hash (get headers hash) (λ parent. chain_within k headers parent)))) self
      ∙ ap (λ (b : Bool). (b || false) && list_all (has_record bodies) (take_while is_other (hash ∷ []))) other
      ∙ ap (list_all (has_record bodies)) (take_while-cons is_other hash [] ∙ ap (λ (b : Bool). cond (not b) (hash ∷ take_while is_other []) []) self)

  module _ (apart : hash ≡ genesis_hash → ⊥) where
    here : same_hash hash genesis_hash ≡ false
    here = same_false hash genesis_hash apart

    there : same_hash genesis_hash hash ≡ false
    there = same_false genesis_hash hash (λ e. apart (sym e))

    below : reached_along bodies (chain_within (suc k) headers hash) ≡ reached_along bodies (and_below hash (get headers hash) (λ parent. chain_within k headers parent))
    unfolding chain_within
    below = ap (λ (b : Bool). reached_along bodies (cond b (hash ∷ []) (and_below hash (get headers hash) (λ parent. chain_within k headers parent)))) here

    pub missing : get headers hash ≡ None → reached_along bodies (chain_within (suc k) headers hash) ≡ false
    missing none = below ∙ ap (λ (o : Option Header). reached_along bodies (and_below hash o (λ parent. chain_within k headers parent))) none

    module _ (header : Header) (found : get headers hash ≡ Some header) where
      rest : List Hash32
      rest = chain_within k headers header.prev

      step : reached_along bodies (chain_within (suc k) headers hash) ≡ (list_any (same_hash genesis_hash) rest && (has_record bodies hash && list_all (has_record bodies) (take_while is_other rest)))
      unfolding rest
      step =
          below ∙ ap (λ (o : Option Header). reached_along bodies (and_below hash o (λ parent. chain_within k headers parent))) found
          ∙ ap (λ (b : Bool). (b || list_any (same_hash genesis_hash) rest) && list_all (has_record bodies) (take_while is_other (hash ∷ rest))) there
          ∙ ap (λ (l : List Hash32). list_any (same_hash genesis_hash) rest && list_all (has_record bodies) l)
          (take_while-cons is_other hash rest ∙ ap (λ (b : Bool). cond (not b) (hash ∷ take_while is_other rest) []) here)

      never : (a b : Bool) → (a && (false && b)) ≡ false
      never true b = refl
      never false b = refl

      pub unstored : has_record bodies hash ≡ false → reached_along bodies (chain_within (suc k) headers hash) ≡ false
      unstored none =
          step ∙ ap (λ (b : Bool). list_any (same_hash genesis_hash) rest && (b && list_all (has_record bodies) (take_while is_other rest))) none
          ∙ never (list_any (same_hash genesis_hash) rest) (list_all (has_record bodies) (take_while is_other rest))

      pub goes_down : has_record bodies hash ≡ true → reached_along bodies (chain_within (suc k) headers hash) ≡ reached_along bodies (chain_within k headers header.prev)
      unfolding rest
      goes_down stored = step ∙ ap (λ (b : Bool). list_any (same_hash genesis_hash) rest && (b && list_all (has_record bodies) (take_while is_other rest))) stored

pub ends : (bodies : List StoredBody) (headers : Headers) (hash : Hash32) → reached_along bodies (chain_within 0 headers hash) ≡ false
unfolding chain_within
ends bodies headers hash = refl

-- ---- as the code goes down

module _ (tree : Tree) (bodies : List StoredBody) (tip hash : Hash32) (way : reached_along bodies (chain_within (len tree.headers) tree.headers tip) ≡ reached_along bodies (chain_within 0 tree.headers hash)) where
  pub came_to_end : false ≡ is_reached tree bodies genesis_hash tip
  came_to_end = sym (reached_is tree bodies tip ∙ way ∙ ends bodies tree.headers hash)

module _ (tree : Tree) (bodies : List StoredBody) (tip hash : Hash32) (left k : ℕ) (more : left ≡ suc k) (way : reached_along bodies (chain_within (len tree.headers) tree.headers tip) ≡ reached_along bodies (chain_within left tree.headers hash)) where
  on_way : reached_along bodies (chain_within (len tree.headers) tree.headers tip) ≡ reached_along bodies (chain_within (suc k) tree.headers hash)
  on_way = way ∙ ap (λ (n : ℕ). reached_along bodies (chain_within n tree.headers hash)) more

  pub at_genesis : hash ≡ genesis_hash → true ≡ is_reached tree bodies genesis_hash tip
  at_genesis is = sym (reached_is tree bodies tip ∙ on_way ∙ ends_at_genesis bodies tree.headers k hash is)

  pub at_unknown : (hash ≡ genesis_hash → ⊥) → get tree.headers hash ≡ None → false ≡ is_reached tree bodies genesis_hash tip
  at_unknown apart none = sym (reached_is tree bodies tip ∙ on_way ∙ missing bodies tree.headers k hash apart none)

  pub at_unstored : (hash ≡ genesis_hash → ⊥) → (header : Header) → get tree.headers hash ≡ Some header → has_record bodies hash ≡ false → false ≡ is_reached tree bodies genesis_hash tip
  at_unstored apart header found none = sym (reached_is tree bodies tip ∙ on_way ∙ unstored bodies tree.headers k hash apart header found none)

  pub further_down : (hash ≡ genesis_hash → ⊥) → (header : Header) → get tree.headers hash ≡ Some header → has_record bodies hash ≡ true
      → reached_along bodies (chain_within (len tree.headers) tree.headers tip) ≡ reached_along bodies (chain_within k tree.headers header.prev)
  further_down apart header found stored = on_way ∙ goes_down bodies tree.headers k hash apart header found stored

-- so many steps are left, one of which is this one
pub one_less : (size step all : ℕ) → all ≡ size → step < all → size - step ≡ suc (size - (step + 1))
one_less size step all is less = omega (arith, is, less)

pub not_genesis : (hash genesis : Hash32) → genesis ≡ genesis_hash → false ≡ same_hash hash genesis → hash ≡ genesis_hash → ⊥
not_genesis hash genesis is apart here =
    let same : same_hash hash genesis ≡ true = ap (same_hash hash) (is ∙ sym here) ∙ same_self hash in
    cc

-- the hashes that records carry
pub record_named : (bodies : List StoredBody) (hash : Hash32) → has_record bodies hash ≡ list_any (λ (one : Hash32). same_hash one hash) (map hash_of_body bodies)
record_named [] hash = refl
record_named (body ∷ bodies) hash = ap (λ (b : Bool). same_hash body.hash hash || b) (record_named bodies hash)

-- the hash that records carry is among theirs
pub record_there : (bodies : List StoredBody) (hashes : List Hash32) (hash : Hash32) → map hash_of_body bodies ≡ hashes → has_record bodies hash ≡ is_some (last_place hashes hash)
record_there bodies hashes hash e = by_last (last_place hashes hash) refl
  where
    any_at : (all : List Hash32) (n : ℕ) → slice_get all n ≡ Some hash → list_any (λ (one : Hash32). same_hash one hash) all ≡ true
    any_at [] n there = absurd cc
    any_at (one ∷ all) zero there = ap (λ (b : Bool). b || list_any (λ (other : Hash32). same_hash other hash) all) (ap (λ (h : Hash32). same_hash h hash) (same_value one hash there) ∙ same_self hash)
    any_at (one ∷ all) (suc n) there = or_true (same_hash one hash) (list_any (λ (other : Hash32). same_hash other hash) all) (any_at all n there)

    none_of : (all : List Hash32) → ((n : ℕ) → slice_get all n ≡ Some hash → ⊥) → list_any (λ (one : Hash32). same_hash one hash) all ≡ false
    none_of [] never = refl
    none_of (one ∷ all) never =
        ap (λ (b : Bool). b || list_any (λ (other : Hash32). same_hash other hash) all) (same_false one hash (λ is. never 0 (ap (λ (h : Hash32). Some h) is)))
        ∙ none_of all (λ n there. never (suc n) there)

    never_later : last_place hashes hash ≡ None → (n : ℕ) → slice_get hashes n ≡ Some hash → ⊥
    never_later none n there = let later = last_later hashes hash n there in let never : None ≡ Some later.0 = sym none ∙ later.1 in cc

    by_last : (o : Option ℕ) → last_place hashes hash ≡ o → has_record bodies hash ≡ is_some (last_place hashes hash)
    by_last None none = record_named bodies hash ∙ ap (list_any (λ (one : Hash32). same_hash one hash)) e ∙ none_of hashes (never_later none) ∙ sym (ap is_some none)
    by_last (Some n) is = record_named bodies hash ∙ ap (list_any (λ (one : Hash32). same_hash one hash)) e ∙ any_at hashes n (last_is hashes hash n is) ∙ sym (ap is_some is)
