-- What holds of every tree of headers.
use Rattle.std.proofs.Common.{◌≡◌, ℕ, zero, suc, ◌+◌, ◌<◌, Bool, true, false, not, List, [], ◌∷◌, ◌++◌, ◌⊎◌, inl, inr, refl, sym, ap, subst, ◌∙◌, arith, leb-false}
use Rattle.std.specs.Prelude.{is_some}
use Rattle.std.specs.declared.option.Option.{Option}
use Rattle.std.specs.declared.option.Option.TheVariants.{Some, None}
use Rattle.std.specs.List.{AllByRecursion}
use Rattle.std.specs.FinMap.{get, empty, contains_key, get-empty, len-empty}
use Rattle.std.specs.FinMap as finite
use Rattle.std.proofs.lemmas.Option.{same_Some, none-some}
use Rattle.base_types.specs.Keys.{hash_cmp}
use Rattle.base_types.specs.declared.hash.Hash32.{Hash32}
use Rattle.base_types.specs.declared.refused.HeaderRefused.{HeaderRefused}
use Rattle.block_codec.specs.declared.block.Header.{Header}
use Rattle.block_codec.specs.Text.{hash_of_header}
use Rattle.chain_model.specs.Above.{IsAbove}
use Rattle.chain_model.specs.Rules.{first_broken}
use Rattle.chain_model.specs.Tree.{Headers, Tree, first_headers, chain}
use Rattle.block_codec.specs.Genesis.{genesis, genesis_hash}
use Rattle.chain_model.specs.HeaderRules.{IsTree, tree_with, header_broken, with_header, first_tree, and_header, and_then}
use Rattle.chain_model.proofs.Chains.{above_stays, line, whole_line}
use Rattle.chain_model.proofs.Hashes.{same_or_not, absent, there, get_same, get_other, get_kept, len_new, apart_from}

-- ---- headers that break no rule

not_broken : {R : Type 0} (b : Bool) (rule : R) (rules : List (Bool × R)) → first_broken ((b, rule) ∷ rules) ≡ None → (b ≡ false) × (first_broken rules ≡ None)
unfolding first_broken
not_broken true rule rules e = absurd cc
not_broken false rule rules e = (refl, e)

not_false : (b : Bool) → not b ≡ false → b ≡ true
not_false true e = refl
not_false false e = absurd cc

-- such a header is new, its parent is there, and the tree has room
pub record IsAcceptable (limit : ℕ) (tree : Tree) (header : Header) : Type 0 where
  pub fresh : get tree.headers (hash_of_header header) ≡ None
  pub parent : contains_key tree.headers header.prev ≡ true
  pub room : finite.len tree.headers < limit

pub acceptable : (limit : ℕ) (tree : Tree) (header : Header) → header_broken limit tree header ≡ None → IsAcceptable limit tree header
unfolding header_broken
acceptable limit tree header fine =
    let known = not_broken _ _ _ fine in
    let high = not_broken _ _ _ known.1 in
    let orphan = not_broken _ _ _ high.1 in
    let bits = not_broken _ _ _ orphan.1 in
    let old = not_broken _ _ _ bits.1 in
    let outdated = not_broken _ _ _ old.1 in
    let full = not_broken _ _ _ outdated.1 in
    let room = leb-false limit (finite.len tree.headers) full.0 in
    record { fresh = absent (get tree.headers (hash_of_header header)) known.0; parent = not_false (contains_key tree.headers header.prev) orphan.0; room = omega arith }

-- ---- headers one after the other

-- what holds of a tree and stays with each header that is added
pub grown_keeps : (P : Tree → Type 0) (limit : ℕ) → ((tree : Tree) (header : Header) → P tree → header_broken limit tree header ≡ None → P (with_header tree header))
    → (headers : List Header) (tree last : Tree) → P tree → tree_with limit tree headers ≡ Some last → P last
unfolding tree_with
grown_keeps P limit step [] tree last first e = subst P (same_Some tree last e) first
grown_keeps P limit step (header ∷ headers) tree last first e = go (grown_keeps P limit step headers (with_header tree header) last) (header_broken limit tree header) refl e
  where
    go : (P (with_header tree header) → tree_with limit (with_header tree header) headers ≡ Some last → P last) → (broken : Option HeaderRefused) → header_broken limit tree header ≡ broken → and_then (and_header broken tree header) (λ next. tree_with limit next headers) ≡ Some last → P last
    go rest None fine e = rest (step tree header first fine) e
    go rest (Some rule) fine e = absurd (none-some last e)

-- more headers behind those
pub grown_join : (limit : ℕ) (first second : List Header) (tree middle last : Tree) → tree_with limit tree first ≡ Some middle → tree_with limit middle second ≡ Some last → tree_with limit tree (first ++ second) ≡ Some last
unfolding tree_with
grown_join limit [] second tree middle last e f = subst (λ (t : Tree). tree_with limit t second ≡ Some last) (sym (same_Some tree middle e)) f
grown_join limit (header ∷ first) second tree middle last e f = go (λ e. grown_join limit first second (with_header tree header) middle last e f) (header_broken limit tree header) e
  where
    go : (tree_with limit (with_header tree header) first ≡ Some middle → tree_with limit (with_header tree header) (first ++ second) ≡ Some last) → (broken : Option HeaderRefused) → and_then (and_header broken tree header) (λ next. tree_with limit next first) ≡ Some middle → and_then (and_header broken tree header) (λ next. tree_with limit next (first ++ second)) ≡ Some last
    go rest None e = rest e
    go rest (Some rule) e = absurd (none-some middle e)

pub grown_one : (limit : ℕ) (tree : Tree) (header : Header) → header_broken limit tree header ≡ None → tree_with limit tree (header ∷ []) ≡ Some (with_header tree header)
unfolding tree_with
grown_one limit tree header fine = ap (λ (broken : Option HeaderRefused). and_then (and_header broken tree header) (λ next. Some next)) fine

pub grown_more : (limit : ℕ) (tree last : Tree) (headers : List Header) (header : Header) → tree_with limit tree headers ≡ Some last → header_broken limit last header ≡ None → tree_with limit tree (headers ++ header ∷ []) ≡ Some (with_header last header)
grown_more limit tree last headers header e fine = grown_join limit headers (header ∷ []) tree last (with_header last header) e (grown_one limit last header fine)

-- ---- members

-- genesis is there, and each member is above it and has its header's hash
pub record IsRooted (headers : Headers) : Type 0 where
  pub first : get headers genesis_hash ≡ Some genesis
  pub named : (hash : Hash32) (header : Header) → get headers hash ≡ Some header → hash ≡ hash_of_header header
  pub high : (hash : Hash32) (header : Header) → get headers hash ≡ Some header → (n : ℕ) × IsAbove headers n hash genesis_hash × (n < finite.len headers)

pub genesis_known : get first_headers genesis_hash ≡ Some genesis
genesis_known = get_same empty genesis_hash genesis

pub one_member : finite.len first_headers ≡ 1
one_member = len_new empty genesis_hash genesis (get-empty hash_cmp genesis_hash) ∙ ap (λ (n : ℕ). n + 1) (len-empty hash_cmp Header)

only_genesis : (hash : Hash32) (header : Header) → get first_headers hash ≡ Some header → (hash ≡ genesis_hash) × (genesis ≡ header)
only_genesis hash header found = go (same_or_not hash genesis_hash)
  where
    go : (hash ≡ genesis_hash) ⊎ (hash ≡ genesis_hash → ⊥) → (hash ≡ genesis_hash) × (genesis ≡ header)
    go (inl is) = (is, same_Some genesis header (sym genesis_known ∙ ap (get first_headers) (sym is) ∙ found))
    go (inr apart) = absurd (none-some header (sym (get_other empty genesis_hash genesis hash apart ∙ get-empty hash_cmp hash) ∙ found))

first_rooted : IsRooted first_headers
unfolding genesis_hash
first_rooted = record {
  first = genesis_known;
  named = λ hash header found. let is = only_genesis hash header found in is.0 ∙ ap hash_of_header is.1;
  high = λ hash header found. let is = only_genesis hash header found in let one = one_member in (0, is.0, omega arith);
}

-- a block above genesis is there
pub above_known : (headers : Headers) → IsRooted headers → (n : ℕ) (hash : Hash32) → IsAbove headers n hash genesis_hash → contains_key headers hash ≡ true
above_known headers rooted zero hash way = ap (contains_key headers) way ∙ ap (λ (o : Option Header). is_some o) rooted.first
above_known headers rooted (suc n) hash (header, step, way) = ap (λ (o : Option Header). is_some o) step.found

module _ (limit : ℕ) (tree : Tree) (header : Header) (rooted : IsRooted tree.headers) (fine : header_broken limit tree header ≡ None) where
  fresh : get tree.headers (hash_of_header header) ≡ None
  fresh = (acceptable limit tree header fine).fresh

  more : finite.len (with_header tree header).headers ≡ finite.len tree.headers + 1
  more = len_new tree.headers (hash_of_header header) header fresh

  kept : (hash : Hash32) (x : Header) → get tree.headers hash ≡ Some x → get (with_header tree header).headers hash ≡ Some x
  kept hash x found = get_kept tree.headers (hash_of_header header) header hash x fresh found

  stays : (n : ℕ) (a b : Hash32) → IsAbove tree.headers n a b → IsAbove (with_header tree header).headers n a b
  stays = above_stays tree.headers (with_header tree header).headers kept

  new_high : (n : ℕ) × IsAbove (with_header tree header).headers n (hash_of_header header) genesis_hash × (n < finite.len (with_header tree header).headers)
  new_high =
      let parent = there (get tree.headers header.prev) (acceptable limit tree header fine).parent in
      let below = rooted.high header.prev parent.0 parent.1 in
      let less = below.2 in
      let size = more in
      let later = λ (is : hash_of_header header ≡ genesis_hash). apart_from tree.headers (hash_of_header header) genesis_hash genesis fresh rooted.first is in
      (suc below.0, (header, record { later = later; found = get_same tree.headers (hash_of_header header) header }, stays below.0 header.prev genesis_hash below.1), omega arith)

  either : (hash : Hash32) (x : Header) → get (with_header tree header).headers hash ≡ Some x → ((hash ≡ hash_of_header header) × (header ≡ x)) ⊎ (get tree.headers hash ≡ Some x)
  either hash x found = go (same_or_not hash (hash_of_header header))
    where
      go : (hash ≡ hash_of_header header) ⊎ (hash ≡ hash_of_header header → ⊥) → ((hash ≡ hash_of_header header) × (header ≡ x)) ⊎ (get tree.headers hash ≡ Some x)
      go (inl is) = inl (is, same_Some header x (sym (get_same tree.headers (hash_of_header header) header) ∙ ap (get (with_header tree header).headers) (sym is) ∙ found))
      go (inr apart) = inr (sym (get_other tree.headers (hash_of_header header) header hash apart) ∙ found)

  pub rooted_next : IsRooted (with_header tree header).headers
  rooted_next = record {
    first = kept genesis_hash genesis rooted.first;
    named = λ hash x found. elim (either hash x found) [ inl is ↦ is.0 ∙ ap hash_of_header is.1 | inr old ↦ rooted.named hash x old ];
    high = λ hash x found. elim (either hash x found) [
      | inl is ↦ subst (λ (h : Hash32). (n : ℕ) × IsAbove (with_header tree header).headers n h genesis_hash × (n < finite.len (with_header tree header).headers)) (sym is.0) new_high
      | inr old ↦ let below = rooted.high hash x old in let less = below.2 in let size = more in (below.0, stays below.0 hash genesis_hash below.1, omega arith)
    ];
  }

pub is_rooted : (limit : ℕ) (tree : Tree) → IsTree limit tree → IsRooted tree.headers
is_rooted limit tree is =
    grown_keeps (λ t. IsRooted t.headers) limit (λ t header rooted fine. rooted_next limit t header rooted fine) is.accepted (first_tree tree.rules) tree first_rooted is.comes

-- a tree has at least one header
pub has_header : (limit : ℕ) (tree : Tree) → IsTree limit tree → 0 < finite.len tree.headers
has_header limit tree is = let rooted = is_rooted limit tree is in let less = (rooted.high genesis_hash genesis rooted.first).2 in omega arith

-- ---- chains of members

-- each block of the chain of a member is a member
line_known : (headers : Headers) → IsRooted headers → (n : ℕ) (hash : Hash32) (way : IsAbove headers n hash genesis_hash) → AllByRecursion (λ h. contains_key headers h ≡ true) (line headers n hash genesis_hash way ++ genesis_hash ∷ [])
line_known headers rooted zero hash way = (ap (λ (o : Option Header). is_some o) rooted.first, tt)
line_known headers rooted (suc n) hash (header, step, way) = (ap (λ (o : Option Header). is_some o) step.found, line_known headers rooted n header.prev way)

pub chain_known : (headers : Headers) → IsRooted headers → (hash : Hash32) → contains_key headers hash ≡ true → AllByRecursion (λ h. contains_key headers h ≡ true) (chain headers hash)
chain_known headers rooted hash known =
    let header = there (get headers hash) known in
    let way = rooted.high hash header.0 header.1 in
    subst (λ (hashes : List Hash32). AllByRecursion (λ h. contains_key headers h ≡ true) hashes) (sym (whole_line headers way.0 (finite.len headers) hash way.1 way.2)) (line_known headers rooted way.0 hash way.1)
