-- The entries and their numbers as headers are accepted.
use Rattle.std.proofs.Common.{◌≡◌, ℕ, zero, suc, ◌+◌, ◌<◌, ◌≤◌, ◌^◌, get_or, List, [], ◌∷◌, ◌++◌, length, map, ◌⊎◌, inl, inr, refl, sym, ap, subst, ◌∙◌, lt_irrefl, arith}
use Rattle.std.specs.Prelude.{slice_get}
use Rattle.std.specs.declared.option.Option.{Option}
use Rattle.std.specs.declared.option.Option.TheVariants.{Some, None}
use Rattle.std.specs.FinMap.{get, insert, empty, get-empty, len-empty}
use Rattle.std.specs.FinMap as finite
use Rattle.std.proofs.lemmas.Option.{same_Some, none-some, slice_get_within, slice_get-get_or, slice_get_read}
use Rattle.std.proofs.lemmas.List.{reverse-append, length_push, map_push}
use Rattle.base_types.specs.declared.hash.Hash32.{Hash32}
use Rattle.base_types.specs.declared.program.Rules.{Rules}
use Rattle.base_types.specs.Keys.{hash_cmp}
use Rattle.block_codec.specs.declared.block.Header.{Header}
use Rattle.block_codec.specs.Text.{hash_of_header}
use Rattle.chain_model.specs.Tree.{Headers, Tree, first_headers}
use Rattle.block_codec.specs.Genesis.{genesis, genesis_hash}
use Rattle.chain_model.specs.HeaderRules.{IsTree, tree_with, header_broken, with_header, first_tree}
use Rattle.header_tree.specs.declared.entry.Entry.{Entry}
use Rattle.chain_model.specs.Above.{IsBlock, IsAbove}
use Rattle.header_tree.specs.Kept.{Numbers, headers_of, order_of, tree_of, state_of, IsKept, IsPlaced, IsNumbered, HasParent, HasSkip, skip_height}
use Rattle.header_tree.specs.State.{State, IsAcceptedInOrder, after_header}
use Rattle.chain_model.proofs.Chains.{get_first, get_middle, above_stays}
use Rattle.chain_model.proofs.Hashes.{same_or_not, get_same, get_other, len_new}
use Rattle.chain_model.proofs.Trees.{grown_more}

-- ---- trees

pub is_tree : (s : State) → IsAcceptedInOrder s → IsTree s.limit s.tree
is_tree s g = record { accepted = g.accepted; comes = g.comes }

-- ---- genesis alone

abbrev pub first_entry : Hash32 → Entry
first_entry hash = record { header = genesis; hash = hash; height = 0; parent = 0; skip = 0 }

abbrev first_numbers : Numbers
first_numbers = insert empty genesis_hash 0

first_placed : IsPlaced (first_entry genesis_hash ∷ []) first_headers first_numbers 0 (first_entry genesis_hash)
unfolding genesis_hash
first_placed = record {
  named = refl;
  numbered = get_same empty genesis_hash 0;
  found = get_same empty genesis_hash genesis;
  high = refl;
  low = omega arith;
  parent = λ tall. absurd (lt_irrefl 0 tall);
  skip = record { target = first_entry genesis_hash; there = refl; steps = 0; down = refl; heights = refl; lands = refl };
  earlier = λ tall. absurd (lt_irrefl 0 tall);
}

first_numbered : (hash : Hash32) → (hash ≡ genesis_hash) ⊎ (hash ≡ genesis_hash → ⊥) → IsNumbered (first_entry genesis_hash ∷ []) first_headers hash (get first_numbers hash)
first_numbered hash (inl is) =
    let number = ap (get first_numbers) is ∙ get_same empty genesis_hash 0 in
    subst (λ (o : Option ℕ). IsNumbered (first_entry genesis_hash ∷ []) first_headers hash o) (sym number) (first_entry genesis_hash, refl, sym is)
first_numbered hash (inr apart) =
    let number = get_other empty genesis_hash 0 hash apart ∙ get-empty hash_cmp hash in
    subst (λ (o : Option ℕ). IsNumbered (first_entry genesis_hash ∷ []) first_headers hash o) (sym number)
    (get_other empty genesis_hash genesis hash apart ∙ get-empty hash_cmp hash)

first_at : (number : ℕ) (e : Entry) → slice_get (first_entry genesis_hash ∷ []) number ≡ Some e → IsPlaced (first_entry genesis_hash ∷ []) first_headers first_numbers number e
first_at zero e p = subst (λ (x : Entry). IsPlaced (first_entry genesis_hash ∷ []) first_headers first_numbers 0 x) (same_Some (first_entry genesis_hash) e p) first_placed
first_at (suc number) e p = absurd (none-some e p)

pub first_kept : (limit : ℕ) (rules : Rules) → IsKept (first_entry genesis_hash ∷ []) first_numbers limit rules
unfolding tree_with
first_kept limit rules = record {
  in_order = record { accepted = []; comes = refl; listed = refl };
  count = len_new empty genesis_hash genesis (get-empty hash_cmp genesis_hash) ∙ ap (λ (n : ℕ). n + 1) (len-empty hash_cmp Header);
  some = omega arith;
  fits = omega arith;
  numbered = λ hash. first_numbered hash (same_or_not hash genesis_hash);
  placed = first_at;
}

pub starts_as : (hash : Hash32) (entries : List Entry) → hash ≡ genesis_hash → entries ≡ first_entry hash ∷ [] → entries ≡ first_entry genesis_hash ∷ []
starts_as hash entries is e = e ∙ ap (λ (h : Hash32). first_entry h ∷ []) is

pub starts : (limit : ℕ) (rules : Rules) (hash : Hash32) (entries : List Entry) (numbers : Numbers) → hash ≡ genesis_hash → entries ≡ first_entry hash ∷ [] → numbers ≡ insert empty hash 0 → IsKept entries numbers limit rules
starts limit rules hash entries numbers is e n =
    subst (λ (es : List Entry). IsKept es numbers limit rules) (sym (starts_as hash entries is e))
    (subst (λ (ns : Numbers). IsKept (first_entry genesis_hash ∷ []) ns limit rules) (sym (n ∙ ap (λ (h : Hash32). insert {R = hash_cmp} empty h 0) is)) (first_kept limit rules))

-- ---- one more entry

pub headers_push : (entries : List Entry) (e : Entry) → headers_of (entries ++ e ∷ []) ≡ insert (headers_of entries) e.hash e.header
headers_push entries e = ap (λ (l : List Entry). finite.from_entries {R = hash_cmp} (map (λ x. (x.hash, x.header)) l)) (reverse-append entries (e ∷ []))

pub state_push : (entries : List Entry) (limit : ℕ) (rules : Rules) (e : Entry) → e.hash ≡ hash_of_header e.header → state_of (entries ++ e ∷ []) limit rules ≡ after_header (state_of entries limit rules) e.header
state_push entries limit rules e named =
    let headers = headers_push entries e ∙ ap (λ (h : Hash32). insert (headers_of entries) h e.header) named in
    let order = map_push (λ (x : Entry). x.hash) entries e ∙ ap (λ (h : Hash32). order_of entries ++ h ∷ []) named in
    λ i. record { tree = record { headers = headers i; rules = rules }; limit = limit; order = order i }

-- what a place holds after an entry was added
pushed_at : (entries : List Entry) (e x : Entry) (number : ℕ) → slice_get (entries ++ e ∷ []) number ≡ Some x → ((slice_get entries number ≡ Some x) ⊎ ((number ≡ length entries) × (e ≡ x)))
pushed_at [] e x zero p = inr (refl, same_Some e x p)
pushed_at [] e x (suc number) p = absurd (none-some x p)
pushed_at (y ∷ ys) e x zero p = inl p
pushed_at (y ∷ ys) e x (suc number) p = elim (pushed_at ys e x number p) [ inl q ↦ inl q | inr q ↦ inr (ap (λ (n : ℕ). suc n) q.0, q.1) ]

module _ (entries : List Entry) (numbers : Numbers) (limit : ℕ) (rules : Rules) (kept : IsKept entries numbers limit rules) where
  -- the entry of a number is that of the hash that has this number
  pub at_number : (hash : Hash32) (n : ℕ) → get numbers hash ≡ Some n → (e : Entry) × (slice_get entries n ≡ Some e) × (e.hash ≡ hash)
  at_number hash n e = subst (λ (o : Option ℕ). IsNumbered entries (headers_of entries) hash o) e (kept.numbered hash)

  pub not_numbered : (hash : Hash32) → get numbers hash ≡ None → get (headers_of entries) hash ≡ None
  not_numbered hash e = subst (λ (o : Option ℕ). IsNumbered entries (headers_of entries) hash o) e (kept.numbered hash)

  pub read_at : (n : ℕ) (x : Entry) → n < length entries → x ≡ get_or entries n x → slice_get entries n ≡ Some x
  read_at n x less read = slice_get_read entries (length entries) n x refl less read

  -- what was read at the number of a hash
  pub read_of : (hash : Hash32) (n : ℕ) (x : Entry) → get numbers hash ≡ Some n → x ≡ get_or entries n x → (x.hash ≡ hash) × IsPlaced entries (headers_of entries) numbers n x × (slice_get entries n ≡ Some x)
  read_of hash n x e read =
      let there = at_number hash n e in
      let at = read_at n x (slice_get_within entries n there.0 there.1) read in
      let same_entry = same_Some there.0 x (sym there.1 ∙ at) in
      (sym (ap (λ (y : Entry). y.hash) same_entry) ∙ there.2, kept.placed n x at, at)

  pub low : (n : ℕ) (x : Entry) → slice_get entries n ≡ Some x → x.height < finite.len (headers_of entries)
  low n x at = let less = slice_get_within entries n x at in let height = (kept.placed n x at).low in let count = kept.count in omega arith

  flat : (h : ℕ) (a : Hash32) → h ≤ 0 → IsAbove (headers_of entries) h a genesis_hash → a ≡ genesis_hash
  flat zero a low s = s
  flat (suc h) a low s = absurd (omega arith)

  -- genesis is there
  pub genesis_there : (d : Entry) → (x : Header) × (get (headers_of entries) genesis_hash ≡ Some x)
  genesis_there d =
      let placed = kept.placed 0 (get_or entries 0 d) (slice_get-get_or entries 0 d kept.some) in
      let is = flat (get_or entries 0 d).height (get_or entries 0 d).hash placed.low placed.high in
      ((get_or entries 0 d).header, subst (λ (h : Hash32). get (headers_of entries) h ≡ Some (get_or entries 0 d).header) is placed.found)

  module _ (e : Entry) (parent target : Entry) (steps : ℕ) (named : e.hash ≡ hash_of_header e.header) (fine : header_broken limit (tree_of entries rules) e.header ≡ None) (fresh : get (headers_of entries) e.hash ≡ None) (there : slice_get entries e.parent ≡ Some parent) (below : parent.hash ≡ e.header.prev) (higher : e.height ≡ suc parent.height) (skip_there : slice_get entries e.skip ≡ Some target) (down : IsAbove (headers_of entries) steps parent.hash target.hash) (heights : parent.height ≡ steps + target.height) (lands : target.height ≡ skip_height e.height) (room : length entries + 1 < 2 ^ 32) where
    abbrev next : List Entry
    next = entries ++ e ∷ []

    abbrev later_headers : Headers
    later_headers = insert (headers_of entries) e.hash e.header

    abbrev later_numbers : Numbers
    later_numbers = insert numbers e.hash (length entries)

    other_hash : (q : Hash32) (x : Header) → get (headers_of entries) q ≡ Some x → q ≡ e.hash → ⊥
    other_hash q x found is = none-some x (sym fresh ∙ ap (get (headers_of entries)) (sym is) ∙ found)

    stays : (q : Hash32) (x : Header) → get (headers_of entries) q ≡ Some x → get later_headers q ≡ Some x
    stays q x found = get_other (headers_of entries) e.hash e.header q (other_hash q x found) ∙ found

    there_still : (n : ℕ) (x : Entry) → slice_get entries n ≡ Some x → slice_get next n ≡ Some x
    there_still n x at = get_first entries (e ∷ []) n (slice_get_within entries n x at) ∙ at

    above_still : (n : ℕ) (a b : Hash32) → IsAbove (headers_of entries) n a b → IsAbove later_headers n a b
    above_still n a b s = above_stays (headers_of entries) later_headers stays n a b s

    parent_still : (x : Entry) → HasParent entries x → HasParent next x
    parent_still x h = record { parent = h.parent; there = there_still x.parent h.parent h.there; named = h.named; higher = h.higher }

    skip_still : (x : Entry) → HasSkip entries (headers_of entries) x → HasSkip next later_headers x
    skip_still x h = record {
      target = h.target;
      there = there_still x.skip h.target h.there;
      steps = h.steps;
      down = above_still h.steps x.hash h.target.hash h.down;
      heights = h.heights;
      lands = h.lands;
    }

    placed_still : (n : ℕ) (x : Entry) → IsPlaced entries (headers_of entries) numbers n x → IsPlaced next later_headers later_numbers n x
    placed_still n x old = record {
      named = old.named;
      numbered = get_other numbers e.hash (length entries) x.hash (other_hash x.hash x.header old.found) ∙ old.numbered;
      found = stays x.hash x.header old.found;
      high = above_still x.height x.hash genesis_hash old.high;
      low = old.low;
      parent = λ tall. parent_still x (old.parent tall);
      skip = skip_still x old.skip;
      earlier = old.earlier;
    }

    is_block : IsBlock later_headers e.hash e.header
    is_block =
        let genesis = genesis_there e in
        record { later = λ is. other_hash genesis_hash genesis.0 genesis.1 (sym is); found = get_same (headers_of entries) e.hash e.header }

    goes_down : (n : ℕ) (to : Hash32) → IsAbove (headers_of entries) n parent.hash to → IsAbove later_headers (suc n) e.hash to
    goes_down n to s = (e.header, is_block, subst (λ (h : Hash32). IsAbove later_headers n h to) below (above_still n parent.hash to s))

    placed_new : IsPlaced next later_headers later_numbers (length entries) e
    placed_new =
        let old = kept.placed e.parent parent there in
        let parent_less = slice_get_within entries e.parent parent there in
        let skip_less = slice_get_within entries e.skip target skip_there in
        let parent_low = old.low in
        record {
          named = named;
          numbered = get_same numbers e.hash (length entries);
          found = get_same (headers_of entries) e.hash e.header;
          high = subst (λ (n : ℕ). IsAbove later_headers n e.hash genesis_hash) (sym higher) (goes_down parent.height genesis_hash old.high);
          low = omega arith;
          parent = λ tall. record { parent = parent; there = there_still e.parent parent there; named = below; higher = higher };
          skip = record { target = target; there = there_still e.skip target skip_there; steps = suc steps; down = goes_down steps target.hash down; heights = omega arith; lands = lands };
          earlier = λ tall. (parent_less, skip_less);
        }

    placed_all : (n : ℕ) (x : Entry) → slice_get next n ≡ Some x → IsPlaced next later_headers later_numbers n x
    placed_all n x at = elim (pushed_at entries e x n at) [
      | inl old ↦ placed_still n x (kept.placed n x old)
      | inr new ↦ subst (λ (y : Entry). IsPlaced next later_headers later_numbers n y) new.1 (subst (λ (k : ℕ). IsPlaced next later_headers later_numbers k e) (sym new.0) placed_new)
    ]

    still_numbered : (hash : Hash32) (o : Option ℕ) → (hash ≡ e.hash → ⊥) → IsNumbered entries (headers_of entries) hash o → IsNumbered next later_headers hash o
    still_numbered hash None apart none = get_other (headers_of entries) e.hash e.header hash apart ∙ none
    still_numbered hash (Some n) apart (x, at, is) = (x, there_still n x at, is)

    numbered_all : (hash : Hash32) → (hash ≡ e.hash) ⊎ (hash ≡ e.hash → ⊥) → IsNumbered next later_headers hash (get later_numbers hash)
    numbered_all hash (inl is) =
        let number = ap (get later_numbers) is ∙ get_same numbers e.hash (length entries) in
        subst (λ (o : Option ℕ). IsNumbered next later_headers hash o) (sym number) (e, get_middle entries e (length entries) refl, sym is)
    numbered_all hash (inr apart) =
        subst (λ (o : Option ℕ). IsNumbered next later_headers hash o) (sym (get_other numbers e.hash (length entries) hash apart))
        (still_numbered hash (get numbers hash) apart (kept.numbered hash))

    pub tree_next : tree_of next rules ≡ with_header (tree_of entries rules) e.header
    tree_next =
        let headers = headers_push entries e ∙ ap (λ (h : Hash32). insert (headers_of entries) h e.header) named in
        λ i. record { headers = headers i; rules = rules }

    pub next_kept : IsKept next later_numbers limit rules
    next_kept =
        let pushed = headers_push entries e in
        let more = len_new (headers_of entries) e.hash e.header fresh in
        let size = length_push entries e in
        let old_count = kept.count in
        record {
          in_order = record {
            accepted = kept.in_order.accepted ++ e.header ∷ [];
            comes = grown_more limit (first_tree rules) (tree_of entries rules) kept.in_order.accepted e.header kept.in_order.comes fine ∙ ap (λ (t : Tree). Some t) (sym tree_next);
            listed = map_push (λ (x : Entry). x.hash) entries e
                ∙ ap (λ (order : List Hash32). order ++ e.hash ∷ []) kept.in_order.listed
                ∙ ap (λ (h : Hash32). genesis_hash ∷ (map hash_of_header kept.in_order.accepted ++ h ∷ [])) named
                ∙ ap (λ (hs : List Hash32). genesis_hash ∷ hs) (sym (map_push hash_of_header kept.in_order.accepted e.header));
          };
          count = ap finite.len pushed ∙ omega arith;
          some = omega arith;
          fits = omega arith;
          numbered = λ hash. subst (λ (m : Headers). IsNumbered next m hash (get later_numbers hash)) (sym pushed) (numbered_all hash (same_or_not hash e.hash));
          placed = λ n x at. subst (λ (m : Headers). IsPlaced next m later_numbers n x) (sym pushed) (placed_all n x at);
        }
