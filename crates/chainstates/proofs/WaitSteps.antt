-- The stored blocks that wait, as a store is opened.
use Rattle.std.proofs.Common.{◌≡◌, ◌⊎◌, inl, inr, ℕ, suc, ◌+◌, ◌&&◌, ◌||◌, not, Bool, true, false, List, [], ◌∷◌, map, take, Option, Some, None, refl, sym, ap, ◌∙◌, cond}
use Rattle.std.specs.Prelude.{slice_get}
use Rattle.std.specs.List.{list_any}
use Rattle.std.specs.Option.{option_map_or}
use Rattle.std.specs.FinMap.{get, len, contains_key, empty}
use Rattle.std.proofs.lemmas.List.Folds.{list_any-append}
use Rattle.base_types.specs.declared.hash.Hash32.{Hash32}
use Rattle.block_codec.specs.Genesis.{genesis_hash}
use Rattle.block_codec.specs.Text.{same_hash}
use Rattle.block_codec.specs.declared.block.Header.{Header}
use Rattle.chain_model.specs.Choice.{is_at_or_below}
use Rattle.chain_model.specs.Tree.{Headers, chain_within, and_below}
use Rattle.chain_model.proofs.Hashes.{same_self, same_true, same_false, there}
use Rattle.chain_state.specs.Waiting.{AreWaiting, IsOpenBlock, waits}
use Rattle.chain_state.specs.declared.waiting.Waiting.{Waiting}
use Rattle.chainstates.proofs.Gates.{take_more}
use Rattle.chainstates.proofs.ReachSteps.{record_named}
use Rattle.chainstates.proofs.StoredBlocks.{stored_is}
use Rattle.chainstates.specs.Reading.{hash_of_body}
use Rattle.chainstates.specs.Waits.{is_among, is_child, is_left_over, is_stored_child}
use Rattle.machine.specs.State.{begins}
use Rattle.store_state.specs.Settled.{IsSettled}
use Rattle.store_state.specs.State.{StoreState, blocks_in, tip_of}

-- ---- tests

or_false : (b : Bool) → (b || false) ≡ b
or_false true = refl
or_false false = refl

pub same_turned : (a b : Hash32) → same_hash a b ≡ same_hash b a
same_turned a b = go (same_hash a b) refl
  where
    go : (r : Bool) → same_hash a b ≡ r → same_hash a b ≡ same_hash b a
    go true is = is ∙ sym (ap (same_hash b) (same_true a b is) ∙ same_self b)
    go false is = is ∙ sym (same_false b a (λ same. let self : same_hash a b ≡ true = ap (same_hash a) same ∙ same_self a in cc))

-- what two tests say of a block's header
child_of : (headers : Headers) (parent hash : Hash32) (header : Header) → get headers hash ≡ Some header → is_child headers parent hash ≡ same_hash header.prev parent
child_of headers parent hash header found = ap (λ (o : Option Header). option_map_or (λ (h : Header). same_hash h.prev parent) o false) found

child_of_none : (headers : Headers) (parent hash : Hash32) → get headers hash ≡ None → is_child headers parent hash ≡ false
child_of_none headers parent hash none = ap (λ (o : Option Header). option_map_or (λ (h : Header). same_hash h.prev parent) o false) none

-- ---- block after block

abbrev pub AllStored : Headers → List Hash32 → Waiting → Type 0
AllStored headers hashes waiting = (parent hash : Hash32) → waits waiting parent hash ≡ is_stored_child headers hashes parent hash

among_more : (hashes : List Hash32) (n : ℕ) (new hash : Hash32) → slice_get hashes n ≡ Some new → is_among (take (n + 1) hashes) hash ≡ (is_among (take n hashes) hash || same_hash new hash)
among_more hashes n new hash there =
    ap (λ (l : List Hash32). is_among l hash) (take_more hashes n new there)
    ∙ list_any-append (λ (one : Hash32). same_hash one hash) (take n hashes) (new ∷ [])
    ∙ ap (λ (b : Bool). is_among (take n hashes) hash || b) (or_false (same_hash new hash))

pub none_stored : (headers : Headers) (waiting : Waiting) → ((parent hash : Hash32) → waits waiting parent hash ≡ false) → AllStored headers [] waiting
none_stored headers waiting none parent hash = none parent hash

with_child : (old child parent here : Bool) → (here ≡ true → child ≡ parent) → ((old && child) || (parent && here)) ≡ ((old || here) && child)
with_child old child parent false same = go old child parent
  where
    go : (a b c : Bool) → ((a && b) || (c && false)) ≡ ((a || false) && b)
    go true true true = refl
    go true true false = refl
    go true false true = refl
    go true false false = refl
    go false b true = refl
    go false b false = refl
with_child old child parent true same = go old child parent (same refl)
  where
    go : (a b c : Bool) → b ≡ c → ((a && b) || (c && true)) ≡ ((a || true) && b)
    go true true true e = refl
    go true true false e = absurd cc
    go true false true e = absurd cc
    go true false false e = refl
    go false true true e = refl
    go false true false e = absurd cc
    go false false true e = absurd cc
    go false false false e = refl

pub one_stored : (headers : Headers) (hashes : List Hash32) (n : ℕ) (new : Hash32) (header : Header) (old now : Waiting) → slice_get hashes n ≡ Some new → get headers new ≡ Some header → AllStored headers (take n hashes) old
    → ((parent hash : Hash32) → waits now parent hash ≡ (waits old parent hash || (same_hash parent header.prev && same_hash hash new))) → AllStored headers (take (n + 1) hashes) now
one_stored headers hashes n new header old now there found all added parent hash =
    added parent hash
    ∙ ap (λ (b : Bool). b || (same_hash parent header.prev && same_hash hash new)) (all parent hash)
    ∙ with_child (is_among (take n hashes) hash) (is_child headers parent hash) (same_hash parent header.prev) (same_hash hash new) (λ same. is_here (same_true hash new same))
    ∙ ap (λ (b : Bool). (is_among (take n hashes) hash || b) && is_child headers parent hash) (same_turned hash new)
    ∙ ap (λ (b : Bool). b && is_child headers parent hash) (sym (among_more hashes n new hash there))
  where
    is_here : hash ≡ new → is_child headers parent hash ≡ same_hash parent header.prev
    is_here same = ap (is_child headers parent) same ∙ child_of headers parent new header found ∙ same_turned header.prev parent

pub none_more : (headers : Headers) (hashes : List Hash32) (n : ℕ) (new : Hash32) (waiting : Waiting) → slice_get hashes n ≡ Some new → get headers new ≡ None → AllStored headers (take n hashes) waiting → AllStored headers (take (n + 1) hashes) waiting
none_more headers hashes n new waiting there none all parent hash =
    all parent hash ∙ go (same_hash new hash) refl ∙ ap (λ (b : Bool). b && is_child headers parent hash) (sym (among_more hashes n new hash there))
  where
    go : (b : Bool) → same_hash new hash ≡ b → (is_among (take n hashes) hash && is_child headers parent hash) ≡ ((is_among (take n hashes) hash || same_hash new hash) && is_child headers parent hash)
    go true is =
        let never : is_child headers parent hash ≡ false = child_of_none headers parent hash (ap (get headers) (sym (same_true new hash is)) ∙ none) in
        ap (λ (b : Bool). is_among (take n hashes) hash && b) never ∙ and_false (is_among (take n hashes) hash) ∙ sym (ap (λ (b : Bool). (is_among (take n hashes) hash || same_hash new hash) && b) never ∙ and_false (is_among (take n hashes) hash || same_hash new hash))
      where
        and_false : (b : Bool) → (b && false) ≡ false
        and_false true = refl
        and_false false = refl
    go false is = ap (λ (b : Bool). b && is_child headers parent hash) (sym (ap (λ (b : Bool). is_among (take n hashes) hash || b) is ∙ or_false (is_among (take n hashes) hash)))

-- ---- down from the tip

abbrev pub OnlyChildren : Headers → Waiting → Type 0
OnlyChildren headers waiting = (parent hash : Hash32) → waits waiting parent hash ≡ true → is_child headers parent hash ≡ true

-- what is left of the chain decides
abbrev pub AreLeft : Headers → Waiting → Waiting → ℕ → Hash32 → ℕ → Hash32 → Type 0
AreLeft headers old now total tip left hash = (parent block : Hash32)
    → (waits now parent block && not (list_any (same_hash block) (chain_within left headers hash))) ≡ (waits old parent block && not (list_any (same_hash block) (chain_within total headers tip)))

abbrev pub AreAllLeft : Headers → Waiting → Waiting → Hash32 → Type 0
AreAllLeft headers old now tip = (parent block : Hash32) → waits now parent block ≡ (waits old parent block && not (is_at_or_below headers block tip))

and_true : (b : Bool) → (b && true) ≡ b
and_true true = refl
and_true false = refl

none_within : (headers : Headers) (hash : Hash32) → chain_within 0 headers hash ≡ []
unfolding chain_within
none_within headers hash = refl

pub chain_ended : (headers : Headers) (old now : Waiting) (tip hash : Hash32) (left : ℕ) → left ≡ 0 → AreLeft headers old now (len headers) tip left hash → AreAllLeft headers old now tip
chain_ended headers old now tip hash left over are parent block =
    sym (and_true (waits now parent block))
    ∙ ap (λ (l : List Hash32). waits now parent block && not (list_any (same_hash block) l)) (sym (ap (λ (n : ℕ). chain_within n headers hash) over ∙ none_within headers hash))
    ∙ are parent block

module _ (headers : Headers) (old now : Waiting) (tip hash : Hash32) (left k : ℕ) (more : left ≡ suc k) (are : AreLeft headers old now (len headers) tip left hash) (only : OnlyChildren headers now) where
  step : chain_within (suc k) headers hash ≡ cond (same_hash hash genesis_hash) (hash ∷ []) (and_below hash (get headers hash) (λ below. chain_within k headers below))
  unfolding chain_within
  step = refl

  are_here : (parent block : Hash32) → (waits now parent block && not (list_any (same_hash block) (chain_within (suc k) headers hash))) ≡ (waits old parent block && not (is_at_or_below headers block tip))
  are_here parent block = ap (λ (n : ℕ). waits now parent block && not (list_any (same_hash block) (chain_within n headers hash))) (sym more) ∙ are parent block

  -- a block that isn't in the tree doesn't wait, and its chain has no other
  pub chain_unknown : get headers hash ≡ None → AreAllLeft headers old now tip
  chain_unknown none parent block = sym (go (waits now parent block) refl) ∙ are_here parent block
    where
      at_either : (b : Bool) → same_hash block hash ≡ false → list_any (same_hash block) (cond b (hash ∷ []) (and_below hash (get headers hash) (λ below. chain_within k headers below))) ≡ false
      at_either true apart = ap (λ (x : Bool). x || false) apart
      at_either false apart = ap (λ (o : Option Header). list_any (same_hash block) (and_below hash o (λ below. chain_within k headers below))) none

      -- a block that waits is another
      apart : waits now parent block ≡ true → block ≡ hash → ⊥
      apart is same =
          let child = only parent block is in
          let never = child_of_none headers parent block (ap (get headers) same ∙ none) in
          cc

      go : (w : Bool) → waits now parent block ≡ w → (waits now parent block && not (list_any (same_hash block) (chain_within (suc k) headers hash))) ≡ waits now parent block
      go false is = ap (λ (w : Bool). w && not (list_any (same_hash block) (chain_within (suc k) headers hash))) is ∙ sym is
      go true is =
          ap (λ (l : List Hash32). waits now parent block && not (list_any (same_hash block) l)) step
          ∙ ap (λ (x : Bool). waits now parent block && not x) (at_either (same_hash hash genesis_hash) (same_false block hash (apart is)))
          ∙ and_true (waits now parent block)

  module _ (header : Header) (found : get headers hash ≡ Some header) (new : Waiting) (removed : (parent block : Hash32) → waits new parent block ≡ (waits now parent block && not (same_hash parent header.prev && same_hash block hash))) where
    -- the block itself is removed, and no other
    one_less : (parent block : Hash32) → waits new parent block ≡ (waits now parent block && not (same_hash block hash))
    one_less parent block = removed parent block ∙ go (waits now parent block) refl (same_hash block hash) refl
      where
        never : (b : Bool) → (b && false) ≡ false
        never true = refl
        never false = refl

        go : (w : Bool) → waits now parent block ≡ w → (s : Bool) → same_hash block hash ≡ s → (waits now parent block && not (same_hash parent header.prev && same_hash block hash)) ≡ (waits now parent block && not (same_hash block hash))
        go false is s at = ap (λ (w : Bool). w && not (same_hash parent header.prev && same_hash block hash)) is ∙ sym (ap (λ (w : Bool). w && not (same_hash block hash)) is)
        go true is false at =
            ap (λ (s : Bool). waits now parent block && not (same_hash parent header.prev && s)) at
            ∙ ap (λ (s : Bool). waits now parent block && not s) (never (same_hash parent header.prev))
            ∙ sym (ap (λ (s : Bool). waits now parent block && not s) at)
        go true is true at =
            let child = only parent block is in
            let prev : same_hash header.prev parent ≡ true = sym (ap (is_child headers parent) (same_true block hash at) ∙ child_of headers parent hash header found) ∙ child in
            ap (λ (p : Bool). waits now parent block && not (p && same_hash block hash)) (same_turned parent header.prev ∙ prev)

    pub only_still : OnlyChildren headers new
    only_still parent block is = only parent block (first (waits now parent block) (not (same_hash block hash)) (sym (one_less parent block) ∙ is))
      where
        first : (a b : Bool) → (a && b) ≡ true → a ≡ true
        first true b e = refl
        first false b e = absurd cc

    two_less : (w s x : Bool) → ((w && not s) && not x) ≡ (w && not (s || x))
    two_less true true x = refl
    two_less true false x = refl
    two_less false s x = refl

    -- genesis ends the chain
    pub chain_at_genesis : hash ≡ genesis_hash → AreAllLeft headers old new tip
    chain_at_genesis is parent block =
        let self : same_hash hash genesis_hash ≡ true = ap (λ (h : Hash32). same_hash h genesis_hash) is ∙ same_self genesis_hash in
        let whole : chain_within (suc k) headers hash ≡ hash ∷ [] = step ∙ ap (λ (b : Bool). cond b (hash ∷ []) (and_below hash (get headers hash) (λ below. chain_within k headers below))) self in
        one_less parent block
        ∙ ap (λ (b : Bool). waits now parent block && not b) (sym (or_false (same_hash block hash)))
        ∙ ap (λ (l : List Hash32). waits now parent block && not (list_any (same_hash block) l)) (sym whole)
        ∙ are_here parent block

    pub chain_goes_down : (hash ≡ genesis_hash → ⊥) → AreLeft headers old new (len headers) tip k header.prev
    chain_goes_down apart parent block =
        let rest = list_any (same_hash block) (chain_within k headers header.prev) in
        let whole : chain_within (suc k) headers hash ≡ hash ∷ chain_within k headers header.prev =
        step ∙ ap (λ (b : Bool). cond b (hash ∷ []) (and_below hash (get headers hash) (λ below. chain_within k headers below))) (same_false hash genesis_hash apart)
        ∙ ap (λ (o : Option Header). and_below hash o (λ below. chain_within k headers below)) found in
        ap (λ (w : Bool). w && not rest) (one_less parent block)
        ∙ two_less (waits now parent block) (same_hash block hash) rest
        ∙ ap (λ (l : List Hash32). waits now parent block && not (list_any (same_hash block) l)) (sym whole)
        ∙ are_here parent block

-- ---- as a store begins

both_parts : (a b : Bool) → (a && b) ≡ true → (a ≡ true) × (b ≡ true)
both_parts true true e = (refl, refl)
both_parts true false e = absurd cc
both_parts false b e = absurd cc

module _ (store : StoreState) (settled : IsSettled store) (hashes : List Hash32) (named : map hash_of_body store.bodies ≡ hashes) (waiting : Waiting) (tip : Hash32) (at : tip ≡ tip_of store.active)
    (are : (parent hash : Hash32) → waits waiting parent hash ≡ is_left_over store.tree.headers hashes tip parent hash) where
  stored_among : (hash : Hash32) → contains_key (blocks_in empty store.bodies) hash ≡ is_among hashes hash
  stored_among hash = stored_is store.tree store.bodies settled.bodies hash ∙ record_named store.bodies hash ∙ ap (λ (l : List Hash32). is_among l hash) named

  only_open : (parent hash : Hash32) → waits waiting parent hash ≡ true → IsOpenBlock (begins store) parent hash
  only_open parent hash is =
      let first = both_parts (is_stored_child store.tree.headers hashes parent hash) (not (is_at_or_below store.tree.headers hash tip)) (sym (are parent hash) ∙ is) in
      let parts = both_parts (is_among hashes hash) (is_child store.tree.headers parent hash) first.0 in
      go (get store.tree.headers hash) refl (stored_among hash ∙ parts.0) parts.1
    where
      go : (o : Option Header) → get store.tree.headers hash ≡ o → contains_key (blocks_in empty store.bodies) hash ≡ true → option_map_or (λ (h : Header). same_hash h.prev parent) o false ≡ true → IsOpenBlock (begins store) parent hash
      go None known stored child = absurd cc
      go (Some header) known stored child = record { header = header; known = known; above = same_true header.prev parent child; stored = stored; open_still = refl }

  all_open : (parent hash : Hash32) → IsOpenBlock (begins store) parent hash → (is_at_or_below store.tree.headers hash (tip_of store.active) ≡ true) ⊎ (waits waiting parent hash ≡ true)
  all_open parent hash one = go (is_at_or_below store.tree.headers hash tip) refl
    where
      child : is_child store.tree.headers parent hash ≡ true
      child = child_of store.tree.headers parent hash one.header one.known ∙ ap (same_hash one.header.prev) (sym one.above) ∙ same_self one.header.prev

      go : (b : Bool) → is_at_or_below store.tree.headers hash tip ≡ b → (is_at_or_below store.tree.headers hash (tip_of store.active) ≡ true) ⊎ (waits waiting parent hash ≡ true)
      go true low = inl (ap (is_at_or_below store.tree.headers hash) (sym at) ∙ low)
      go false low = inr (are parent hash
          ∙ ap (λ (b : Bool). (b && is_child store.tree.headers parent hash) && not (is_at_or_below store.tree.headers hash tip)) (sym (stored_among hash) ∙ one.stored)
          ∙ ap (λ (b : Bool). b && not (is_at_or_below store.tree.headers hash tip)) child
          ∙ ap not low)

  pub begins_waiting : AreWaiting waiting (begins store)
  begins_waiting = record { only = only_open; all = all_open; refused = λ hash is. absurd cc }
