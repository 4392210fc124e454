-- The blocks that wait above the tip are the open children of the tip, and which wait once one of them was tried.
use Rattle.std.proofs.Common.{◌≡◌, ◌⊎◌, inl, inr, ⊎_elim, ◌&&◌, ◌||◌, Bool, true, false, not, List, [], ◌∷◌, Option, Some, None, refl, sym, ap, ◌∙◌}
use Rattle.std.specs.List.{find, list_any}
use Rattle.std.specs.Option.{option_map_or}
use Rattle.std.specs.Ordering.{is_lt}
use Rattle.std.specs.FinMap as finite
use Rattle.std.specs.FinMap.{get, contains_key, entries, entries_sorted, get-entries}
use Rattle.std.proofs.lemmas.Option.{same_Some}
use Rattle.base_types.specs.Keys.{hash_cmp}
use Rattle.base_types.specs.declared.hash.Hash32.{Hash32}
use Rattle.block_codec.specs.Genesis.{genesis_hash}
use Rattle.block_codec.specs.Text.{same_hash}
use Rattle.block_codec.specs.declared.block.Header.{Header}
use Rattle.chain_model.specs.Choice.{is_at_or_below}
use Rattle.chain_model.specs.Tree.{Headers}
use Rattle.chain_model.proofs.Hashes.{same_self, same_true}
use Rattle.chain_model.proofs.Trees.{IsRooted}
use Rattle.chain_state.specs.Waiting.{AreWaiting, IsOpenBlock, is_refused, waits}
use Rattle.chain_state.specs.declared.waiting.Waiting.{Waiting}
use Rattle.machine.specs.Moves.{is_open_child, next_child}
use Rattle.machine.specs.State.{State}
use Rattle.reorg.proofs.ChildCoins.{IsChildOf, child_itself, not_below, on_child}
use Rattle.reorg.proofs.LeastChild.{least_found, none_found}

first_true : (a b : Bool) → (a && b) ≡ true → a ≡ true
first_true true b e = refl
first_true false b e = absurd cc

second_false : (a b : Bool) → (a && not b) ≡ true → b ≡ false
second_false true true e = absurd cc
second_false true false e = refl
second_false false b e = absurd cc

neither : (a b : Bool) → (a || b) ≡ false → (a ≡ false) × (b ≡ false)
neither true b e = absurd cc
neither false b e = (refl, e)

and_false : (a : Bool) → (a && false) ≡ false
and_false true = refl
and_false false = refl

second_true : (a b : Bool) → (a && b) ≡ true → b ≡ true
second_true true b e = e
second_true false b e = absurd cc

-- the child becomes the tip, or joins the refused blocks
abbrev pub connected : State → Hash32 → State
connected state hash = record state { active = record state.active { tip = hash } }

abbrev pub with_refused : State → Hash32 → State
with_refused state hash = record state { active = record state.active { refused = hash ∷ state.active.refused } }

module _ (state : State) (rooted : IsRooted state.tree.headers) (above_genesis : contains_key state.bodies genesis_hash ≡ false) (waiting : Waiting) (are : AreWaiting waiting state) where
  abbrev headers : Headers
  headers = state.tree.headers

  abbrev tip : Hash32
  tip = state.active.tip

  pub child_of : (hash : Hash32) → IsOpenBlock state tip hash → IsChildOf headers tip hash
  child_of hash one = record {
    header = one.header;
    known = one.known;
    above = one.above;
    later = λ same. let stored : contains_key state.bodies genesis_hash ≡ true = ap (contains_key state.bodies) (sym same) ∙ one.stored in cc;
  }

  waits_above : (hash : Hash32) → IsOpenBlock state tip hash → waits waiting tip hash ≡ true
  waits_above hash one = ⊎_elim (λ below. absurd (not_below headers rooted tip hash (child_of hash one) below)) (λ is. is) (are.all tip hash one)

  opens : (hash : Hash32) (header : Header) → get headers hash ≡ Some header → is_open_child state (hash, header) ≡ true → IsOpenBlock state tip hash
  opens hash header known passes = go (same_hash header.prev tip) refl (contains_key state.bodies hash) refl (is_refused state hash) refl passes
    where
      go : (a : Bool) → same_hash header.prev tip ≡ a → (b : Bool) → contains_key state.bodies hash ≡ b → (c : Bool) → is_refused state hash ≡ c → (a && b && not c) ≡ true → IsOpenBlock state tip hash
      go true a true b false c e = record { header = header; known = known; above = same_true header.prev tip a; stored = b; open_still = c }
      go true a true b true c e = absurd cc
      go true a false b c d e = absurd cc
      go false a b c d f e = absurd cc

  passes : (hash : Hash32) (one : IsOpenBlock state tip hash) → is_open_child state (hash, one.header) ≡ true
  passes hash one =
      let named : same_hash one.header.prev tip ≡ true = ap (λ (h : Hash32). same_hash h tip) one.above ∙ same_self tip in
      ap (λ (b : Bool). b && contains_key state.bodies hash && not (is_refused state hash)) named
      ∙ ap (λ (b : Bool). true && b && not (is_refused state hash)) one.stored
      ∙ ap (λ (b : Bool). true && true && not b) one.open_still

  abbrev first_of : Option (Hash32 × Header) → Option Hash32
  first_of o = option_map_or (λ entry. Some entry.0) o None

  pub next_is : (hash : Hash32) → waits waiting tip hash ≡ true → ((h : Hash32) → waits waiting tip h ≡ true → is_lt (hash_cmp h hash) ≡ false) → next_child state ≡ Some hash
  next_is hash is least =
      let one = are.only tip hash is in
      ap first_of (least_found (is_open_child state) hash one.header (passes hash one) (entries headers) (entries_sorted headers) (sym (get-entries headers hash) ∙ one.known)
      (λ k v there ok. least k (waits_above k (opens k v (get-entries headers k ∙ there) ok))))

  pub next_none : ((h : Hash32) → waits waiting tip h ≡ false) → next_child state ≡ None
  next_none none = ap first_of (none_found (is_open_child state) (entries headers) (entries_sorted headers) (λ k v there. go k v there (is_open_child state (k, v)) refl))
    where
      go : (k : Hash32) (v : Header) → finite.find hash_cmp k (entries headers) ≡ Some v → (b : Bool) → is_open_child state (k, v) ≡ b → is_open_child state (k, v) ≡ false
      go k v there true ok = absurd (let is = waits_above k (opens k v (get-entries headers k ∙ there) ok) in let never = none k in cc)
      go k v there false ok = ok

  -- ---- once a child was tried

  module _ (hash : Hash32) (child : IsOpenBlock state tip hash) (now : Waiting) (removed : (p h : Hash32) → waits now p h ≡ (waits waiting p h && not (same_hash p tip && same_hash h hash))) where
    was : (p h : Hash32) → waits now p h ≡ true → IsOpenBlock state p h
    was p h e = are.only p h (first_true (waits waiting p h) (not (same_hash p tip && same_hash h hash)) (sym (removed p h) ∙ e))

    other : (p h : Hash32) → waits now p h ≡ true → (same_hash p tip && same_hash h hash) ≡ false
    other p h e = second_false (waits waiting p h) (same_hash p tip && same_hash h hash) (sym (removed p h) ∙ e)

    still : (p h : Hash32) → waits waiting p h ≡ true → (same_hash p tip && same_hash h hash) ≡ false → waits now p h ≡ true
    still p h is apart = removed p h ∙ ap (λ (b : Bool). b && not (same_hash p tip && same_hash h hash)) is ∙ ap not apart

    pub waiting_connected : AreWaiting now (connected state hash)
    waiting_connected = record {
      only = λ p h e. let one = was p h e in record { header = one.header; known = one.known; above = one.above; stored = one.stored; open_still = one.open_still };
      all = λ p h one. ⊎_elim
          (λ below. inl (on_child headers rooted tip hash (child_of hash child) h below))
          (λ is. go p h is (same_hash p tip && same_hash h hash) refl)
          (are.all p h (record { header = one.header; known = one.known; above = one.above; stored = one.stored; open_still = one.open_still }));
      refused = are.refused;
    } where
      go : (p h : Hash32) → waits waiting p h ≡ true → (b : Bool) → (same_hash p tip && same_hash h hash) ≡ b → (is_at_or_below headers h hash ≡ true) ⊎ (waits now p h ≡ true)
      go p h is true same = inl (ap (λ (x : Hash32). is_at_or_below headers x hash) (same_true h hash (second_true (same_hash p tip) (same_hash h hash) same)) ∙ child_itself headers rooted tip hash (child_of hash child))
      go p h is false apart = inr (still p h is apart)

    -- another waiting block isn't the child
    not_child : (p h : Hash32) → waits now p h ≡ true → same_hash h hash ≡ false
    not_child p h e = go (same_hash h hash) refl
      where
        go : (b : Bool) → same_hash h hash ≡ b → same_hash h hash ≡ false
        go false is = is
        go true is =
            let one = was p h e in
            let headers_same = same_Some one.header child.header (sym one.known ∙ ap (get headers) (same_true h hash is) ∙ child.known) in
            let parent : same_hash p tip ≡ true = ap (λ (x : Hash32). same_hash x tip) (sym one.above ∙ ap (λ (x : Header). x.prev) headers_same ∙ child.above) ∙ same_self tip in
            let both : (same_hash p tip && same_hash h hash) ≡ true = ap (λ (b : Bool). b && same_hash h hash) parent ∙ is in
            let apart = other p h e in
            absurd cc

    pub waiting_refused : AreWaiting now (with_refused state hash)
    waiting_refused = record {
      only = λ p h e. let one = was p h e in record {
        header = one.header;
        known = one.known;
        above = one.above;
        stored = one.stored;
        open_still = ap (λ (b : Bool). b || is_refused state h) (not_child p h e) ∙ one.open_still;
      };
      all = λ p h one. let apart = neither (same_hash h hash) (is_refused state h) one.open_still in ⊎_elim
          (λ below. inl below)
          (λ is. inr (still p h is (ap (λ (b : Bool). same_hash p tip && b) apart.0 ∙ and_false (same_hash p tip))))
          (are.all p h (record { header = one.header; known = one.known; above = one.above; stored = one.stored; open_still = apart.1 }));
      refused = λ h e. go h (same_hash h hash) refl e;
    } where
      go : (h : Hash32) → (b : Bool) → same_hash h hash ≡ b → (b || is_refused state h) ≡ true → contains_key state.bodies h ≡ true
      go h true is e = ap (contains_key state.bodies) (same_true h hash is) ∙ child.stored
      go h false is e = are.refused h e
