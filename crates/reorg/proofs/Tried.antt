-- Where a chainstate stands once a child of its tip was tried, and once it was moved as far as it can.
use Rattle.std.proofs.Common.{◌≡◌, ℕ, zero, suc, ◌&&◌, ◌||◌, Bool, true, false, not, List, [], ◌∷◌, ◌++◌, map, Option, Some, None, Ok, Err, append_assoc, append-nil, refl, sym, ap, subst, ◌∙◌}
use Rattle.std.specs.Prelude.{All, is_some, unwrap_or}
use Rattle.std.specs.Result.{result_ok}
use Rattle.std.specs.FinMap.{empty, get, contains_key}
use Rattle.std.specs.FinMap as finite
use Rattle.std.proofs.lemmas.List.{map-append}
use Rattle.std.proofs.lemmas.List.Elements.{All-head, All-tail}
use Rattle.std.specs.Ordering.{is_lt}
use Rattle.base_types.specs.Coins.{Coins}
use Rattle.base_types.specs.Keys.{hash_cmp}
use Rattle.base_types.specs.declared.flushes.Chain.TheVariants.{Full as FromGenesis}
use Rattle.base_types.specs.declared.hash.Hash32.{Hash32}
use Rattle.base_types.specs.declared.hash.OutPoint.{OutPoint}
use Rattle.base_types.specs.declared.refused.CoinRefused.{CoinRefused}
use Rattle.block_codec.specs.Genesis.{genesis_hash}
use Rattle.block_codec.specs.Text.{same_hash}
use Rattle.block_codec.specs.declared.block.Block.{Block}
use Rattle.chain_model.specs.Apply.{outcome}
use Rattle.chain_model.specs.Choice.{Bodies, coins_at}
use Rattle.chain_model.specs.Tree.{Tree}
use Rattle.chain_model.proofs.Hashes.{same_false}
use Rattle.chain_model.proofs.Trees.{IsRooted, is_rooted}
use Rattle.chain_state.specs.Standing.{Carry, HasCoins, IsStanding}
use Rattle.chain_state.specs.Waiting.{AreWaiting, IsOpenBlock, waits}
use Rattle.chain_state.specs.declared.state.ChainState.{ChainState}
use Rattle.chain_state.specs.declared.state.Shared.{Shared}
use Rattle.coin_store.specs.declared.store.CoinStore.{CoinStore}
use Rattle.command_text.specs.declared.reply.Reply.{Reply}
use Rattle.command_text.specs.declared.reply.Reply.TheVariants.{BlockOf}
use Rattle.disk_model.specs.Disk.{Image}
use Rattle.machine.specs.Moves.{forward, forward_from, move_with, next_child, touched_after, trial, trial_of, tried}
use Rattle.machine.specs.State.{Moved, State, active_coins, choice_of, still}
use Rattle.reorg.specs.Advancing.{HasAdvanced, also_refused, refusal_reply}
use Rattle.reorg.specs.Trials.{HasTried, IsTried, told_of}
use Rattle.reorg.specs.declared.refusals.RefusedBlock.{RefusedBlock}
use Rattle.reorg.proofs.OpenChildren.{child_of, connected, next_is, next_none, with_refused, waiting_connected, waiting_refused}
use Rattle.reorg.proofs.ChildCoins.{coins_at_child}
use Rattle.store_state.specs.Roles.{Role, active_chain}
use Rattle.store_state.specs.Settled.{IsBody, IsSettled}
use Rattle.store_state.specs.State.{StoreState, StoredBody, blocks_in, has_record, tip_of}
use Rattle.store_state.proofs.Settling.{no_block}
use Rattle.store_writes.specs.OnDisk.{OnDisk}

-- the tip once a child of it was tried
abbrev pub tip_after : Hash32 → Hash32 → Option CoinRefused → Hash32
tip_after tip hash None = hash
tip_after tip hash (Some rule) = tip

-- genesis has no body
no_genesis : (tree : Tree) (bodies : List StoredBody) → All (IsBody tree) bodies → has_record bodies genesis_hash ≡ false
no_genesis tree [] all = refl
no_genesis tree (body ∷ bodies) all =
    ap (λ (b : Bool). b || has_record bodies genesis_hash) (same_false body.hash genesis_hash (All-head (IsBody tree) body bodies all).above)
    ∙ no_genesis tree bodies (All-tail (IsBody tree) body bodies all)

module _ (limit : ℕ) (contents : Option Image) (images : Image → Type 0) (shared : Shared) (chain : ChainState) (state : State) (store : StoreState) (stands : IsStanding limit contents images shared chain state store) (settled : IsSettled store) where
  pub rooted : IsRooted state.tree.headers
  rooted = subst (λ (t : Tree). IsRooted t.headers) (sym stands.tree) (is_rooted limit store.tree stands.grown)

  pub above_genesis : contains_key state.bodies genesis_hash ≡ false
  above_genesis =
      ap (λ (bodies : Bodies). contains_key bodies genesis_hash) stands.bodies
      ∙ ap (λ (o : Option Block). is_some o) (no_block store.bodies genesis_hash (no_genesis store.tree store.bodies settled.bodies))

  pub at_tip : HasCoins chain state store
  at_tip = stands.coins settled

  -- ---- one trial

  module _ (hash : Hash32) (child : IsOpenBlock state state.active.tip hash) (block : Block) (stored : get state.bodies hash ≡ Some block) (new : ChainState) (same_store : new.store ≡ chain.store)
      (removed : (p h : Hash32) → waits new.waiting p h ≡ (waits chain.waiting p h && not (same_hash p chain.tip && same_hash h hash))) where
    removed_here : (p h : Hash32) → waits new.waiting p h ≡ (waits chain.waiting p h && not (same_hash p state.active.tip && same_hash h hash))
    removed_here p h = removed p h ∙ ap (λ (t : Hash32). waits chain.waiting p h && not (same_hash p t && same_hash h hash)) stands.tip

    files : OnDisk limit contents images shared.blocks new.store store
    files = subst (λ (s : CoinStore). OnDisk limit contents images shared.blocks s store) (sym same_store) stands.files

    coins_there : coins_at (choice_of state state.active) hash ≡ result_ok (outcome state.tree (active_coins state) block)
    coins_there =
        coins_at_child (choice_of state state.active) rooted state.active.tip hash (child_of state rooted above_genesis chain.waiting at_tip.waiting hash child) block stored (active_coins state) at_tip.valid

    on_connected : (after : Coins) → outcome state.tree (active_coins state) block ≡ Ok after → Carry new.layers store.active.coins after → new.tip ≡ hash → IsStanding limit contents images shared new (connected state hash) store
    on_connected after ok carry tip =
        let there : coins_at (choice_of (connected state hash) (connected state hash).active) hash ≡ Some after = coins_there ∙ ap result_ok ok in
        let is : active_coins (connected state hash) ≡ after = ap (λ (o : Option Coins). unwrap_or o empty) there in
        record {
          files = files;
          headers = stands.headers;
          most = stands.most;
          grown = stands.grown;
          tree = stands.tree;
          bodies = stands.bodies;
          start = stands.start;
          start_coins = stands.start_coins;
          begun = ap (λ (s : CoinStore). s.start) same_store ∙ stands.begun;
          kept = stands.kept;
          tip = tip;
          role = stands.role;
          coins = λ _. record {
            valid = there ∙ ap (λ (c : Coins). Some c) (sym is);
            carry = subst (Carry new.layers store.active.coins) (sym is) carry;
            waiting = waiting_connected state rooted above_genesis chain.waiting at_tip.waiting hash child new.waiting removed_here;
          };
        }

    on_refused : Carry new.layers store.active.coins (active_coins state) → new.tip ≡ chain.tip → IsStanding limit contents images shared new (with_refused state hash) store
    on_refused carry tip = record {
      files = files;
      headers = stands.headers;
      most = stands.most;
      grown = stands.grown;
      tree = stands.tree;
      bodies = stands.bodies;
      start = stands.start;
      start_coins = stands.start_coins;
      begun = ap (λ (s : CoinStore). s.start) same_store ∙ stands.begun;
      kept = stands.kept;
      tip = tip ∙ stands.tip;
      role = stands.role;
      coins = λ _. record {
        valid = at_tip.valid;
        carry = carry;
        waiting = waiting_refused state rooted above_genesis chain.waiting at_tip.waiting hash child new.waiting removed_here;
      };
    }

    pub has_tried : (refused : Option CoinRefused) → new.tip ≡ tip_after chain.tip hash refused → IsTried new.layers store.active.coins (active_coins state) (outcome state.tree (active_coins state) block) refused
        → HasTried limit contents images shared new state store hash refused
    has_tried None tip (after, ok, carry) =
        let moved : trial_of state hash ≡ still (connected state hash) = ap (trial state hash) stored ∙ ap (tried state hash) ok in
        record {
          replies = ap (λ (m : Moved). m.replies) moved;
          stands = subst (λ (m : Moved). IsStanding limit contents images shared new m.state store) (sym moved) (on_connected after ok carry tip);
        }
    has_tried (Some rule) tip (err, carry) =
        let moved : trial_of state hash ≡ tried state hash (Err rule) = ap (trial state hash) stored ∙ ap (tried state hash) err in
        record {
          replies = ap (λ (m : Moved). m.replies) moved ∙ ap (λ (r : Role _). BlockOf (active_chain r) hash rule ∷ []) stands.role;
          stands = subst (λ (m : Moved). IsStanding limit contents images shared new m.state store) (sym moved) (on_refused carry tip);
        }

-- ---- a move

-- where it was last flushed, and what was touched, are no part of where it stands
rekept : (limit : ℕ) (contents : Option Image) (images : Image → Type 0) (shared : Shared) (chain : ChainState) (state : State) (store : StoreState) → IsStanding limit contents images shared chain state store
    → (kept : Hash32) (touched : List OutPoint) → kept ≡ tip_of store.active → IsStanding limit contents images shared chain (record state { active = record state.active { kept = kept; touched = touched } }) store
rekept limit contents images shared chain state store s kept touched same = record {
  files = s.files;
  headers = s.headers;
  most = s.most;
  grown = s.grown;
  tree = s.tree;
  bodies = s.bodies;
  start = s.start;
  start_coins = s.start_coins;
  begun = s.begun;
  kept = same;
  tip = s.tip;
  role = s.role;
  coins = λ settled. let at = s.coins settled in record {
    valid = at.valid;
    carry = at.carry;
    waiting = record {
      only = λ p h e. let one = at.waiting.only p h e in record { header = one.header; known = one.known; above = one.above; stored = one.stored; open_still = one.open_still };
      all = λ p h one. at.waiting.all p h (record { header = one.header; known = one.known; above = one.above; stored = one.stored; open_still = one.open_still });
      refused = at.waiting.refused;
    };
  };
}

-- so many trials are left, and these blocks were refused
pub record IsOnWay (limit : ℕ) (contents : Option Image) (images : Image → Type 0) (shared : Shared) (chain : ChainState) (from : State) (store : StoreState) (refusals : List RefusedBlock) (most : ℕ) : Type 0 where
  pub now : State
  pub stands : IsStanding limit contents images shared chain now store
  pub replies : (forward from).replies ≡ map refusal_reply refusals ++ (forward_from most now (next_child now)).replies
  pub state : (forward from).state ≡ (forward_from most now (next_child now)).state

pub begins_way : (limit : ℕ) (contents : Option Image) (images : Image → Type 0) (shared : Shared) (chain : ChainState) (from : State) (store : StoreState) → IsStanding limit contents images shared chain from store
    → IsOnWay limit contents images shared chain from store [] (finite.len from.tree.headers)
begins_way limit contents images shared chain from store stands = record { now = from; stands = stands; replies = refl; state = refl }

-- as many trials are left as the tree has headers
pub begins_with : (limit : ℕ) (contents : Option Image) (images : Image → Type 0) (shared : Shared) (chain : ChainState) (from : State) (store : StoreState) → IsStanding limit contents images shared chain from store
    → (refusals : List RefusedBlock) → refusals ≡ [] → (most : ℕ) → most ≡ finite.len shared.tree.tree.headers → IsOnWay limit contents images shared chain from store refusals most
begins_with limit contents images shared chain from store stands refusals none most count =
    let same : finite.len from.tree.headers ≡ most = ap (λ (t : Tree). finite.len t.headers) (stands.tree ∙ sym stands.headers) ∙ sym count in
    subst (IsOnWay limit contents images shared chain from store refusals) same
    (subst (λ (l : List RefusedBlock). IsOnWay limit contents images shared chain from store l (finite.len from.tree.headers)) (sym none) (begins_way limit contents images shared chain from store stands))

module _ (limit : ℕ) (contents : Option Image) (images : Image → Type 0) (shared : Shared) (chain : ChainState) (from : State) (store : StoreState) (refusals : List RefusedBlock) (most : ℕ)
    (way : IsOnWay limit contents images shared chain from store refusals most) where
  -- one trial more
  pub goes_on : (left : ℕ) → most ≡ suc left → (hash : Hash32) → next_child way.now ≡ Some hash → (contents2 : Option Image) (images2 : Image → Type 0) (new : ChainState) (refused : Option CoinRefused)
      → HasTried limit contents2 images2 shared new way.now store hash refused → (more : List RefusedBlock) → map refusal_reply more ≡ told_of hash refused
      → IsOnWay limit contents2 images2 shared new from store (refusals ++ more) left
  goes_on left count hash next contents2 images2 new refused tried_so more told =
      let rest = forward_from left (trial_of way.now hash).state (next_child (trial_of way.now hash).state) in
      let step : forward_from most way.now (next_child way.now) ≡ forward_from (suc left) way.now (Some hash) = λ i. forward_from (count i) way.now (next i) in
      record {
        now = (trial_of way.now hash).state;
        stands = tried_so.stands;
        replies =
            way.replies
            ∙ ap (λ (m : Moved). map refusal_reply refusals ++ m.replies) step
            ∙ ap (λ (l : List Reply). map refusal_reply refusals ++ (l ++ rest.replies)) (tried_so.replies ∙ sym told)
            ∙ sym (append_assoc (map refusal_reply refusals) (map refusal_reply more) rest.replies)
            ∙ ap (λ (l : List Reply). l ++ rest.replies) (sym (map-append refusal_reply refusals more));
        state = way.state ∙ ap (λ (m : Moved). m.state) step;
      }

  -- and the refused blocks are those after it
  pub goes_further : (left : ℕ) → most ≡ suc left → (hash : Hash32) → next_child way.now ≡ Some hash → (contents2 : Option Image) (images2 : Image → Type 0) (new : ChainState) (refused : Option CoinRefused)
      → HasTried limit contents2 images2 shared new way.now store hash refused → IsOnWay limit contents2 images2 shared new from store (also_refused refusals hash refused) left
  goes_further left count hash next contents2 images2 new None tried_so =
      subst (λ (l : List RefusedBlock). IsOnWay limit contents2 images2 shared new from store l left) (append-nil refusals)
      (goes_on left count hash next contents2 images2 new None tried_so [] refl)
  goes_further left count hash next contents2 images2 new (Some why) tried_so =
      goes_on left count hash next contents2 images2 new (Some why) tried_so (record { chain = FromGenesis; hash = hash; why = why } ∷ []) refl

  over : forward_from most way.now (next_child way.now) ≡ still way.now → from.active.kept ≡ tip_of store.active → HasAdvanced limit contents images shared chain from store refusals
  over end kept =
      let same = way.state ∙ ap (λ (m : Moved). m.state) end in
      record {
        replies = sym (way.replies ∙ ap (λ (m : Moved). map refusal_reply refusals ++ m.replies) end ∙ append-nil (map refusal_reply refusals));
        stands =
            rekept limit contents images shared chain (forward from).state store (subst (λ (s : State). IsStanding limit contents images shared chain s store) (sym same) way.stands)
            from.active.kept (touched_after from []) kept;
      }

  -- no child is left
  pub ends_without : next_child way.now ≡ None → from.active.kept ≡ tip_of store.active → HasAdvanced limit contents images shared chain from store refusals
  ends_without none kept = over (ap (forward_from most way.now) none ∙ nothing most) kept
    where
      nothing : (n : ℕ) → forward_from n way.now None ≡ still way.now
      nothing zero = refl
      nothing (suc n) = refl

  -- no trial is left
  pub ends_after : most ≡ 0 → from.active.kept ≡ tip_of store.active → HasAdvanced limit contents images shared chain from store refusals
  ends_after none kept = over (ap (λ (n : ℕ). forward_from n way.now (next_child way.now)) none) kept

  -- ---- the next child, as the waiting blocks tell it

  module _ (settled : IsSettled store) where
    waiting_now : AreWaiting chain.waiting way.now
    waiting_now = (way.stands.coins settled).waiting

    waits_there : (h : Hash32) → waits chain.waiting chain.tip h ≡ waits chain.waiting way.now.active.tip h
    waits_there h = ap (λ (t : Hash32). waits chain.waiting t h) way.stands.tip

    pub child_waits : (hash : Hash32) → waits chain.waiting chain.tip hash ≡ true → IsOpenBlock way.now way.now.active.tip hash
    child_waits hash is = waiting_now.only way.now.active.tip hash (sym (waits_there hash) ∙ is)

    pub child_is_next : (hash : Hash32) → waits chain.waiting chain.tip hash ≡ true → ((h : Hash32) → waits chain.waiting chain.tip h ≡ true → is_lt (hash_cmp h hash) ≡ false) → next_child way.now ≡ Some hash
    child_is_next hash is least =
        next_is way.now (rooted limit contents images shared chain way.now store way.stands settled) (above_genesis limit contents images shared chain way.now store way.stands settled) chain.waiting waiting_now hash (sym (waits_there hash) ∙ is)
        (λ h there. least h (waits_there h ∙ there))

    pub none_is_next : ((h : Hash32) → waits chain.waiting chain.tip h ≡ false) → next_child way.now ≡ None
    none_is_next none =
        next_none way.now (rooted limit contents images shared chain way.now store way.stands settled) (above_genesis limit contents images shared chain way.now store way.stands settled) chain.waiting waiting_now
        (λ h. sym (waits_there h) ∙ none h)

  pub stored_now : (bodies : Bodies) → bodies ≡ blocks_in empty store.bodies → (hash : Hash32) (block : Block) → get bodies hash ≡ Some block → get way.now.bodies hash ≡ Some block
  stored_now bodies same hash block found = ap (λ (b : Bodies). get b hash) (way.stands.bodies ∙ sym same) ∙ found
