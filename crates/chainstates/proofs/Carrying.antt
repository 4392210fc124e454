-- What holds of the coins at a tip, and of the blocks that wait, goes on over more headers and bodies.
use Rattle.std.proofs.Common.{◌≡◌, ◌⊎◌, inl, inr, ⊎_elim, ℕ, ◌&&◌, ◌||◌, Bool, true, false, List, Option, Some, None, refl, sym, ap, subst, ◌∙◌, cond}
use Rattle.std.specs.Prelude.{is_some, unwrap_or}
use Rattle.std.specs.List.{list_any}
use Rattle.std.specs.Option.{option_and_then}
use Rattle.std.specs.Result.{result_ok}
use Rattle.std.specs.FinMap.{get, insert, contains_key, empty}
use Rattle.std.proofs.lemmas.Option.{same_Some, none-some}
use Rattle.base_types.specs.Coins.{Coins}
use Rattle.base_types.specs.declared.hash.Hash32.{Hash32}
use Rattle.block_codec.specs.Text.{hash_of_header, same_hash}
use Rattle.block_codec.specs.declared.block.Block.{Block}
use Rattle.block_codec.specs.declared.block.Header.{Header}
use Rattle.chain_model.specs.Apply.{replayed}
use Rattle.chain_model.specs.Choice.{Bodies, Choice, blocks_of, blocks_to, coins_at, is_at_or_below, is_complete}
use Rattle.chain_model.specs.Growth.{Grows}
use Rattle.chain_model.specs.HeaderRules.{IsTree}
use Rattle.chain_model.specs.Tree.{Tree, path}
use Rattle.chain_model.proofs.Growth.{grows_self, same_chain}
use Rattle.chain_model.proofs.Hashes.{get_kept, get_other, get_same, same_or_not, same_self, same_true, there}
use Rattle.chain_model.proofs.Replays.{BodiesStand, HasMore, on_chain_known, same_coins_at}
use Rattle.chain_model.proofs.Trees.{is_rooted}
use Rattle.chain_state.specs.Standing.{Carry, HasCoins}
use Rattle.chain_state.specs.Waiting.{AreWaiting, IsOpenBlock, is_refused, waits}
use Rattle.chain_state.specs.declared.state.ChainState.{ChainState}
use Rattle.chain_state.specs.declared.waiting.Waiting.{Waiting}
use Rattle.chainstates.specs.Taking.{IsNew, with_block}
use Rattle.machine.specs.State.{State, active_coins, choice_of}
use Rattle.store_state.specs.Settled.{IsSettled}
use Rattle.store_state.specs.State.{StoreState, StoredBody, blocks_in}
use Rattle.store_state.proofs.Settling.{blocks_stand}

-- ---- the tip

pub record IsTip (choice : Choice) (hash : Hash32) : Type 0 where
  pub above : is_at_or_below choice.tree.headers choice.start hash ≡ true
  pub complete : is_complete choice hash ≡ true

-- where there are coins
pub tip_of_coins : (choice : Choice) (hash : Hash32) (coins : Coins) → coins_at choice hash ≡ Some coins → IsTip choice hash
tip_of_coins choice hash coins e = go (is_at_or_below choice.tree.headers choice.start hash) refl
  where
    replay : Option (List Block) → Option Coins
    replay o = option_and_then (λ blocks. result_ok (replayed choice.tree choice.start_coins blocks)) o

    some_of : (o : Option (List Block)) → replay o ≡ Some coins → is_some o ≡ true
    some_of None e = absurd (none-some coins e)
    some_of (Some blocks) e = refl

    go : (b : Bool) → is_at_or_below choice.tree.headers choice.start hash ≡ b → IsTip choice hash
    go true is = record { above = is; complete = some_of (blocks_to choice hash) e }
    go false is = absurd (none-some coins (sym (ap (λ (b : Bool). replay (cond b (blocks_of choice.bodies (path choice.tree.headers choice.start hash)) None)) is) ∙ e))

-- ---- the coins

module _ (limit : ℕ) (state : State) (tree : Tree) (bodies : Bodies) (more : HasMore limit (choice_of state state.active) (choice_of (record state { tree = tree; bodies = bodies }) state.active))
    (valid : coins_at (choice_of state state.active) state.active.tip ≡ Some (active_coins state)) where
  same_replay : coins_at (choice_of (record state { tree = tree; bodies = bodies }) state.active) state.active.tip ≡ coins_at (choice_of state state.active) state.active.tip
  same_replay =
      same_coins_at limit (choice_of state state.active) (choice_of (record state { tree = tree; bodies = bodies }) state.active) more state.active.tip
      (tip_of_coins (choice_of state state.active) state.active.tip (active_coins state) valid).complete

  pub same_active : active_coins (record state { tree = tree; bodies = bodies }) ≡ active_coins state
  same_active = ap (λ (o : Option Coins). unwrap_or o empty) same_replay

  pub valid_still : coins_at (choice_of (record state { tree = tree; bodies = bodies }) state.active) state.active.tip ≡ Some (active_coins (record state { tree = tree; bodies = bodies }))
  valid_still = same_replay ∙ valid ∙ ap (λ (c : Coins). Some c) (sym same_active)

-- ---- the stored blocks of a settled store

module _ (limit : ℕ) (state : State) (store : StoreState) (tree : state.tree ≡ store.tree) (bodies : state.bodies ≡ blocks_in empty store.bodies) (settled : IsSettled store) (grown : IsTree limit store.tree) where
  pub stored_stand : BodiesStand state.tree.headers state.bodies
  stored_stand hash block found =
      ap (λ (t : Tree). get t.headers hash) tree
      ∙ blocks_stand store.tree store.bodies settled.bodies hash block (ap (λ (all : Bodies). get all hash) (sym bodies) ∙ found)

  pub is_tree : IsTree limit state.tree
  is_tree = subst (IsTree limit) (sym tree) grown

  pub tip_known : coins_at (choice_of state state.active) state.active.tip ≡ Some (active_coins state) → contains_key state.tree.headers state.active.tip ≡ true
  tip_known valid =
      on_chain_known state.tree.headers (is_rooted limit state.tree is_tree) state.active.start state.active.tip (tip_of_coins (choice_of state state.active) state.active.tip (active_coins state) valid).above

  -- ---- more headers

  module _ (wider : Tree) (grows : Grows limit state.tree wider) where
    still_waiting : (waiting : Waiting) → contains_key state.tree.headers state.active.tip ≡ true → AreWaiting waiting state → AreWaiting waiting (record state { tree = wider })
    still_waiting waiting member are = record {
      only = λ parent hash is. let one = are.only parent hash is in record { header = one.header; known = grows.kept hash one.header one.known; above = one.above; stored = one.stored; open_still = one.open_still };
      all = λ parent hash one.
          let block = there (get state.bodies hash) one.stored in
          let known = stored_stand hash block.0 block.1 in
          let same = same_Some block.0.header one.header (sym (grows.kept hash block.0.header known) ∙ one.known) in
          ⊎_elim
          (λ low. inl (ap (λ (l : List Hash32). list_any (same_hash hash) l) (same_chain limit state.tree wider grows state.active.tip member) ∙ low))
          (λ waits_still. inr waits_still)
          (are.all parent hash (record { header = block.0.header; known = known; above = ap (λ (h : Header). h.prev) same ∙ one.above; stored = one.stored; open_still = one.open_still }));
      refused = are.refused;
    }

    pub coins_with_headers : (chain : ChainState) → HasCoins chain state store → HasCoins chain (record state { tree = wider }) (record store { tree = wider })
    coins_with_headers chain has =
        let more : HasMore limit (choice_of state state.active) (choice_of (record state { tree = wider; bodies = state.bodies }) state.active) =
        record { tree = grows; bodies = λ hash block found. found; stand = stored_stand; start = refl; coins = refl } in
        record {
          valid = valid_still limit state wider state.bodies more has.valid;
          carry = subst (Carry chain.layers store.active.coins) (sym (same_active limit state wider state.bodies more has.valid)) has.carry;
          waiting = still_waiting chain.waiting (tip_known has.valid) has.waiting;
        }

  -- ---- a body more

  module _ (block : Block) (new : IsNew state block) where
    none_there : get state.bodies (hash_of_header block.header) ≡ None
    none_there = go (get state.bodies (hash_of_header block.header)) refl
      where
        go : (o : Option Block) → get state.bodies (hash_of_header block.header) ≡ o → get state.bodies (hash_of_header block.header) ≡ None
        go None is = is
        go (Some other) is = absurd (let some = ap (λ (x : Option Block). is_some x) is in let fresh = new.fresh in cc)

    stored_still : (hash : Hash32) → contains_key state.bodies hash ≡ true → contains_key (with_block state block).bodies hash ≡ true
    stored_still hash is =
        let old = there (get state.bodies hash) is in
        ap (λ (o : Option Block). is_some o) (get_kept state.bodies (hash_of_header block.header) block hash old.0 none_there old.1)

    -- a refused block is stored, so the new one isn't refused
    not_refused : (waiting : Waiting) → AreWaiting waiting state → is_refused state (hash_of_header block.header) ≡ false
    not_refused waiting are = go (is_refused state (hash_of_header block.header)) refl
      where
        go : (b : Bool) → is_refused state (hash_of_header block.header) ≡ b → is_refused state (hash_of_header block.header) ≡ false
        go false is = is
        go true is = absurd (let stored = are.refused (hash_of_header block.header) is in let fresh = new.fresh in cc)

    module _ (old now : Waiting) (added : (parent hash : Hash32) → waits now parent hash ≡ (waits old parent hash || (same_hash parent block.header.prev && same_hash hash (hash_of_header block.header)))) (are : AreWaiting old state) where
      only_more : (parent hash : Hash32) → waits now parent hash ≡ true → IsOpenBlock (with_block state block) parent hash
      only_more parent hash is = go (waits old parent hash) refl (same_hash parent block.header.prev) refl (same_hash hash (hash_of_header block.header)) refl
        where
          go : (w : Bool) → waits old parent hash ≡ w → (p : Bool) → same_hash parent block.header.prev ≡ p → (h : Bool) → same_hash hash (hash_of_header block.header) ≡ h → IsOpenBlock (with_block state block) parent hash
          go true was p e h f = let one = are.only parent hash was in record { header = one.header; known = one.known; above = one.above; stored = stored_still hash one.stored; open_still = one.open_still }
          go false was true e true f =
              let same = same_true hash (hash_of_header block.header) f in
              record {
                header = block.header;
                known = ap (get state.tree.headers) same ∙ new.known;
                above = sym (same_true parent block.header.prev e);
                stored = ap (λ (x : Hash32). contains_key (with_block state block).bodies x) same ∙ ap (λ (o : Option Block). is_some o) (get_same state.bodies (hash_of_header block.header) block);
                open_still = ap (is_refused state) same ∙ not_refused old are;
              }
          go false was true e false f = absurd (never (added parent hash ∙ ap (λ (b : Bool). b || (same_hash parent block.header.prev && same_hash hash (hash_of_header block.header))) was ∙ ap (λ (b : Bool). b && same_hash hash (hash_of_header block.header)) e ∙ f))
            where
              never : waits now parent hash ≡ false → ⊥
              never not_it = cc
          go false was false e h f = absurd (never (added parent hash ∙ ap (λ (b : Bool). b || (same_hash parent block.header.prev && same_hash hash (hash_of_header block.header))) was ∙ ap (λ (b : Bool). b && same_hash hash (hash_of_header block.header)) e))
            where
              never : waits now parent hash ≡ false → ⊥
              never not_it = cc

      or_true : (b : Bool) → (b || true) ≡ true
      or_true true = refl
      or_true false = refl

      all_more : (parent hash : Hash32) → IsOpenBlock (with_block state block) parent hash → (is_at_or_below state.tree.headers hash state.active.tip ≡ true) ⊎ (waits now parent hash ≡ true)
      all_more parent hash one = go (same_or_not hash (hash_of_header block.header))
        where
          go : (hash ≡ hash_of_header block.header) ⊎ (hash ≡ hash_of_header block.header → ⊥) → (is_at_or_below state.tree.headers hash state.active.tip ≡ true) ⊎ (waits now parent hash ≡ true)
          go (inl same) =
              let header = same_Some one.header block.header (sym one.known ∙ ap (get state.tree.headers) same ∙ new.known) in
              let prev : same_hash parent block.header.prev ≡ true = ap (λ (h : Hash32). same_hash h block.header.prev) (sym one.above ∙ ap (λ (h : Header). h.prev) header) ∙ same_self block.header.prev in
              let is : same_hash hash (hash_of_header block.header) ≡ true = ap (λ (h : Hash32). same_hash h (hash_of_header block.header)) same ∙ same_self (hash_of_header block.header) in
              inr (added parent hash ∙ ap (λ (b : Bool). waits old parent hash || (b && same_hash hash (hash_of_header block.header))) prev ∙ ap (λ (b : Bool). waits old parent hash || b) is ∙ or_true (waits old parent hash))
          go (inr apart) = ⊎_elim
              (λ low. inl low)
              (λ was. inr (added parent hash ∙ ap (λ (b : Bool). b || (same_hash parent block.header.prev && same_hash hash (hash_of_header block.header))) was))
              (are.all parent hash (record {
                header = one.header;
                known = one.known;
                above = one.above;
                stored = ap (λ (o : Option Block). is_some o) (sym (get_other state.bodies (hash_of_header block.header) block hash apart)) ∙ one.stored;
                open_still = one.open_still;
              }))

      pub waiting_more : AreWaiting now (with_block state block)
      waiting_more = record { only = only_more; all = all_more; refused = λ hash is. stored_still hash (are.refused hash is) }

    pub coins_with_body : (chain : ChainState) (now : Waiting) → ((parent hash : Hash32) → waits now parent hash ≡ (waits chain.waiting parent hash || (same_hash parent block.header.prev && same_hash hash (hash_of_header block.header))))
        → (bodies_now : List StoredBody) → HasCoins chain state store → HasCoins (record chain { waiting = now }) (with_block state block) (record store { bodies = bodies_now })
    coins_with_body chain now added bodies_now has =
        let more : HasMore limit (choice_of state state.active) (choice_of (record state { tree = state.tree; bodies = insert state.bodies (hash_of_header block.header) block }) state.active) = record {
          tree = grows_self limit state.tree is_tree;
          bodies = λ hash other found. get_kept state.bodies (hash_of_header block.header) block hash other none_there found;
          stand = stored_stand;
          start = refl;
          coins = refl;
        } in
        record {
          valid = valid_still limit state state.tree (insert state.bodies (hash_of_header block.header) block) more has.valid;
          carry = subst (Carry chain.layers store.active.coins) (sym (same_active limit state state.tree (insert state.bodies (hash_of_header block.header) block) more has.valid)) has.carry;
          waiting = waiting_more chain.waiting now added has.waiting;
        }
