-- How chainstates are flushed, and how the active one moves.
use Rattle.std.specs.Prelude.{⊤, ◌≡◌, ℕ, zero, suc, Bool, true, not, ◌&&◌, List, [], ◌∷◌, ◌++◌, map, filter, cond, nat_le, Option, Some, None, Result, Ok, Err}
use Rattle.std.specs.List.{find, flat_map, list_any}
use Rattle.std.specs.Option.{option_map_or}
use Rattle.std.specs.FinMap.{get, contains_key, entries}
use Rattle.std.specs.FinMap as finite
use Rattle.base_types.specs.Coins.{Coins}
use Rattle.base_types.specs.declared.flushes.Chain.{Chain}
use Rattle.base_types.specs.declared.flushes.Why.{Why}
use Rattle.base_types.specs.declared.flushes.Why.TheVariants.{Limit}
use Rattle.base_types.specs.declared.hash.Hash32.{Hash32}
use Rattle.base_types.specs.declared.hash.OutPoint.{OutPoint}
use Rattle.base_types.specs.declared.refused.CoinRefused.{CoinRefused}
use Rattle.block_codec.specs.declared.block.Block.{Block}
use Rattle.block_codec.specs.declared.block.Header.{Header}
use Rattle.block_codec.specs.Text.{same_hash}
use Rattle.chain_model.specs.Apply.{outcome}
use Rattle.chain_model.specs.BodyRules.{same_outpoint}
use Rattle.chain_model.specs.Choice.{is_valid}
use Rattle.chain_model.specs.Coins.{outputs_of}
use Rattle.command_text.specs.declared.reply.Reply.{Reply}
use Rattle.command_text.specs.declared.reply.Reply.TheVariants as says
use Rattle.store_state.specs.Roles.{active_chain, each_chain, beside}
use Rattle.machine.specs.State.{Setting, Standing, State, Moved, Event, Flush, still, and_then, choice_of, active_coins, height_of}

-- ---- flushes

-- the tip is kept
abbrev pub flushed : Standing → Standing
flushed standing = record standing { kept = standing.tip }

abbrev pub flush_event : Why → Chain × Standing → Event
flush_event why one = Flush one.0 one.1.tip why one.1.touched

abbrev pub flush_reply : State → Chain × Standing → Reply
flush_reply state one = says.Flushed one.0 (height_of state one.1.tip) one.1.tip

-- every chainstate is flushed, that from genesis first, with a line for each
abbrev pub flush : Why → State → Moved
flush why state = record {
  state = record state { active = flushed state.active; role = beside flushed state.role };
  replies = map (flush_reply state) (each_chain state.active state.role);
  events = map (flush_event why) (each_chain state.active state.role);
  reads = 0;
}

-- ---- touched outpoints

-- the outpoints that a block touches: inputs of its transactions, and outputs
abbrev pub touched_by : Block → List OutPoint
touched_by block = flat_map (λ tx. map (λ input. input.prev) tx.inputs ++ map (λ named. named.0) (outputs_of tx)) block.txs

abbrev pub is_among : OutPoint → List OutPoint → Bool
is_among key keys = list_any (same_outpoint key) keys

-- how many different outpoints these are
abbrev pub count_of : List OutPoint → ℕ
count_of [] = 0
count_of (key ∷ keys) = cond (is_among key keys) (count_of keys) (suc (count_of keys))

-- ---- one block

-- a stored child of the active tip that isn't refused
abbrev pub is_open_child : State → Hash32 × Header → Bool
is_open_child state (hash, header) =
    same_hash header.prev state.active.tip && contains_key state.bodies hash && not (list_any (same_hash hash) state.active.refused)

-- that with the smallest hash
abbrev pub next_child : State → Option Hash32
next_child state = option_map_or (λ entry. Some entry.0) (find (is_open_child state) (entries state.tree.headers)) None

-- a child becomes the tip, or joins the refused blocks
abbrev pub tried : State → Hash32 → Result Coins CoinRefused → Moved
tried state hash (Ok coins) = still (record state { active = record state.active { tip = hash } })
tried state hash (Err why) =
    record (still (record state { active = record state.active { refused = hash ∷ state.active.refused } }))
    { replies = says.BlockOf (active_chain state.role) hash why ∷ [] }

abbrev pub trial : State → Hash32 → Option Block → Moved
trial state hash None = still state
trial state hash (Some block) = tried state hash (outcome state.tree (active_coins state) block)

abbrev pub trial_of : State → Hash32 → Moved
trial_of state hash = trial state hash (get state.bodies hash)

-- ---- a move

-- the active chainstate moves forward, child by child, until none is left (each trial takes a child away, so there are at
-- most as many as headers)
abbrev pub forward_from : ℕ → State → Option Hash32 → Moved
forward_from zero state child = still state
forward_from (suc most) state None = still state
forward_from (suc most) state (Some hash) =
    and_then (trial_of state hash) (forward_from most (trial_of state hash).state (next_child (trial_of state hash).state))

abbrev pub forward : State → Moved
forward state = forward_from (finite.len state.tree.headers) state (next_child state)

-- the blocks that are tried, in their order
abbrev pub tried_from : ℕ → State → Option Hash32 → List Hash32
tried_from zero state child = []
tried_from (suc most) state None = []
tried_from (suc most) state (Some hash) = hash ∷ tried_from most (trial_of state hash).state (next_child (trial_of state hash).state)

abbrev pub and_tip : Hash32 → List Hash32 → List Hash32
and_tip tip [] = []
and_tip tip (hash ∷ hashes) = tip ∷ hash ∷ hashes

-- the way of the move: the old tip and the blocks that are tried; where none is tried it has no block
abbrev pub way : State → List Hash32
way state = and_tip state.active.tip (tried_from (finite.len state.tree.headers) state (next_child state))

-- what the blocks on the way touch that lie above the start
abbrev pub touched_on_way : State → List OutPoint
touched_on_way state =
    flat_map (λ hash. option_map_or touched_by (get state.bodies hash) [])
    (filter (λ hash. not (same_hash hash state.active.start)) (way state))

-- ---- limit flushes in it

-- Limit flushes, each at a valid block of the way, and only where enough outpoints are touched. A flush empties what was
-- touched before the move, but not what the move itself touches, which goes on.
abbrev pub AreLimits : Setting → State → List OutPoint → List Hash32 → Type 0
AreLimits setting state touched [] = ⊤
AreLimits setting state touched (tip ∷ tips) =
    (list_any (same_hash tip) (way state) ≡ true) × (is_valid (choice_of state state.active) tip ≡ true) × (nat_le setting.cache (count_of touched) ≡ true)
    × AreLimits setting state (touched_on_way state) tips

abbrev pub limit_events : State → List OutPoint → List Hash32 → List Event
limit_events state touched [] = []
limit_events state touched (tip ∷ tips) = Flush (active_chain state.role) tip Limit touched ∷ limit_events state (touched_on_way state) tips

-- where the chainstate was last flushed, after these
abbrev pub kept_after : Hash32 → List Hash32 → Hash32
kept_after kept [] = kept
kept_after kept (tip ∷ tips) = kept_after tip tips

-- what is touched after the move: after a flush, what lies on the way alone
abbrev pub touched_after : State → List Hash32 → List OutPoint
touched_after state [] = touched_on_way state ++ state.active.touched
touched_after state (tip ∷ tips) = touched_on_way state

-- the move with these limit flushes
abbrev pub move_with : State → List Hash32 → Moved
move_with state limits = record (forward state) {
  state = record (forward state).state {
    active = record (forward state).state.active { kept = kept_after state.active.kept limits; touched = touched_after state limits };
  };
  events = limit_events state (touched_on_way state ++ state.active.touched) limits;
}

-- the active chainstate moves, with a free choice of limit flushes
abbrev pub Advances : Setting → State → Moved → Type 0
Advances setting state moved =
    (limits : List Hash32) × AreLimits setting state (touched_on_way state ++ state.active.touched) limits × (moved ≡ move_with state limits)
