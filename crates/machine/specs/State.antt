-- Where the machine stands, and what happens in it.
use Rattle.std.specs.Prelude.{ℕ, zero, suc, ◌+◌, true, List, [], ◌∷◌, ◌++◌, length, take, drop, unwrap_or}
use Rattle.std.specs.FinMap.{empty}
use Rattle.base_types.specs.Coins.{Coins}
use Rattle.base_types.specs.declared.flushes.Chain.{Chain}
use Rattle.base_types.specs.declared.flushes.Why.{Why}
use Rattle.base_types.specs.declared.hash.Hash32.{Hash32}
use Rattle.base_types.specs.declared.hash.OutPoint.{OutPoint}
use Rattle.base_types.specs.declared.program.Rules.{Rules}
use Rattle.block_codec.specs.declared.block.Block.{Block}
use Rattle.block_codec.specs.declared.block.Header.{Header}
use Rattle.chain_model.specs.Tree.{Tree, height}
use Rattle.chain_model.specs.Choice.{Bodies, Choice, coins_at}
use Rattle.command_text.specs.declared.reply.Reply.{Reply}
use Rattle.store_state.specs.Roles.{Role, beside}
use Rattle.store_state.specs.State.{StoreState, Chainstate, blocks_in, tip_of}

-- what a run is set to: how many headers the tree may have, how many entries make a limit flush due, and the rules where
-- the store keeps none
pub record Setting : Type 0 where
  pub limit : ℕ
  pub cache : ℕ
  pub given : Rules

-- a chainstate: the block and the coins that it started with, its tip, the tip of its last finished flush (or where it was
-- opened), its refused blocks, and the outpoints that were touched since its cache was last emptied
pub record Standing : Type 0 where
  pub start : Hash32
  pub start_coins : Coins
  pub tip : Hash32
  pub kept : Hash32
  pub refused : List Hash32
  pub touched : List OutPoint

-- the active chainstate, and what it is
pub record State : Type 0 where
  pub tree : Tree
  pub bodies : Bodies
  pub active : Standing
  pub role : Role Standing

-- what a chainstate chooses among
abbrev pub choice_of : State → Standing → Choice
choice_of state standing = record {
  tree = state.tree;
  bodies = state.bodies;
  start = standing.start;
  start_coins = standing.start_coins;
  tip = standing.tip;
  is_candidate = λ hash. true;
}

-- the coins of a chainstate at a block: the replay to it
abbrev pub coins_to : State → Standing → Hash32 → Coins
coins_to state standing hash = unwrap_or (coins_at (choice_of state standing) hash) empty

-- those at the active tip
abbrev pub active_coins : State → Coins
active_coins state = coins_to state state.active state.active.tip

abbrev pub height_of : State → Hash32 → ℕ
height_of state hash = height state.tree.headers hash

-- ---- events

-- what the machine stores, and its flushes, each with the outpoints that are touched as it begins
pub data Event : Type 0 where
  HeadersStored : List Header → Event
  BodyStored : Hash32 → Block → Event
  Flush : Chain → Hash32 → Why → List OutPoint → Event

-- headers are stored up to 1,000 at once
unfoldable pub stored_by : ℕ → List Header → List Event
stored_by zero headers = []
stored_by (suc most) [] = []
stored_by (suc most) (header ∷ headers) = HeadersStored (take 1000 (header ∷ headers)) ∷ stored_by most (drop 1000 (header ∷ headers))

abbrev pub header_events : List Header → List Event
header_events headers = stored_by (length headers) headers

-- ---- what is done

-- the replies and events of a piece of work, in their order, where the machine stands after it, and how many bytes of bodies
-- may be read for it (none are counted yet)
pub record Moved : Type 0 where
  pub state : State
  pub replies : List Reply
  pub events : List Event
  pub reads : ℕ

abbrev pub still : State → Moved
still state = record { state = state; replies = []; events = []; reads = 0 }

-- one piece of work and then another
abbrev pub and_then : Moved → Moved → Moved
and_then first second = record {
  state = second.state;
  replies = first.replies ++ second.replies;
  events = first.events ++ second.events;
  reads = first.reads + second.reads;
}

abbrev pub and_reply : Reply → Moved → Moved
and_reply reply moved = record moved { replies = moved.replies ++ reply ∷ [] }

-- ---- where the machine begins

abbrev pub standing_at : Chainstate → Standing
standing_at chainstate = record {
  start = chainstate.start;
  start_coins = chainstate.start_coins;
  tip = tip_of chainstate;
  kept = tip_of chainstate;
  refused = [];
  touched = [];
}

-- with what an opened store stands for
abbrev pub begins : StoreState → State
begins store = record { tree = store.tree; bodies = blocks_in empty store.bodies; active = standing_at store.active; role = beside standing_at store.role }
