-- Small states of the machine: genesis, and genesis with a block above it; and what some lines do from genesis.
use Rattle.std.proofs.Common.{[], ◌∷◌, ◌++◌, ℕ}
use Rattle.std.specs.FinMap.{insert, empty}
use Rattle.base_types.specs.declared.flushes.Chain.TheVariants.{Full}
use Rattle.base_types.specs.declared.flushes.Why.{Why}
use Rattle.base_types.specs.declared.flushes.Why.TheVariants.{Limit}
use Rattle.base_types.specs.declared.hash.OutPoint.{OutPoint}
use Rattle.base_types.specs.declared.program.Rules.{Rules}
use Rattle.io_traits.specs.Host.{Files}
use Rattle.chain_model.specs.HeaderRules.{first_tree}
use Rattle.block_codec.specs.Genesis.{genesis_hash}
use Rattle.command_text.specs.declared.reply.Reply.TheVariants as says
use Rattle.std.specs.Prelude.{None}
use Rattle.store_state.specs.State.{StoreState, chainstate_of}
use Rattle.store_state.specs.SmallStores.{FirstBlock, hash_of, tree_of}
use Rattle.machine.specs.State.{Setting, Standing, State, Moved, HeadersStored, BodyStored, Flush}
use Rattle.machine.specs.Moves.{touched_by}
use Rattle.machine.specs.Steps.{Now, Did}
use Rattle.store_state.specs.Roles.{Alone}

-- ---- genesis alone

abbrev pub genesis_store : Rules → StoreState
genesis_store given = record { tree = first_tree given; bodies = []; active = chainstate_of genesis_hash empty []; role = Alone }

abbrev pub genesis_standing : Standing
genesis_standing = record { start = genesis_hash; start_coins = empty; tip = genesis_hash; kept = genesis_hash; refused = []; touched = [] }

abbrev pub genesis_state : Rules → State
genesis_state given = record { tree = first_tree given; bodies = empty; active = genesis_standing; role = Alone }

abbrev pub at_start : Rules → Files → Now
at_start given files = record { state = genesis_state given; files = files }

-- ---- what lines do there

-- a flush at genesis
abbrev pub genesis_flushed : Why → Rules → Files → Did
genesis_flushed why given files = record { now = at_start given files; replies = says.Flushed Full 0 genesis_hash ∷ []; events = Flush Full genesis_hash why [] ∷ []; reads = 0; faults = 0 }

-- an outpoint without a coin, which is touched
abbrev pub asked_at_genesis : Rules → Files → OutPoint → Did
asked_at_genesis given files key = record {
  now = record { state = record { tree = first_tree given; bodies = empty; active = record genesis_standing { touched = key ∷ [] }; role = Alone }; files = files };
  replies = says.TxOut None ∷ [];
  events = [];
  reads = 0;
  faults = 0;
}

-- ---- a block above genesis

module _ (limit : ℕ) (given : Rules) (first : FirstBlock limit given) where
  -- after its header, after its body, and once the chainstate has moved to it
  abbrev pub with_its_header : State
  with_its_header = record { tree = tree_of limit given first; bodies = empty; active = genesis_standing; role = Alone }

  abbrev pub with_its_body : State
  with_its_body = record with_its_header { bodies = insert empty (hash_of limit given first) first.block }

  abbrev pub moved_to_it : State
  moved_to_it = record with_its_body { active = record genesis_standing { tip = hash_of limit given first; touched = touched_by first.block ++ [] } }

  -- with a flush of a full cache behind the move; what the move touched counts again
  abbrev pub moved_and_flushed : Moved
  moved_and_flushed = record {
    state = record with_its_body { active = record genesis_standing { tip = hash_of limit given first; kept = hash_of limit given first; touched = touched_by first.block } };
    replies = [];
    events = Flush Full (hash_of limit given first) Limit (touched_by first.block ++ []) ∷ [];
    reads = 0;
  }

-- ---- what lines do with its file

module _ (setting : Setting) (first : FirstBlock setting.limit setting.given) (files : Files) where
  -- one frame, one header and one body; the tip is the block, at height 1
  abbrev pub imported : Did
  imported = record {
    now = record { state = moved_to_it setting.limit setting.given first; files = files };
    replies = says.Import 1 1 1 1 (hash_of setting.limit setting.given first) ∷ [];
    events = HeadersStored (first.block.header ∷ []) ∷ BodyStored (hash_of setting.limit setting.given first) first.block ∷ [];
    reads = 0;
    faults = 0;
  }

  -- its header alone is taken
  abbrev pub headers_taken : Did
  headers_taken = record {
    now = record { state = with_its_header setting.limit setting.given first; files = files };
    replies = says.Headers 1 1 2 ∷ [];
    events = HeadersStored (first.block.header ∷ []) ∷ [];
    reads = 0;
    faults = 0;
  }
