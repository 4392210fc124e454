-- What the machine keeps, and the store that has it.
use Rattle.std.specs.Prelude.{◌≡◌}
use Rattle.store_state.specs.Roles.{beside}
use Rattle.store_state.specs.State.{StoreState}
use Rattle.machine.specs.State.{Standing, State}
use Rattle.machine.specs.Tips.{Stored, StoredChain, stored_in}

-- of each chainstate the tip of its last flush
abbrev pub kept_chain : Standing → StoredChain
kept_chain standing = record { start = standing.start; start_coins = standing.start_coins; tip = standing.kept }

abbrev pub kept_in : State → Stored
kept_in state = record { tree = state.tree; bodies = state.bodies; active = kept_chain state.active; role = beside kept_chain state.role }

-- the store has what the machine keeps
abbrev pub HasKept : StoreState → State → Type 0
HasKept store state = stored_in store ≡ kept_in state
