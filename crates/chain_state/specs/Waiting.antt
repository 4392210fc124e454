-- The stored blocks that wait to be connected.
use Rattle.std.specs.Prelude.{◌≡◌, ◌⊎◌, Bool, true, false, ◌&&◌, Some}
use Rattle.std.specs.List.{list_any}
use Rattle.std.specs.FinMap.{get, contains_key}
use Rattle.base_types.specs.declared.hash.Hash32.{Hash32}
use Rattle.block_codec.specs.Text.{same_hash}
use Rattle.block_codec.specs.declared.block.Header.{Header}
use Rattle.chain_model.specs.Choice.{is_at_or_below}
use Rattle.chain_state.specs.declared.waiting.Waiting.{Waiting}
use Rattle.machine.specs.State.{State}

-- a block waits above a parent
abbrev pub waits : Waiting → Hash32 → Hash32 → Bool
waits waiting parent hash = list_any (λ block. same_hash block.parent parent && same_hash block.hash hash) waiting.blocks.keys

abbrev pub is_refused : State → Hash32 → Bool
is_refused state hash = list_any (same_hash hash) state.active.refused

-- a stored block above this parent that isn't refused
pub record IsOpenBlock (state : State) (parent hash : Hash32) : Type 0 where
  pub header : Header
  pub known : get state.tree.headers hash ≡ Some header
  pub above : header.prev ≡ parent
  pub stored : contains_key state.bodies hash ≡ true
  pub open_still : is_refused state hash ≡ false

-- what waits is stored and isn't refused, and all that is so waits, but for the tip and its ancestors; a refused block is stored
pub record AreWaiting (waiting : Waiting) (state : State) : Type 0 where
  pub only : (parent hash : Hash32) → waits waiting parent hash ≡ true → IsOpenBlock state parent hash
  pub all : (parent hash : Hash32) → IsOpenBlock state parent hash → (is_at_or_below state.tree.headers hash state.active.tip ≡ true) ⊎ (waits waiting parent hash ≡ true)
  pub refused : (hash : Hash32) → is_refused state hash ≡ true → contains_key state.bodies hash ≡ true
