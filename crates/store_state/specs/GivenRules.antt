-- What a settled image stands for under other rules that are given.
use Rattle.std.specs.Prelude.{◌≡◌, ℕ, Some}
use Rattle.disk_model.specs.Disk.{Image}
use Rattle.base_types.specs.declared.program.Rules.{Rules}
use Rattle.store_state.specs.State.{StoreState, state_of}
use Rattle.store_state.specs.Settled.{IsSettled}

-- two stores are the same but for the rules of their trees
pub record SameButRules (a b : StoreState) : Type 0 where
  pub headers : a.tree.headers ≡ b.tree.headers
  pub bodies : a.bodies ≡ b.bodies
  pub active : a.active ≡ b.active
  pub role : a.role ≡ b.role

-- under these rules the image stands for a settled store that is the same but for the rules
pub record StandsAlike (limit : ℕ) (given : Rules) (image : Image) (store : StoreState) : Type 0 where
  pub other : StoreState
  pub stands_for : state_of limit given image ≡ Some other
  pub settled : IsSettled other
  pub same : SameButRules store other
