-- Slots move from the buckets of one index to those of another, over one pool. No public clause cites this module.
use Rattle.std.specs.Prelude.{◌≡◌, ◌⊎◌, ℕ, None, Option}
use Rattle.std.specs.Ordering.{nat_cmp}
use Rattle.std.specs.FinMap.{FinMap, get}
use Rattle.base_types.specs.Keys.{outpoint_cmp}
use Rattle.base_types.specs.declared.hash.OutPoint.{OutPoint}
use Rattle.coin_index.specs.declared.index.Index.{Index}
use Rattle.coin_index.specs.Index.{IsIndex}

-- each key of `all` is a key of `rest` or of `moved`, and not of both
abbrev pub IsSplit : FinMap outpoint_cmp ℕ → FinMap outpoint_cmp ℕ → FinMap outpoint_cmp ℕ → Type 0
IsSplit all rest moved = (k : OutPoint) → ((get rest k ≡ get all k) × (get moved k ≡ None)) ⊎ ((get rest k ≡ None) × (get moved k ≡ get all k))

-- over a pool with these values, i and j together find `all`
pub record AreSplit {T : Type 0} (key : T → OutPoint) (chain : T → Option ℕ) (m : FinMap nat_cmp T) (i j : Index) (all : FinMap outpoint_cmp ℕ) : Type 0 where
  pub rest : FinMap outpoint_cmp ℕ
  pub moved : FinMap outpoint_cmp ℕ
  pub split : IsSplit all rest moved
  pub old : IsIndex key chain m i rest
  pub new : IsIndex key chain m j moved
