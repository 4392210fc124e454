-- What calls do to coins that can be changed.
use Rattle.std.specs.Prelude.{◌≡◌, ⊤, false, List, [], ◌∷◌, Contains, is_some, option_map}
use Rattle.std.specs.declared.option.Option.{Option}
use Rattle.std.specs.List.{list_any}
use Rattle.std.specs.FinMap.{get}
use Rattle.base_types.specs.Coins.{Coins}
use Rattle.base_types.specs.declared.coin.Coin.{Coin}
use Rattle.base_types.specs.declared.hash.OutPoint.{OutPoint}
use Rattle.chain_model.specs.BodyRules.{same_outpoint}

-- each of these outpoints is one of the keys
abbrev pub Among : List OutPoint → List OutPoint → Type 0
Among keys [] = ⊤
Among keys (outpoint ∷ others) = Contains keys outpoint × Among keys others

-- what is told of an outpoint: its coin, or that it has none
abbrev pub coin_told : Option Coins → OutPoint → Option (Option Coin)
coin_told told key = option_map (λ coins. get coins key) told

-- coins are told as before, and have changed at most at these outpoints
pub record EditsOnly (keys : List OutPoint) (old new : Option Coins) : Type 0 where
  pub told : is_some new ≡ is_some old
  pub kept : (key : OutPoint) → list_any (same_outpoint key) keys ≡ false → coin_told new key ≡ coin_told old key
