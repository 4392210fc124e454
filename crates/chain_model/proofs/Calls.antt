-- Calls of coins that follow one another, as loops make them.
use Rattle.std.proofs.Common.{◌≡◌, ◌≤◌, ◌+◌, ℕ, Result, Ok, Err, sym, ap, subst, ◌∙◌}
use Rattle.base_types.specs.Views.{ViewCounts, FindsFault}
use Rattle.base_types.proofs.ViewCalls.{finds_then, finds_within, finds_passed, finds_answered}
use Rattle.base_types.specs.declared.fault.StoreFault.{StoreFault}

failed : {A F : Type 0} → F → Result A F
failed fault = Err fault

-- what a `?` hands on is what was answered
pub handed : {A F : Type 0} (P : Result A F → Type 0) (fault given : F) (result : Result A F) → P (Err fault) → given ≡ fault → result ≡ Err given → P result
unfolding failed
handed P fault given result p same is = subst P (sym (is ∙ ap failed same)) p

module _ (T U V : Type 0) (a b n : ℕ) (old mid new : ViewCounts) (value : T) (few : a + b ≤ n) (first : FindsFault a old mid (Ok value)) where
  -- calls that were answered, and then others that were too
  pub answered_then : (next : U) (other : V) → FindsFault b mid new (Ok next) → FindsFault n old new (Ok other)
  answered_then next other then =
      finds_answered n old new next other (finds_within (a + b) n old new (Ok next) few (finds_then a b old mid new value (Ok next) first then))

  -- calls that were answered, and then others the last of which failed
  pub failed_then : (fault : StoreFault) → FindsFault {T = U} b mid new (Err fault) → FindsFault {T = V} n old new (Err fault)
  failed_then fault then =
      finds_passed U V n old new fault (finds_within (a + b) n old new (Err fault) few (finds_then a b old mid new value (Err fault) first then))

-- more calls than these
pub answered_within : (T V : Type 0) (a n : ℕ) (old new : ViewCounts) (value : T) (other : V) → a ≤ n → FindsFault a old new (Ok value) → FindsFault n old new (Ok other)
answered_within T V a n old new value other few first = finds_answered n old new value other (finds_within a n old new (Ok value) few first)
