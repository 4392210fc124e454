-- Calls of a view that follow one another.
use Rattle.std.specs.Prelude.{ℕ, ◌+◌, ◌≤◌, List, ◌∷◌, [], ◌++◌, Result, Ok, Err, refl}
use Rattle.std.proofs.Common.{◌∙◌, ap, arith}
use Rattle.base_types.specs.Views.{BrokenPlace, ViewCounts, FoundNothing, HasViewCause, FindsFault}
use Rattle.base_types.specs.declared.fault.StoreFault.{StoreFault}
use Rattle.base_types.specs.declared.fault.StoreFault.TheVariants.{NoMemory, DiskFailed, Damaged, Full, CacheFull}

nothing_then : (old mid new : ViewCounts) → FoundNothing old mid → FoundNothing mid new → FoundNothing old new
nothing_then old mid new a b = record { faults = b.faults ∙ a.faults; broken = b.broken ∙ a.broken }

-- no call
pub finds_none : {T : Type 0} (counts : ViewCounts) (value : T) → FindsFault 0 counts counts (Ok value)
finds_none counts value = record { entries = omega arith; cause = record { faults = refl; broken = refl } }

cause_then : {T U : Type 0} (a b : ℕ) (old mid new : ViewCounts) (value : T) (result : Result U StoreFault)
    → FindsFault a old mid (Ok value) → HasViewCause b mid new result → HasViewCause (a + b) old new result
cause_then a b old mid new value (Ok last) first next = nothing_then old mid new first.cause next
cause_then a b old mid new value (Err NoMemory) first next = nothing_then old mid new first.cause next
cause_then a b old mid new value (Err DiskFailed) first next =
    let same = first.cause.faults in
    let rose = next.rose in
    record { rose = omega arith; broken = next.broken ∙ first.cause.broken }
cause_then a b old mid new value (Err (Damaged file at)) first next = record {
  faults = next.faults ∙ first.cause.faults;
  broken = next.broken ∙ ap (λ (places : List BrokenPlace). places ++ record { file = file; at = at } ∷ []) first.cause.broken;
}
cause_then a b old mid new value (Err (Full file)) first next = absurd next
cause_then a b old mid new value (Err CacheFull) first next =
    let few = first.entries in
    let many = next.entries in
    record { nothing = nothing_then old mid new first.cause next.nothing; entries = omega arith }

-- calls that were answered, and then others
pub finds_then : {T U : Type 0} (a b : ℕ) (old mid new : ViewCounts) (value : T) (result : Result U StoreFault)
    → FindsFault a old mid (Ok value) → FindsFault b mid new result → FindsFault (a + b) old new result
finds_then a b old mid new value result first next =
    let few = first.entries in
    let more = next.entries in
    record { entries = omega arith; cause = cause_then a b old mid new value result first next.cause }

cause_within : {T : Type 0} (a b : ℕ) (old new : ViewCounts) (result : Result T StoreFault) → a ≤ b → HasViewCause a old new result → HasViewCause b old new result
cause_within a b old new (Ok value) le cause = cause
cause_within a b old new (Err NoMemory) le cause = cause
cause_within a b old new (Err DiskFailed) le cause = cause
cause_within a b old new (Err (Damaged file at)) le cause = cause
cause_within a b old new (Err (Full file)) le cause = absurd cause
cause_within a b old new (Err CacheFull) le cause =
    let many = cause.entries in
    record { nothing = cause.nothing; entries = omega arith }

-- fewer calls than these
pub finds_within : {T : Type 0} (a b : ℕ) (old new : ViewCounts) (result : Result T StoreFault) → a ≤ b → FindsFault a old new result → FindsFault b old new result
finds_within a b old new result le finds =
    let few = finds.entries in
    record { entries = omega arith; cause = cause_within a b old new result le finds.cause }

cause_passed : (T U : Type 0) (calls : ℕ) (old new : ViewCounts) (fault : StoreFault) → HasViewCause {T = T} calls old new (Err fault) → HasViewCause {T = U} calls old new (Err fault)
cause_passed T U calls old new NoMemory cause = cause
cause_passed T U calls old new DiskFailed cause = cause
cause_passed T U calls old new (Damaged file at) cause = cause
cause_passed T U calls old new (Full file) cause = cause
cause_passed T U calls old new CacheFull cause = cause

-- a fault that is passed on
pub finds_passed : (T U : Type 0) (calls : ℕ) (old new : ViewCounts) (fault : StoreFault) → FindsFault {T = T} calls old new (Err fault) → FindsFault {T = U} calls old new (Err fault)
finds_passed T U calls old new fault finds = record { entries = finds.entries; cause = cause_passed T U calls old new fault finds.cause }

-- another answer
pub finds_answered : {T U : Type 0} (calls : ℕ) (old new : ViewCounts) (value : T) (other : U) → FindsFault calls old new (Ok value) → FindsFault calls old new (Ok other)
finds_answered calls old new value other finds = record { entries = finds.entries; cause = finds.cause }
