-- The list of the flushes of a run.
use Rattle.std.specs.Prelude.{◌≡◌, ℕ, List, [], ◌∷◌, ◌++◌, length, Some, None, true, false}
use Rattle.base_types.specs.declared.hash.Hash32.{Hash32}
use Rattle.base_types.specs.declared.flushes.Chain.{Chain}
use Rattle.base_types.specs.declared.flushes.Flushed.{Flushed}
use Rattle.base_types.specs.declared.flushes.Why.{Why}

-- a flush that has begun
abbrev pub begun_flush : Chain → Hash32 → Why → ℕ → Flushed
begun_flush chain tip why at = record { chain = chain; tip = tip; why = why; begun = at; done = None; told = false }

-- one member of a list, the one at this place, has changed so
abbrev pub ChangesMember : ℕ → (Flushed → Flushed) → List Flushed → List Flushed → Type 0
ChangesMember place change old new = (front rest : List Flushed) (member : Flushed) → length front ≡ place → old ≡ front ++ member ∷ rest → new ≡ front ++ change member ∷ rest

-- the last member has changed so
abbrev pub ChangesLast : (Flushed → Flushed) → List Flushed → List Flushed → Type 0
ChangesLast change old new = (front : List Flushed) (member : Flushed) → old ≡ front ++ member ∷ [] → new ≡ front ++ change member ∷ []

-- a flush has ended at a reading of the clock
abbrev pub done_at : ℕ → Flushed → Flushed
done_at at member = record member { done = Some at }

-- the line of a flush was written
abbrev pub told_of : Flushed → Flushed
told_of member = record member { told = true }
