-- The open files of a folder.
use Rattle.std.specs.Prelude.{◌≡◌, ℕ, ◌<◌, List, length, Some}
use Rattle.std.specs.List.{slice_get}

-- the file of that number stands at a place
pub record IsAt {A : Type 0} (number : A → ℕ) (file place : ℕ) (handles : List A) : Type 0 where
  pub within : place < length handles
  pub named : (handle : A) → slice_get handles place ≡ Some handle → number handle ≡ file
