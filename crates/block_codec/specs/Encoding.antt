-- What is given a text piece by piece.
use Rattle.std.specs.Prelude.{◌≡◌, ℕ, Bool, false, List, ◌++◌, length, take}

-- Whatever it was given before, behind whatever stood there first, it was then given this text too.
abbrev pub Adds : {S : Type 0} → (S → List ℕ → List ℕ → Type 0) → S → S → List ℕ → Type 0
Adds holds old new text = (first before : List ℕ) → holds old first before → holds new first (before ++ text)

-- Bytes to which a text was added behind those that stood there first. Where memory ran out the first ones still stand.
pub record Appended (start : ℕ) (failed : Bool) (bytes first text : List ℕ) : Type 0 where
  pub starts : start ≡ length first
  pub front : take start bytes ≡ first
  pub whole : failed ≡ false → bytes ≡ first ++ text
