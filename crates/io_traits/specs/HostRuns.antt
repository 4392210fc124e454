-- What calls of a host, one after another, have done.
use Rattle.std.specs.Prelude.{◌≡◌, ℕ, List, ◌++◌, length, Some, None}
use Rattle.std.specs.FinMap.{insert}
use Rattle.io_traits.specs.Host.{Held, unread_bytes, after_reading}

-- these bytes were read of the open input, and nothing else was done
pub record HasRead (bytes : List ℕ) (s t : Held) : Type 0 where
  pub front : unread_bytes s ≡ bytes ++ unread_bytes t
  pub place : t ≡ after_reading (length bytes) s

-- a file was made with these bytes, and is the created file
abbrev pub with_made : List ℕ → List ℕ → Held → Held
with_made name bytes s = record s { files = insert s.files name bytes; created = Some name }

abbrev pub IsMade : List ℕ → List ℕ → Held → Held → Type 0
IsMade name bytes s t = t ≡ with_made name bytes s

-- a file was made with these bytes, and no file is created any more
abbrev pub IsDone : List ℕ → List ℕ → Held → Held → Type 0
IsDone name bytes s t = t ≡ record s { files = insert s.files name bytes; created = None }
