-- What a reader leaves of a disk.
use Rattle.std.specs.Prelude.{⊤, Some, None, ◌≡◌, ℕ, ◌+◌, ◌≤◌, Option, option_map}
use Rattle.disk_model.specs.Disk.{Image, Quiet}

-- the bytes read of a file so far, where the disk tells it
abbrev pub read_of : Option (ℕ → ℕ) → ℕ → Option ℕ
read_of read file = option_map (λ each. each file) read

-- so many bytes more were read at most, where the disk tells it
abbrev pub ReadUpTo : ℕ → Option ℕ → Option ℕ → Type 0
ReadUpTo most None None = ⊤
ReadUpTo most (Some before) (Some now) = now ≤ before + most
ReadUpTo most None (Some now) = ⊥
ReadUpTo most (Some before) None = ⊥

-- a disk was only read, and of these files alone: its contents stay, and so does what a crash may leave
pub record OnlyRead {D : Type 0} (contents : D → Option Image) (time : D → ℕ) (left_since : D → ℕ → Image → Type 0) (bytes_read : D → Option (ℕ → ℕ))
    (IsFile : ℕ → Type 0) (old new : D) : Type 0 where
  pub stays : contents new ≡ contents old
  pub quiet : Quiet time left_since old new
  pub others : (file : ℕ) → (IsFile file → ⊥) → read_of (bytes_read new) file ≡ read_of (bytes_read old) file

-- and so many bytes of each at most
pub record OnlyReadUpTo {D : Type 0} (contents : D → Option Image) (time : D → ℕ) (left_since : D → ℕ → Image → Type 0) (bytes_read : D → Option (ℕ → ℕ))
    (most : ℕ) (IsFile : ℕ → Type 0) (old new : D) : Type 0 where
  pub only : OnlyRead contents time left_since bytes_read IsFile old new
  pub each : (file : ℕ) → ReadUpTo most (read_of (bytes_read old) file) (read_of (bytes_read new) file)
