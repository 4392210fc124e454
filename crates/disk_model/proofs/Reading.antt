-- How a reader's calls compose.
use Rattle.std.specs.Prelude.{◌≡◌, ℕ, ◌+◌, ◌≤◌, Option, Some, None, refl}
use Rattle.std.proofs.Common.{arith, ◌∙◌}
use Rattle.disk_model.specs.Disk.{Image}
use Rattle.disk_model.specs.Reads.{ReadUpTo, read_of, OnlyRead, OnlyReadUpTo}
use Rattle.disk_model.proofs.Moments.{quiet_none, quiet_then}

-- nothing was read of a file
pub up_to_none : (most : ℕ) (old new : Option ℕ) → new ≡ old → ReadUpTo most old new
up_to_none most None None same = tt
up_to_none most (Some before) (Some now) same = let as_before : now ≡ before = cc in omega arith
up_to_none most None (Some now) same = cc
up_to_none most (Some before) None same = cc

pub up_to_then : (a b : ℕ) (old mid new : Option ℕ) → ReadUpTo a old mid → ReadUpTo b mid new → ReadUpTo (a + b) old new
up_to_then a b None None None first second = tt
up_to_then a b (Some before) (Some between) (Some now) first second = omega (arith, first, second)
up_to_then a b None None (Some now) first second = second
up_to_then a b (Some before) (Some between) None first second = second
up_to_then a b None (Some between) new first second = absurd first
up_to_then a b (Some before) None new first second = absurd first

pub up_to_wider : (most more : ℕ) (old new : Option ℕ) → most ≤ more → ReadUpTo most old new → ReadUpTo more old new
up_to_wider most more None None wider r = tt
up_to_wider most more (Some before) (Some now) wider r = omega (arith, r)
up_to_wider most more None (Some now) wider r = r
up_to_wider most more (Some before) None wider r = r

module _ {D : Type 0} (contents : D → Option Image) (time : D → ℕ) (left_since : D → ℕ → Image → Type 0) (bytes_read : D → Option (ℕ → ℕ)) where
  -- no call
  pub only_read_none : (IsFile : ℕ → Type 0) (d : D) → OnlyRead contents time left_since bytes_read IsFile d d
  only_read_none IsFile d = record { stays = refl; quiet = quiet_none time left_since d; others = λ file apart. refl }

  -- one call after another
  pub only_read_then : (IsFile : ℕ → Type 0) (old mid new : D) → OnlyRead contents time left_since bytes_read IsFile old mid → OnlyRead contents time left_since bytes_read IsFile mid new
      → OnlyRead contents time left_since bytes_read IsFile old new
  only_read_then IsFile old mid new a b = record {
    stays = b.stays ∙ a.stays;
    quiet = quiet_then time left_since old mid new a.quiet b.quiet;
    others = λ file apart. b.others file apart ∙ a.others file apart;
  }

  -- more files
  pub only_read_wider : (IsFile More : ℕ → Type 0) (old new : D) → ((file : ℕ) → IsFile file → More file) → OnlyRead contents time left_since bytes_read IsFile old new
      → OnlyRead contents time left_since bytes_read More old new
  only_read_wider IsFile More old new wider r = record { stays = r.stays; quiet = r.quiet; others = λ file apart. r.others file (λ is. apart (wider file is)) }

  -- the same with the number of bytes
  pub up_to_read_none : (most : ℕ) (IsFile : ℕ → Type 0) (d : D) → OnlyReadUpTo contents time left_since bytes_read most IsFile d d
  up_to_read_none most IsFile d = record { only = only_read_none IsFile d; each = λ file. up_to_none most (read_of (bytes_read d) file) (read_of (bytes_read d) file) refl }

  pub up_to_read_then : (a b : ℕ) (IsFile : ℕ → Type 0) (old mid new : D) → OnlyReadUpTo contents time left_since bytes_read a IsFile old mid
      → OnlyReadUpTo contents time left_since bytes_read b IsFile mid new → OnlyReadUpTo contents time left_since bytes_read (a + b) IsFile old new
  up_to_read_then a b IsFile old mid new first second = record {
    only = only_read_then IsFile old mid new first.only second.only;
    each = λ file. up_to_then a b (read_of (bytes_read old) file) (read_of (bytes_read mid) file) (read_of (bytes_read new) file) (first.each file) (second.each file);
  }

  pub up_to_read_wider : (most more : ℕ) (IsFile More : ℕ → Type 0) (old new : D) → most ≤ more → ((file : ℕ) → IsFile file → More file)
      → OnlyReadUpTo contents time left_since bytes_read most IsFile old new → OnlyReadUpTo contents time left_since bytes_read more More old new
  up_to_read_wider most more IsFile More old new longer wider r = record {
    only = only_read_wider IsFile More old new wider r.only;
    each = λ file. up_to_wider most more (read_of (bytes_read old) file) (read_of (bytes_read new) file) longer (r.each file);
  }
