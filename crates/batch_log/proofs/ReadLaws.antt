-- How reads of one file compose, and what they leave of the disk.
use Rattle.std.specs.Prelude.{◌≡◌, ◌≢◌, ℕ, ◌+◌, ◌≤◌, Option, Some, None, option_map, refl}
use Rattle.std.proofs.Common.{arith, ap, ◌∙◌, inl, inr}
use Rattle.std.proofs.lemmas.Bool.{cases_eq}
use Rattle.disk_model.specs.Disk.{Image, Quiet, changed_at}
use Rattle.disk_model.specs.Reads.{OnlyReadUpTo, ReadUpTo, read_of}
use Rattle.disk_model.proofs.Moments.{changed_here, changed_else}
use Rattle.batch_log.specs.Reading.{ReadAtMost}

-- nothing was read
pub read_none : (file : ℕ) (old new : Option (ℕ → ℕ)) → new ≡ old → ReadAtMost file 0 old new
read_none file None None is = tt
read_none file (Some before) (Some now) is =
    let same : now ≡ before = cc in
    (omega (arith, ap (λ (f : ℕ → ℕ). f file) same), λ f apart. ap (λ (g : ℕ → ℕ). g f) same)
read_none file None (Some now) is = cc
read_none file (Some before) None is = cc

-- so many bytes were read
pub read_some : (file n : ℕ) (old new : Option (ℕ → ℕ)) → new ≡ option_map (changed_at file (λ r. r + n)) old → ReadAtMost file n old new
read_some file n None None is = tt
read_some file n (Some before) (Some now) is =
    let same : now ≡ changed_at file (λ r. r + n) before = cc in
    (omega (arith, ap (λ (f : ℕ → ℕ). f file) same, changed_here file (λ r. r + n) before), λ f apart. ap (λ (g : ℕ → ℕ). g f) same ∙ changed_else file (λ r. r + n) before f apart)
read_some file n None (Some now) is = cc
read_some file n (Some before) None is = cc

pub read_wider : (file m n : ℕ) (old new : Option (ℕ → ℕ)) → m ≤ n → ReadAtMost file m old new → ReadAtMost file n old new
read_wider file m n None None h r = tt
read_wider file m n (Some before) (Some now) h r = (omega (arith, r.0), r.1)
read_wider file m n None (Some now) h r = r
read_wider file m n (Some before) None h r = r

-- what one call reads, and then another
pub read_then : (file m n : ℕ) (old mid new : Option (ℕ → ℕ)) → ReadAtMost file m old mid → ReadAtMost file n mid new → ReadAtMost file (m + n) old new
read_then file m n None None None a b = tt
read_then file m n (Some before) (Some between) (Some now) a b = (omega (arith, a.0, b.0), λ f apart. b.1 f apart ∙ a.1 f apart)
read_then file m n None None (Some now) a b = b
read_then file m n (Some before) (Some between) None a b = b
read_then file m n None (Some between) new a b = absurd a
read_then file m n (Some before) None new a b = absurd a

-- the same, for each file by itself
unread : (file most : ℕ) (old new : Option (ℕ → ℕ)) → ReadAtMost file most old new → (f : ℕ) → f ≢ file → read_of new f ≡ read_of old f
unread file most None None r f apart = refl
unread file most (Some before) (Some now) r f apart = ap Some (r.1 f apart)
unread file most None (Some now) r f apart = absurd r
unread file most (Some before) None r f apart = absurd r

so_many : (file most : ℕ) (old new : Option (ℕ → ℕ)) → ReadAtMost file most old new → (f : ℕ) → ReadUpTo most (read_of old f) (read_of new f)
so_many file most None None r f = tt
so_many file most (Some before) (Some now) r f = elim (cases_eq f file) [
  | inl same ↦ omega (arith, r.0, ap now same, ap before same)
  | inr apart ↦ omega (arith, r.1 f apart)
]
so_many file most None (Some now) r f = absurd r
so_many file most (Some before) None r f = absurd r

-- calls that only read this file
pub only_reads : {D : Type 0} (contents : D → Option Image) (time : D → ℕ) (left_since : D → ℕ → Image → Type 0) (bytes_read : D → Option (ℕ → ℕ)) (file most : ℕ) (old new : D)
    → contents new ≡ contents old → Quiet time left_since old new → ReadAtMost file most (bytes_read old) (bytes_read new)
    → OnlyReadUpTo contents time left_since bytes_read most (λ f. f ≡ file) old new
only_reads contents time left_since bytes_read file most old new stays quiet r = record {
  only = record { stays = stays; quiet = quiet; others = unread file most (bytes_read old) (bytes_read new) r };
  each = so_many file most (bytes_read old) (bytes_read new) r;
}
