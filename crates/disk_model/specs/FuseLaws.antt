-- The clock of a fuse, beside that of its disk: laws that the fuse cites for those of the trait.
use Rattle.std.specs.Prelude.{◌≡◌, ℕ, ◌≤◌, min}
use Rattle.std.proofs.Common.{arith, subst}
use Rattle.disk_model.specs.Fuse.{fuse_time}

pub now_is : (inner own : ℕ) → inner ≡ min (fuse_time inner own) inner
now_is inner own = omega arith

pub at_now : (P : ℕ → Type 0) (inner own : ℕ) → P inner → P (min (fuse_time inner own) inner)
at_now P inner own p = subst P (now_is inner own) p

pub clamped : (t u n : ℕ) → t ≤ u → min t n ≤ min u n
clamped t u n le = omega arith

pub below : (t n : ℕ) → min t n ≤ n
below t n = omega arith
