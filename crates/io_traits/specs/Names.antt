-- Names are the same where their bytes are.
use Rattle.std.specs.Prelude.{ℕ, Bool, List}
use Rattle.std.specs.Ordering.{nat_cmp, eq_by_cmp}
use Rattle.std.specs.Cmp.Lexicographic.{slice_cmp}

-- whether two names are the same
abbrev pub same : List ℕ → List ℕ → Bool
same = eq_by_cmp (slice_cmp nat_cmp)
