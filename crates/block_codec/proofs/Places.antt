-- One place of a list.
use Rattle.std.proofs.Common.{◌≡◌, ℕ, List, ◌∷◌, ◌++◌, length, slice_index_or, slice_set}
use Rattle.std.proofs.Math.Seq.{set-append_seam, get_or-append_seam}

pub set_between : {X : Type 0} (xs before after : List X) (x y : X) (i : ℕ) → length before ≡ i → xs ≡ before ++ x ∷ after → slice_set xs i y ≡ before ++ y ∷ after
set_between xs before after x y i place is = rw (is, ← place) (set-append_seam before x after y)

pub stands_between : {X : Type 0} (xs before after : List X) (x d : X) (i : ℕ) → length before ≡ i → xs ≡ before ++ x ∷ after → slice_index_or xs i d ≡ x
stands_between xs before after x d i place is = rw (is, ← place) (get_or-append_seam before x after d)
