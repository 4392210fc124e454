-- Slots that were put into another order.
use Rattle.std.proofs.Common.{◌≡◌, inl, inr, ℕ, true, false, List, [], ◌∷◌, All, refl, sym, ap, subst, ◌∙◌, arith}
use Rattle.std.specs.Cmp.{eq_by_cmp_equiv, nat_cmp_total, unsigned_tied}
use Rattle.std.specs.List.{AllByRecursion, IsDistinct as DistinctBy}
use Rattle.std.specs.List.Sorted.{IsPermutation}
use Rattle.std.specs.Ordering.{eq_by_cmp, nat_cmp}
use Rattle.std.proofs.lemmas.List.Elements.{All-nil, All-cons, All-head, All-tail, All-weaker}
use Rattle.std.proofs.lemmas.List.Sorted.{All-permutation, IsPermutation-sym}
use Rattle.std.proofs.lemmas.Map.Keys.{IsDistinct-IsPermutation}
use Rattle.slot_pool.specs.Slots.{IsIn, IsDistinct}
use Rattle.slot_pool.proofs.Layouts.{tied_self}

all_in : (slots : List ℕ) → All (λ s. IsIn s slots) slots
all_in [] = All-nil (λ s. IsIn s [])
all_in (t ∷ slots) = All-cons (λ s. IsIn s (t ∷ slots)) t slots (inl refl) (All-weaker (λ s. IsIn s slots) (λ s. IsIn s (t ∷ slots)) (λ s i. inr i) slots (all_in slots))

pub all_at : (P : ℕ → Type 0) (slots : List ℕ) → All P slots → (s : ℕ) → IsIn s slots → P s
all_at P [] all s i = absurd i
all_at P (t ∷ slots) all s (inl e) = subst P (sym e) (All-head P t slots all)
all_at P (t ∷ slots) all s (inr i) = all_at P slots (All-tail P t slots all) s i

-- the same slots
module _ (xs ys : List ℕ) (moved : IsPermutation xs ys) where
  pub moved_in : All (λ s. IsIn s xs) ys
  moved_in = All-permutation (λ s. IsIn s xs) xs ys moved (all_in xs)

  pub moved_back : (s : ℕ) → IsIn s xs → IsIn s ys
  moved_back s i = all_at (λ t. IsIn t ys) xs (All-permutation (λ t. IsIn t ys) ys xs (IsPermutation-sym xs ys moved) (all_in ys)) s i

-- as a slice shows them
pub flagged_all : (changes slots shown : List ℕ) → IsPermutation changes slots → shown ≡ slots → All (λ s. IsIn s changes) shown
flagged_all changes slots shown moved is = subst (λ (l : List ℕ). All (λ s. IsIn s changes) l) (sym is) (moved_in changes slots moved)

-- and each once

off_all : (s : ℕ) (slots : List ℕ) → ¬ IsIn s slots → AllByRecursion (λ t. eq_by_cmp nat_cmp s t ≡ false) slots
off_all s [] off = tt
off_all s (t ∷ slots) off = (tied_off s t (λ e. off (inl e)), off_all s slots (λ i. off (inr i))) where
  tied_off : (a b : ℕ) → (a ≡ b → ⊥) → eq_by_cmp nat_cmp a b ≡ false
  tied_off a b ne = unsigned_tied a b ∙ grind (arith)

not_in : (s : ℕ) (slots : List ℕ) → AllByRecursion (λ t. eq_by_cmp nat_cmp s t ≡ false) slots → ¬ IsIn s slots
not_in s [] all i = i
not_in s (t ∷ slots) all (inl e) = let f : false ≡ true = sym all.0 ∙ ap (eq_by_cmp nat_cmp s) (sym e) ∙ tied_self s in cc
not_in s (t ∷ slots) all (inr i) = not_in s slots all.1 i

to_std : (slots : List ℕ) → IsDistinct slots → DistinctBy (eq_by_cmp nat_cmp) slots
unfolding DistinctBy
to_std [] once = tt
to_std (s ∷ slots) once = (off_all s slots once.0, to_std slots once.1)

from_std : (slots : List ℕ) → DistinctBy (eq_by_cmp nat_cmp) slots → IsDistinct slots
unfolding DistinctBy
from_std [] once = tt
from_std (s ∷ slots) once = (not_in s slots once.0, from_std slots once.1)

pub moved_once : (xs ys : List ℕ) → IsPermutation xs ys → IsDistinct xs → IsDistinct ys
moved_once xs ys moved once = from_std ys (IsDistinct-IsPermutation (eq_by_cmp nat_cmp) (eq_by_cmp_equiv nat_cmp_total).symm xs ys moved (to_std xs once))
