-- Names are the same where their bytes are.
use Rattle.std.specs.Prelude.{◌≡◌, ◌≢◌, ℕ, Bool, true, false, List, cond, refl}
use Rattle.std.specs.Ordering.{is_eq}
use Rattle.std.specs.declared.cmp.Ordering.{Ordering}
use Rattle.std.specs.declared.cmp.Ordering.TheVariants.{Less, Equal, Greater}
use Rattle.std.specs.Cmp.{tied_itself}
use Rattle.std.specs.Cmp.Lexicographic.{nat_list_cmp_total}
use Rattle.std.proofs.Common.{ap}
use Rattle.std.proofs.lemmas.Map.Lookups.{exact_bytes}
use Rattle.io_traits.specs.Names.{same}

is_equal : (r : Ordering) → is_eq r ≡ true → r ≡ Equal
is_equal Less p = cc
is_equal Equal p = refl
is_equal Greater p = cc

pub same_is : (a b : List ℕ) → same a b ≡ true → a ≡ b
same_is a b p = exact_bytes a b (is_equal _ p)

pub same_itself : (a : List ℕ) → same a a ≡ true
same_itself a = ap is_eq (tied_itself nat_list_cmp_total a)

refused : {A : Type 0} (b : Bool) (x y : A) → (b ≡ true → ⊥) → cond b x y ≡ y
refused true x y apart = absurd (apart refl)
refused false x y apart = refl

-- what is chosen where two names differ
pub cond-same : {A : Type 0} (a b : List ℕ) (x y : A) → a ≢ b → cond (same a b) x y ≡ y
cond-same a b x y apart = refused (same a b) x y (λ p. apart (same_is a b p))
