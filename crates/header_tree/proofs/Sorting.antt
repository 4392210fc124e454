-- Sorted numbers are the numbers in rising order.
use Rattle.std.proofs.Common.{◌≡◌, ℕ, suc, ◌+◌, ◌<◌, ◌≤◌, Bool, true, false, cond, List, [], ◌∷◌, length, get_or, refl, sym, ap, ap₂, ◌∙◌, arith, ltb, ltb-false, le-ltb, leb-true, leb-false}
use Rattle.std.specs.Prelude.{sum_by, nat_le}
use Rattle.std.specs.List.{fold}
use Rattle.std.specs.List.Sorted.{IsPermutation, IsNonDecreasing}
use Rattle.std.proofs.lemmas.List.Sorted.{sum_by-IsPermutation}
use Rattle.chain_model.specs.Tree.{among, rising}

-- no number is below the first
abbrev Least : ℕ → List ℕ → Type 0
Least x [] = Unit {0}
Least x (y ∷ ys) = (x ≤ y) × Least x ys

abbrev Up : List ℕ → Type 0
Up [] = Unit {0}
Up (x ∷ xs) = Least x xs × Up xs

-- as many of each number
abbrev Alike : List ℕ → List ℕ → Type 0
Alike xs ys = (f : ℕ → ℕ) → sum_by f xs ≡ sum_by f ys

-- the first number counts, and the rest
added : (f : ℕ → ℕ) (x : ℕ) (xs : List ℕ) → sum_by f (x ∷ xs) ≡ f x + sum_by f xs
added f x xs = from (0 + f x) 0 xs (omega arith) where
  from : (a b : ℕ) (ys : List ℕ) → a ≡ f x + b → fold (λ (a y : ℕ). a + f y) a ys ≡ f x + fold (λ (a y : ℕ). a + f y) b ys
  from a b [] e = e
  from a b (y ∷ ys) e = from (a + f y) (b + f y) ys (omega arith)

least_less : (x y : ℕ) (ys : List ℕ) → x ≤ y → Least y ys → Least x ys
least_less x y [] less l = tt
least_less x y (z ∷ zs) less (first, rest) = (omega arith, least_less x y zs less rest)

-- one for a number below x
abbrev below : ℕ → ℕ → ℕ
below x y = cond (ltb y x) 1 0

below_none : (x y : ℕ) → x ≤ y → below x y ≡ 0
below_none x y less = ap (λ (b : Bool). cond b 1 0) (le-ltb y x less)

none_below : (x : ℕ) (ys : List ℕ) → Least x ys → sum_by (below x) ys ≡ 0
none_below x [] l = refl
none_below x (y ∷ ys) (first, rest) = let a = below_none x y first in let b = none_below x ys rest in let sum = added (below x) y ys in omega arith

not_below : (x y : ℕ) → below x y ≡ 0 → x ≤ y
not_below x y e = go (ltb y x) refl where
  go : (b : Bool) → ltb y x ≡ b → x ≤ y
  go true is = let one : below x y ≡ 1 = ap (λ (b : Bool). cond b 1 0) is in absurd (omega arith)
  go false is = let low = ltb-false y x is in omega arith

first_least : (x y : ℕ) (xs ys : List ℕ) → Least x xs → Alike (x ∷ xs) (y ∷ ys) → x ≤ y
first_least x y xs ys l alike =
    let total = alike (below x) in
    let own = below_none x x (omega arith) in
    let rest = none_below x xs l in
    let left = added (below x) x xs in
    let right = added (below x) y ys in
    not_below x y (omega arith)

same_firsts : (x y : ℕ) (xs ys : List ℕ) → Up (x ∷ xs) → Up (y ∷ ys) → Alike (x ∷ xs) (y ∷ ys) → x ≡ y
same_firsts x y xs ys (lx, ux) (ly, uy) alike =
    let a = first_least x y xs ys lx alike in
    let b = first_least y x ys xs ly (λ f. sym (alike f)) in
    omega arith

unique : (xs ys : List ℕ) → Up xs → Up ys → Alike xs ys → xs ≡ ys
unique [] [] ux uy alike = refl
unique [] (y ∷ ys) ux uy alike = let count = alike (λ n. 1) in let sum = added (λ n. 1) y ys in let none : 0 ≡ 1 + sum_by (λ n. 1) ys = count ∙ sum in absurd (omega arith)
unique (x ∷ xs) [] ux uy alike = let count = alike (λ n. 1) in let sum = added (λ n. 1) x xs in let none : 1 + sum_by (λ n. 1) xs ≡ 0 = sym sum ∙ count in absurd (omega arith)
unique (x ∷ xs) (y ∷ ys) ux uy alike =
    let first = same_firsts x y xs ys ux uy alike in
    let rest = unique xs ys ux.1 uy.1 (λ f. let total = alike f in let head = ap f first in let left = added f x xs in let right = added f y ys in omega arith) in
    ap₂ (λ (z : ℕ) (zs : List ℕ). z ∷ zs) first rest

-- ---- what is sorted rises

least_from : (x : ℕ) (ys : List ℕ) → ((j : ℕ) → j < length ys → x ≤ get_or ys j 0) → Least x ys
least_from x [] each = tt
least_from x (y ∷ ys) each = (each 0 (omega arith), least_from x ys (λ j less. each (suc j) (omega arith)))

up_from : (xs : List ℕ) → ((i j : ℕ) → i ≤ j → j < length xs → get_or xs i 0 ≤ get_or xs j 0) → Up xs
up_from [] each = tt
up_from (x ∷ xs) each = (least_from x xs (λ j less. each 0 (suc j) (omega arith) (omega arith)), up_from xs (λ i j low less. each (suc i) (suc j) (omega arith) (omega arith)))

-- ---- the numbers in rising order

least_among : (x n : ℕ) (ms : List ℕ) → x ≤ n → Least x ms → Least x (among n ms)
unfolding among
least_among x n [] less l = (less, tt)
least_among x n (m ∷ ms) less (first, rest) = go (least_among x n ms less rest) (nat_le n m) where
  go : Least x (among n ms) → (b : Bool) → Least x (cond b (n ∷ m ∷ ms) (m ∷ among n ms))
  go after true = (less, (first, rest))
  go after false = (first, after)

up_among : (n : ℕ) (ms : List ℕ) → Up ms → Up (among n ms)
unfolding among
up_among n [] u = (tt, tt)
up_among n (m ∷ ms) (l, u) = go (up_among n ms u) (nat_le n m) refl where
  go : Up (among n ms) → (b : Bool) → nat_le n m ≡ b → Up (cond b (n ∷ m ∷ ms) (m ∷ among n ms))
  go after true e = let low = leb-true n m e in ((low, least_less n m ms low l), (l, u))
  go after false e = let low = leb-false n m e in (least_among m n ms (omega arith) l, after)

up_rising : (ns : List ℕ) → Up (rising ns)
unfolding rising
up_rising [] = tt
up_rising (n ∷ ns) = up_among n (rising ns) (up_rising ns)

sum_among : (f : ℕ → ℕ) (n : ℕ) (ms : List ℕ) → sum_by f (among n ms) ≡ f n + sum_by f ms
unfolding among
sum_among f n [] = added f n []
sum_among f n (m ∷ ms) = go (sum_among f n ms) (nat_le n m) where
  go : sum_by f (among n ms) ≡ f n + sum_by f ms → (b : Bool) → sum_by f (cond b (n ∷ m ∷ ms) (m ∷ among n ms)) ≡ f n + sum_by f (m ∷ ms)
  go after true = added f n (m ∷ ms)
  go after false = let left = added f m (among n ms) in let right = added f m ms in omega arith

sum_rising : (f : ℕ → ℕ) (ns : List ℕ) → sum_by f (rising ns) ≡ sum_by f ns
unfolding rising
sum_rising f [] = refl
sum_rising f (n ∷ ns) = let rest = sum_rising f ns in let sum = added f n ns in sum_among f n (rising ns) ∙ omega arith

pub sorted_is_rising : (xs ys : List ℕ) → IsPermutation xs ys → IsNonDecreasing ys → ys ≡ rising xs
sorted_is_rising xs ys moved sorted =
    unique ys (rising xs) (up_from ys (λ i j low less. sorted i j 0 low less)) (up_rising xs) (λ f. sum_by-IsPermutation f xs ys moved ∙ sym (sum_rising f xs))
