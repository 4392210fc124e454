-- Laws of lists of slots, and of reads of a pool after a write.
use Rattle.std.proofs.Common.{◌≡◌, ◌≢◌, ◌⊎◌, inl, inr, ◌-◌, ◌<◌, ◌≤◌, ◌++◌, ℕ, true, false, cond, List, [], ◌∷◌, length, Option, Some, None, IsSome, is_some, refl, sym, ap, ◌∙◌, subst, arith}
use Rattle.std.proofs.lemmas.Bool.{cases_eq}
use Rattle.std.specs.Ordering.{nat_cmp, eq_by_cmp}
use Rattle.std.specs.Cmp.{nat_cmp_total, unsigned_tied}
use Rattle.std.specs.FinMap.{FinMap, get, insert, remove, len, contains_key, empty_of_len, get-empty, get-insert, get-remove, len-remove}
use Rattle.slot_pool.specs.Slots.{first_or, last_or, IsIn, IsDistinct}

pub some_of : {T : Type 0} (o : Option T) → IsSome o → (x : T) × (o ≡ Some x)
some_of (Some x) h = (x, refl)
some_of None h = cc

-- reads after a write

tied_same : (k : ℕ) → eq_by_cmp nat_cmp k k ≡ true
tied_same k = unsigned_tied k k ∙ grind (arith)

tied_other : (q k : ℕ) → q ≢ k → eq_by_cmp nat_cmp q k ≡ false
tied_other q k ne = unsigned_tied q k ∙ grind (arith)

module _ {T : Type 0} (m : FinMap nat_cmp T) (t : ℕ) where
  pub get_here : (w : T) → get (insert m t w) t ≡ Some w
  get_here w = get-insert nat_cmp_total m t w t ∙ ap (λ b. cond b (Some w) (get m t)) (tied_same t)

  pub get_off : (w : T) (s : ℕ) → s ≢ t → get (insert m t w) s ≡ get m s
  get_off w s ne = get-insert nat_cmp_total m t w s ∙ ap (λ b. cond b (Some w) (get m s)) (tied_other s t ne)

  pub removed_here : get (remove m t) t ≡ None
  removed_here = get-remove nat_cmp_total m t t ∙ ap (λ b. cond b None (get m t)) (tied_same t)

  pub removed_off : (s : ℕ) → s ≢ t → get (remove m t) s ≡ get m s
  removed_off s ne = get-remove nat_cmp_total m t s ∙ ap (λ b. cond b None (get m s)) (tied_other s t ne)

-- a value in a new slot leaves the others
pub get_beside : {T : Type 0} (m : FinMap nat_cmp T) (t : ℕ) (w : T) (s : ℕ) (x : T) → get m t ≡ None → get m s ≡ Some x → get (insert m t w) s ≡ Some x
get_beside m t w s x new e = get_off m t w s (λ f. let c : Some x ≡ None = sym e ∙ ap (get m) f ∙ new in cc) ∙ e

-- a slot with a value isn't one without
pub new_apart : {T : Type 0} (m : FinMap nat_cmp T) (s t : ℕ) (x : T) → get m s ≡ None → get m t ≡ Some x → s ≢ t
new_apart m s t x new e f = let c : None ≡ Some x = sym new ∙ ap (get m) f ∙ e in cc

-- members

pub in_left : (s : ℕ) (xs ys : List ℕ) → IsIn s xs → IsIn s (xs ++ ys)
in_left s [] ys i = absurd i
in_left s (x ∷ xs) ys (inl e) = inl e
in_left s (x ∷ xs) ys (inr i) = inr (in_left s xs ys i)

pub in_right : (s : ℕ) (xs ys : List ℕ) → IsIn s ys → IsIn s (xs ++ ys)
in_right s [] ys i = i
in_right s (x ∷ xs) ys i = inr (in_right s xs ys i)

pub in_either : (s : ℕ) (xs ys : List ℕ) → IsIn s (xs ++ ys) → IsIn s xs ⊎ IsIn s ys
in_either s [] ys i = inr i
in_either s (x ∷ xs) ys (inl e) = inl (inl e)
in_either s (x ∷ xs) ys (inr i) = go (in_either s xs ys i) where
  go : IsIn s xs ⊎ IsIn s ys → IsIn s (x ∷ xs) ⊎ IsIn s ys
  go (inl j) = inl (inr j)
  go (inr j) = inr j

pub in_middle : (xs : List ℕ) (s : ℕ) (ys : List ℕ) → IsIn s (xs ++ s ∷ ys)
in_middle xs s ys = in_right s xs (s ∷ ys) (inl refl)

-- a list is cut at one of its slots
pub cut_at : (ss : List ℕ) (s : ℕ) → IsIn s ss → (xs ys : List ℕ) × (ss ≡ xs ++ s ∷ ys)
cut_at [] s i = absurd i
cut_at (t ∷ ss) s (inl e) = ([], ss, ap (λ k. k ∷ ss) (sym e))
cut_at (t ∷ ss) s (inr i) = let r = cut_at ss s i in (t ∷ r.0, r.1, ap (λ l. t ∷ l) r.2)

-- a list without one of its slots

pub in_without : (s t : ℕ) (xs ys : List ℕ) → IsIn s (xs ++ ys) → IsIn s (xs ++ t ∷ ys)
in_without s t [] ys i = inr i
in_without s t (x ∷ xs) ys (inl e) = inl e
in_without s t (x ∷ xs) ys (inr i) = inr (in_without s t xs ys i)

pub in_but : (s t : ℕ) (xs ys : List ℕ) → s ≢ t → IsIn s (xs ++ t ∷ ys) → IsIn s (xs ++ ys)
in_but s t [] ys ne (inl e) = absurd (ne e)
in_but s t [] ys ne (inr i) = i
in_but s t (x ∷ xs) ys ne (inl e) = inl e
in_but s t (x ∷ xs) ys ne (inr i) = inr (in_but s t xs ys ne i)

-- distinct slots

pub distinct_right : (xs ys : List ℕ) → IsDistinct (xs ++ ys) → IsDistinct ys
distinct_right [] ys d = d
distinct_right (x ∷ xs) ys d = distinct_right xs ys d.1

-- a slot is on neither side of itself
pub not_before : (xs : List ℕ) (t : ℕ) (ys : List ℕ) → IsDistinct (xs ++ t ∷ ys) → ¬ IsIn t xs
not_before [] t ys d i = i
not_before (x ∷ xs) t ys d (inl e) = d.0 (subst (λ k. IsIn k (xs ++ t ∷ ys)) e (in_middle xs t ys))
not_before (x ∷ xs) t ys d (inr i) = not_before xs t ys d.1 i

pub not_after : (xs : List ℕ) (t : ℕ) (ys : List ℕ) → IsDistinct (xs ++ t ∷ ys) → ¬ IsIn t ys
not_after xs t ys d = (distinct_right xs (t ∷ ys) d).0

pub not_left : (xs : List ℕ) (t : ℕ) (ys : List ℕ) → IsDistinct (xs ++ t ∷ ys) → ¬ IsIn t (xs ++ ys)
not_left xs t ys d i = go (in_either t xs ys i) where
  go : IsIn t xs ⊎ IsIn t ys → ⊥
  go (inl j) = not_before xs t ys d j
  go (inr j) = not_after xs t ys d j

pub distinct_without : (xs : List ℕ) (t : ℕ) (ys : List ℕ) → IsDistinct (xs ++ t ∷ ys) → IsDistinct (xs ++ ys)
distinct_without [] t ys d = d.1
distinct_without (x ∷ xs) t ys d = (λ i. d.0 (in_without x t xs ys i), distinct_without xs t ys d.1)

pub distinct_push : (ss : List ℕ) (t : ℕ) → IsDistinct ss → ¬ IsIn t ss → IsDistinct (ss ++ t ∷ [])
distinct_push [] t d o = (λ i. i, tt)
distinct_push (s ∷ ss) t d o = (λ i. go (in_either s ss (t ∷ []) i), distinct_push ss t d.1 (λ i. o (inr i))) where
  go : IsIn s ss ⊎ IsIn s (t ∷ []) → ⊥
  go (inl j) = d.0 j
  go (inr (inl e)) = o (inl (sym e))
  go (inr (inr j)) = j

-- a slot has one place among distinct slots
pub one_place : (xs ys us vs : List ℕ) (s : ℕ) → IsDistinct (xs ++ s ∷ ys) → xs ++ s ∷ ys ≡ us ++ s ∷ vs → (xs ≡ us) × (ys ≡ vs)
one_place [] ys [] vs s d e = let f : ys ≡ vs = cc e in (refl, f)
one_place [] ys (u ∷ us) vs s d e = let f : ys ≡ us ++ s ∷ vs = cc e in absurd (d.0 (subst (IsIn s) (sym f) (in_middle us s vs)))
one_place (x ∷ xs) ys [] vs s d e = let f : x ≡ s = cc e in absurd (d.0 (subst (λ k. IsIn k (xs ++ s ∷ ys)) (sym f) (in_middle xs s ys)))
one_place (x ∷ xs) ys (u ∷ us) vs s d e =
    let f : x ≡ u = cc e in let g : xs ++ s ∷ ys ≡ us ++ s ∷ vs = cc e in let r = one_place xs ys us vs s d.1 g in (λ i. f i ∷ r.0 i, r.1)

pub positive : {T : Type 0} (m : FinMap nat_cmp T) (s : ℕ) → contains_key m s ≡ true → 0 < len m
positive m s h = go (cases_eq (len m) 0) where
  go : (len m ≡ 0) ⊎ (len m ≡ 0 → ⊥) → 0 < len m
  go (inl e) = let f : false ≡ true = sym (ap is_some (ap (λ k. get k s) (empty_of_len m e) ∙ get-empty nat_cmp s)) ∙ h in cc
  go (inr ne) = omega (arith, ne)

-- distinct slots that hold values are no more than the values
pub pigeon : {T : Type 0} (ss : List ℕ) (m : FinMap nat_cmp T) → IsDistinct ss → ((s : ℕ) → IsIn s ss → is_some (get m s) ≡ true) → length ss ≤ len m
pigeon [] m d all = omega arith
pigeon (s ∷ ss) m d all =
    let here : contains_key m s ≡ true = all s (inl refl) in
    let less : len (remove m s) ≡ len m - 1 = len-remove nat_cmp_total m s ∙ ap (λ b. cond b (len m - 1) (len m)) here in
    let some : 0 < len m = positive m s here in
    let rest = pigeon ss (remove m s) d.1 (λ t i. ap is_some (removed_off m s t (λ e. d.0 (subst (λ k. IsIn k ss) e i))) ∙ all t (inr i)) in
    omega (arith, rest, less, some)

-- the first and the last slot

pub first-append : (a : Option ℕ) (xs ys : List ℕ) → first_or a (xs ++ ys) ≡ first_or (first_or a ys) xs
first-append a [] ys = refl
first-append a (x ∷ xs) ys = refl

pub last-append : (b : Option ℕ) (xs ys : List ℕ) → last_or b (xs ++ ys) ≡ last_or (last_or b xs) ys
last-append b [] ys = refl
last-append b (x ∷ xs) ys = last-append (Some x) xs ys

-- what follows the first slot doesn't change it
pub first_some : (us : List ℕ) (t : ℕ) (zs ws : List ℕ) → first_or None ((us ++ t ∷ []) ++ zs) ≡ first_or None ((us ++ t ∷ []) ++ ws)
first_some [] t zs ws = refl
first_some (u ∷ us) t zs ws = refl

-- a list is empty, or it has a last slot
pub last_view : (b : Option ℕ) (ss : List ℕ) → ((ss ≡ []) × (last_or b ss ≡ b)) ⊎ ((xs : List ℕ) × (t : ℕ) × (ss ≡ xs ++ t ∷ []) × (last_or b ss ≡ Some t))
last_view b [] = inl (refl, refl)
last_view b (s ∷ ss) = go (last_view (Some s) ss) where
  go : ((ss ≡ []) × (last_or (Some s) ss ≡ Some s)) ⊎ ((xs : List ℕ) × (t : ℕ) × (ss ≡ xs ++ t ∷ []) × (last_or (Some s) ss ≡ Some t))
      → ((s ∷ ss ≡ []) × (last_or (Some s) ss ≡ b)) ⊎ ((xs : List ℕ) × (t : ℕ) × (s ∷ ss ≡ xs ++ t ∷ []) × (last_or (Some s) ss ≡ Some t))
  go (inl e) = inr ([], s, ap (λ l. s ∷ l) e.0, e.1)
  go (inr r) = inr (s ∷ r.0, r.1, ap (λ l. s ∷ l) r.2, r.3)

pub empty_last : (xs : List ℕ) → last_or None xs ≡ None → xs ≡ []
empty_last xs e = go (last_view None xs) where
  go : ((xs ≡ []) × (last_or None xs ≡ None)) ⊎ ((us : List ℕ) × (t : ℕ) × (xs ≡ us ++ t ∷ []) × (last_or None xs ≡ Some t)) → xs ≡ []
  go (inl n) = n.0
  go (inr r) = let f : Some r.1 ≡ None = sym r.3 ∙ e in cc

pub some_last : (xs : List ℕ) (t : ℕ) → last_or None xs ≡ Some t → (us : List ℕ) × (xs ≡ us ++ t ∷ [])
some_last xs t e = go (last_view None xs) where
  go : ((xs ≡ []) × (last_or None xs ≡ None)) ⊎ ((us : List ℕ) × (t : ℕ) × (xs ≡ us ++ t ∷ []) × (last_or None xs ≡ Some t)) → (us : List ℕ) × (xs ≡ us ++ t ∷ [])
  go (inl n) = let f : Some t ≡ None = sym e ∙ n.1 in cc
  go (inr r) = let f : r.1 ≡ t = cc (r.3, e) in (r.0, r.2 ∙ ap (λ k. r.0 ++ k ∷ []) f)

pub empty_first : (ys : List ℕ) → first_or None ys ≡ None → ys ≡ []
empty_first [] e = refl
empty_first (y ∷ ys) e = cc

pub some_first : (ys : List ℕ) (u : ℕ) → first_or None ys ≡ Some u → (vs : List ℕ) × (ys ≡ u ∷ vs)
some_first [] u e = cc
some_first (y ∷ ys) u e = let f : y ≡ u = cc e in (ys, ap (λ k. k ∷ ys) f)
