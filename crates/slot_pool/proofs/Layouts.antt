-- The places of a pool as a map, and the steps that keep its list of empty places.
use Rattle.std.proofs.Common.{◌≡◌, ◌≢◌, ◌+◌, ◌*◌, ◌<◌, ◌++◌, ◌⊎◌, inl, inr, ℕ, zero, suc, true, false, cond, List, [], ◌∷◌, set, get_or, length, replicate, Option, Some, None, is_some, refl, sym, ap, ◌∙◌, subst, arith, length-append, length-set, append_assoc, add-one}
use Rattle.std.proofs.lemmas.List.{append-nil, length-replicate, get_or_append_left, set-append_left, get_or-append-add}
use Rattle.std.proofs.lemmas.Bool.{cases_eq}
use Rattle.std.specs.Ordering.{nat_cmp, eq_by_cmp}
use Rattle.std.specs.Cmp.{nat_cmp_total, unsigned_tied}
use Rattle.std.specs.FinMap.{FinMap, empty, insert, remove, get, len, contains_key, get-empty, get-insert, get-remove, len-empty, len-insert, same_map, nat_cmp-IsAntisymmetric}
use Rattle.slot_pool.specs.Layout.{hit, count, AreWhole, places_of, map_from, numbers, vacancy, used, Lists}

pub hit_self : (i : ℕ) → hit i i ≡ 1
hit_self zero = refl
hit_self (suc i) = hit_self i

pub count-push : (vs : List ℕ) (v j : ℕ) → count (vs ++ v ∷ []) j ≡ count vs j + hit v j
count-push [] v j = omega arith
count-push (u ∷ vs) v j = omega (arith, count-push vs v j)

pub tied_self : (k : ℕ) → eq_by_cmp nat_cmp k k ≡ true
tied_self k = unsigned_tied k k ∙ grind (arith)

tied_other : (q k : ℕ) → q ≢ k → eq_by_cmp nat_cmp q k ≡ false
tied_other q k ne = unsigned_tied q k ∙ grind (arith)

module _ {T : Type 0} where
  -- the values of a map

  pub get_below : (j : ℕ) (cs : List (Option T)) (q : ℕ) → q < j → get (map_from j cs) q ≡ None
  get_below j [] q lt = get-empty nat_cmp q
  get_below j (None ∷ cs) q lt = get_below (j + 1) cs q (omega arith)
  get_below j (Some x ∷ cs) q lt =
      get-insert nat_cmp_total (map_from (j + 1) cs) j x q ∙ ap (λ b. cond b (Some x) (get (map_from (j + 1) cs) q)) (tied_other q j (λ e. absurd (omega arith))) ∙ get_below (j + 1) cs q (omega arith)

  pub get-map_from : (j : ℕ) (cs : List (Option T)) (k q : ℕ) → q ≡ j + k → get (map_from j cs) q ≡ get_or cs k None
  get-map_from j [] k q e = get-empty nat_cmp q
  get-map_from j (None ∷ cs) zero q e = get_below (j + 1) cs q (omega arith)
  get-map_from j (None ∷ cs) (suc k) q e = get-map_from (j + 1) cs k q (omega arith)
  get-map_from j (Some x ∷ cs) zero q e =
      let same : q ≡ j = omega arith in
      get-insert nat_cmp_total (map_from (j + 1) cs) j x q ∙ ap (λ b. cond b (Some x) (get (map_from (j + 1) cs) q)) (ap (λ i. eq_by_cmp nat_cmp i j) same ∙ tied_self j)
  get-map_from j (Some x ∷ cs) (suc k) q e =
      get-insert nat_cmp_total (map_from (j + 1) cs) j x q ∙ ap (λ b. cond b (Some x) (get (map_from (j + 1) cs) q)) (tied_other q j (λ i. absurd (omega arith)))
      ∙ get-map_from (j + 1) cs k q (omega arith)

  pub get-map : (cs : List (Option T)) (k : ℕ) → get (map_from 0 cs) k ≡ get_or cs k None
  get-map cs k = get-map_from 0 cs k k (omega arith)

  pub len-map_from : (j : ℕ) (cs : List (Option T)) → len (map_from j cs) ≡ used cs
  len-map_from j [] = len-empty nat_cmp T
  len-map_from j (None ∷ cs) = len-map_from (j + 1) cs
  len-map_from j (Some x ∷ cs) =
      let new : contains_key (map_from (j + 1) cs) j ≡ false = ap is_some (get_below (j + 1) cs j (omega arith)) in
      len-insert nat_cmp_total (map_from (j + 1) cs) j x ∙ ap (λ b. cond b (len (map_from (j + 1) cs)) (len (map_from (j + 1) cs) + 1)) new ∙ omega (arith, len-map_from (j + 1) cs)

  same : (m n : FinMap nat_cmp T) → ((q : ℕ) → get m q ≡ get n q) → m ≡ n
  same = same_map nat_cmp_total nat_cmp-IsAntisymmetric

  pub get_here : (m : FinMap nat_cmp T) (t : ℕ) (w : T) → get (insert m t w) t ≡ Some w
  get_here m t w = get-insert nat_cmp_total m t w t ∙ ap (λ b. cond b (Some w) (get m t)) (tied_self t)

  -- reads after a write

  pub get_or-set_at : (cs : List (Option T)) (i : ℕ) (c : Option T) → i < length cs → get_or (set cs i c) i None ≡ c
  get_or-set_at [] i c lt = absurd (omega arith)
  get_or-set_at (d ∷ cs) zero c lt = refl
  get_or-set_at (d ∷ cs) (suc i) c lt = get_or-set_at cs i c (omega arith)

  pub get_or-set_off : (cs : List (Option T)) (i j : ℕ) (c : Option T) → j ≢ i → get_or (set cs i c) j None ≡ get_or cs j None
  get_or-set_off [] i j c ne = refl
  get_or-set_off (d ∷ cs) zero zero c ne = absurd (ne refl)
  get_or-set_off (d ∷ cs) zero (suc j) c ne = refl
  get_or-set_off (d ∷ cs) (suc i) zero c ne = refl
  get_or-set_off (d ∷ cs) (suc i) (suc j) c ne = get_or-set_off cs i j c (λ e. ne (ap suc e))

  pub map-put : (cs : List (Option T)) (i : ℕ) (x : T) → i < length cs → map_from 0 (set cs i (Some x)) ≡ insert (map_from 0 cs) i x
  map-put cs i x lt = same _ _ (λ q. get-map (set cs i (Some x)) q ∙ at q (cases_eq q i) ∙ sym (get-insert nat_cmp_total (map_from 0 cs) i x q)) where
    at : (q : ℕ) → (q ≡ i) ⊎ (q ≡ i → ⊥) → get_or (set cs i (Some x)) q None ≡ cond (eq_by_cmp nat_cmp q i) (Some x) (get (map_from 0 cs) q)
    at q (inl e) = ap (λ k. get_or (set cs i (Some x)) k None) e ∙ get_or-set_at cs i (Some x) lt ∙ sym (ap (λ b. cond b (Some x) (get (map_from 0 cs) q)) (ap (λ k. eq_by_cmp nat_cmp k i) e ∙ tied_self i))
    at q (inr ne) = get_or-set_off cs i q (Some x) ne ∙ sym (get-map cs q) ∙ sym (ap (λ b. cond b (Some x) (get (map_from 0 cs) q)) (tied_other q i ne))

  pub map-take : (cs : List (Option T)) (i : ℕ) → i < length cs → map_from 0 (set cs i None) ≡ remove (map_from 0 cs) i
  map-take cs i lt = same _ _ (λ q. get-map (set cs i None) q ∙ at q (cases_eq q i) ∙ sym (get-remove nat_cmp_total (map_from 0 cs) i q)) where
    at : (q : ℕ) → (q ≡ i) ⊎ (q ≡ i → ⊥) → get_or (set cs i None) q None ≡ cond (eq_by_cmp nat_cmp q i) None (get (map_from 0 cs) q)
    at q (inl e) = ap (λ k. get_or (set cs i None) k None) e ∙ get_or-set_at cs i None lt ∙ sym (ap (λ b. cond b None (get (map_from 0 cs) q)) (ap (λ k. eq_by_cmp nat_cmp k i) e ∙ tied_self i))
    at q (inr ne) = get_or-set_off cs i q None ne ∙ sym (get-map cs q) ∙ sym (ap (λ b. cond b None (get (map_from 0 cs) q)) (tied_other q i ne))

  map_from-replicate : (n j : ℕ) → map_from {T = T} j (replicate n None) ≡ empty
  map_from-replicate zero j = refl
  map_from-replicate (suc n) j = map_from-replicate n (j + 1)

  grown : (n : ℕ) (cs : List (Option T)) (j : ℕ) → map_from j (cs ++ replicate n None) ≡ map_from j cs
  grown n [] j = map_from-replicate n j
  grown n (None ∷ cs) j = grown n cs (j + 1)
  grown n (Some x ∷ cs) j = ap (λ m. insert m j x) (grown n cs (j + 1))

  pub map-grow : (cs : List (Option T)) (n : ℕ) → map_from 0 (cs ++ replicate n None) ≡ map_from 0 cs
  map-grow cs n = grown n cs 0

  -- the list of empty places

  pub vacancy_of : (cs : List (Option T)) (i : ℕ) → 0 < vacancy cs i → (i < length cs) × (get_or cs i None ≡ None)
  vacancy_of [] i lt = absurd (omega arith)
  vacancy_of (None ∷ cs) zero lt = (omega arith, refl)
  vacancy_of (Some x ∷ cs) zero lt = absurd (omega arith)
  vacancy_of (None ∷ cs) (suc i) lt = let r = vacancy_of cs i lt in (omega (arith, r.0), r.1)
  vacancy_of (Some x ∷ cs) (suc i) lt = let r = vacancy_of cs i lt in (omega (arith, r.0), r.1)

  pub vacancy-put : (cs : List (Option T)) (i j : ℕ) (x : T) → i < length cs → get_or cs i None ≡ None → vacancy (set cs i (Some x)) j + hit i j ≡ vacancy cs j
  vacancy-put [] i j x lt e = absurd (omega arith)
  vacancy-put (None ∷ cs) zero zero x lt e = refl
  vacancy-put (Some y ∷ cs) zero j x lt e = cc
  vacancy-put (None ∷ cs) zero (suc j) x lt e = omega arith
  vacancy-put (None ∷ cs) (suc i) zero x lt e = refl
  vacancy-put (Some y ∷ cs) (suc i) zero x lt e = refl
  vacancy-put (None ∷ cs) (suc i) (suc j) x lt e = vacancy-put cs i j x (omega arith) e
  vacancy-put (Some y ∷ cs) (suc i) (suc j) x lt e = vacancy-put cs i j x (omega arith) e

  pub vacancy-take : (cs : List (Option T)) (i j : ℕ) (x : T) → get_or cs i None ≡ Some x → vacancy (set cs i None) j ≡ vacancy cs j + hit i j
  vacancy-take [] i j x e = cc
  vacancy-take (Some y ∷ cs) zero zero x e = refl
  vacancy-take (Some y ∷ cs) zero (suc j) x e = omega arith
  vacancy-take (None ∷ cs) zero j x e = cc
  vacancy-take (None ∷ cs) (suc i) zero x e = refl
  vacancy-take (Some y ∷ cs) (suc i) zero x e = refl
  vacancy-take (None ∷ cs) (suc i) (suc j) x e = vacancy-take cs i j x e
  vacancy-take (Some y ∷ cs) (suc i) (suc j) x e = vacancy-take cs i j x e

  vacancy-grow : (cs : List (Option T)) (j : ℕ) → vacancy (cs ++ None ∷ []) j ≡ vacancy cs j + hit (length cs) j
  vacancy-grow [] zero = refl
  vacancy-grow [] (suc j) = refl
  vacancy-grow (None ∷ cs) zero = refl
  vacancy-grow (Some x ∷ cs) zero = refl
  vacancy-grow (None ∷ cs) (suc j) = vacancy-grow cs j
  vacancy-grow (Some x ∷ cs) (suc j) = vacancy-grow cs j

  pub used-put : (cs : List (Option T)) (i : ℕ) (x : T) → i < length cs → get_or cs i None ≡ None → used (set cs i (Some x)) ≡ used cs + 1
  used-put [] i x lt e = absurd (omega arith)
  used-put (None ∷ cs) zero x lt e = omega arith
  used-put (Some y ∷ cs) zero x lt e = cc
  used-put (None ∷ cs) (suc i) x lt e = used-put cs i x (omega arith) e
  used-put (Some y ∷ cs) (suc i) x lt e = omega (arith, used-put cs i x (omega arith) e)

  pub used-take : (cs : List (Option T)) (i : ℕ) (x : T) → get_or cs i None ≡ Some x → used (set cs i None) + 1 ≡ used cs
  used-take [] i x e = cc
  used-take (Some y ∷ cs) zero x e = omega arith
  used-take (None ∷ cs) zero x e = cc
  used-take (None ∷ cs) (suc i) x e = used-take cs i x e
  used-take (Some y ∷ cs) (suc i) x e = omega (arith, used-take cs i x e)

  used-grow : (cs : List (Option T)) → used (cs ++ None ∷ []) ≡ used cs
  used-grow [] = refl
  used-grow (None ∷ cs) = used-grow cs
  used-grow (Some x ∷ cs) = ap suc (used-grow cs)

  -- the last of the list is empty, and may be filled
  pub last_vacant : (cs : List (Option T)) (vs : List ℕ) (v : ℕ) → Lists cs (vs ++ v ∷ []) → (v < length cs) × (get_or cs v None ≡ None)
  last_vacant cs vs v l = vacancy_of cs v (omega (arith, l.each v, count-push vs v v, hit_self v))

  pub Lists-put : (cs : List (Option T)) (vs : List ℕ) (v : ℕ) (x : T) → Lists cs (vs ++ v ∷ []) → Lists (set cs v (Some x)) vs
  Lists-put cs vs v x l =
      let at = last_vacant cs vs v l in record {
        each = λ j. omega (arith, l.each j, count-push vs v j, vacancy-put cs v j x at.0 at.1);
        total = omega (arith, l.total, used-put cs v x at.0 at.1, length-append vs (v ∷ []), length-set cs v (Some x));
      }

  pub Lists-take : (cs : List (Option T)) (vs : List ℕ) (i : ℕ) (x : T) → Lists cs vs → get_or cs i None ≡ Some x → Lists (set cs i None) (vs ++ i ∷ [])
  Lists-take cs vs i x l e = record {
    each = λ j. omega (arith, l.each j, count-push vs i j, vacancy-take cs i j x e);
    total = omega (arith, l.total, used-take cs i x e, length-append vs (i ∷ []), length-set cs i None);
  }

  vacancy-write : (cs : List (Option T)) (i j : ℕ) (x w : T) → get_or cs i None ≡ Some x → vacancy (set cs i (Some w)) j ≡ vacancy cs j
  vacancy-write [] i j x w e = refl
  vacancy-write (Some y ∷ cs) zero zero x w e = refl
  vacancy-write (Some y ∷ cs) zero (suc j) x w e = refl
  vacancy-write (None ∷ cs) zero j x w e = cc
  vacancy-write (None ∷ cs) (suc i) zero x w e = refl
  vacancy-write (Some y ∷ cs) (suc i) zero x w e = refl
  vacancy-write (None ∷ cs) (suc i) (suc j) x w e = vacancy-write cs i j x w e
  vacancy-write (Some y ∷ cs) (suc i) (suc j) x w e = vacancy-write cs i j x w e

  used-write : (cs : List (Option T)) (i : ℕ) (x w : T) → get_or cs i None ≡ Some x → used (set cs i (Some w)) ≡ used cs
  used-write [] i x w e = refl
  used-write (Some y ∷ cs) zero x w e = refl
  used-write (None ∷ cs) zero x w e = cc
  used-write (None ∷ cs) (suc i) x w e = used-write cs i x w e
  used-write (Some y ∷ cs) (suc i) x w e = ap suc (used-write cs i x w e)

  pub Lists-write : (cs : List (Option T)) (vs : List ℕ) (i : ℕ) (x w : T) → Lists cs vs → get_or cs i None ≡ Some x → Lists (set cs i (Some w)) vs
  Lists-write cs vs i x w l e = record { each = λ j. l.each j ∙ sym (vacancy-write cs i j x w e); total = omega (arith, l.total, used-write cs i x w e, length-set cs i (Some w)) }

  pub Lists-grow : (cs : List (Option T)) (vs : List ℕ) (n : ℕ) → n ≡ length cs → Lists cs vs → Lists (cs ++ None ∷ []) (vs ++ n ∷ [])
  Lists-grow cs vs n e l = record {
    each = λ j. count-push vs n j ∙ ap (λ k. count vs j + hit k j) e ∙ ap (λ k. k + hit (length cs) j) (l.each j) ∙ sym (vacancy-grow cs j);
    total = omega (arith, l.total, used-grow cs, length-append vs (n ∷ []), length-append cs (None ∷ []));
  }

  -- a place among the chunks

  pub length-places_of : (css : List (List (Option T))) → AreWhole css → length (places_of css) ≡ length css * 256
  length-places_of [] w = refl
  length-places_of (c ∷ css) w = omega (arith, length-append c (places_of css), w.0, length-places_of css w.1)

  pub get_or-places_of : (css : List (List (Option T))) (q r i : ℕ) → AreWhole css → r < 256 → i ≡ q * 256 + r → get_or (places_of css) i None ≡ get_or (get_or css q []) r None
  get_or-places_of [] q r i w lt e = refl
  get_or-places_of (c ∷ css) zero r i w lt e =
      let here : i ≡ r = omega arith in ap (λ k. get_or (c ++ places_of css) k None) here ∙ get_or_append_left c (places_of css) None r (omega (arith, w.0))
  get_or-places_of (c ∷ css) (suc q) r i w lt e =
      let there : i ≡ length c + (q * 256 + r) = omega (arith, w.0) in
      ap (λ k. get_or (c ++ places_of css) k None) there ∙ get_or-append-add c (places_of css) (q * 256 + r) None ∙ get_or-places_of css q r (q * 256 + r) w.1 lt refl

  set-append_right : (xs ys : List (Option T)) (i : ℕ) (c : Option T) → set (xs ++ ys) (length xs + i) c ≡ xs ++ set ys i c
  set-append_right [] ys i c = ap (λ k. set ys k c) (omega arith)
  set-append_right (x ∷ xs) ys i c = let e : length (x ∷ xs) + i ≡ suc (length xs + i) = omega arith in
      ap (λ k. set (x ∷ xs ++ ys) k c) e ∙ ap (λ l. x ∷ l) (set-append_right xs ys i c)

  pub set-places_of : (css : List (List (Option T))) (q r i : ℕ) (c : Option T) → AreWhole css → r < 256 → i ≡ q * 256 + r → places_of (set css q (set (get_or css q []) r c)) ≡ set (places_of css) i c
  set-places_of [] q r i c w lt e = refl
  set-places_of (d ∷ css) zero r i c w lt e =
      let here : i ≡ r = omega arith in sym (ap (λ k. set (d ++ places_of css) k c) here ∙ set-append_left d (places_of css) r c (omega (arith, w.0)))
  set-places_of (d ∷ css) (suc q) r i c w lt e =
      let there : i ≡ length d + (q * 256 + r) = omega (arith, w.0) in
      ap (λ l. d ++ l) (set-places_of css q r (q * 256 + r) c w.1 lt refl) ∙ sym (ap (λ k. set (d ++ places_of css) k c) there ∙ set-append_right d (places_of css) (q * 256 + r) c)

  pub AreWhole-set : (css : List (List (Option T))) (q : ℕ) (r : ℕ) (c : Option T) → AreWhole css → AreWhole (set css q (set (get_or css q []) r c))
  AreWhole-set [] q r c w = w
  AreWhole-set (d ∷ css) zero r c w = (length-set d r c ∙ w.0, w.1)
  AreWhole-set (d ∷ css) (suc q) r c w = (w.0, AreWhole-set css q r c w.1)

  pub places_of-push : (css : List (List (Option T))) (d : List (Option T)) → places_of (css ++ d ∷ []) ≡ places_of css ++ d
  places_of-push [] d = go d where
    go : (d : List (Option T)) → d ++ [] ≡ d
    go [] = refl
    go (x ∷ d) = ap (λ l. x ∷ l) (go d)
  places_of-push (c ∷ css) d = ap (λ l. c ++ l) (places_of-push css d) ∙ sym (append_assoc c (places_of css) d)

  pub AreWhole-push : (css : List (List (Option T))) (d : List (Option T)) → AreWhole css → length d ≡ 256 → AreWhole (css ++ d ∷ [])
  AreWhole-push [] d w e = (e, tt)
  AreWhole-push (c ∷ css) d w e = (w.0, AreWhole-push css d w.1 e)

  replicate-more : (n : ℕ) → replicate {A = Option T} (suc n) None ≡ replicate n None ++ None ∷ []
  replicate-more zero = refl
  replicate-more (suc n) = ap (λ l. None ∷ l) (replicate-more n)

  pub Lists-grown : (cs : List (Option T)) (vs : List ℕ) (n a : ℕ) → a ≡ length cs → Lists cs vs → Lists (cs ++ replicate n None) (vs ++ numbers a n)
  unfolding numbers
  Lists-grown cs vs zero a e l = subst (λ v. Lists (cs ++ []) v) (sym (append-nil vs)) (subst (λ c. Lists c vs) (sym (append-nil cs)) l)
  Lists-grown cs vs (suc n) a e l =
      let so_far = Lists-grown cs vs n a e l in
      let long : a + n ≡ length (cs ++ replicate n None) = omega (arith, length-append cs (replicate n None), length-replicate {A = Option T} n None) in
      subst (λ v. Lists (cs ++ replicate (suc n) None) v) (append_assoc vs (numbers a n) ((a + n) ∷ []))
      (subst (λ c. Lists c (vs ++ numbers a n ++ (a + n) ∷ [])) (append_assoc cs (replicate n None) (None ∷ []) ∙ ap (λ l. cs ++ l) (sym (replicate-more n)))
      (Lists-grow (cs ++ replicate n None) (vs ++ numbers a n) (a + n) long so_far))

pub numbers-none : (a : ℕ) → numbers a 0 ≡ []
unfolding numbers
numbers-none a = refl

pub numbers-more : (a n : ℕ) → numbers a (n + 1) ≡ numbers a n ++ (a + n) ∷ []
unfolding numbers
numbers-more a n = ap (numbers a) (add-one n)

pub length-numbers : (a n : ℕ) → length (numbers a n) ≡ n
unfolding numbers
length-numbers a zero = refl
length-numbers a (suc n) = omega (arith, length-append (numbers a n) ((a + n) ∷ []), length-numbers a n)
