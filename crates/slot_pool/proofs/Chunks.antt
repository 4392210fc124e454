-- A write to one place keeps the record of which places hold a value.
use Rattle.std.proofs.Common.{◌≡◌, ◌+◌, ◌<◌, ℕ, zero, suc, Bool, true, false, List, [], ◌∷◌, map, set, get_or, length, replicate, Option, Some, None, is_some, refl, sym, ap, ◌∙◌, arith}
use Rattle.std.proofs.lemmas.List.{get_or_default, length-map, map-set, ext_get_or, get_or-replicate, length-replicate}
use borrow.Author.Count.{below_more}
use Rattle.slot_pool.specs.Held.{IsHeld}

module _ {T : Type 0} where
  pub filled_set : (cs : List (Option T)) (fs : List Bool) (i : ℕ) (c : Option T) → fs ≡ map is_some cs → set fs i (is_some c) ≡ map is_some (set cs i c)
  filled_set cs fs i c e = ap (λ l. set l i (is_some c)) e ∙ sym (map-set is_some cs i c)

  pub filled_same : (cs : List (Option T)) (i : ℕ) (x w : T) → get_or cs i None ≡ Some x → map is_some (set cs i (Some w)) ≡ map is_some cs
  filled_same [] i x w e = refl
  filled_same (c ∷ cs) zero x w e = ap (λ o. is_some o ∷ map is_some cs) (sym e)
  filled_same (c ∷ cs) (suc i) x w e = ap (λ l. is_some c ∷ l) (filled_same cs i x w e)

  set_none : (cs : List (Option T)) (i k : ℕ) → get_or cs k None ≡ None → get_or (set cs i None) k None ≡ None
  set_none [] i k e = e
  set_none (c ∷ cs) zero zero e = refl
  set_none (c ∷ cs) zero (suc k) e = e
  set_none (c ∷ cs) (suc i) zero e = e
  set_none (c ∷ cs) (suc i) (suc k) e = set_none cs i k e

  set_none_here : (cs : List (Option T)) (i : ℕ) → get_or (set cs i None) i None ≡ None
  set_none_here [] i = refl
  set_none_here (c ∷ cs) zero = refl
  set_none_here (c ∷ cs) (suc i) = set_none_here cs i

  pub filled_at : (cs : List (Option T)) (fs : List Bool) (i : ℕ) → fs ≡ map is_some cs → get_or fs i false ≡ true → IsHeld cs i
  filled_at cs fs i e h = go cs i (ap (λ l. get_or l i false) (sym e) ∙ h) where
    go : (cs : List (Option T)) (i : ℕ) → get_or (map is_some cs) i false ≡ true → IsHeld cs i
    go [] i h = cc
    go (Some x ∷ cs) zero h = (x, refl)
    go (None ∷ cs) zero h = cc
    go (c ∷ cs) (suc i) h = go cs i h

  pub empty_at : (cs : List (Option T)) (fs : List Bool) (i : ℕ) → fs ≡ map is_some cs → get_or fs i false ≡ false → get_or cs i None ≡ None
  empty_at cs fs i e h = go cs i (ap (λ l. get_or l i false) (sym e) ∙ h) where
    go : (cs : List (Option T)) (i : ℕ) → get_or (map is_some cs) i false ≡ false → get_or cs i None ≡ None
    go [] i h = refl
    go (Some x ∷ cs) zero h = cc
    go (None ∷ cs) zero h = refl
    go (c ∷ cs) (suc i) h = go cs i h

  pub all_empty : (cs : List (Option T)) (n : ℕ) → length cs ≡ n → ((k : ℕ) → k < n → get_or cs k None ≡ None) → cs ≡ replicate n None
  all_empty cs n long none =
      ext_get_or None cs (replicate n None) (long ∙ sym (length-replicate n None)) (λ k lt. none k (omega arith) ∙ sym (get_or-replicate n k None None (omega arith)))

  pub taken_more : (cs : List (Option T)) (n : ℕ) → ((k : ℕ) → k < n → get_or cs k None ≡ None) → (k : ℕ) → k < n + 1 → get_or (set cs n None) k None ≡ None
  taken_more cs n none = below_more (λ k. get_or (set cs n None) k None ≡ None) n (λ k lt. set_none cs n k (none k lt)) (set_none_here cs n)

  -- the mark of a place, as it is read
  pub mark_at : (cs : List (Option T)) (fs : List Bool) (i : ℕ) (r : Bool) → fs ≡ map is_some cs → length cs ≡ 256 → i < 256 → r ≡ get_or fs i r → get_or fs i false ≡ r
  mark_at cs fs i r e long lt is = get_or_default fs i false r (omega (arith, ap length e, length-map cs is_some, long)) ∙ sym is

-- a chunk of empty places has no mark
pub none_filled : (T : Type 0) (n : ℕ) → replicate n false ≡ map is_some (replicate {A = Option T} n None)
none_filled T zero = refl
none_filled T (suc n) = ap (λ l. false ∷ l) (none_filled T n)
