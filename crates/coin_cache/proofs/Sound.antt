-- A step on one entry keeps the entries of a cache sound.
use Rattle.std.proofs.Common.{◌≡◌, ◌≢◌, ◌⊎◌, inl, inr, ◌++◌, ℕ, Bool, true, false, List, [], ◌∷◌, Option, Some, None, refl, sym, ap, ◌∙◌, subst}
use Rattle.std.specs.Prelude.{IfSome}
use Rattle.std.specs.Ordering.{nat_cmp}
use Rattle.std.specs.FinMap.{FinMap, get, empty, insert, remove}
use Rattle.std.proofs.lemmas.Bool.{cases_eq}
use Rattle.slot_pool.specs.Slots.{IsIn, IsDistinct}
use Rattle.slot_pool.proofs.SlotLaws.{get_here, get_off, removed_here, removed_off, in_left, in_either, in_middle, in_without, in_but, not_left, distinct_push, distinct_without}
use Rattle.base_types.specs.Coins.{CoinFits}
use Rattle.base_types.specs.Keys.{outpoint_cmp}
use Rattle.base_types.specs.declared.coin.Coin.{Coin}
use Rattle.base_types.specs.declared.hash.OutPoint.{OutPoint}
use Rattle.coin_index.proofs.IndexLaws.{found_here, found_off, gone_off}
use Rattle.coin_cache.specs.Contents.{Entry, entry_without_flag}
use Rattle.coin_cache.specs.Entries.{AreSound}
use Rattle.coin_cache.specs.Inside.{FindsEach}
use Rattle.coin_cache.proofs.Nodes.{nothing_in}

-- an entry after a write to one slot: the one that was written, or an old one
after_write : (m : FinMap nat_cmp Entry) (s : ℕ) (w : Entry) (t : ℕ) (x : Entry) → get (insert m s w) t ≡ Some x → ((t ≡ s) × (x ≡ w)) ⊎ ((t ≢ s) × (get m t ≡ Some x))
after_write m s w t x e = go (cases_eq t s) where
  go : (t ≡ s) ⊎ (t ≡ s → ⊥) → ((t ≡ s) × (x ≡ w)) ⊎ ((t ≢ s) × (get m t ≡ Some x))
  go (inl f) = let d : Some x ≡ Some w = sym e ∙ ap (get (insert m s w)) f ∙ get_here m s w in inl (f, cc)
  go (inr ne) = inr (ne, sym (get_off m s w t ne) ∙ e)

after_take : (m : FinMap nat_cmp Entry) (s t : ℕ) (x : Entry) → get (remove m s) t ≡ Some x → (t ≢ s) × (get m t ≡ Some x)
after_take m s t x e = go (cases_eq t s) where
  go : (t ≡ s) ⊎ (t ≡ s → ⊥) → (t ≢ s) × (get m t ≡ Some x)
  go (inl f) = let d : None ≡ Some x = sym (removed_here m s) ∙ ap (get (remove m s)) (sym f) ∙ e in cc
  go (inr ne) = (ne, sym (removed_off m s t ne) ∙ e)

-- no entries
pub no_sound : (m : FinMap nat_cmp Entry) → m ≡ empty → AreSound m []
no_sound m none = record {
  once = λ s t x y e f same. absurd (nothing_in m s x none e);
  flagged = λ s x e d. absurd (nothing_in m s x none e);
  dirty = λ s i. absurd i;
  distinct = tt;
  fits = λ s x e. absurd (nothing_in m s x none e);
}

module _ (m : FinMap nat_cmp Entry) (cs : List ℕ) (h : AreSound m cs) where
  -- an entry without a flag in a new slot
  module _ (s : ℕ) (k : OutPoint) (coin : Option Coin) (fresh : Bool) (new : get m s ≡ None) (free : (t : ℕ) (x : Entry) → get m t ≡ Some x → x.key ≢ k) (fits : IfSome coin CoinFits) where
    pub sound_put : AreSound (insert m s (entry_without_flag k coin fresh)) cs
    sound_put = record {
      once = λ t u x y e f same. once t u x y same (after_write m s (entry_without_flag k coin fresh) t x e) (after_write m s (entry_without_flag k coin fresh) u y f);
      flagged = λ t x e d. flagged t x d (after_write m s (entry_without_flag k coin fresh) t x e);
      dirty = λ t i. let x = h.dirty t i in (x.0, get_off m s (entry_without_flag k coin fresh) t (apart t x.0 x.1) ∙ x.1, x.2);
      distinct = h.distinct;
      fits = λ t x e. fit t x (after_write m s (entry_without_flag k coin fresh) t x e);
    } where
      apart : (t : ℕ) (x : Entry) → get m t ≡ Some x → t ≢ s
      apart t x e f = let d : None ≡ Some x = sym new ∙ ap (get m) (sym f) ∙ e in cc

      once : (t u : ℕ) (x y : Entry) → x.key ≡ y.key → ((t ≡ s) × (x ≡ entry_without_flag k coin fresh)) ⊎ ((t ≢ s) × (get m t ≡ Some x)) → ((u ≡ s) × (y ≡ entry_without_flag k coin fresh)) ⊎ ((u ≢ s) × (get m u ≡ Some y)) → t ≡ u
      once t u x y same (inl a) (inl b) = a.0 ∙ sym b.0
      once t u x y same (inl a) (inr b) = absurd (free u y b.1 (sym same ∙ ap (λ (e : Entry). e.key) a.1))
      once t u x y same (inr a) (inl b) = absurd (free t x a.1 (same ∙ ap (λ (e : Entry). e.key) b.1))
      once t u x y same (inr a) (inr b) = h.once t u x y a.1 b.1 same

      flagged : (t : ℕ) (x : Entry) → x.dirty ≡ true → ((t ≡ s) × (x ≡ entry_without_flag k coin fresh)) ⊎ ((t ≢ s) × (get m t ≡ Some x)) → IsIn t cs
      flagged t x d (inl a) = let f : false ≡ true = sym (ap (λ (e : Entry). e.dirty) a.1) ∙ d in cc
      flagged t x d (inr a) = h.flagged t x a.1 d

      fit : (t : ℕ) (x : Entry) → ((t ≡ s) × (x ≡ entry_without_flag k coin fresh)) ⊎ ((t ≢ s) × (get m t ≡ Some x)) → IfSome x.coin CoinFits
      fit t x (inl a) = subst (λ (e : Entry). IfSome e.coin CoinFits) (sym a.1) fits
      fit t x (inr a) = h.fits t x a.1

    pub each_put : (found : FinMap outpoint_cmp ℕ) → FindsEach m found → FindsEach (insert m s (entry_without_flag k coin fresh)) (insert found k s)
    each_put found each t x e = go (after_write m s (entry_without_flag k coin fresh) t x e) where
      go : ((t ≡ s) × (x ≡ entry_without_flag k coin fresh)) ⊎ ((t ≢ s) × (get m t ≡ Some x)) → get (insert found k s) x.key ≡ Some t
      go (inl a) = ap (λ (e : Entry). get (insert found k s) e.key) a.1 ∙ found_here found k s ∙ ap Some (sym a.0)
      go (inr a) = found_off found k s x.key (free t x a.1) ∙ each t x a.1

  -- an entry is written over one of the same outpoint
  module _ (s : ℕ) (x w : Entry) (at : get m s ≡ Some x) (same : w.key ≡ x.key) (fits : IfSome w.coin CoinFits) where
    same_slots : (t : ℕ) (y : Entry) → get (insert m s w) t ≡ Some y → (z : Entry) × (get m t ≡ Some z) × (z.key ≡ y.key)
    same_slots t y e = go (after_write m s w t y e) where
      go : ((t ≡ s) × (y ≡ w)) ⊎ ((t ≢ s) × (get m t ≡ Some y)) → (z : Entry) × (get m t ≡ Some z) × (z.key ≡ y.key)
      go (inl a) = (x, ap (get m) a.0 ∙ at, sym (ap (λ (e : Entry). e.key) a.1 ∙ same))
      go (inr a) = (y, a.1, refl)

    once_over : (t u : ℕ) (y z : Entry) → get (insert m s w) t ≡ Some y → get (insert m s w) u ≡ Some z → y.key ≡ z.key → t ≡ u
    once_over t u y z e f k = let a = same_slots t y e in let b = same_slots u z f in h.once t u a.0 b.0 a.1 b.1 (a.2 ∙ k ∙ sym b.2)

    fits_over : (t : ℕ) (y : Entry) → get (insert m s w) t ≡ Some y → IfSome y.coin CoinFits
    fits_over t y e = go (after_write m s w t y e) where
      go : ((t ≡ s) × (y ≡ w)) ⊎ ((t ≢ s) × (get m t ≡ Some y)) → IfSome y.coin CoinFits
      go (inl a) = subst (λ (e : Entry). IfSome e.coin CoinFits) (sym a.1) fits
      go (inr a) = h.fits t y a.1

    pub each_over : (found : FinMap outpoint_cmp ℕ) → FindsEach m found → FindsEach (insert m s w) found
    each_over found each t y e = let a = same_slots t y e in ap (get found) (sym a.2) ∙ each t a.0 a.1

    -- with the same flag
    pub sound_write : w.dirty ≡ x.dirty → AreSound (insert m s w) cs
    sound_write flag = record {
      once = once_over;
      flagged = λ t y e d. flagged t y d (after_write m s w t y e);
      dirty = λ t i. dirty t (h.dirty t i) (cases_eq t s);
      distinct = h.distinct;
      fits = fits_over;
    } where
      flagged : (t : ℕ) (y : Entry) → y.dirty ≡ true → ((t ≡ s) × (y ≡ w)) ⊎ ((t ≢ s) × (get m t ≡ Some y)) → IsIn t cs
      flagged t y d (inl a) = h.flagged t x (ap (get m) a.0 ∙ at) (sym flag ∙ sym (ap (λ (e : Entry). e.dirty) a.1) ∙ d)
      flagged t y d (inr a) = h.flagged t y a.1 d

      dirty : (t : ℕ) → (y : Entry) × (get m t ≡ Some y) × (y.dirty ≡ true) → (t ≡ s) ⊎ (t ≡ s → ⊥) → (y : Entry) × (get (insert m s w) t ≡ Some y) × (y.dirty ≡ true)
      dirty t y (inl f) = let one : y.0 ≡ x = cc (y.1, at, f) in (w, ap (get (insert m s w)) f ∙ get_here m s w, flag ∙ sym (ap (λ (e : Entry). e.dirty) one) ∙ y.2)
      dirty t y (inr ne) = (y.0, get_off m s w t ne ∙ y.1, y.2)

    -- with a flag that it had not
    pub not_flagged : x.dirty ≡ false → ¬ IsIn s cs
    not_flagged clean i = let y = h.dirty s i in let one : y.0 ≡ x = cc (y.1, at) in let f : true ≡ false = sym y.2 ∙ ap (λ (e : Entry). e.dirty) one ∙ clean in cc

    pub sound_flag : w.dirty ≡ true → x.dirty ≡ false → AreSound (insert m s w) (cs ++ s ∷ [])
    sound_flag flag clean = record {
      once = once_over;
      flagged = λ t y e d. flagged t y d (after_write m s w t y e);
      dirty = λ t i. dirty t (in_either t cs (s ∷ []) i);
      distinct = distinct_push cs s h.distinct (not_flagged clean);
      fits = fits_over;
    } where
      flagged : (t : ℕ) (y : Entry) → y.dirty ≡ true → ((t ≡ s) × (y ≡ w)) ⊎ ((t ≢ s) × (get m t ≡ Some y)) → IsIn t (cs ++ s ∷ [])
      flagged t y d (inl a) = subst (λ k. IsIn k (cs ++ s ∷ [])) (sym a.0) (in_middle cs s [])
      flagged t y d (inr a) = in_left t cs (s ∷ []) (h.flagged t y a.1 d)

      dirty : (t : ℕ) → IsIn t cs ⊎ IsIn t (s ∷ []) → (y : Entry) × (get (insert m s w) t ≡ Some y) × (y.dirty ≡ true)
      dirty t (inl i) = let y = h.dirty t i in (y.0, get_off m s w t (λ f. not_flagged clean (subst (λ k. IsIn k cs) f i)) ∙ y.1, y.2)
      dirty t (inr (inl f)) = (w, ap (get (insert m s w)) f ∙ get_here m s w, flag)
      dirty t (inr (inr i)) = absurd i

    -- without its flag
    pub sound_unflag : w.dirty ≡ false → (xs ys : List ℕ) → cs ≡ xs ++ s ∷ ys → AreSound (insert m s w) (xs ++ ys)
    sound_unflag flag xs ys split = record {
      once = once_over;
      flagged = λ t y e d. flagged t y d (after_write m s w t y e);
      dirty = λ t i. let y = h.dirty t (subst (IsIn t) (sym split) (in_without t s xs ys i)) in (y.0, get_off m s w t (λ f. not_left xs s ys all (subst (λ k. IsIn k (xs ++ ys)) f i)) ∙ y.1, y.2);
      distinct = distinct_without xs s ys all;
      fits = fits_over;
    } where
      all : IsDistinct (xs ++ s ∷ ys)
      all = subst IsDistinct split h.distinct

      flagged : (t : ℕ) (y : Entry) → y.dirty ≡ true → ((t ≡ s) × (y ≡ w)) ⊎ ((t ≢ s) × (get m t ≡ Some y)) → IsIn t (xs ++ ys)
      flagged t y d (inl a) = let f : false ≡ true = sym (ap (λ (e : Entry). e.dirty) a.1 ∙ flag) ∙ d in cc
      flagged t y d (inr a) = in_but t s xs ys a.0 (subst (IsIn t) split (h.flagged t y a.1 d))

  -- an entry without a flag is taken out
  module _ (s : ℕ) (x : Entry) (at : get m s ≡ Some x) where
    pub sound_take : x.dirty ≡ false → AreSound (remove m s) cs
    sound_take clean = record {
      once = λ t u y z e f k. h.once t u y z (after_take m s t y e).1 (after_take m s u z f).1 k;
      flagged = λ t y e d. h.flagged t y (after_take m s t y e).1 d;
      dirty = λ t i. let y = h.dirty t i in (y.0, removed_off m s t (other t y.0 y.1 y.2) ∙ y.1, y.2);
      distinct = h.distinct;
      fits = λ t y e. h.fits t y (after_take m s t y e).1;
    } where
      other : (t : ℕ) (y : Entry) → get m t ≡ Some y → y.dirty ≡ true → t ≢ s
      other t y e d f = let one : y ≡ x = cc (e, at, f) in let g : true ≡ false = sym d ∙ ap (λ (e : Entry). e.dirty) one ∙ clean in cc

    pub each_take : (found : FinMap outpoint_cmp ℕ) → FindsEach m found → FindsEach (remove m s) (remove found x.key)
    each_take found each t y e =
        let a = after_take m s t y e in
        gone_off found x.key y.key (λ k. a.0 (h.once t s y x a.1 at k)) ∙ each t y a.1
