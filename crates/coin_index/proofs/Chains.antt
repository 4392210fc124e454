-- The slots along a chain.
use Rattle.std.proofs.Common.{◌≡◌, inl, inr, ◌≤◌, ℕ, zero, suc, true, List, [], ◌∷◌, length, Option, Some, None, is_some, refl, sym, ap, ◌∙◌, arith}
use Rattle.std.specs.Ordering.{nat_cmp}
use Rattle.std.specs.FinMap.{FinMap, get, insert, len}
use Rattle.slot_pool.specs.Slots.{first_or, IsIn, IsDistinct}
use Rattle.slot_pool.proofs.SlotLaws.{get_off, pigeon}
use Rattle.base_types.specs.declared.hash.OutPoint.{OutPoint}
use Rattle.coin_index.specs.Index.{AreChained}

module _ {T : Type 0} (chain : T → Option ℕ) (m : FinMap nat_cmp T) where
  -- the link that a slot's value holds
  abbrev pub link_in : Option T → Option ℕ
  link_in None = None
  link_in (Some x) = chain x

  -- the slots along the links, at most so many
  abbrev pub walk : ℕ → Option ℕ → List ℕ
  walk zero at = []
  walk (suc n) None = []
  walk (suc n) (Some s) = s ∷ walk n (link_in (get m s))

  -- how many slots are still to come
  abbrev pub ahead : Option ℕ → ℕ
  ahead at = length (walk (len m) at)

module _ {T : Type 0} (key : T → OutPoint) (chain : T → Option ℕ) (m : FinMap nat_cmp T) where
  pub in_values : (ss : List ℕ) → AreChained key chain m ss → (s : ℕ) → IsIn s ss → is_some (get m s) ≡ true
  in_values [] h s i = absurd i
  in_values (t ∷ ss) h s (inl e) = ap (λ k. is_some (get m k)) e ∙ ap is_some h.1
  in_values (t ∷ ss) h s (inr i) = in_values ss h.3 s i

  -- a chain has no more slots than the pool has values
  pub chain_short : (ss : List ℕ) → AreChained key chain m ss → IsDistinct ss → length ss ≤ len m
  chain_short ss h d = pigeon ss m d (in_values ss h)

  pub walk-chain : (n : ℕ) (ss : List ℕ) (at : Option ℕ) → AreChained key chain m ss → at ≡ first_or None ss → length ss ≤ n → walk chain m n at ≡ ss
  walk-chain zero [] at h e le = refl
  walk-chain zero (s ∷ ss) at h e le = absurd (omega arith)
  walk-chain (suc n) [] at h e le = ap (walk chain m (suc n)) e
  walk-chain (suc n) (s ∷ ss) at h e le =
      ap (walk chain m (suc n)) e ∙ ap (λ o. s ∷ walk chain m n (link_in chain m o)) h.1 ∙ ap (λ l. s ∷ l) (walk-chain n ss (chain h.0) h.3 h.2 (omega arith))

  pub ahead-chain : (ss : List ℕ) (at : Option ℕ) → AreChained key chain m ss → at ≡ first_or None ss → length ss ≤ len m → ahead chain m at ≡ length ss
  ahead-chain ss at h e le = ap (length {A = ℕ}) (walk-chain (len m) ss at h e le)

  -- a write to a slot that isn't in the chain
  pub chained_off : (t : ℕ) (w : T) (ss : List ℕ) → ¬ IsIn t ss → AreChained key chain m ss → AreChained key chain (insert m t w) ss
  chained_off t w [] o h = tt
  chained_off t w (s ∷ ss) o h = (h.0, get_off m t w s (λ e. o (inl (sym e))) ∙ h.1, h.2, chained_off t w ss (λ i. o (inr i)) h.3)
