-- Laws of what a structure changes in a pool.
use Rattle.std.proofs.Common.{◌≡◌, ◌⊎◌, inl, inr, ℕ, Option, Some, None, IsSome, is_some, refl, sym, ap, ◌∙◌, subst}
use Rattle.std.proofs.lemmas.Bool.{cases_eq}
use Rattle.std.specs.FinMap.{get, insert}
use Rattle.slot_pool.specs.Pool.{Contents, with_value}
use Rattle.slot_pool.specs.Changes.{SameBut, ChangesOnly}
use Rattle.slot_pool.proofs.SlotLaws.{some_of, get_here, get_off}

-- own: a value with its own part is itself. twice: the part that is set last stays
module _ {T L : Type 0} (part : T → L) (set : T → L → T) (own : (x : T) → set x (part x) ≡ x) (twice : (x : T) (l k : L) → set (set x l) k ≡ set x k) where
  same_self : (o : Option T) → SameBut set o o
  same_self None = refl
  same_self (Some x) = (part x, ap Some (sym (own x)))

  same_then : (o p q : Option T) → SameBut set o p → SameBut set p q → SameBut set o q
  same_then None p q h k = subst (λ p. SameBut set p q) h k
  same_then (Some x) p q h k = let r : SameBut set (Some (set x h.0)) q = subst (λ p. SameBut set p q) h.1 k in (r.0, r.1 ∙ ap Some (twice x h.0 r.0))

  pub changes_none : (p : Contents T) → ChangesOnly set p p
  changes_none p = record { values = λ s. same_self (get p.values s); spare = refl }

  pub changes_then : (p n k : Contents T) → ChangesOnly set p n → ChangesOnly set n k → ChangesOnly set p k
  changes_then p n k a b = record { values = λ s. same_then (get p.values s) (get n.values s) (get k.values s) (a.values s) (b.values s); spare = b.spare ∙ a.spare }

  pub changes_one : (p n : Contents T) (t : ℕ) (x : T) (l : L) → get p.values t ≡ Some x → n ≡ with_value p t (set x l) → ChangesOnly set p n
  changes_one p n t x l e is = subst (ChangesOnly set p) (sym is) (record { values = λ s. at s (cases_eq s t); spare = refl }) where
    at : (s : ℕ) → (s ≡ t) ⊎ (s ≡ t → ⊥) → SameBut set (get p.values s) (get (insert p.values t (set x l)) s)
    at s (inl i) = subst (λ k. SameBut set (get p.values k) (get (insert p.values t (set x l)) k)) (sym i)
        (subst (λ o. SameBut set o (get (insert p.values t (set x l)) t)) (sym e) (l, get_here p.values t (set x l)))
    at s (inr ne) = subst (λ o. SameBut set (get p.values s) o) (sym (get_off p.values t (set x l) s ne)) (same_self (get p.values s))

-- a value stays, its part aside
pub kept_value : {T L : Type 0} (set : T → L → T) (p n : Contents T) (s : ℕ) (x : T) → ChangesOnly set p n → get p.values s ≡ Some x → (l : L) × (get n.values s ≡ Some (set x l))
kept_value set p n s x c e = subst (λ o. SameBut set o (get n.values s)) e (c.values s)

-- and so does its slot
pub still_held : {T L : Type 0} (set : T → L → T) (p n : Contents T) (s : ℕ) → ChangesOnly set p n → IsSome (get p.values s) → IsSome (get n.values s)
still_held set p n s c h = let x = some_of (get p.values s) h in ap is_some (kept_value set p n s x.0 c x.1).1
