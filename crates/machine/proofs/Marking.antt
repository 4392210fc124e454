-- Which tips may stand, in words.
use Rattle.std.proofs.Common.{◌≡◌, ◌⊎◌, inl, inr, ⊎_elim, true, false, List, [], ◌∷◌, ◌++◌, refl, sym, ap, subst}
use Rattle.base_types.specs.declared.hash.Hash32.{Hash32}
use Rattle.machine.specs.Marks.{Mark, StandsAt, NoneKept, IsTipOf, StandsInWords}

-- ---- the words

from_first : (start : Hash32) (ms : List Mark) (tip : Hash32) → NoneKept ms → StandsAt start ms tip → (tip ≡ start) ⊎ IsTipOf ms tip
from_first start [] tip n s = inl s
from_first start (m ∷ ms) tip n (inl s) = ⊎_elim (λ e. inr (inl e)) (λ e. inr (inr e)) (from_first m.tip ms tip n.1 s)
from_first start (m ∷ ms) tip n (inr s) = ⊎_elim (λ e. inl e) (λ e. inr (inr e)) (from_first start ms tip n.1 s.1)

kept_or_not : (ms : List Mark) → NoneKept ms ⊎ ((before : List Mark) × (last : Mark) × (after : List Mark) × (ms ≡ before ++ last ∷ after) × (last.kept ≡ true) × NoneKept after)
kept_or_not [] = inl tt
kept_or_not (m ∷ ms) =
    ⊎_elim
    (λ (none : NoneKept ms).
    elim m.kept as (λ b. m.kept ≡ b → NoneKept (m ∷ ms) ⊎ ((before : List Mark) × (last : Mark) × (after : List Mark) × (m ∷ ms ≡ before ++ last ∷ after) × (last.kept ≡ true) × NoneKept after)) [
      | true ↦ λ e. inr ([], m, ms, refl, e, none)
      | false ↦ λ e. inl (e, none)
    ] refl)
    (λ some. inr (m ∷ some.0, some.1, some.2, ap (λ (xs : List Mark). m ∷ xs) some.3, some.4, some.5))
    (kept_or_not ms)

-- behind a kept member the start is forgotten
forgotten : (start : Hash32) (before : List Mark) (last : Mark) (after : List Mark) (tip : Hash32) → last.kept ≡ true → StandsAt start (before ++ last ∷ after) tip → StandsAt last.tip after tip
forgotten start [] last after tip k (inl s) = s
forgotten start [] last after tip k (inr s) = absurd (cc (k, s.0))
forgotten start (m ∷ ms) last after tip k (inl s) = forgotten m.tip ms last after tip k s
forgotten start (m ∷ ms) last after tip k (inr s) = forgotten start ms last after tip k s.1

pub in_words : (start : Hash32) (ms : List Mark) (tip : Hash32) → StandsAt start ms tip → StandsInWords start ms tip
in_words start ms tip s =
    ⊎_elim (λ none. inr (none, from_first start ms tip none s))
    (λ some. inl record {
      before = some.0;
      last = some.1;
      after = some.2;
      is = some.3;
      kept = some.4;
      none_later = some.5;
      tips = from_first some.1.tip some.2 tip some.5 (forgotten start some.0 some.1 some.2 tip some.4 (subst (λ (l : List Mark). StandsAt start l tip) some.3 s));
    })
    (kept_or_not ms)

any_of : (start : Hash32) (ms : List Mark) (tip : Hash32) → NoneKept ms → (tip ≡ start) ⊎ IsTipOf ms tip → StandsAt start ms tip
any_of start [] tip n (inl e) = e
any_of start [] tip n (inr e) = absurd e
any_of start (m ∷ ms) tip n (inl e) = inr (n.0, any_of start ms tip n.1 (inl e))
any_of start (m ∷ ms) tip n (inr (inl e)) = inl (any_of m.tip ms tip n.1 (inl e))
any_of start (m ∷ ms) tip n (inr (inr e)) = inl (any_of m.tip ms tip n.1 (inr e))

reach : (start : Hash32) (before : List Mark) (last : Mark) (after : List Mark) (tip : Hash32) → StandsAt last.tip after tip → StandsAt start (before ++ last ∷ after) tip
reach start [] last after tip s = inl s
reach start (m ∷ ms) last after tip s = inl (reach m.tip ms last after tip s)

pub from_words : (start : Hash32) (ms : List Mark) (tip : Hash32) → StandsInWords start ms tip → StandsAt start ms tip
from_words start ms tip (inl w) = subst (λ (l : List Mark). StandsAt start l tip) (sym w.is) (reach start w.before w.last w.after tip (any_of w.last.tip w.after tip w.none_later w.tips))
from_words start ms tip (inr w) = any_of start ms tip w.0 w.1
