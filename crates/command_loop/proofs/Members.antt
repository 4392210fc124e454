-- One member of a list after the other is told.
use Rattle.std.proofs.Common.{◌≡◌, ℕ, zero, suc, ◌+◌, ◌<◌, ◌≤◌, Bool, true, false, cond, ◌&&◌, List, [], ◌∷◌, ◌++◌, length, map, take, drop, get_or, refl, sym, ap, subst, ◌∙◌, arith, append-nil, append_assoc, length-append}
use Rattle.std.proofs.Math.Seq.{take-append-add, drop-append-add, take-append_seam, drop-append_seam}
use Rattle.std.proofs.lemmas.List.{take_all}
use Rattle.base_types.specs.Flushes.{told_of, ChangesMember}
use Rattle.base_types.specs.declared.flushes.Flushed.{Flushed}
use Rattle.machine.specs.Answers.{has_line, is_done}
use Rattle.command_loop.specs.Telling.{told_now}

record IsSplit (fs : List Flushed) (i : ℕ) : Type 0 where
  front : List Flushed
  member : Flushed
  rest : List Flushed
  long : length front ≡ i
  is : fs ≡ front ++ member ∷ rest

split_at : (fs : List Flushed) (i : ℕ) → i < length fs → IsSplit fs i
split_at [] i h = absurd (omega (arith, h))
split_at (f ∷ fs) zero h = record { front = []; member = f; rest = fs; long = refl; is = refl }
split_at (f ∷ fs) (suc i) h =
    let s = split_at fs i (omega (arith, h)) in
    record { front = f ∷ s.front; member = s.member; rest = s.rest; long = ap suc s.long; is = ap (λ (l : List Flushed). f ∷ l) s.is }

pub told_step : (fs gs : List Flushed) (i : ℕ) → i < length fs → ChangesMember i told_now fs gs
    → (take (i + 1) gs ++ map told_now (drop (i + 1) gs) ≡ take i fs ++ map told_now (drop i fs)) × (length gs ≡ length fs)
told_step fs gs i h changes =
    let s = split_at fs i h in
    let n = s.long in
    let new : gs ≡ s.front ++ told_now s.member ∷ s.rest = changes s.front s.rest s.member s.long s.is in
    let next : i + 1 ≡ length s.front + 1 = omega (arith, n) in (
      ap (λ (l : List Flushed). take (i + 1) l ++ map told_now (drop (i + 1) l)) new
          ∙ ap (λ (k : ℕ). take k (s.front ++ told_now s.member ∷ s.rest) ++ map told_now (drop k (s.front ++ told_now s.member ∷ s.rest))) next
          ∙ ap (λ (l : List Flushed). l ++ map told_now (drop (length s.front + 1) (s.front ++ told_now s.member ∷ s.rest))) (take-append-add s.front (told_now s.member ∷ s.rest) 1)
          ∙ ap (λ (l : List Flushed). (s.front ++ told_now s.member ∷ []) ++ map told_now l) (drop-append-add s.front (told_now s.member ∷ s.rest) 1)
          ∙ append_assoc s.front (told_now s.member ∷ []) (map told_now s.rest)
          ∙ sym (ap (λ (l : List Flushed). take i l ++ map told_now (drop i l)) s.is
          ∙ ap (λ (k : ℕ). take k (s.front ++ s.member ∷ s.rest) ++ map told_now (drop k (s.front ++ s.member ∷ s.rest))) (sym n)
          ∙ ap (λ (l : List Flushed). l ++ map told_now (drop (length s.front) (s.front ++ s.member ∷ s.rest))) (take-append_seam s.front (s.member ∷ s.rest))
          ∙ ap (λ (l : List Flushed). s.front ++ map told_now l) (drop-append_seam s.front (s.member ∷ s.rest))),
      let old = ap length s.is ∙ length-append s.front (s.member ∷ s.rest) in
          let now = ap length new ∙ length-append s.front (told_now s.member ∷ s.rest) in
          omega (arith, old, now),
    )

-- past all of them
pub told_end : (fs : List Flushed) (i : ℕ) (want : List Flushed) → length fs ≤ i → take i fs ++ map told_now (drop i fs) ≡ want → fs ≡ want
told_end fs i want past is =
    let none : drop i fs ≡ [] = dropped fs i past in
    sym (append-nil fs) ∙ ap (λ (l : List Flushed). l ++ []) (sym (take_all i fs past)) ∙ ap (λ (l : List Flushed). take i fs ++ map told_now l) (sym none) ∙ is
  where
    dropped : (l : List Flushed) (k : ℕ) → length l ≤ k → drop k l ≡ []
    dropped [] zero h = refl
    dropped [] (suc k) h = refl
    dropped (x ∷ l) zero h = absurd (omega (arith, h))
    dropped (x ∷ l) (suc k) h = dropped l k (omega (arith, h))

there : (front rest : List Flushed) (member d : Flushed) → get_or (front ++ member ∷ rest) (length front) d ≡ member
there [] rest member d = refl
there (f ∷ front) rest member d = there front rest member d

-- the member at the place was looked at
pub told_looked : (fs gs : List Flushed) (place : ℕ) (looked d : Flushed) → looked ≡ get_or fs place d → (is_done looked && has_line looked.why) ≡ true → ChangesMember place told_of fs gs → ChangesMember place told_now fs gs
told_looked fs gs place looked d is test_is changes = λ front rest member long split.
    let same : looked ≡ member = is ∙ ap (λ (l : List Flushed). get_or l place d) split ∙ ap (λ (k : ℕ). get_or (front ++ member ∷ rest) k d) (sym long) ∙ there front rest member d in
    let test : (is_done member && has_line member.why) ≡ true = subst (λ (f : Flushed). (is_done f && has_line f.why) ≡ true) same test_is in
    changes front rest member long split ∙ ap (λ (b : Bool). front ++ cond b (told_of member) member ∷ rest) (sym test)

pub untold_looked : (fs : List Flushed) (place : ℕ) (looked d : Flushed) → looked ≡ get_or fs place d → (is_done looked && has_line looked.why) ≡ false → ChangesMember place told_now fs fs
untold_looked fs place looked d is test_is = λ front rest member long split.
    let same : looked ≡ member = is ∙ ap (λ (l : List Flushed). get_or l place d) split ∙ ap (λ (k : ℕ). get_or (front ++ member ∷ rest) k d) (sym long) ∙ there front rest member d in
    let test : (is_done member && has_line member.why) ≡ false = subst (λ (f : Flushed). (is_done f && has_line f.why) ≡ false) same test_is in
    split ∙ ap (λ (b : Bool). front ++ cond b (told_of member) member ∷ rest) (sym test)
