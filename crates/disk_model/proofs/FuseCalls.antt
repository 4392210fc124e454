-- The calls of a fuse.
use Rattle.std.proofs.Common.{◌≡◌, ℕ, ◌+◌, ◌-◌, ◌^◌, ◌≤◌, arith, subst, sym, inl, inr, ⊎_elim}
use Rattle.std.specs.Prelude.{min, ◌⊎◌, List, Result, IsErr, Option, None, Some}
use Rattle.disk_model.specs.Disk.{Image, Moves, Only, BothTold}
use Rattle.disk_model.specs.Fuse.{fuse_time}
use Rattle.disk_model.specs.FuseLaws.{now_is, at_now}

module _ {T E : Type 0} (Step : Image → Image → Type 0) (past since : ℕ → Image → Type 0) (before now : ℕ) (result : Result T E) where
  -- a call that is passed on
  pub passed_moves : Moves Step before now past since result → Moves Step (fuse_time before 0) (fuse_time now 0) (λ t c. past (min t before) c) (λ t c. since (min t now) c) result
  passed_moves m =
      let b : fuse_time before 0 ≡ before = omega arith in
      let n : fuse_time now 0 ≡ now = omega arith in
      let later = m.later in
      let rises = m.rises in
      record {
        later = omega arith;
        rises = omega arith;
        nothing_else = λ t c le left. subst (λ k. past k c ⊎ since (min (fuse_time now 0) now) c) (omega arith)
            (⊎_elim (λ p. inl p) (λ s. inr (at_now (λ k. since k c) now 0 s)) (m.nothing_else t c (omega arith) (subst (λ k. since k c) (omega arith) left)));
        keeps = λ t c le p. subst (λ k. since k c) (omega arith) (m.keeps t c (omega arith) (subst (λ k. past k c) (omega arith) p));
        follows = λ c left.
            let from = m.follows c (subst (λ k. since k c) (sym (now_is now 0)) left) in
            (from.0, at_now (λ k. past k from.0) before 0 from.1, from.2);
        at_end = λ end.
            let h = m.at_end (omega arith) in
            let same = h.1 in
            (h.0, omega arith, λ t c left. subst (λ k. past k c) (omega arith) (h.2 (min t now) c left));
      }

-- a call that is refused
pub refused_moves : {T E : Type 0} (Step : Image → Image → Type 0) (past : ℕ → Image → Type 0) (inner own after : ℕ) (result : Result T E) → ((c : Image) → Step c c) → own ≤ 2 ^ 64 - 1 → after ≡ min (own + 1) (2 ^ 64 - 1) → IsErr result
    → Moves Step (fuse_time inner own) (fuse_time inner after) (λ t c. past (min t inner) c) (λ t c. past (min t inner) c) result
refused_moves Step past inner own after result none own_fits is failed = record {
  later = omega arith;
  rises = omega arith;
  nothing_else = λ t c le left. inl left;
  keeps = λ t c le p. p;
  follows = λ c left. (c, subst (λ k. past k c) (omega arith) left, none c);
  at_end = λ end. (failed, omega arith, λ t c left. left);
}

pub only_behind : (P : ℕ → Image → Type 0) (file : ℕ) (bytes : List ℕ) (inner own : ℕ) → own ≡ 0 → Only file bytes (P inner) → Only file bytes (λ c. P (min (fuse_time inner own) inner) c)
only_behind P file bytes inner own is only c left = only c (subst (λ k. P k c) (sym (now_is inner own)) left)

-- what is told stays, so it is told by a step that may be none
pub both_same : (Related : Image → Image → Type 0) → ((c : Image) → Related c c) → (told : Option Image) → BothTold Related told told
both_same Related none None = tt
both_same Related none (Some m) = none m
