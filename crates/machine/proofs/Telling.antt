-- Flushes that are told since change no clause of a call, and events that didn't come change none.
use Rattle.std.proofs.Common.{◌≡◌, inl, inr, ⊎_elim, ℕ, ◌≤◌, suc, List, [], ◌∷◌, ◌++◌, length, map, append_assoc, refl, sym, ap, subst, ◌∙◌}
use Rattle.std.specs.List.{AllByRecursion}
use Rattle.disk_model.specs.Disk.{Image}
use Rattle.base_types.specs.declared.flushes.Flushed.{Flushed}
use Rattle.base_types.specs.declared.program.Rules.{Rules}
use Rattle.store_state.specs.State.{StoreState}
use Rattle.machine.specs.State.{Event}
use Rattle.machine.specs.Marks.{done_by}
use Rattle.machine.specs.Tips.{IsAfterSome, flush_count, kept_count, with_later}
use Rattle.machine.specs.Clauses.{ReadsWithin}
use Rattle.machine.specs.Calls.{Call, IsCall, EndsWell, untold, SameButTold}

-- ---- flushes that are told since

first_same : (f g : Flushed) (fs gs : List Flushed) → f ∷ fs ≡ g ∷ gs → (f ≡ g) × (fs ≡ gs)
first_same f g fs gs e = (cc, cc)

kept_same : (t : ℕ) (fs gs : List Flushed) → SameButTold fs gs → kept_count t gs ≡ kept_count t fs
kept_same t [] [] same = refl
kept_same t [] (g ∷ gs) same = absurd cc
kept_same t (f ∷ fs) [] same = absurd cc
kept_same t (f ∷ fs) (g ∷ gs) same =
    let e = first_same (untold g) (untold f) (map untold gs) (map untold fs) same in
    ap (λ (m : Flushed). with_later (done_by t m.done) (kept_count t gs)) e.0
    ∙ ap (λ (n : ℕ). with_later (done_by t f.done) n) (kept_same t fs gs e.1)

long_same : (fs gs : List Flushed) → SameButTold fs gs → length gs ≡ length fs
long_same [] [] same = refl
long_same [] (g ∷ gs) same = absurd cc
long_same (f ∷ fs) [] same = absurd cc
long_same (f ∷ fs) (g ∷ gs) same = ap suc (long_same fs gs (first_same (untold g) (untold f) (map untold gs) (map untold fs) same).1)

module _ (limit : ℕ) (given : Rules) (past left : ℕ → Image → Type 0) (call : Call) (flushes : List Flushed) (from : StoreState) (same : SameButTold call.flushes flushes) where
  after_with : (t : ℕ) (s : StoreState) → IsAfterSome call.events t call.flushes from s → IsAfterSome call.events t flushes from s
  after_with t s i = record {
    first = i.first;
    rest = i.rest;
    parts = i.parts;
    enough = subst (λ (n : ℕ). n ≤ flush_count i.first) (sym (kept_same t call.flushes flushes same)) i.enough;
    made = subst (λ (n : ℕ). flush_count i.first ≤ n) (sym (long_same call.flushes flushes same)) i.made;
    stored = i.stored;
  }

  pub told_since : AllByRecursion (ReadsWithin call.entered call.ended) flushes → IsCall limit given past left call from
      → IsCall limit given past left (record call { flushes = flushes }) from
  told_since in_order c = record {
    disk = record { later = c.disk.later; reads = c.disk.reads; reads_after = c.disk.reads_after; earlier = c.disk.earlier };
    stands_for = c.stands_for;
    settled = c.settled;
    before = λ settled t i h l. ⊎_elim (λ p. inl p) (λ made. inr record { settled = made.settled; stored = λ s is. after_with t s (made.stored s is) }) (c.before settled t i h l);
    leaves = λ settled t i s low high l is. after_with t s (c.leaves settled t i s low high l is);
    in_order = in_order;
  }

  pub well_since : EndsWell limit given left call from → EndsWell limit given left (record call { flushes = flushes }) from
  well_since w = record { stored = w.stored; flushed = w.flushed ∙ sym (long_same call.flushes flushes same) }

-- ---- events that didn't come

module _ (limit : ℕ) (given : Rules) (past left : ℕ → Image → Type 0) (call : Call) (more : List Event) (from : StoreState) where
  after_more : (t : ℕ) (s : StoreState) → IsAfterSome call.events t call.flushes from s → IsAfterSome (call.events ++ more) t call.flushes from s
  after_more t s i = record {
    first = i.first;
    rest = i.rest ++ more;
    parts = ap (λ (es : List Event). es ++ more) i.parts ∙ append_assoc i.first i.rest more;
    enough = i.enough;
    made = i.made;
    stored = i.stored;
  }

  pub more_events : IsCall limit given past left call from → IsCall limit given past left (record call { events = call.events ++ more }) from
  more_events c = record {
    disk = record { later = c.disk.later; reads = c.disk.reads; reads_after = c.disk.reads_after; earlier = c.disk.earlier };
    stands_for = c.stands_for;
    settled = c.settled;
    before = λ settled t i h l. ⊎_elim (λ p. inl p) (λ made. inr record { settled = made.settled; stored = λ s is. after_more t s (made.stored s is) }) (c.before settled t i h l);
    leaves = λ settled t i s low high l is. after_more t s (c.leaves settled t i s low high l is);
    in_order = c.in_order;
  }
