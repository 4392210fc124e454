-- One record that is added to a file of the store, as a call with one event.
use Rattle.std.proofs.Common.{◌≡◌, ◌⊎◌, inl, inr, ⊎_elim, ℕ, zero, suc, ◌<◌, ◌≤◌, Bool, true, false, List, [], ◌∷◌, length, Some, sym, ap, subst, ◌∙◌, arith}
use Rattle.std.specs.List.{AllByRecursion}
use Rattle.disk_model.specs.Disk.{Image}
use Rattle.base_types.specs.declared.flushes.Flushed.{Flushed}
use Rattle.base_types.specs.declared.program.Rules.{Rules}
use Rattle.store_state.specs.Settled.{Settled, IsSettled}
use Rattle.store_state.specs.State.{StoreState, state_of}
use Rattle.machine.specs.State.{Event}
use Rattle.machine.specs.Marks.{done_by}
use Rattle.machine.specs.Tips.{AllSettled, IsAfterSome, stored_in, stored_after, with_event, kept_count, with_later, flush_count}
use Rattle.machine.specs.Clauses.{ReadsWithin}
use Rattle.machine.specs.Calls.{Call, IsCall, AllStand, IsWhole}
use Rattle.machine.proofs.Induction.{same_some}
use Rattle.machine.proofs.Joining.{below_or_not}

-- no more is kept than was flushed
few_kept : (b : Bool) (k n : ℕ) → k ≤ n → with_later b k ≤ suc n
few_kept true zero n h = omega arith
few_kept false zero n h = omega arith
few_kept b (suc k) n h = omega (arith, h)

pub kept_few : (t : ℕ) (flushes : List Flushed) → kept_count t flushes ≤ length flushes
kept_few t [] = omega arith
kept_few t (f ∷ fs) = few_kept (done_by t f.done) (kept_count t fs) (length fs) (kept_few t fs)

-- What a call needs to be one with this event. A crash leaves what it might have left before, or an image that stands for the
-- store with the event or without it; before its end no flush of it is done, and at its end one is done only where each image
-- has the event.
pub record AddsEvent (limit : ℕ) (given : Rules) (past left : ℕ → Image → Type 0) (call : Call) (event : Event) (from on : StoreState) : Type 0 where
  pub events : call.events ≡ event ∷ []
  pub later : call.entered ≤ call.ended
  pub reads : past call.entered call.contents
  pub reads_after : left call.ended call.after
  pub earlier : (t u : ℕ) (c : Image) → t ≤ u → u ≤ call.ended → left u c → left t c
  pub stands : AllStand limit given (past call.entered) from
  pub since : (t : ℕ) (c : Image) → t ≤ call.entered → left t c → past t c ⊎ ((state_of limit given c ≡ Some from) ⊎ (state_of limit given c ≡ Some on))
  pub settles : IsSettled from → IsSettled on
  pub stored : stored_in on ≡ with_event event (stored_in from)
  pub count : flush_count (event ∷ []) ≡ length call.flushes
  pub unkept : (t : ℕ) → t < call.ended → kept_count t call.flushes ≡ 0
  pub kept : (kept_count call.ended call.flushes ≡ 0) ⊎ AllStand limit given (left call.ended) on
  pub in_order : AllByRecursion (ReadsWithin call.entered call.ended) call.flushes

module _ (limit : ℕ) (given : Rules) (past left : ℕ → Image → Type 0) (call : Call) (event : Event) (from on : StoreState) (adds : AddsEvent limit given past left call event from on) where
  -- an image of the call stands for the one store or the other
  either : (t : ℕ) (c : Image) → call.entered ≤ t → t ≤ call.ended → left t c → (state_of limit given c ≡ Some from) ⊎ (state_of limit given c ≡ Some on)
  either t c low high l =
      ⊎_elim (λ p. inl (adds.stands c p)) (λ stood. stood) (adds.since call.entered c (omega arith) (adds.earlier call.entered t c low high l))

  without : (t : ℕ) (s : StoreState) → kept_count t call.flushes ≡ 0 → s ≡ from → IsAfterSome call.events t call.flushes from s
  without t s none is = record {
    first = [];
    rest = event ∷ [];
    parts = adds.events;
    enough = omega (arith, none);
    made = omega arith;
    stored = ap stored_in is;
  }

  with_it : (t : ℕ) (s : StoreState) → s ≡ on → IsAfterSome call.events t call.flushes from s
  with_it t s is =
      let few = kept_few t call.flushes in
      let count = adds.count in
      record {
        first = event ∷ [];
        rest = [];
        parts = adds.events;
        enough = omega (arith, few, count);
        made = omega (arith, count);
        stored = ap stored_in is ∙ adds.stored;
      }

  same_store : (c : Image) (s other : StoreState) → state_of limit given c ≡ Some s → state_of limit given c ≡ Some other → s ≡ other
  same_store c s other first second = same_some s other (sym first ∙ second)

  leaves_some : (t : ℕ) (c : Image) (s : StoreState) → call.entered ≤ t → t ≤ call.ended → left t c → state_of limit given c ≡ Some s → IsAfterSome call.events t call.flushes from s
  leaves_some t c s low high l is = ⊎_elim
      (λ old. before old (below_or_not t call.ended))
      (λ new. with_it t s (same_store c s on is new))
      (either t c low high l)
    where
      at_end : state_of limit given c ≡ Some from → t ≡ call.ended → (kept_count call.ended call.flushes ≡ 0) ⊎ AllStand limit given (left call.ended) on → IsAfterSome call.events t call.flushes from s
      at_end old e (inl none) = without t s (ap (λ (u : ℕ). kept_count u call.flushes) e ∙ none) (same_store c s from is old)
      at_end old e (inr all) = with_it t s (same_store c s on is (all c (subst (λ (u : ℕ). left u c) e l)))

      before : state_of limit given c ≡ Some from → (t < call.ended) ⊎ (call.ended ≤ t) → IsAfterSome call.events t call.flushes from s
      before old (inl early) = without t s (adds.unkept t early) (same_store c s from is old)
      before old (inr late) = let e : t ≡ call.ended = omega (arith, high, late) in at_end old e adds.kept

  settled_from : AllSettled limit given (past call.entered) → IsSettled from
  settled_from settled =
      let one = settled call.contents adds.reads in
      subst IsSettled (same_some one.state from (sym one.stands_for ∙ adds.stands call.contents adds.reads)) one.settled

  settled_one : AllSettled limit given (past call.entered) → (c : Image) → (state_of limit given c ≡ Some from) ⊎ (state_of limit given c ≡ Some on) → Settled limit given c
  settled_one settled c (inl old) = record { state = from; stands_for = old; settled = settled_from settled }
  settled_one settled c (inr new) = record { state = on; stands_for = new; settled = adds.settles (settled_from settled) }

  -- a crash since a moment before the call: no flush of the call is done by then
  made_before : (t : ℕ) (s : StoreState) (c : Image) → t < call.entered → state_of limit given c ≡ Some s → (state_of limit given c ≡ Some from) ⊎ (state_of limit given c ≡ Some on) → IsAfterSome call.events t call.flushes from s
  made_before t s c early is (inl old) = let later = adds.later in without t s (adds.unkept t (omega (arith, early, later))) (same_store c s from is old)
  made_before t s c early is (inr new) = with_it t s (same_store c s on is new)

  pub event_is_call : IsCall limit given past left call from
  event_is_call = record {
    disk = record { later = adds.later; reads = adds.reads; reads_after = adds.reads_after; earlier = adds.earlier };
    stands_for = adds.stands call.contents adds.reads;
    settled = λ settled c l. let later = adds.later in settled_one settled c (either call.entered c (omega arith) later l);
    before = λ settled t c early l. ⊎_elim
        (λ p. inl p)
        (λ stood. inr (record { settled = settled_one settled c stood; stored = λ s is. made_before t s c early is stood }))
        (adds.since t c (omega (arith, early)) l);
    leaves = λ settled t c s low high l is. leaves_some t c s low high l is;
    in_order = adds.in_order;
  }

  pub event_done : AllStand limit given (left call.ended) on → IsWhole limit given past left call from on
  event_done all = record {
    meets = event_is_call;
    well = record {
      stored = λ c s l is. ap stored_in (same_store c s on is (all c l)) ∙ adds.stored ∙ ap (λ (es : List Event). stored_after es (stored_in from)) (sym adds.events);
      flushed = ap flush_count adds.events ∙ adds.count;
    };
    ends = record { reads = adds.reads_after; all = all };
  }
