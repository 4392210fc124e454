-- An opening and then a call.
use Rattle.std.proofs.Common.{◌≡◌, ◌⊎◌, inl, inr, ⊎_elim, ℕ, ◌<◌, ◌≤◌, Some, ap, subst, ◌∙◌, arith}
use Rattle.disk_model.specs.Disk.{Image}
use Rattle.base_types.specs.declared.program.Rules.{Rules}
use Rattle.store_state.specs.State.{StoreState, state_of}
use Rattle.machine.specs.Tips.{AllSettled, AsAtEntry, IsAfterSome, Stored, stored_in, stored_after}
use Rattle.machine.specs.Calls.{Call, IsCall, IsWhole, IsOpening, IsOpenedRun, Follows, opened_at}
use Rattle.machine.proofs.Joining.{When, Before, Within, below_or_not}

module _ (limit : ℕ) (given : Rules) (past mid left : ℕ → Image → Type 0) (a b : Call) (from on : StoreState)
    (first : IsOpening limit given past mid a from on) (second : IsCall limit given mid left b on) (next : Follows a b) where
  module _ (settled : AllSettled limit given (past a.entered)) where
    opened_between : AllSettled limit given (mid b.entered)
    opened_between c m = let e = next.time in let x = first.disk.later in first.settled settled c (first.disk.earlier a.entered b.entered c (omega arith) (omega arith) m)

    opened_settled : AllSettled limit given (left a.entered)
    opened_settled c l =
        let e = next.time in let x = first.disk.later in
        ⊎_elim
        (λ (h : a.entered < b.entered). ⊎_elim (λ m. first.settled settled c m) (λ made. made.settled) (second.before opened_between a.entered c h l))
        (λ (h : b.entered ≤ a.entered).
        let k : a.entered ≡ b.entered = omega arith in
        second.settled opened_between c (subst (λ (t : ℕ). left t c) k l))
        (below_or_not a.entered b.entered)

    opened_when : (t : ℕ) (c : Image) → a.entered ≤ t → t ≤ b.ended → left t c → When limit given a b on mid t c
    opened_when t c low high l =
        let e = next.time in let y = second.disk.later in
        ⊎_elim
        (λ (h : t < a.ended).
        let k : t < b.entered = omega arith in
        ⊎_elim (λ m. Before h m) (λ made. Within made.stored) (second.before opened_between t c k l))
        (λ (h : a.ended ≤ t).
        let k : b.entered ≤ t = omega arith in
        Within (λ s is. second.leaves opened_between t c s k high l is))
        (below_or_not t a.ended)

    kinds : (t : ℕ) (c : Image) (s : StoreState) → a.entered ≤ t → state_of limit given c ≡ Some s → When limit given a b on mid t c
        → AsAtEntry limit given (past a.entered) (opened_at a from) t s ⊎ IsAfterSome b.events t b.flushes from s
    kinds t c s low is (Before h m) =
        let k : t ≤ a.ended = omega arith in
        let e = first.leaves settled t c s low k m is in
        inl record { early = h; image = e.image; at_entry = e.at_entry; was = e.was; stands_for = e.stands_for; stored = e.stored }
    kinds t c s low is (Within leaves) =
        let i = leaves s is in
        inr record { first = i.first; rest = i.rest; parts = i.parts; enough = i.enough; made = i.made; stored = i.stored ∙ ap (λ (x : Stored). stored_after i.first x) first.same }

  pub opened_run : IsOpenedRun limit given past left a b from
  opened_run = record {
    settled = λ settled. opened_settled settled;
    leaves = λ settled t c s low high l is. kinds settled t c s low is (opened_when settled t c low high l);
  }

-- what all events leave is there at the end
pub opened_all : (limit : ℕ) (given : Rules) (past mid left : ℕ → Image → Type 0) (a b : Call) (from on end : StoreState)
    → IsOpening limit given past mid a from on → IsWhole limit given mid left b on end
    → (c : Image) (store : StoreState) → left b.ended c → state_of limit given c ≡ Some store → stored_in store ≡ stored_after b.events (stored_in from)
opened_all limit given past mid left a b from on end first whole c store l is =
    whole.well.stored c store l is ∙ ap (λ (x : Stored). stored_after b.events x) first.same
