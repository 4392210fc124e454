-- Two calls on one disk that follow each other are as one call.
use Rattle.std.proofs.Common.{◌≡◌, ◌⊎◌, inl, inr, ⊎_elim, ℕ, zero, suc, ◌+◌, ◌<◌, ◌≤◌, Bool, true, false, List, [], ◌∷◌, ◌++◌, length, length-append, append_assoc, Option, Some, None, refl, sym, ap, subst, ◌∙◌, arith, nat_lt, nat_le}
use Rattle.std.proofs.lemmas.Bool.Decides.{nat_tests}
use Rattle.std.specs.List.{AllByRecursion}
use Rattle.disk_model.specs.Disk.{Image}
use Rattle.base_types.specs.declared.flushes.Flushed.{Flushed}
use Rattle.base_types.specs.declared.program.Rules.{Rules}
use Rattle.store_state.specs.State.{StoreState, state_of}
use Rattle.machine.specs.State.{Event, HeadersStored, BodyStored, Flush}
use Rattle.machine.specs.Marks.{done_by}
use Rattle.machine.specs.Tips.{AllSettled, IsAfterSome, Stored, stored_in, stored_after, kept_count, with_later, flush_count}
use Rattle.machine.specs.Clauses.{ReadsWithin}
use Rattle.machine.specs.Calls.{Call, Passes, IsMade, IsCall, EndsWell, IsOpen, IsWhole, Follows, joined, nothing_at}

-- ---- lists

pub stored-append : (es fs : List Event) (s : Stored) → stored_after (es ++ fs) s ≡ stored_after fs (stored_after es s)
stored-append [] fs s = refl
stored-append (event ∷ es) fs s = stored-append es fs _

pub count-append : (es fs : List Event) → flush_count (es ++ fs) ≡ flush_count es + flush_count fs
count-append [] fs = omega arith
count-append (HeadersStored headers ∷ es) fs = count-append es fs
count-append (BodyStored hash block ∷ es) fs = count-append es fs
count-append (Flush chain tip why touched ∷ es) fs = let e = count-append es fs in omega (arith, e)

pub all-append : (P : Flushed → Type 0) (xs ys : List Flushed) → AllByRecursion P xs → AllByRecursion P ys → AllByRecursion P (xs ++ ys)
all-append P [] ys a b = b
all-append P (x ∷ xs) ys a b = (a.0, all-append P xs ys a.1 b)

pub all-wider : (P Q : Flushed → Type 0) (xs : List Flushed) → ((x : Flushed) → P x → Q x) → AllByRecursion P xs → AllByRecursion Q xs
all-wider P Q [] f a = tt
all-wider P Q (x ∷ xs) f a = (f x a.0, all-wider P Q xs f a.1)

-- ---- what was done by when

abbrev NoneDone : ℕ → List Flushed → Type 0
NoneDone t [] = Unit {0}
NoneDone t (f ∷ fs) = (done_by t f.done ≡ false) × NoneDone t fs

not_yet : (t d : ℕ) → t < d → nat_le d t ≡ false
not_yet t d h = grind (arith, nat_tests)

not_done : (t low : ℕ) (done : Option ℕ) → t < low → ((d : ℕ) → done ≡ Some d → low ≤ d) → done_by t done ≡ false
not_done t low None e h = refl
not_done t low (Some d) e h = let after : low ≤ d = h d refl in not_yet t d (omega arith)

none_done_early : (t low high : ℕ) (fs : List Flushed) → t < low → AllByRecursion (ReadsWithin low high) fs → NoneDone t fs
none_done_early t low high [] e all = tt
none_done_early t low high (f ∷ fs) e all =
    (not_done t low f.done e (λ d is. let begun = all.0.0 in let done = all.0.2 d is in omega (arith, begun, done.0)), none_done_early t low high fs e all.1)

later_adds : (b : Bool) (k n m : ℕ) → k ≤ n + m → with_later b k ≤ suc n + m
later_adds true zero n m h = omega arith
later_adds false zero n m h = omega arith
later_adds b (suc k) n m h = omega arith

pub kept-append : (t : ℕ) (xs ys : List Flushed) → kept_count t (xs ++ ys) ≤ length xs + kept_count t ys
kept-append t [] ys = omega arith
kept-append t (x ∷ xs) ys = later_adds (done_by t x.done) (kept_count t (xs ++ ys)) (length xs) (kept_count t ys) (kept-append t xs ys)

pub none_kept : (t : ℕ) (fs : List Flushed) → NoneDone t fs → kept_count t fs ≡ 0
none_kept t [] n = refl
none_kept t (f ∷ fs) n = ap (λ (b : Bool). with_later b (kept_count t fs)) n.0 ∙ ap (λ (k : ℕ). with_later false k) (none_kept t fs n.1)

none_more : (t : ℕ) (xs ys : List Flushed) → kept_count t ys ≡ 0 → kept_count t (xs ++ ys) ≡ kept_count t xs
none_more t [] ys e = e
none_more t (x ∷ xs) ys e = ap (λ (n : ℕ). with_later (done_by t x.done) n) (none_more t xs ys e)

pub below_or_not : (m n : ℕ) → (m < n) ⊎ (n ≤ m)
below_or_not m n = elim (nat_lt m n) as (λ b. nat_lt m n ≡ b → (m < n) ⊎ (n ≤ m)) [
  | true ↦ λ e. inl (grind (arith, nat_tests))
  | false ↦ λ e. inr (grind (arith, nat_tests))
] refl

-- ---- two calls

-- the image came before the second call, or has a first part of its events
pub data When (limit : ℕ) (given : Rules) (a b : Call) (on : StoreState) (mid : ℕ → Image → Type 0) (t : ℕ) (c : Image) : Type 0 where
  Before : t < a.ended → mid t c → When limit given a b on mid t c
  Within : ((s : StoreState) → state_of limit given c ≡ Some s → IsAfterSome b.events t b.flushes on s) → When limit given a b on mid t c

module _ (limit : ℕ) (given : Rules) (past mid left : ℕ → Image → Type 0) (a b : Call) (from on : StoreState)
    (first : IsCall limit given past mid a from) (well : EndsWell limit given mid a from) (second : IsCall limit given mid left b on) (next : Follows a b) where
  reads_on : state_of limit given a.after ≡ Some on
  reads_on = subst (λ (c : Image). state_of limit given c ≡ Some on) next.contents second.stands_for

  passes : Passes past left (joined a b)
  passes = record {
    later = let e = next.time in let x = first.disk.later in let y = second.disk.later in omega arith;
    reads = first.disk.reads;
    reads_after = second.disk.reads_after;
    earlier = second.disk.earlier;
  }

  module _ (settled : AllSettled limit given (past a.entered)) where
    between : AllSettled limit given (mid b.entered)
    between c m = let e = next.time in let x = first.disk.later in first.settled settled c (first.disk.earlier a.entered b.entered c (omega arith) (omega arith) m)

    all_settled : AllSettled limit given (left a.entered)
    all_settled c l =
        let e = next.time in let x = first.disk.later in
        ⊎_elim
        (λ (h : a.entered < b.entered). ⊎_elim (λ m. first.settled settled c m) (λ made. made.settled) (second.before between a.entered c h l))
        (λ (h : b.entered ≤ a.entered).
        let k : a.entered ≡ b.entered = omega arith in
        second.settled between c (subst (λ (t : ℕ). left t c) k l))
        (below_or_not a.entered b.entered)

    when : (t : ℕ) (c : Image) → a.entered ≤ t → t ≤ b.ended → left t c → When limit given a b on mid t c
    when t c low high l =
        let e = next.time in let y = second.disk.later in
        ⊎_elim
        (λ (h : t < a.ended).
        let k : t < b.entered = omega arith in
        ⊎_elim (λ m. Before h m) (λ made. Within made.stored) (second.before between t c k l))
        (λ (h : a.ended ≤ t).
        let k : b.entered ≤ t = omega arith in
        Within (λ s is. second.leaves between t c s k high l is))
        (below_or_not t a.ended)

    -- what an image of the first call has, and one of the second
    early : (t : ℕ) (s : StoreState) → t < b.entered → IsAfterSome a.events t a.flushes from s → IsAfterSome (a.events ++ b.events) t (a.flushes ++ b.flushes) from s
    early t s g i =
        let none = none_kept t b.flushes (none_done_early t b.entered b.ended b.flushes g second.in_order) in
        let l = length-append a.flushes b.flushes in
        record {
          first = i.first;
          rest = i.rest ++ b.events;
          parts = ap (λ (es : List Event). es ++ b.events) i.parts ∙ append_assoc i.first i.rest b.events;
          enough = subst (λ (n : ℕ). n ≤ flush_count i.first) (sym (none_more t a.flushes b.flushes none)) i.enough;
          made = omega (arith, i.made, l);
          stored = i.stored;
        }

    late : (t : ℕ) (s : StoreState) → IsAfterSome b.events t b.flushes on s → IsAfterSome (a.events ++ b.events) t (a.flushes ++ b.flushes) from s
    late t s i =
        let p = kept-append t a.flushes b.flushes in
        let w = well.flushed in
        let v = count-append a.events i.first in
        let n = length-append a.flushes b.flushes in
        record {
          first = a.events ++ i.first;
          rest = i.rest;
          parts = ap (λ (es : List Event). a.events ++ es) i.parts ∙ sym (append_assoc a.events i.first i.rest);
          enough = omega (arith, p, w, v, i.enough);
          made = omega (arith, w, v, n, i.made);
          stored = i.stored ∙ ap (λ (x : Stored). stored_after i.first x) (well.stored a.after on first.disk.reads_after reads_on) ∙ sym (stored-append a.events i.first (stored_in from));
        }

    after : (t : ℕ) (c : Image) (s : StoreState) → a.entered ≤ t → state_of limit given c ≡ Some s → When limit given a b on mid t c → IsAfterSome (a.events ++ b.events) t (a.flushes ++ b.flushes) from s
    after t c s low is (Before h m) = let e = next.time in let k : t ≤ a.ended = omega arith in early t s (omega arith) (first.leaves settled t c s low k m is)
    after t c s low is (Within leaves) = late t s (leaves s is)

    -- a crash since a moment before the first
    anew : (t : ℕ) (c : Image) → t < a.entered → left t c → past t c ⊎ IsMade limit given (joined a b) from t c
    anew t c h l =
        let e = next.time in let x = first.disk.later in
        let k : t < b.entered = omega arith in
        ⊎_elim
        (λ m. ⊎_elim
        (λ p. inl p)
        (λ made. inr (record { settled = made.settled; stored = λ s is. early t s k (made.stored s is) }))
        (first.before settled t c h m))
        (λ made. inr (record { settled = made.settled; stored = λ s is. late t s (made.stored s is) }))
        (second.before between t c k l)

  pub both_meet : IsCall limit given past left (joined a b) from
  both_meet = record {
    disk = passes;
    stands_for = first.stands_for;
    settled = λ settled. all_settled settled;
    before = λ settled. anew settled;
    leaves = λ settled t c s low high l is. after settled t c s low is (when settled t c low high l);
    in_order =
        let e = next.time in let x = first.disk.later in let y = second.disk.later in
        all-append _ a.flushes b.flushes
        (all-wider (ReadsWithin a.entered a.ended) (ReadsWithin a.entered b.ended) a.flushes (λ f w. (w.0, omega (arith, w.1), λ d is. (let p = w.2 d is in (p.0, omega (arith, p.1))), w.3)) first.in_order)
        (all-wider (ReadsWithin b.entered b.ended) (ReadsWithin a.entered b.ended) b.flushes (λ f w. (omega (arith, w.0), w.1, w.2, w.3)) second.in_order);
  }

  pub both_well : EndsWell limit given left b on → EndsWell limit given left (joined a b) from
  both_well w = record {
    stored = λ c s l is.
        w.stored c s l is ∙ ap (λ (x : Stored). stored_after b.events x) (well.stored a.after on first.disk.reads_after reads_on) ∙ sym (stored-append a.events b.events (stored_in from));
    flushed = let v = count-append a.events b.events in let l = length-append a.flushes b.flushes in let p = well.flushed in let q = w.flushed in omega (arith, v, l, p, q);
  }

-- ---- calls that met no fault

same_some : {A : Type 0} (a b : A) → Some a ≡ Some b → a ≡ b
same_some a b e = cc

-- what all events leave is in the store at the end
pub all_stored : (limit : ℕ) (given : Rules) (past left : ℕ → Image → Type 0) (call : Call) (from on : StoreState)
    → IsWhole limit given past left call from on → stored_in on ≡ stored_after call.events (stored_in from)
all_stored limit given past left call from on whole = whole.well.stored call.after on whole.ends.reads (whole.ends.all call.after whole.ends.reads)

-- what the next call needs, after an opening or a call that met no fault
pub goes_on : (limit : ℕ) (given : Rules) (mid : ℕ → Image → Type 0) (a b : Call) (on : StoreState)
    → IsOpen limit given (mid a.ended) a.after on → Follows a b → IsOpen limit given (mid b.entered) b.contents on
goes_on limit given mid a b on ends next =
    subst (λ (t : ℕ). IsOpen limit given (mid t) b.contents on) (sym next.time)
    (subst (λ (c : Image). IsOpen limit given (mid a.ended) c on) (sym next.contents) ends)

-- a call that did nothing met no fault
pub nothing_done : (limit : ℕ) (given : Rules) (past : ℕ → Image → Type 0) (t : ℕ) (contents : Image) (store : StoreState)
    → ((u v : ℕ) (c : Image) → u ≤ v → v ≤ t → past v c → past u c) → IsOpen limit given (past t) contents store
    → IsWhole limit given past past (nothing_at t contents) store store
nothing_done limit given past t contents store earlier is_open =
    let only : (c : Image) (s : StoreState) → past t c → state_of limit given c ≡ Some s → s ≡ store = λ c s l is. same_some s store (sym is ∙ is_open.all c l) in
    record {
      meets = record {
        disk = record { later = omega arith; reads = is_open.reads; reads_after = is_open.reads; earlier = earlier };
        stands_for = is_open.all contents is_open.reads;
        settled = λ settled c l. settled c l;
        before = λ settled u c h l. inl l;
        leaves = λ settled u c s low high l is.
            let e : u ≡ t = omega arith in
            record {
              first = [];
              rest = [];
              parts = refl;
              enough = omega arith;
              made = omega arith;
              stored = ap stored_in (only c s (subst (λ (x : ℕ). past x c) e l) is);
            };
        in_order = tt;
      };
      well = record { stored = λ c s l is. ap stored_in (only c s l is); flushed = refl };
      ends = is_open;
    }

-- one that met no fault and another, which may have met one, are as one
pub whole_then : (limit : ℕ) (given : Rules) (past mid left : ℕ → Image → Type 0) (a b : Call) (from on : StoreState)
    → IsWhole limit given past mid a from on → IsCall limit given mid left b on → Follows a b → IsCall limit given past left (joined a b) from
whole_then limit given past mid left a b from on whole call next = both_meet limit given past mid left a b from on whole.meets whole.well call next

-- two that met no fault are as one that met none
pub whole_both : (limit : ℕ) (given : Rules) (past mid left : ℕ → Image → Type 0) (a b : Call) (from on end : StoreState)
    → IsWhole limit given past mid a from on → IsWhole limit given mid left b on end → Follows a b → IsWhole limit given past left (joined a b) from end
whole_both limit given past mid left a b from on end whole then next = record {
  meets = both_meet limit given past mid left a b from on whole.meets whole.well then.meets next;
  well = both_well limit given past mid left a b from on whole.meets whole.well then.meets next then.well;
  ends = then.ends;
}
