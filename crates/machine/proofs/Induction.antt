-- What each run of a list begins with, and how it opens.
use Rattle.std.proofs.Common.{◌≡◌, ◌⊎◌, ⊎_elim, inl, inr, ℕ, zero, suc, ◌≤◌, true, List, [], ◌∷◌, ◌++◌, length, map, Option, Some, None, refl, sym, ap, subst, ◌∙◌, arith, le_refl, is_some}
use Rattle.std.specs.Prelude.{All, ◌≢◌}
use Rattle.std.specs.FinMap.{empty}
use Rattle.std.specs.List.{AllByRecursion}
use Rattle.disk_model.specs.Disk.{Image}
use Rattle.base_types.specs.declared.flushes.Chain.TheVariants.{Full, Snapshot}
use Rattle.base_types.specs.declared.flushes.Flushed.{Flushed}
use Rattle.base_types.specs.declared.hash.Hash32.{Hash32}
use Rattle.base_types.specs.declared.program.Rules.{Rules}
use Rattle.chain_model.specs.Choice.{coins_at, is_valid}
use Rattle.coin_store.specs.declared.marker.Marker.{Marker}
use Rattle.coin_store.specs.declared.marker.Marker.TheVariants.{At, Between}
use Rattle.store_state.specs.GivenRules.{StandsAlike, SameButRules}
use Rattle.store_state.specs.Roles.{Role, Alone, full_of, beside}
use Rattle.store_state.specs.Settled.{Settled, IsSettled}
use Rattle.store_state.specs.State.{StoreState, Chainstate, state_of, choice_of, tip_of, tip_of_marker, blocks_in, tips_of}
use Rattle.store_state.proofs.OtherRules.{alike}
use Rattle.machine.specs.declared.report.Opened.{Opened}
use Rattle.machine.specs.declared.report.Opened.TheVariants.{Not, Yes}
use Rattle.machine.specs.Answers.{IsPrefix, FlushName, flushes_of, name_of}
use Rattle.machine.specs.Clauses.{IsRun, InOrder, now_at}
use Rattle.machine.specs.Courses.{Course, whole, events_of}
use Rattle.machine.specs.Histories.{Stop, Finished, Stopped, moment, GoesOn, BeginsEmpty, Left, left_of, first_past, Led, StandsWell, OpensWell, ToldAreKept}
use Rattle.machine.specs.Marks.{Mark, Since, Past, StandsAt, begun_at, with_flush, mark_of, past_after, done_by}
use Rattle.machine.specs.Runs.{Run}
use Rattle.machine.specs.State.{Event, HeadersStored, BodyStored, Flush}
use Rattle.machine.specs.Tips.{AllSettled, AsAtEntry, IsAfterSome, Stored, StoredChain, stored_chain, stored_in, stored_after, full_flushed, flush_count}
use Rattle.machine.proofs.Early.{all_told}
use Rattle.machine.proofs.Empty.{empty_store, at_empty, empty_settled}
use Rattle.machine.proofs.Marking.{in_words}

-- ---- tips after events

abbrev pub StandsChain : Since → Option StoredChain → Type 0
StandsChain since None = Unit {0}
StandsChain since (Some chain) = StandsAt since.start since.marks chain.tip

-- each chainstate that is there stands at its last kept flush or a later one
pub record Stands (past : Past) (active : StoredChain) (role : Role StoredChain) : Type 0 where
  pub full : StandsChain past.full (full_of active role)

behind : (start : Hash32) (ms : List Mark) (m : Mark) (tip : Hash32) → m.tip ≡ tip → StandsAt start (ms ++ m ∷ []) tip
behind start [] m tip e = inl (sym e)
behind start (x ∷ ms) m tip e = inl (behind x.tip ms m tip e)

after_full : (past : Past) (stored : Stored) (m : Mark) (tip : Hash32) (role : Role StoredChain) → m.tip ≡ tip → Stands past stored.active role
    → Stands (with_flush Full m past) (full_flushed tip role (record stored { role = role })).active (full_flushed tip role (record stored { role = role })).role
after_full past stored m tip Alone e s = record { full = behind past.full.start past.full.marks m tip e }

-- each flush event has a member with its tip
abbrev Paired : List Event → List Flushed → Type 0
Paired [] members = Unit {0}
Paired (HeadersStored headers ∷ events) members = Paired events members
Paired (BodyStored hash block ∷ events) members = Paired events members
Paired (Flush chain tip why touched ∷ events) [] = ⊥
Paired (Flush chain tip why touched ∷ events) (member ∷ members) = (member.tip ≡ tip) × Paired events members

first_is : (x y : FlushName) (xs ys : List FlushName) → x ∷ xs ≡ y ∷ ys → (x ≡ y) × (xs ≡ ys)
first_is x y xs ys e = (cc, cc)

paired : (first rest : List Event) (members : List Flushed) → flush_count first ≤ length members → IsPrefix (map name_of members) (flushes_of (first ++ rest)) → Paired first members
paired [] rest members made p = tt
paired (HeadersStored headers ∷ first) rest members made p = paired first rest members made p
paired (BodyStored hash block ∷ first) rest members made p = paired first rest members made p
paired (Flush chain tip why touched ∷ first) rest [] made p = absurd (omega (arith, made))
paired (Flush chain tip why touched ∷ first) rest (member ∷ members) made p =
    let e = first_is (chain, tip, why) (name_of member) (flushes_of (first ++ rest)) (map name_of members ++ p.0) p.1 in
    (ap (λ (x : FlushName). x.1) (sym e.0), paired first rest members (omega (arith, made)) (p.0, e.1))

events_stand : (t : ℕ) (events : List Event) (members : List Flushed) (past : Past) (stored : Stored) → Paired events members → Stands past stored.active stored.role
    → Stands (past_after t events members past) (stored_after events stored).active (stored_after events stored).role
unfolding past_after
events_stand t [] members past stored p s = s
events_stand t (HeadersStored headers ∷ events) members past stored p s = events_stand t events members past _ p s
events_stand t (BodyStored hash block ∷ events) members past stored p s = events_stand t events members past _ p s
events_stand t (Flush chain tip why touched ∷ events) [] past stored p s = absurd p
events_stand t (Flush Full tip why touched ∷ events) (member ∷ members) past stored p s =
    events_stand t events members _ (full_flushed tip stored.role stored) p.1 (after_full past stored (mark_of t member) tip stored.role p.0 s)
events_stand t (Flush Snapshot tip why touched ∷ events) (member ∷ members) past stored p s = events_stand t events members past stored p.1 s

-- ---- where a crash leaves each tip, in the words of flushes

-- each chainstate at its tip, without flushes yet
abbrev pub past_at : StoredChain → Role StoredChain → Past
past_at active Alone = record { full = begun_at active.tip }

stands_at : (active : StoredChain) (role : Role StoredChain) → Stands (past_at active role) active role
stands_at active Alone = record { full = refl }

-- In an image since the opening each chainstate's tip is that of its last flush that was done by then or of a later one; where
-- there is no such flush, of any of its flushes, or its tip at opening.
pub crash_leaves_tips : (t : ℕ) (events : List Event) (members : List Flushed) (from store : StoreState) → IsPrefix (map name_of members) (flushes_of events)
    → (some : IsAfterSome events t members from store)
    → Stands (past_after t some.first members (past_at (stored_in from).active (stored_in from).role)) (stored_in store).active (stored_in store).role
crash_leaves_tips t events members from store names some =
    let before = stored_in from in
    let pairs = paired some.first some.rest members some.made (subst (λ (es : List Event). IsPrefix (map name_of members) (flushes_of es)) some.parts names) in
    subst (λ (s : Stored). Stands (past_after t some.first members (past_at before.active before.role)) s.active s.role) (sym some.stored)
    (events_stand t some.first members (past_at before.active before.role) before pairs (stands_at before.active before.role))

-- ---- a settled store

some_of : {A : Type 0} (o : Option A) → is_some o ≡ true → (a : A) × (o ≡ Some a)
some_of None e = absurd cc
some_of (Some a) e = (a, refl)

pub same_some : {A : Type 0} (a b : A) → Some a ≡ Some b → a ≡ b
same_some a b e = cc

first_tip : (P : Hash32 → Type 0) (marker : Marker) → All P (tips_of marker) → P (tip_of_marker marker)
first_tip P (At tip) all = all 0 tip (omega arith)
first_tip P (Between new_tip old_tip) all = all 0 new_tip (omega arith)

well : (store : StoreState) (since : Since) → IsSettled store → StandsAt since.start since.marks (tip_of store.active) → StandsWell store since (Some store.active)
well store since settled s =
    let Valid : Hash32 → Type 0 = λ tip. is_valid (choice_of store store.active) tip ≡ true in
    (in_words since.start since.marks (tip_of store.active) s, some_of (coins_at (choice_of store store.active) (tip_of store.active)) (first_tip Valid store.active.marker settled.tips))

full_well : (store : StoreState) (since : Since) (role : Role Chainstate) → IsSettled store
    → StandsChain since (full_of (stored_chain store.active) (beside stored_chain role)) → StandsWell store since (full_of store.active role)
full_well store since Alone settled s = well store since settled s

-- ---- histories

-- what is left, under other given rules
left_alike : (a b : StoreState) → SameButRules a b → left_of (stored_in b) ≡ left_of (stored_in a)
left_alike a b same = λ i. record {
  headers = sym same.headers i;
  bodies = blocks_in empty (sym same.bodies i);
  active = stored_chain (sym same.active i);
  role = beside stored_chain (sym same.role i);
}

module _ (limit : ℕ) (run : ℕ → Run) (stop : ℕ → Stop) (entry : ℕ → Image → Type 0) (left : ℕ → ℕ → Image → Type 0)
    (first : BeginsEmpty (entry 0))
    (runs : (n : ℕ) → IsRun limit (run n).setting.given (entry n) (left n) (run n))
    (next : (n : ℕ) → GoesOn (stop n) (left n) (run n) (entry (suc n)) (run (suc n))) where
  abbrev given : ℕ → Rules
  given n = (run n).setting.given

  -- what a run begins with is what was left at the moment of the last stop
  left_at : (s : Stop) (n : ℕ) → GoesOn s (left n) (run n) (entry (suc n)) (run (suc n)) → (c : Image) → entry (suc n) c
      → ((run n).entered ≤ moment s (run n)) × (moment s (run n) ≤ (run n).ended) × left n (moment s (run n)) c
  left_at Finished n g c e = ((runs n).disk.later, le_refl _, g.1 c e)
  left_at (Stopped t d) n g c e = (g.0, g.1, subst (λ (x : Image). left n t x) (sym (g.3 c e)) g.2)

  -- as the run before left it, under its own rules
  settled_before : (n : ℕ) → AllSettled limit (given n) (entry n) → (c : Image) → entry (suc n) c → Settled limit (given n) c
  settled_before n all c e =
      let l = left_at (stop n) n (next n) c e in
      (runs n).settled all c ((runs n).disk.earlier (run n).entered (moment (stop n) (run n)) c l.0 l.1 l.2)

  on_alike : (n : ℕ) (c : Image) → (s : Settled limit (given n) c) → StandsAlike limit (given (suc n)) c s.state
  on_alike n c s = alike limit (given n) (given (suc n)) c s.state s.stands_for s.settled

  all_settled : (n : ℕ) → AllSettled limit (given n) (entry n)
  all_settled zero c e = empty_settled limit (given 0) c (first c e)
  all_settled (suc n) c e =
      let a = on_alike n c (settled_before n (all_settled n) c e) in
      record { state = a.other; stands_for = a.stands_for; settled = a.settled }

  -- what led to a store, and where its chainstates stand
  record Known (n : ℕ) (there : Left) : Type 0 where
    past : Past
    led : Led run stop n there past
    stands : Stands past there.active there.role

  known_empty : (store : StoreState) → store ≡ empty_store (given 0) → Known 0 (left_of (stored_in store))
  unfolding blocks_in
  known_empty store e = subst (λ (s : StoreState). Known 0 (left_of (stored_in s))) (sym e) (record { past = first_past; led = (refl, refl); stands = record { full = refl } })

  -- a store that is as one of the disk at entry
  known_early : (n : ℕ) (store : StoreState) → ((c : Image) (s : StoreState) → entry n c → state_of limit (given n) c ≡ Some s → Known n (left_of (stored_in s)))
      → AsAtEntry limit (given n) (entry n) (run n).opened (moment (stop n) (run n)) store → Known (suc n) (left_of (stored_in store))
  known_early n store before a =
      let k = before a.image a.was a.at_entry a.stands_for in
      record {
        past = k.past;
        led = (left_of (stored_in a.was), k.past, k.led, inr (record { early = a.early; same = ap left_of a.stored; unmarked = refl }));
        stands = subst (λ (s : Stored). Stands k.past s.active s.role) (sym a.stored) k.stands;
      }

  -- or was changed by a first part of the events
  known_later : (n : ℕ) (from store : StoreState) → state_of limit (given n) (run n).contents ≡ Some from → Known n (left_of (stored_in from)) → (course : Course (run n).setting (now_at (run n) from) (run n).taken)
      → IsPrefix (map name_of (run n).flushes) (flushes_of (events_of (whole course)))
      → IsAfterSome (events_of (whole course)) (moment (stop n) (run n)) (run n).flushes from store → Known (suc n) (left_of (stored_in store))
  known_later n from store stands k course names some =
      let now = past_after (moment (stop n) (run n)) some.first (run n).flushes k.past in
      let pairs = paired some.first some.rest (run n).flushes some.made (subst (λ (es : List Event). IsPrefix (map name_of (run n).flushes) (flushes_of es)) some.parts names) in
      let after = events_stand (moment (stop n) (run n)) some.first (run n).flushes k.past (stored_in from) pairs k.stands in
      record {
        past = now;
        led = (
          left_of (stored_in from),
          k.past,
          k.led,
          inl (record {
            from = from;
            stands_for = subst (λ (l : ℕ). state_of l (given n) (run n).contents ≡ Some from) (sym (runs n).limits) stands;
            begins_there = refl;
            course = course;
            names = names;
            store = store;
            some = some;
            left = refl;
            marked = refl;
          }),
        );
        stands = subst (λ (s : Stored). Stands now s.active s.role) (sym some.stored) after;
      }

  not_or : (opened : Opened) → (opened ≡ Not) ⊎ (opened ≢ Not)
  not_or Not = inl refl
  not_or (Yes at full snapshot) = inr (λ e. cc)

  -- by what the run before left
  known_next : (n : ℕ) → ((c : Image) (s : StoreState) → entry n c → state_of limit (given n) c ≡ Some s → Known n (left_of (stored_in s)))
      → (c : Image) (store : StoreState) → entry (suc n) c → state_of limit (given n) c ≡ Some store → Known (suc n) (left_of (stored_in store))
  known_next n before c store e is =
      let l = left_at (stop n) n (next n) c e in
      let at = all_settled n (run n).contents (runs n).disk.reads in
      ⊎_elim
      (λ (not : (run n).opened ≡ Not). known_early n store before ((runs n).not_opened (all_settled n) not (moment (stop n) (run n)) c store l.0 l.1 l.2 is))
      (λ (opened : (run n).opened ≢ Not).
      let a = (runs n).after_opening (all_settled n) at.state at.stands_for opened in
      ⊎_elim
      (λ early. known_early n store before early)
      (λ some. known_later n at.state store at.stands_for (before (run n).contents at.state (runs n).disk.reads at.stands_for) a.course a.answers.flushes some)
      (a.leaves (moment (stop n) (run n)) c store l.0 l.1 l.2 is))
      (not_or (run n).opened)

  known : (n : ℕ) (c : Image) (store : StoreState) → entry n c → state_of limit (given n) c ≡ Some store → Known n (left_of (stored_in store))
  known zero c store e is = known_empty store (same_some store (empty_store (given 0)) (sym is ∙ at_empty limit (given 0) c (first c e)))
  known (suc n) c store e is =
      let s = settled_before n (all_settled n) c e in
      let a = on_alike n c s in
      let same : a.other ≡ store = same_some a.other store (sym a.stands_for ∙ is) in
      subst (λ (x : StoreState). Known (suc n) (left_of (stored_in x))) same
      (subst (λ (x : Left). Known (suc n) x) (sym (left_alike s.state a.other a.same)) (known_next n (known n) c s.state e s.stands_for))

  pub opens : (n : ℕ) → (run n).opened ≢ Not → OpensWell limit run stop n
  opens n opened =
      let at = all_settled n (run n).contents (runs n).disk.reads in
      let k = known n (run n).contents at.state (runs n).disk.reads at.stands_for in
      let a = (runs n).after_opening (all_settled n) at.state at.stands_for opened in
      record {
        store = at.state;
        stands_for = at.stands_for;
        past = k.past;
        led = k.led;
        settled = at.settled;
        found = (runs n).opens.found;
        full = full_well at.state k.past.full at.state.role at.settled k.stands.full;
        course = a.course;
        answers = a.answers.text;
      }

  -- ---- told flushes

  told_in : (n : ℕ) (opened : Opened) → (run n).opened ≡ opened → InOrder (run n) opened → ToldAreKept (run n)
  told_in n Not is o = subst (λ (fs : List Flushed). AllByRecursion (λ f. f.told ≡ true → done_by (run n).ended f.done ≡ true) fs) (sym ((runs n).opens.idle is)) tt
  told_in n (Yes at full snapshot) is o = all_told at (run n).ended (run n).flushes o.2

  pub told : (n : ℕ) → ToldAreKept (run n)
  told n = told_in n (run n).opened refl (runs n).in_order
