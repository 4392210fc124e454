-- Laws by which a layer above a disk composes device calls, and calls of its own.
use Rattle.std.specs.Prelude.{◌≡◌, ◌≢◌, ◌⊎◌, ℕ, ◌≤◌, List, Option, Some, None, Result, Ok, Err, OnOk, OnErr, refl, Bool, option_map}
use Rattle.std.proofs.Common.{arith, subst, ◌∙◌, inl, inr, ⊎_elim, ap, cond, eq-eqb}
use Rattle.std.proofs.lemmas.Bool.{ne_eqb}
use Rattle.disk_model.specs.Disk.{Image, At, Anyhow, Stays, Moves, Leaves, LeavesOnly, Quiet, Only, BothTold, OthersKept, changed_at}

-- the law of a disk on earlier moments
abbrev pub IsSinceEarlier : {D : Type 0} → (D → ℕ) → (D → ℕ → Image → Type 0) → Type 0
IsSinceEarlier {D} time left = (d : D) (t u : ℕ) (c : Image) → t ≤ u → u ≤ time d → left d u c → left d t c

-- Device calls on one file, by what its bytes are related to at the start.
module _ (start : ℕ) (first : ℕ → Image → Type 0) (file : ℕ) where
  -- an image of the start, with this file as the relation has it
  abbrev pub Outcome : (List ℕ → List ℕ → Type 0) → Image → Type 0
  Outcome Rel c = (e : Image) × first start e × At file Rel e c

  -- since the start each crash left an image of the start changed by Always, and now it leaves one changed by Now
  pub record SoFar (Always Now : List ℕ → List ℕ → Type 0) (now : ℕ) (left : ℕ → Image → Type 0) : Type 0 where
    pub later : start ≤ now
    pub since : (t : ℕ) (c : Image) → t ≤ start → left t c → first t c ⊎ Outcome Always c
    pub present : (c : Image) → left now c → Outcome Now c

  outcome_wider : (Rel Wider : List ℕ → List ℕ → Type 0) → ((a b : List ℕ) → Rel a b → Wider a b) → (c : Image) → Outcome Rel c → Outcome Wider c
  outcome_wider Rel Wider wider c o = (o.0, o.1, record { here = wider (o.0 file) (c file) o.2.here; others = o.2.others })

  outcome_steps : (Now Next Step : List ℕ → List ℕ → Type 0) → ((o a b : List ℕ) → Now o a → Step a b → Next o b)
      → (e c : Image) → Outcome Now e → At file Step e c → Outcome Next c
  outcome_steps Now Next Step next e c o s = (
    o.0,
    o.1,
    record { here = next (o.0 file) (e file) (c file) o.2.here s.here; others = λ f apart. s.others f apart ∙ o.2.others f apart },
  )

  -- before the first call
  pub so_far_begins : (Always Now : List ℕ → List ℕ → Type 0) → ((c : Image) → first start c → Now (c file) (c file)) → SoFar Always Now start first
  so_far_begins Always Now here = record {
    later = omega arith;
    since = λ t c le left. inl left;
    present = λ c left. (c, left, record { here = here c left; others = λ f apart. refl });
  }

  -- a call that changes the file
  pub so_far_steps : {T E : Type 0} (Always Now Next Step : List ℕ → List ℕ → Type 0) (before now : ℕ) (past since : ℕ → Image → Type 0) (result : Result T E)
      → SoFar Always Now before past → Moves (At file Step) before now past since result
      → ((o a b : List ℕ) → Now o a → Step a b → Next o b) → ((o b : List ℕ) → Next o b → Always o b) → SoFar Always Next now since
  so_far_steps Always Now Next Step before now past since result so_far m next always =
      let here : (c : Image) → since now c → Outcome Next c =
      λ c left. let from = m.follows c left in outcome_steps Now Next Step next from.0 c (so_far.present from.0 from.1) from.2 in
      let began = so_far.later in
      let took = m.later in
      record {
        later = omega arith;
        since = λ t c early left. ⊎_elim (so_far.since t c early) (λ now_left. inr (outcome_wider Next Always always c (here c now_left))) (m.nothing_else t c (omega arith) left);
        present = here;
      }

  -- a call that changes nothing
  pub so_far_stays : {T E : Type 0} (Always Now : List ℕ → List ℕ → Type 0) (before now : ℕ) (past since : ℕ → Image → Type 0) (result : Result T E)
      → SoFar Always Now before past → Moves Stays before now past since result → ((o b : List ℕ) → Now o b → Always o b) → SoFar Always Now now since
  so_far_stays Always Now before now past since result so_far m always =
      let here : (c : Image) → since now c → Outcome Now c =
      λ c left. let from = m.follows c left in subst (Outcome Now) from.2 (so_far.present from.0 from.1) in
      let began = so_far.later in
      let took = m.later in
      record {
        later = omega arith;
        since = λ t c early left. ⊎_elim (so_far.since t c early) (λ now_left. inr (outcome_wider Now Always always c (here c now_left))) (m.nothing_else t c (omega arith) left);
        present = here;
      }

  -- where the file has the same bytes in each image, as after a sync
  pub so_far_durable : (Always Now : List ℕ → List ℕ → Type 0) (bytes : List ℕ) (now : ℕ) (left : ℕ → Image → Type 0)
      → SoFar Always Now now left → Only file bytes (left now) → SoFar Always (λ o b. Now o b × (b ≡ bytes)) now left
  so_far_durable Always Now bytes now left so_far only = record {
    later = so_far.later;
    since = so_far.since;
    present = λ c here. let o = so_far.present c here in (o.0, o.1, record { here = (o.2.here, only c here); others = o.2.others });
  }

-- Calls of any kind, on disks.
module _ {D : Type 0} (time : D → ℕ) (left : D → ℕ → Image → Type 0) where
  -- the device calls so far, seen as one call
  pub so_far_leaves : (file : ℕ) (Always Now : List ℕ → List ℕ → Type 0) (old new : D)
      → SoFar (time old) (left old) file Always Now (time new) (left new) → Leaves time left (At file Always) old new
  so_far_leaves file Always Now old new s = record { later = s.later; since = s.since }

  -- no call
  pub leaves_none : (Step : Image → Image → Type 0) (d : D) → Leaves time left Step d d
  leaves_none Step d = record { later = omega arith; since = λ t c le here. inl here }

  -- one device call
  pub leaves_call : {T E : Type 0} (Step : Image → Image → Type 0) (old new : D) (result : Result T E)
      → Moves Step (time old) (time new) (left old) (left new) result → Leaves time left Step old new
  leaves_call Step old new result m = record {
    later = m.later;
    since = λ t c le here. ⊎_elim (λ was. inl was) (λ now. inr (m.follows c now)) (m.nothing_else t c le here);
  }

  pub leaves_wider : (Step Wider : Image → Image → Type 0) (old new : D) → ((a b : Image) → Step a b → Wider a b) → Leaves time left Step old new → Leaves time left Wider old new
  leaves_wider Step Wider old new wider l = record {
    later = l.later;
    since = λ t c le here. ⊎_elim (λ was. inl was) (λ o. inr (o.0, o.1, wider o.0 c o.2)) (l.since t c le here);
  }

  -- what a crash leaves now
  pub leaves_now : IsSinceEarlier time left → (Step : Image → Image → Type 0) (old new : D) → Leaves time left Step old new
      → (c : Image) → left new (time new) c → left old (time old) c ⊎ (e : Image) × left old (time old) e × Step e c
  leaves_now earlier Step old new l c now =
      let later = l.later in
      l.since (time old) c (omega arith) (earlier new (time old) (time new) c l.later (omega arith) now)

  -- two calls, where a step of the second after one of the first, or alone, is such a step
  pub leaves_then : IsSinceEarlier time left → (Step Next Both : Image → Image → Type 0) (old mid new : D)
      → ((a b : Image) → Step a b → Both a b) → ((a b : Image) → Next a b → Both a b) → ((a b c : Image) → Step a b → Next b c → Both a c)
      → Leaves time left Step old mid → Leaves time left Next mid new → Leaves time left Both old new
  leaves_then earlier Step Next Both old mid new first second both a b =
      let began = a.later in
      let took = b.later in
      record {
        later = omega arith;
        since = λ t c le here. ⊎_elim
            (λ was. ⊎_elim (λ p. inl p) (λ o. inr (o.0, o.1, first o.0 c o.2)) (a.since t c le was))
            (λ n. ⊎_elim
            (λ was. inr (n.0, was, second n.0 c n.2))
            (λ o. inr (o.0, o.1, both o.0 n.0 c o.2 n.2))
            (leaves_now earlier Step old mid a n.0 n.1))
            (b.since t c (omega arith) here);
      }

  -- two calls on one file, of which no more is said
  pub anyhow_then : IsSinceEarlier time left → (file : ℕ) (old mid new : D)
      → Leaves time left (At file Anyhow) old mid → Leaves time left (At file Anyhow) mid new → Leaves time left (At file Anyhow) old new
  anyhow_then earlier file old mid new a b =
      leaves_then earlier (At file Anyhow) (At file Anyhow) (At file Anyhow) old mid new (λ x y s. s) (λ x y s. s)
      (λ x y z s n. record { here = tt; others = λ f apart. n.others f apart ∙ s.others f apart }) a b

  -- what a call on one file leaves of another, now
  pub elsewhere : IsSinceEarlier time left → (file : ℕ) (Step : List ℕ → List ℕ → Type 0) (old new : D) → Leaves time left (At file Step) old new
      → (other : ℕ) → other ≢ file → (c : Image) → left new (time new) c → (e : Image) × left old (time old) e × (c other ≡ e other)
  elsewhere earlier file Step old new l other apart c now =
      ⊎_elim (λ was. (c, was, refl)) (λ o. (o.0, o.1, o.2.others other apart)) (leaves_now earlier (At file Step) old new l c now)

  -- one call, by what each image of its beginning has
  pub leaves_only : (Step : Image → Image → Type 0) (P : Image → Type 0) (old new : D) → Leaves time left Step old new
      → ((e : Image) → left old (time old) e → P e) → ((e c : Image) → left old (time old) e → Step e c → P c) → LeavesOnly time left old new P
  leaves_only Step P old new l here step = record {
    later = l.later;
    each = λ c now. ⊎_elim (here c) (λ o. step o.0 c o.1 o.2) (l.since (time old) c (omega arith) now);
    before = λ t c le now. ⊎_elim (λ was. inl was) (λ o. inr (step o.0 c o.1 o.2)) (l.since t c le now);
  }

  -- two calls, one after the other
  pub then_only : (P : Image → Type 0) (old mid new : D) → LeavesOnly time left old mid P → LeavesOnly time left mid new P → LeavesOnly time left old new P
  then_only P old mid new a b =
      let began = a.later in
      let took = b.later in
      record {
        later = omega arith;
        each = λ c now. ⊎_elim (a.each c) (λ p. p) (b.before (time old) c began now);
        before = λ t c le now. ⊎_elim (a.before t c le) (λ p. inr p) (b.before t c (omega arith) now);
      }

  pub only_wider : (P Q : Image → Type 0) (old new : D) → ((c : Image) → P c → Q c) → LeavesOnly time left old new P → LeavesOnly time left old new Q
  only_wider P Q old new wider l = record {
    later = l.later;
    each = λ c now. wider c (l.each c now);
    before = λ t c le now. ⊎_elim (λ was. inl was) (λ p. inr (wider c p)) (l.before t c le now);
  }

  -- calls that change nothing
  pub only_quiet : (P : Image → Type 0) (old new : D) → Quiet time left old new → ((e : Image) → left old (time old) e → P e) → LeavesOnly time left old new P
  only_quiet P old new q here = record {
    later = q.later;
    each = λ c now. here c (q.since (time old) c (omega arith) now);
    before = λ t c le now. inl (q.since t c le now);
  }

  pub leaves_quiet : (Step : Image → Image → Type 0) (old new : D) → Quiet time left old new → Leaves time left Step old new
  leaves_quiet Step old new q = record { later = q.later; since = λ t c le now. inl (q.since t c le now) }

  pub quiet_none : (d : D) → Quiet time left d d
  quiet_none d = record { later = omega arith; since = λ t c le here. here }

  pub quiet_then : (old mid new : D) → Quiet time left old mid → Quiet time left mid new → Quiet time left old new
  quiet_then old mid new a b =
      let began = a.later in
      let took = b.later in
      record { later = omega arith; since = λ t c le now. a.since t c le (b.since t c (omega arith) now) }

  -- one more device call that changes nothing
  pub quiet_call : {T E : Type 0} → IsSinceEarlier time left → (old mid new : D) (result : Result T E)
      → Quiet time left old mid → Moves Stays (time mid) (time new) (left mid) (left new) result → Quiet time left old new
  quiet_call earlier old mid new result q m =
      let began = q.later in
      let took = m.later in
      record {
        later = omega arith;
        since = λ t c le now. ⊎_elim
            (λ was. q.since t c le was)
            (λ here. let from = m.follows c here in q.since t c le (subst (λ (i : Image). left mid t i) from.2 (earlier mid t (time mid) from.0 (omega arith) (omega arith) from.1)))
            (m.nothing_else t c (omega arith) now);
      }

  -- device calls on one file go on over calls that change nothing
  pub so_far_quiet : IsSinceEarlier time left → (start : ℕ) (first : ℕ → Image → Type 0) (file : ℕ) (Always Now : List ℕ → List ℕ → Type 0) (mid new : D)
      → SoFar start first file Always Now (time mid) (left mid) → Quiet time left mid new → SoFar start first file Always Now (time new) (left new)
  so_far_quiet earlier start first file Always Now mid new s q =
      let began = s.later in
      let took = q.later in
      record {
        later = omega arith;
        since = λ t c le now. s.since t c le (q.since t c (omega arith) now);
        present = λ c now. s.present c (q.since (time mid) c (omega arith) (earlier new (time mid) (time new) c took (omega arith) now));
      }

-- What a disk tells.

pub others_same : (file : ℕ) (old new : Option Image) → old ≡ new → OthersKept file old new
others_same file None None e = tt
others_same file (Some m) (Some n) e = λ f apart. cc
others_same file None (Some n) e = cc
others_same file (Some m) None e = cc

-- where the other files read the same after each of two calls, they do after both
pub others_then : (file : ℕ) (old mid new : Option Image) → OthersKept file old mid → OthersKept file mid new → OthersKept file old new
others_then file None None None a b = tt
others_then file (Some l) (Some m) (Some n) a b = λ f apart. b f apart ∙ a f apart
others_then file None None (Some n) a b = b
others_then file (Some l) (Some m) None a b = b
others_then file None (Some m) new a b = absurd a
others_then file (Some l) None new a b = absurd a

-- a step of one file keeps the others
pub others_at : (file : ℕ) (Step : List ℕ → List ℕ → Type 0) (old new : Option Image) → BothTold (At file Step) old new → OthersKept file old new
others_at file Step None None s = tt
others_at file Step (Some m) (Some n) s = s.others
others_at file Step None (Some n) s = absurd s
others_at file Step (Some m) None s = absurd s

-- the file that is changed
pub changed_here : {A : Type 0} (file : ℕ) (change : A → A) (each : ℕ → A) → changed_at file change each file ≡ change (each file)
changed_here file change each = ap (λ (b : Bool). cond b (change (each file)) (each file)) (eq-eqb file file refl)

-- any other file
pub changed_else : {A : Type 0} (file : ℕ) (change : A → A) (each : ℕ → A) (f : ℕ) → f ≢ file → changed_at file change each f ≡ each f
changed_else file change each f apart = ap (λ (b : Bool). cond b (change (each f)) (each f)) (ne_eqb f file apart)

-- what is told after a call that changes what is told
pub told_after : {A : Type 0} (change : A → A) (old new : Option A) (m : A) → new ≡ option_map change old → old ≡ Some m → new ≡ Some (change m)
told_after change old new m is told = is ∙ ap (option_map change) told

pub on_ok : {T E : Type 0} (result : Result T E) (P Q : Type 0) → (P → Q) → OnOk result P → OnOk result Q
on_ok (Ok v) P Q f p = f p
on_ok (Err e) P Q f p = tt

pub on_err : {T E : Type 0} (result : Result T E) (P Q : Type 0) → (P → Q) → OnErr result P → OnErr result Q
on_err (Ok v) P Q f p = tt
on_err (Err e) P Q f p = f p
