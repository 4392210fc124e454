-- A run that opens the store and then ends so meets what a run promises.
use Rattle.std.proofs.Common.{◌≡◌, ◌⊎◌, ℕ, ◌+◌, ◌≤◌, Bool, true, false, List, [], ◌∷◌, ◌++◌, length, map, take, drop, Option, Some, refl, sym, ap, subst, ◌∙◌, arith, le_refl, append_assoc, append-nil, length-append}
use Rattle.std.specs.Prelude.{unwrap_or}
use Rattle.std.specs.List.{AllByRecursion}
use Rattle.std.proofs.Math.Seq.{take-append_seam, drop-append_seam}
use Rattle.std.proofs.lemmas.Bool.{false≢true}
use Rattle.disk_model.specs.Disk.{Image}
use Rattle.base_types.specs.declared.flushes.Flushed.{Flushed}
use Rattle.base_types.specs.declared.program.Rules.{Rules}
use Rattle.base_types.specs.declared.program.Status.{Status}
use Rattle.base_types.specs.declared.program.Status.TheVariants as status
use Rattle.io_traits.specs.Causes.{RoseBy}
use Rattle.store_state.specs.Settled.{IsSettled}
use Rattle.store_state.specs.State.{StoreState}
use Rattle.machine.specs.declared.report.Found.{Found}
use Rattle.machine.specs.declared.report.Opened.{Opened}
use Rattle.machine.specs.declared.report.Opened.TheVariants.{Not, Yes}
use Rattle.machine.specs.State.{Setting, begins}
use Rattle.machine.specs.Steps.{Did}
use Rattle.machine.specs.Courses.{whole, replies_of, text_of, events_of}
use Rattle.machine.specs.Runs.{Run}
use Rattle.machine.specs.Tips.{AllSettled, OfEach, AsAtEntry, IsAfterSome}
use Rattle.machine.specs.Calls.{Call, FailsToOpen, IsOpen, IsOpening, IsOpenedRun, opened_at}
use Rattle.machine.specs.Clauses.{IsRun, AfterOpening, InOrder, ReadsWithin}
use Rattle.machine.specs.Answers.{Opens, IsPrefix, Answers, FoundIn, name_of, flushes_of, told_flushes, flushes_told_by, flushes_with_lines, whole_replies, comes_before, needs_opening}
use Rattle.machine.specs.Work.{AddsFlushes, call_between}
use Rattle.machine.proofs.FlushLists.{prefix_more}
use Rattle.machine.proofs.Opening.{opened_run, opened_all}
use Rattle.command_loop.specs.Points.{Outer, Point, now_of}
use Rattle.command_loop.specs.Ending.{Takes, Finish}
use Rattle.command_loop.proofs.ReplyLists.{whole_more}
use Rattle.command_loop.proofs.Ways.{replies_of-append, text_of-append}

same_store : (a b : StoreState) → Some a ≡ Some b → a ≡ b
same_store a b e = cc

is_not : Opened → Bool
is_not Not = true
is_not (Yes at full snapshot) = false

yes_not : (at : ℕ) (full snapshot : Option Found) → Yes at full snapshot ≡ Not → ⊥
unfolding is_not
yes_not at full snapshot e = false≢true (ap is_not e)

module _ (setting : Setting) (past mid left : ℕ → Image → Type 0) (entered : ℕ) (contents : Image) (first : Outer) (from on : StoreState)
    (opening : IsOpening setting.limit setting.given past mid (record { entered = entered; ended = first.moment.time; contents = contents; after = first.moment.contents; flushes = []; events = [] }) from on)
    (o : Outer) (result : Status) (taken : List ℕ) (at_end : Bool) (finish : Finish setting mid left (record { outer = first; state = begins from; store = on }) o result taken)
    (later_status : comes_before result ≡ false) (ends : result ≡ status.Done → at_end ≡ true) where
  abbrev p : Point
  p = record { outer = first; state = begins from; store = on }

  abbrev open_call : Call
  open_call = record { entered = entered; ended = first.moment.time; contents = contents; after = first.moment.contents; flushes = []; events = [] }

  abbrev pub run_of : Run
  run_of = record {
    setting = setting;
    entered = entered;
    ended = o.moment.time;
    contents = contents;
    after = o.moment.contents;
    taken = taken;
    at_end = at_end;
    wrote = finish.short.wrote;
    files_before = first.moment.files;
    files_after = o.moment.files;
    faults_before = first.moment.faults;
    faults_after = o.moment.faults;
    status = result;
    flushes = finish.short.flushes;
    opened = opened_at open_call from;
  }

  abbrev said : List Did
  said = finish.said

  abbrev all : List Did
  all = finish.said ++ finish.others

  abbrev call : Call
  call = call_between first.moment o.moment finish.short.flushes (events_of all)

  opened : IsOpenedRun setting.limit setting.given past left open_call call from
  opened = opened_run setting.limit setting.given past mid left open_call call from p.store opening finish.short.is_call (record { time = refl; contents = refl })

  -- the replies that stand whole among what was written
  whole_said : whole_replies (length finish.short.wrote) (replies_of (whole finish.course)) ≡ whole_replies (length finish.short.wrote) (replies_of said)
  whole_said =
      let part = ap length finish.short.part.1 ∙ length-append finish.short.wrote finish.short.part.0 in
      ap (λ (l : List Did). whole_replies (length finish.short.wrote) (replies_of l)) finish.is
      ∙ ap (whole_replies (length finish.short.wrote)) (replies_of-append said finish.others)
      ∙ whole_more (replies_of said) (replies_of finish.others) (length finish.short.wrote) (omega (arith, part))

  told_said : flushes_told_by (whole_replies (length finish.short.wrote) (replies_of (whole finish.course))) ≡ flushes_told_by (whole_replies (length finish.short.wrote) (replies_of said))
  told_said = ap flushes_told_by whole_said

  answers : Answers run_of (now_of p) finish.course
  answers =
      let short = finish.short in
      record {
        flushes = subst (λ (l : List Did). IsPrefix (map name_of short.flushes) (flushes_of (events_of l))) (sym finish.is) short.names;
        unfinished = short.unfinished;
        all_flushes = λ is. let w = finish.done is in (w.names, w.done);
        ended_flushes = λ is. let w = finish.stops is in (w.names, w.done);
        text = subst (λ (l : List Did). IsPrefix short.wrote (text_of l)) (sym finish.is) (subst (λ (l : List ℕ). IsPrefix short.wrote l) (sym (text_of-append said finish.others)) (prefix_more short.wrote (text_of said) (text_of finish.others) short.part));
        all_text = λ is. let w = finish.done is in (w.text, ends is);
        ended_text = λ is. let w = finish.stops is in w.text;
        host = subst (λ (n : ℕ). RoseBy n first.moment.faults o.moment.faults) (sym finish.host) short.host;
        told = subst (λ l. IsPrefix (told_flushes short.flushes) l) (sym told_said) short.told;
        told_only = λ other. told_said ∙ short.told_only other;
        told_done = subst (λ l. IsPrefix l (flushes_with_lines short.flushes)) (sym told_said) short.told_done;
        all_files = λ is. let w = finish.done is in w.files;
        files = finish.files;
      }

  after : AllSettled setting.limit setting.given (past entered) → AfterOpening setting.limit setting.given (past entered) left run_of from
  after settled = record {
    course = finish.course;
    leaves =
        subst (λ (l : List Did). OfEach setting.limit setting.given left entered o.moment.time (λ t store. AsAtEntry setting.limit setting.given (past entered) run_of.opened t store ⊎ IsAfterSome (events_of l) t finish.short.flushes from store))
        (sym finish.is) (opened.leaves settled);
    leaves_all = λ is c store l stands.
        let w = finish.done is in
        opened_all setting.limit setting.given past mid left open_call (call_between first.moment o.moment finish.short.flushes (events_of (whole finish.course))) from on w.end opening w.is_whole c store l stands;
    answers = answers;
  }

  pub meets_run : IsRun setting.limit setting.given (past entered) left run_of
  meets_run = record {
    limits = refl;
    rules = refl;
    disk = record {
      later = let a = opening.disk.later in let b = finish.short.is_call.disk.later in omega (arith, a, b);
      reads = opening.disk.reads;
      reads_after = finish.short.is_call.disk.reads_after;
      earlier = finish.short.is_call.disk.earlier;
    };
    settled = opened.settled;
    opens = record {
      found = (from, opening.stands_for, refl, refl);
      not_only = λ e. absurd (yes_not _ _ _ e);
      not_with = λ e. absurd (false≢true (sym later_status ∙ e));
      silent = λ e. absurd (yes_not _ _ _ e);
      idle = λ e. absurd (yes_not _ _ _ e);
      untaken = λ e. absurd (yes_not _ _ _ e);
      unchanged = λ e. absurd (yes_not _ _ _ e);
    };
    in_order = (opening.disk.later, finish.short.is_call.disk.later, finish.short.is_call.in_order);
    not_opened = λ settled e. absurd (yes_not _ _ _ e);
    after_opening = λ settled store stands is_open.
        subst (λ (s : StoreState). AfterOpening setting.limit setting.given (past entered) left run_of s) (same_store from store (sym opening.stands_for ∙ stands)) (after settled);
  }

-- ---- a run that opened a store, whatever is settled

pub opens_run : (limit : ℕ) (given : Rules) (run : Run) (at : ℕ) (full snapshot : Option Found) → run.opened ≡ Yes at full snapshot → FoundIn limit given run.contents (Yes at full snapshot) → comes_before run.status ≡ false → Opens limit given run
opens_run limit given run at full snapshot is found goes = record {
  found = subst (FoundIn limit given run.contents) (sym is) found;
  not_only = λ e. absurd (yes_not at full snapshot (sym is ∙ e));
  not_with = λ e. absurd (false≢true (sym goes ∙ e));
  silent = λ e. absurd (yes_not at full snapshot (sym is ∙ e));
  idle = λ e. absurd (yes_not at full snapshot (sym is ∙ e));
  untaken = λ e. absurd (yes_not at full snapshot (sym is ∙ e));
  unchanged = λ e. absurd (yes_not at full snapshot (sym is ∙ e));
}

pub in_order_run : (run : Run) (at : ℕ) (full snapshot : Option Found) → run.opened ≡ Yes at full snapshot → run.entered ≤ at → AddsFlushes at run.ended [] run.flushes → InOrder run run.opened
in_order_run run at full snapshot is early adds =
    subst (InOrder run) (sym is) (early, adds.later, subst (λ (l : List Flushed). AllByRecursion (ReadsWithin at run.ended) l) (sym adds.added) adds.in_order)

-- the store that an opening ends with is settled, if all images were
pub opened_settled : (limit : ℕ) (given : Rules) (past mid : ℕ → Image → Type 0) (call : Call) (from on : StoreState) → IsOpening limit given past mid call from on → IsOpen limit given (mid call.ended) call.after on
    → AllSettled limit given (past call.entered) → IsSettled on
opened_settled limit given past mid call from on opening is_open all =
    let known = opening.settled all call.after (opening.disk.earlier call.entered call.ended call.after opening.disk.later (le_refl call.ended) is_open.reads) in
    subst IsSettled (same_store known.state on (sym known.stands_for ∙ is_open.all call.after is_open.reads)) known.settled

-- ---- a run that opened nothing

module _ (limit : ℕ) (given : Rules) (past left : ℕ → Image → Type 0) (run : Run) (fails : FailsToOpen limit given past left run.entered run.ended)
    (limits : run.setting.limit ≡ limit) (rules : run.setting.given ≡ given) (reads : past run.entered run.contents) (reads_after : left run.ended run.after)
    (earlier : (t u : ℕ) (c : Image) → t ≤ u → u ≤ run.ended → left u c → left t c)
    (not : run.opened ≡ Not) (status_is : needs_opening run.status ≡ false) (wrote : run.wrote ≡ []) (flushes : run.flushes ≡ []) (taken : run.taken ≡ []) (files : run.files_after ≡ run.files_before) where
  pub meets_unopened : IsRun limit given (past run.entered) left run
  meets_unopened = record {
    limits = limits;
    rules = rules;
    disk = record { later = fails.later; reads = reads; reads_after = reads_after; earlier = earlier };
    settled = fails.settled;
    opens = record {
      found = subst (FoundIn limit given run.contents) (sym not) tt;
      not_only = λ e. status_is;
      not_with = λ e. not;
      silent = λ e. wrote;
      idle = λ e. flushes;
      untaken = λ e. taken;
      unchanged = λ e. files;
    };
    in_order = subst (InOrder run) (sym not) tt;
    not_opened = λ settled e t c s low high l is. subst (λ (o : Opened). AsAtEntry limit given (past run.entered) o t s) (sym not) (fails.leaves settled t c s low high l is);
    after_opening = λ settled s is opened. absurd (opened not);
  }

-- nothing was done at all
pub fails_idle : (limit : ℕ) (given : Rules) (left : ℕ → Image → Type 0) (time : ℕ) → FailsToOpen limit given left left time time
fails_idle limit given left time = record {
  later = omega arith;
  settled = λ settled. settled;
  leaves = λ settled t c s low high l is. record {
    early = tt;
    image = c;
    at_entry = (let e : t ≡ time = omega (arith, low, high) in subst (λ (u : ℕ). left u c) e l);
    was = s;
    stands_for = is;
    stored = refl;
  };
}

-- ---- what is seen

pub cancel : {A : Type 0} (front xs ys : List A) → front ++ xs ≡ front ++ ys → xs ≡ ys
cancel front xs ys e = sym (drop-append_seam front xs) ∙ ap (drop (length front)) e ∙ drop-append_seam front ys

pub same_some : {A : Type 0} (a : A) (o : Option A) (b : A) → o ≡ Some a → o ≡ Some b → a ≡ b
same_some a o b x y = ap (λ p. unwrap_or p a) (sym x ∙ y)

pub nothing_more : (had wrote : List ℕ) (o : Option (List ℕ)) → o ≡ Some had → o ≡ Some (had ++ wrote) → wrote ≡ []
nothing_more had wrote o one two = cancel had wrote [] (sym (same_some had o (had ++ wrote) one two) ∙ sym (append-nil had))

is_long : Status → Bool
is_long status.TooLong = true
is_long other = false

long_is : (result : Status) → is_long result ≡ true → result ≡ status.TooLong
unfolding is_long
long_is status.Done e = absurd (false≢true e)
long_is status.DiskFault e = absurd (false≢true e)
long_is status.HostFault e = absurd (false≢true e)
long_is status.InFault e = absurd (false≢true e)
long_is status.OutFault e = absurd (false≢true e)
long_is status.NoMemory e = absurd (false≢true e)
long_is (status.Damaged file at) e = absurd (false≢true e)
long_is status.Usage e = absurd (false≢true e)
long_is status.TooLong e = refl
long_is (status.Full file) e = absurd (false≢true e)
long_is status.BadCommitments e = absurd (false≢true e)
long_is status.CacheFull e = absurd (false≢true e)

long_not : (result : Status) → is_long result ≡ false → result ≡ status.TooLong → ⊥
unfolding is_long
long_not result e is = false≢true (sym e ∙ ap is_long is)

-- what was taken follows from what is left
pub same_taken : (result : Status) (bytes a b : List ℕ) (left : Option (List ℕ)) → Takes result bytes a left → Takes result bytes b left → a ≡ b
same_taken result bytes a b left one two = split (is_long result) refl
  where
    size : (taken : List ℕ) (t : Takes result bytes taken left) → length bytes ≡ length taken + length t.beyond + length t.rest
    size taken t = let e = ap length t.split in let x = length-append (taken ++ t.beyond) t.rest in let y = length-append taken t.beyond in omega (arith, e, x, y)

    from_length : length a ≡ length b → a ≡ b
    from_length e =
        let whole : a ++ (one.beyond ++ one.rest) ≡ b ++ (two.beyond ++ two.rest) = sym (append_assoc a one.beyond one.rest) ∙ sym one.split ∙ two.split ∙ append_assoc b two.beyond two.rest in
        sym (take-append_seam a (one.beyond ++ one.rest)) ∙ ap (take (length a)) whole ∙ ap (λ (n : ℕ). take n (b ++ (two.beyond ++ two.rest))) e ∙ take-append_seam b (two.beyond ++ two.rest)

    split : (long : Bool) → is_long result ≡ long → a ≡ b
    split true is = from_length (let x = one.one (long_is result is) in let y = two.one (long_is result is) in omega (arith, x.0, y.0))
    split false is =
        let x = ap length (one.none (long_not result is)) in
        let y = ap length (two.none (long_not result is)) in
        let rests = ap length (same_some one.rest left two.rest one.left two.left) in
        let s = size a one in
        let t = size b two in
        from_length (omega (arith, x, y, rests, s, t))

-- of an input that is as it was nothing was taken
pub none_taken : (result : Status) (bytes taken : List ℕ) (left : Option (List ℕ)) → left ≡ Some bytes → Takes result bytes taken left → taken ≡ []
none_taken result bytes taken left is takes =
    let same = ap length (same_some takes.rest left bytes takes.left is) in
    let e = ap length takes.split in
    let x = length-append (taken ++ takes.beyond) takes.rest in
    let y = length-append taken takes.beyond in
    no_length taken (omega (arith, same, e, x, y))
  where
    no_length : (xs : List ℕ) → length xs ≡ 0 → xs ≡ []
    no_length [] e = refl
    no_length (x ∷ xs) e = absurd (omega (arith, e))
