-- A run over its input.
use Rattle.std.proofs.Common.{◌≡◌, ◌<◌, ◌≤◌, ◌+◌, ℕ, Bool, true, false, List, [], ◌∷◌, ◌++◌, length, map, refl, sym, ap, subst, ◌∙◌, arith, append-nil, length-append, inl, inr}
use Rattle.std.specs.Prelude.{⊤, ◌⊎◌, Option, Some, None, Result, Ok, Err, IfSome}
use Rattle.std.specs.Io.KnownBytes.{Consumes, Keeps, IsAtEnd}
use Rattle.std.proofs.lemmas.Bool.{false≢true}
use Rattle.std.proofs.lemmas.List.{map-append, length-map}
use Rattle.disk_model.specs.Disk.{Image}
use Rattle.base_types.specs.declared.fault.StoreFault.{StoreFault}
use Rattle.base_types.specs.declared.fault.StoreFault.TheVariants as fault
use Rattle.base_types.specs.declared.program.Status.{Status}
use Rattle.base_types.specs.declared.program.Status.TheVariants.{Done, InFault, NoMemory, OutFault, TooLong}
use Rattle.io_traits.proofs.Streams.{Consumes-nothing, Consumes-kept, Consumes-then, Consumes-told}
use Rattle.command_text.specs.Lines.{line_of, pieces_between, without_return}
use Rattle.machine.specs.State.{Setting}
use Rattle.machine.specs.Courses.{lines_in, ended_in}
use Rattle.machine.specs.Answers.{stops_on_input, comes_before, needs_opening}
use Rattle.command_loop.specs.declared.stop.Stop.{Stop}
use Rattle.command_loop.specs.declared.stop.Stop.TheVariants as stop
use Rattle.command_loop.specs.Asks.{asked, onto, pieces_behind, all_but_last, last_of, ended_asks, kept_of}
use Rattle.command_loop.specs.Ending.{Takes, Finish, AnswersInput}
use Rattle.command_loop.specs.Points.{Outer, Point}
use Rattle.command_loop.specs.Seen.{status_of_end}
use Rattle.command_loop.specs.ServerCalls.{Asked, status_of_fault}
use Rattle.command_loop.specs.Service.{Serves, Stopped, AnswersLast, LastCut}
use Rattle.command_loop.proofs.Pieces.{some_pieces, pieces-append, pieces-nil, all_and_last, all_but_last-append, last_of-append, length-onto, ended-kept, last-kept, asked-kept_of, all_one, last_one}
use Rattle.command_loop.proofs.Ways.{asked_lines}
use Rattle.command_loop.proofs.Serving.{Serves-then, Stopped-then, Stopped-longer}
use Rattle.command_loop.proofs.Finishing.{finish_stopped, finish_served, finish_done, finish_cut}

-- ---- bytes behind others

abbrev pub last_in : List ℕ → List ℕ
last_in taken = last_of (pieces_between 10 taken)

abbrev pub ended_lines : List ℕ → List Asked
ended_lines taken = map asked (all_but_last (pieces_between 10 taken))

-- the lines of all, where the last has not ended
pub all_asks : (taken : List ℕ) → map line_of (lines_in taken) ≡ ended_lines taken ++ asked (last_in taken) ∷ []
all_asks taken =
    asked_lines (pieces_between 10 taken) ∙ ap (map asked) (sym (all_and_last (pieces_between 10 taken) (some_pieces taken)))
    ∙ map-append asked (all_but_last (pieces_between 10 taken)) (last_in taken ∷ [])

pub ended_count : (taken : List ℕ) → length (ended_lines taken) ≡ ended_in taken
ended_count taken =
    let ps = pieces_between 10 taken in
    let whole = ap length (all_and_last ps (some_pieces taken)) in
    let parts = length-append (all_but_last ps) (last_of ps ∷ []) in
    let first : length (map asked (all_but_last ps)) ≡ length (all_but_last ps) = length-map (all_but_last ps) asked in
    let lines : length (lines_in taken) ≡ length ps = length-map ps without_return in
    omega (arith, whole, parts, first, lines)

more_asks : (line taken bytes : List ℕ) → line ≡ kept_of (last_in taken)
    → ended_lines taken ++ ended_asks line bytes ≡ ended_lines (taken ++ bytes)
more_asks line taken bytes is =
    let ps = pieces_between 10 taken in
    let qs = pieces_between 10 bytes in
    let behind = onto (last_of ps) qs in
    let len = length-onto (last_of ps) qs in
    let some : 0 < length behind = let many = some_pieces bytes in omega (arith, many, len) in
    ap (λ (l : List ℕ). map asked (all_but_last ps) ++ map asked (all_but_last (onto l qs))) is
    ∙ ap (λ (l : List Asked). map asked (all_but_last ps) ++ l) (ended-kept (last_of ps) qs)
    ∙ sym (map-append asked (all_but_last ps) (all_but_last behind))
    ∙ ap (map asked) (sym (all_but_last-append (all_but_last ps) behind some))
    ∙ ap (λ (l : List (List ℕ)). map asked (all_but_last l)) (sym (pieces-append taken bytes))

more_kept : (line taken bytes : List ℕ) → line ≡ kept_of (last_in taken) → kept_of (last_of (pieces_behind line bytes)) ≡ kept_of (last_in (taken ++ bytes))
more_kept line taken bytes is =
    let ps = pieces_between 10 taken in
    let qs = pieces_between 10 bytes in
    let behind = onto (last_of ps) qs in
    let len = length-onto (last_of ps) qs in
    let some : 0 < length behind = let many = some_pieces bytes in omega (arith, many, len) in
    ap (λ (l : List ℕ). kept_of (last_of (onto l qs))) is
    ∙ last-kept (last_of ps) qs
    ∙ ap kept_of (sym (last_of-append (all_but_last ps) behind some))
    ∙ ap (λ (l : List (List ℕ)). kept_of (last_of l)) (sym (pieces-append taken bytes))

-- ---- what was taken so far

-- so many bytes were taken, the lines that ended in them are answered, and of the last one is kept what matters
pub record IsRead (setting : Setting) (past left : ℕ → Image → Type 0) (line : List ℕ) (number : ℕ) (first rest : Option (List ℕ)) (p : Point) (IsNow : Point → Type 0) : Type 0 where
  pub taken : List ℕ
  pub consumes : Consumes first rest taken
  pub count : length taken ≡ number
  pub q : Point
  pub now : IsNow q
  pub serves : Serves setting past left (ended_lines taken) p q
  pub kept : line ≡ kept_of (last_in taken)

pub IsRead-none : (setting : Setting) (left : ℕ → Image → Type 0) (line : List ℕ) (first : Option (List ℕ)) (p : Point) (IsNow : Point → Type 0) → line ≡ [] → IsNow p → Serves setting left left [] p p → IsRead setting left left line 0 first first p IsNow
IsRead-none setting left line first p IsNow none now serves = record {
  taken = [];
  consumes = Consumes-nothing first;
  count = refl;
  q = p;
  now = now;
  serves = subst (λ (l : List Asked). Serves setting left left l p p) (sym (ap (λ (l : List (List ℕ)). map asked (all_but_last l)) pieces-nil ∙ ap (map asked) (all_one []))) serves;
  kept = none ∙ sym (ap (λ (l : List (List ℕ)). kept_of (last_of l)) pieces-nil ∙ ap kept_of (last_one []));
}

module _ (setting : Setting) (past mid : ℕ → Image → Type 0) (line : List ℕ) (number : ℕ) (first middle : Option (List ℕ)) (p : Point) (IsMid : Point → Type 0) (read : IsRead setting past mid line number first middle p IsMid) where
  pub IsRead-more : (left : ℕ → Image → Type 0) (next bytes : List ℕ) (more : ℕ) (rest : Option (List ℕ)) (IsNow : Point → Type 0) (q : Point) → IsNow q
      → Consumes middle rest bytes → length bytes ≡ more → Serves setting mid left (ended_asks line bytes) read.q q → next ≡ kept_of (last_of (pieces_behind line bytes))
      → IsRead setting past left next (number + more) first rest p IsNow
  IsRead-more left next bytes more rest IsNow q now consumes len serves kept = record {
    taken = read.taken ++ bytes;
    consumes = Consumes-then first middle rest read.taken bytes read.consumes consumes;
    count = let one = read.count in let sum = length-append read.taken bytes in omega (arith, one, len, sum);
    q = q;
    now = now;
    serves = subst (λ (l : List Asked). Serves setting past left l p q) (more_asks line read.taken bytes read.kept)
        (Serves-then setting past mid left (ended_lines read.taken) (ended_asks line bytes) p read.q q read.serves serves);
    kept = kept ∙ more_kept line read.taken bytes read.kept;
  }

  pub IsRead-failed : (rest : Option (List ℕ)) → Keeps middle rest → IsRead setting past mid line number first rest p IsMid
  IsRead-failed rest kept = record { taken = read.taken; consumes = Consumes-kept first middle rest read.taken read.consumes kept; count = read.count; q = read.q; now = read.now; serves = read.serves; kept = read.kept }

  pub IsRead-nothing : (rest : Option (List ℕ)) → Consumes middle rest [] → IsRead setting past mid line number first rest p IsMid
  IsRead-nothing rest nothing = record {
    taken = read.taken;
    consumes = subst (Consumes first rest) (append-nil read.taken) (Consumes-then first middle rest read.taken [] read.consumes nothing);
    count = read.count;
    q = read.q;
    now = read.now;
    serves = read.serves;
    kept = read.kept;
  }

pub longer_than : (first left : Option (List ℕ)) (taken : List ℕ) → Consumes first left taken → 16777216 < length taken → IfSome first (λ bytes. 16777216 < length bytes)
longer_than None left taken consumes long = tt
longer_than (Some bytes) None taken consumes long = absurd consumes
longer_than (Some bytes) (Some rest) taken consumes long = let size = ap length consumes ∙ length-append taken rest in omega (arith, size, long)

pub no_longer_than : (first left : Option (List ℕ)) (taken : List ℕ) → Consumes first left taken → IsAtEnd left → length taken ≤ 16777216 → IfSome first (λ bytes. length bytes ≤ 16777216)
no_longer_than None left taken consumes end within = tt
no_longer_than (Some bytes) None taken consumes end within = absurd consumes
no_longer_than (Some bytes) (Some rest) taken consumes end within =
    let size = ap length consumes ∙ length-append taken rest in
    let none : length rest ≡ 0 = ap length end in
    omega (arith, size, none, within)

-- so many bytes were taken, whatever is told of the store
pub record HasTaken (number : ℕ) (first rest : Option (List ℕ)) : Type 0 where
  pub taken : List ℕ
  pub consumes : Consumes first rest taken
  pub count : length taken ≡ number

pub HasTaken-none : (first : Option (List ℕ)) → HasTaken 0 first first
HasTaken-none first = record { taken = []; consumes = Consumes-nothing first; count = refl }

pub HasTaken-more : (number more : ℕ) (bytes : List ℕ) (first middle rest : Option (List ℕ)) → HasTaken number first middle → Consumes middle rest bytes → length bytes ≡ more → HasTaken (number + more) first rest
HasTaken-more number more bytes first middle rest has consumes len = record {
  taken = has.taken ++ bytes;
  consumes = Consumes-then first middle rest has.taken bytes has.consumes consumes;
  count = let one = has.count in let sum = length-append has.taken bytes in omega (arith, one, len, sum);
}

-- one more than the most was there
pub too_many : (number : ℕ) (bytes : List ℕ) (first middle rest : Option (List ℕ)) → HasTaken number first middle → number ≡ 16777216 → Consumes middle rest bytes → length bytes ≡ 1
    → IfSome first (λ all. 16777216 < length all)
too_many number bytes first middle rest has most consumes one =
    let all = HasTaken-more number 1 bytes first middle rest has consumes one in
    longer_than first rest all.taken all.consumes (let n = all.count in omega (arith, n, most))

-- the input has ended, and no more was there
pub all_taken : (number : ℕ) (first middle rest : Option (List ℕ)) → HasTaken number first middle → number ≤ 16777216 → Consumes middle rest [] → IsAtEnd rest → IfSome first (λ all. length all ≤ 16777216)
all_taken number first middle rest has within nothing ends =
    let all = HasTaken-more number 0 [] first middle rest has nothing refl in
    no_longer_than first rest all.taken all.consumes ends (let n = all.count in omega (arith, n, within))

-- ---- what was taken

pub takes_all : (result : Status) (bytes taken : List ℕ) (first left : Option (List ℕ)) → first ≡ Some bytes → Consumes first left taken → length taken ≤ 16777216 → (result ≡ TooLong → ⊥) → (result ≡ Done → IsAtEnd left) → Takes result bytes taken left
takes_all result bytes taken first left is consumes within not_long ends =
    let told = Consumes-told bytes left taken (subst (λ (o : Option (List ℕ)). Consumes o left taken) is consumes) in
    record {
      beyond = [];
      rest = told.0;
      split = told.2 ∙ ap (λ (l : List ℕ). l ++ told.0) (sym (append-nil taken));
      left = told.1;
      most = within;
      one = λ long. absurd (not_long long);
      none = λ other. refl;
      ended = λ done. subst IsAtEnd told.1 (ends done);
    }

pub takes_most : (bytes taken beyond : List ℕ) (first middle left : Option (List ℕ)) → first ≡ Some bytes → Consumes first middle taken → Consumes middle left beyond → length taken ≡ 16777216 → length beyond ≡ 1 → (TooLong ≡ Done → ⊥) → Takes TooLong bytes taken left
takes_most bytes taken beyond first middle left is consumes more most one not_done =
    let told = Consumes-told bytes left (taken ++ beyond) (subst (λ (o : Option (List ℕ)). Consumes o left (taken ++ beyond)) is (Consumes-then first middle left taken beyond consumes more)) in
    record { beyond = beyond; rest = told.0; split = told.2; left = told.1; most = omega (arith, most); one = λ long. (most, one); none = λ other. absurd (other refl); ended = λ done. absurd (not_done done) }

-- ---- statuses

is_long : Status → Bool
is_long TooLong = true
is_long other = false

is_done : Status → Bool
is_done Done = true
is_done other = false

abbrev pub stopped_by : Stop → Status
stopped_by why = status_of_end {A = ⊤} (Err why)

fault_long : (why : StoreFault) → is_long (status_of_fault why) ≡ false
unfolding is_long
fault_long fault.NoMemory = refl
fault_long fault.DiskFailed = refl
fault_long (fault.Damaged file at) = refl
fault_long (fault.Full file) = refl
fault_long fault.CacheFull = refl

fault_done : (why : StoreFault) → is_done (status_of_fault why) ≡ false
unfolding is_done
fault_done fault.NoMemory = refl
fault_done fault.DiskFailed = refl
fault_done (fault.Damaged file at) = refl
fault_done (fault.Full file) = refl
fault_done fault.CacheFull = refl

fault_goes : (why : StoreFault) → stops_on_input (status_of_fault why) ≡ false
fault_goes fault.NoMemory = refl
fault_goes fault.DiskFailed = refl
fault_goes (fault.Damaged file at) = refl
fault_goes (fault.Full file) = refl
fault_goes fault.CacheFull = refl

pub fault_needs : (why : StoreFault) → needs_opening (status_of_fault why) ≡ false
fault_needs fault.NoMemory = refl
fault_needs fault.DiskFailed = refl
fault_needs (fault.Damaged file at) = refl
fault_needs (fault.Full file) = refl
fault_needs fault.CacheFull = refl

pub fault_after : (why : StoreFault) → comes_before (status_of_fault why) ≡ false
fault_after fault.NoMemory = refl
fault_after fault.DiskFailed = refl
fault_after (fault.Damaged file at) = refl
fault_after (fault.Full file) = refl
fault_after fault.CacheFull = refl

pub end_after : {A : Type 0} (result : Result A Stop) → comes_before (status_of_end result) ≡ false
end_after (Ok done) = refl
end_after (Err (stop.OnStore why)) = fault_after why
end_after (Err stop.OutFault) = refl

pub stop_long : (why : Stop) → stopped_by why ≡ TooLong → ⊥
unfolding is_long
stop_long (stop.OnStore why) same = false≢true (sym (fault_long why) ∙ ap is_long same)
stop_long stop.OutFault same = false≢true (ap is_long same)

pub stop_done : (why : Stop) → stopped_by why ≡ Done → ⊥
unfolding is_done
stop_done (stop.OnStore why) same = false≢true (sym (fault_done why) ∙ ap is_done same)
stop_done stop.OutFault same = false≢true (ap is_done same)

pub stop_goes : (why : Stop) → stops_on_input (stopped_by why) ≡ true → ⊥
stop_goes (stop.OnStore why) stops = false≢true (sym (fault_goes why) ∙ stops)
stop_goes stop.OutFault stops = false≢true stops

pub stop_out : (why : Stop) → why ≡ stop.OutFault → stopped_by why ≡ OutFault
stop_out why is = ap stopped_by is

done_long : Done ≡ TooLong → ⊥
unfolding is_long
done_long same = false≢true (ap is_long same)

long_done : TooLong ≡ Done → ⊥
unfolding is_done
long_done same = false≢true (ap is_done same)

pub no_memory_goes : (NoMemory ≡ Done → ⊥) × (NoMemory ≡ TooLong → ⊥)
no_memory_goes = (stop_done (stop.OnStore fault.NoMemory), stop_long (stop.OnStore fault.NoMemory))

pub in_fault_goes : (InFault ≡ Done → ⊥) × (InFault ≡ TooLong → ⊥)
unfolding is_done is_long
in_fault_goes = (λ same. false≢true (ap is_done same), λ same. false≢true (ap is_long same))

-- ---- the ends of a run

module _ (setting : Setting) (past left : ℕ → Image → Type 0) (bytes line : List ℕ) (number : ℕ) (first : Option (List ℕ)) (p : Point) (is : first ≡ Some bytes) (within : number ≤ 16777216) where
  -- nothing more was taken
  pub exit_kept : (result : Status) (rest : Option (List ℕ)) (IsNow : Point → Type 0) (IsThere : Outer → Type 0) → ((q : Point) → IsNow q → IsThere q.outer) → IsRead setting past left line number first rest p IsNow → (result ≡ Done → ⊥) → (result ≡ TooLong → ⊥)
      → AnswersInput setting past left result bytes rest p IsThere
  exit_kept result rest IsNow IsThere there read not_done not_long =
      let taken = read.taken in
      let few : length taken ≤ 16777216 = let n = read.count in omega (arith, n, within) in
      record {
        taken = taken;
        takes = takes_all result bytes taken first rest is read.consumes few not_long (λ done. absurd (not_done done));
        o = read.q.outer;
        there = there read.q read.now;
        finish = finish_served setting past left p read.q result taken (ended_lines taken) (asked (last_in taken) ∷ []) (all_asks taken) (ended_count taken) not_done read.serves;
      }

  -- the input has too many bytes
  pub exit_long : (beyond : List ℕ) (middle rest : Option (List ℕ)) (IsNow : Point → Type 0) (IsThere : Outer → Type 0) → ((q : Point) → IsNow q → IsThere q.outer) → IsRead setting past left line number first middle p IsNow
      → number ≡ 16777216 → Consumes middle rest beyond → length beyond ≡ 1 → AnswersInput setting past left TooLong bytes rest p IsThere
  exit_long beyond middle rest IsNow IsThere there read most more one =
      let taken = read.taken in
      record {
        taken = taken;
        takes = takes_most bytes taken beyond first middle rest is read.consumes more (read.count ∙ most) one long_done;
        o = read.q.outer;
        there = there read.q read.now;
        finish = finish_served setting past left p read.q TooLong taken (ended_lines taken) (asked (last_in taken) ∷ []) (all_asks taken) (ended_count taken) long_done read.serves;
      }

module _ (setting : Setting) (past mid left : ℕ → Image → Type 0) (bytes line : List ℕ) (number : ℕ) (first middle : Option (List ℕ)) (p : Point) (is : first ≡ Some bytes) (IsMid : Point → Type 0) (IsThere : Outer → Type 0)
    (read : IsRead setting past mid line number first middle p IsMid) where
  -- the run stopped among the lines that ended in some bytes
  pub exit_among : (why : Stop) (piece : List ℕ) (more : ℕ) (rest : Option (List ℕ)) → Consumes middle rest piece → length piece ≡ more → number + more ≤ 16777216
      → (o : Outer) → IsThere o → Stopped setting mid left (why ≡ stop.OutFault) (ended_asks line piece) read.q o → AnswersInput setting past left (stopped_by why) bytes rest p IsThere
  exit_among why piece more rest consumes len within o there stopped =
      let taken = read.taken ++ piece in
      let few : length taken ≤ 16777216 = let n = read.count in let sum = length-append read.taken piece in omega (arith, n, len, sum, within) in
      let all = Consumes-then first middle rest read.taken piece read.consumes consumes in
      let behind : Stopped setting past left (why ≡ stop.OutFault) (ended_lines taken) p o = subst (λ (l : List Asked). Stopped setting past left (why ≡ stop.OutFault) l p o) (more_asks line read.taken piece read.kept)
      (Stopped-then setting past mid left (ended_lines read.taken) (ended_asks line piece) p read.q (why ≡ stop.OutFault) o read.serves stopped) in
      record {
        taken = taken;
        takes = takes_all (stopped_by why) bytes taken first rest is all few (stop_long why) (λ done. absurd (stop_done why done));
        o = o;
        there = there;
        finish = finish_stopped setting past left p o (stopped_by why) taken (why ≡ stop.OutFault) (ended_lines taken ++ asked (last_in taken) ∷ []) (all_asks taken) (stop_out why) (stop_done why) (stop_goes why)
            (Stopped-longer setting past left (why ≡ stop.OutFault) (ended_lines taken) (asked (last_in taken) ∷ []) p o behind);
      }

  -- the input has ended, and the last line and the end were answered, or the run stopped there
  pub exit_last : (result : Result ⊤ Stop) (ask : Asked) → IsAtEnd middle → number ≤ 16777216 → ask ≡ asked line → AnswersLast setting mid left ask read.q IsThere result → AnswersInput setting past left (status_of_end result) bytes middle p IsThere
  exit_last result ask ends within same answers =
      let taken = read.taken in
      let few : length taken ≤ 16777216 = let n = read.count in omega (arith, n, within) in
      let last : ask ≡ asked (last_in taken) = same ∙ ap asked read.kept ∙ asked-kept_of (last_in taken) in
      let lines : map line_of (lines_in taken) ≡ ended_lines taken ++ ask ∷ [] = all_asks taken ∙ ap (λ (x : Asked). ended_lines taken ++ x ∷ []) (sym last) in
      by_case result few lines answers
    where
      by_case : (result : Result ⊤ Stop) → length read.taken ≤ 16777216 → map line_of (lines_in read.taken) ≡ ended_lines read.taken ++ ask ∷ [] → AnswersLast setting mid left ask read.q IsThere result → AnswersInput setting past left (status_of_end result) bytes middle p IsThere
      by_case (Ok done) few lines a = record {
        taken = read.taken;
        takes = takes_all Done bytes read.taken first middle is read.consumes few done_long (λ d. ends);
        o = a.0.outer;
        there = a.1;
        finish = finish_done setting past mid left p read.q a.0.outer read.taken (ended_lines read.taken) ask lines read.serves a.2.did a.2.step a.2.files a.0.state a.0.store a.2.all;
      }
      by_case (Err why) few lines a = record {
        taken = read.taken;
        takes = takes_all (stopped_by why) bytes read.taken first middle is read.consumes few (stop_long why) (λ done. absurd (stop_done why done));
        o = a.0;
        there = a.1;
        finish = either lines why a.0 a.2;
      }
        where
          either : map line_of (lines_in read.taken) ≡ ended_lines read.taken ++ ask ∷ [] → (why : Stop) (o : Outer) → (Stopped setting mid left (why ≡ stop.OutFault) (ask ∷ []) read.q o ⊎ LastCut setting mid left (why ≡ stop.OutFault) ask read.q o) → Finish setting past left p o (stopped_by why) read.taken
          either lines why o (inl stopped) =
              finish_stopped setting past left p o (stopped_by why) read.taken (why ≡ stop.OutFault) (ended_lines read.taken ++ ask ∷ []) lines (stop_out why) (stop_done why) (stop_goes why)
              (Stopped-then setting past mid left (ended_lines read.taken) (ask ∷ []) p read.q (why ≡ stop.OutFault) o read.serves stopped)
          either lines why o (inr cut) =
              finish_cut setting past mid left p read.q o read.taken (ended_lines read.taken) ask lines read.serves cut.did cut.step cut.files (stopped_by why) (why ≡ stop.OutFault) cut.said cut.others cut.is (stop_out why) (stop_done why) (stop_goes why) cut.short
