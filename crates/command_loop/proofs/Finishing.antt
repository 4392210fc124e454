-- How a run ends, by what its lines did.
use Rattle.std.proofs.Common.{◌≡◌, ℕ, ◌+◌, true, List, [], ◌∷◌, ◌++◌, length, map, take, refl, sym, ap, subst, ◌∙◌, arith, append_assoc, append-nil}
use Rattle.std.proofs.lemmas.Bool.{false≢true}
use Rattle.std.proofs.lemmas.List.Sums.{sum_by-cons}
use Rattle.std.proofs.Math.Seq.{take-append-add}
use Rattle.disk_model.specs.Disk.{Image}
use Rattle.base_types.specs.declared.program.Status.{Status}
use Rattle.base_types.specs.declared.program.Status.TheVariants as status
use Rattle.command_text.specs.Lines.{line_of}
use Rattle.store_state.specs.State.{StoreState}
use Rattle.machine.specs.State.{Setting, State}
use Rattle.machine.specs.Steps.{Now, Did, Step, at_end}
use Rattle.machine.specs.Courses.{Course, lines_in, ended_in, text_of, events_of, host_faults}
use Rattle.machine.specs.Answers.{FilesAfter, flushes_of, after_some, next_begun, stops_on_input}
use Rattle.command_loop.specs.Points.{Outer, Point, now_of}
use Rattle.command_loop.specs.ServerCalls.{Asked}
use Rattle.command_loop.specs.Service.{DoesAsks, DoneAll, CutShort, Serves, Stopped}
use Rattle.command_loop.specs.Ending.{Finish}
use Rattle.machine.proofs.LineFiles.{same_but}
use Rattle.command_loop.proofs.Ways.{ways, same_asks, does_then, count_of, files_after, after_front, host_faults-append}
use Rattle.command_loop.proofs.Serving.{DoneAll-then, DoneAll-cut, CutShort-then, CutShort-more}

-- another way to say that a write failed
pub other_fault : (setting : Setting) (past left : ℕ → Image → Type 0) (p : Point) (o : Outer) (IsOut IsOther : Type 0) (said others : List Did) → (IsOut → IsOther) → CutShort setting past left p o IsOut said others → CutShort setting past left p o IsOther said others
other_fault setting past left p o IsOut IsOther said others is short = record {
  flushes = short.flushes;
  added = short.added;
  is_call = short.is_call;
  wrote = short.wrote;
  text = short.text;
  part = short.part;
  names = short.names;
  unfinished = short.unfinished;
  told = short.told;
  told_only = λ other. short.told_only (λ out. other (is out));
  told_done = short.told_done;
  host = short.host;
}

no_faults : (now : Now) → host_faults (at_end now ∷ []) ≡ 0
no_faults now = let sum : host_faults (at_end now ∷ []) ≡ (at_end now).faults + host_faults [] = sum_by-cons (λ (d : Did). d.faults) (at_end now) [] in omega (arith, sum)

module _ (setting : Setting) (past left : ℕ → Image → Type 0) (p : Point) (o : Outer) (result : Status) (taken : List ℕ) where
  -- the run stopped in a line, or before one
  pub finish_stopped : (IsOut : Type 0) (asks : List Asked) → map line_of (lines_in taken) ≡ asks → (IsOut → result ≡ status.OutFault) → (result ≡ status.Done → ⊥) → (stops_on_input result ≡ true → ⊥)
      → Stopped setting past left IsOut asks p o → Finish setting past left p o result taken
  unfolding CutShort-more other_fault
  finish_stopped IsOut asks are out not_done goes_on a =
      let split : map line_of (lines_in taken) ≡ a.front ++ a.back = are ∙ a.split in
      let end = at_end a.last ∷ [] in
      let none = no_faults a.last in
      record {
        course = record {
          dids = a.dids ++ a.more;
          last = a.last;
          does = same_asks setting (now_of p) a.last (lines_in taken) (a.dids ++ a.more)
              (subst (λ (l : List Asked). DoesAsks setting (now_of p) l (a.dids ++ a.more) a.last) (sym split) (does_then setting (now_of p) a.middle a.last a.front a.back a.dids a.more a.does a.rest));
        };
        said = a.dids;
        others = a.more ++ end;
        is = append_assoc a.dids a.more end;
        short = CutShort-more setting past left p o (result ≡ status.OutFault) a.dids a.more end none (other_fault setting past left p o IsOut (result ≡ status.OutFault) a.dids a.more out a.short);
        host =
            let sum = host_faults-append (a.dids ++ a.more) end in
            let same : host_faults (a.dids ++ a.more) ≡ host_faults ((a.dids ++ a.more) ++ end) = omega (arith, sum, none) in
            same ∙ ap host_faults (append_assoc a.dids a.more end);
        files = files_after setting taken a.short.wrote (now_of p) a.middle a.last a.front a.back a.dids a.more o.moment.files split a.does a.rest a.short.part a.same;
        done = λ is. absurd (not_done is);
        stops = λ is. absurd (goes_on is);
      }

module _ (setting : Setting) (past left : ℕ → Image → Type 0) (p q : Point) (result : Status) (taken : List ℕ) where
  -- the run ended between two lines
  pub finish_served : (front back : List Asked) → map line_of (lines_in taken) ≡ front ++ back → length front ≡ ended_in taken → (result ≡ status.Done → ⊥)
      → Serves setting past left front p q → Finish setting past left p q.outer result taken
  unfolding CutShort-more DoneAll-cut
  finish_served front back split long not_done s =
      let w = ways setting (now_of q) back in
      let end = at_end w.last ∷ [] in
      let none : host_faults (w.dids ++ end) ≡ 0 = (let a = w.faults in let b = no_faults w.last in let sum = host_faults-append w.dids end in omega (arith, a, b, sum)) in
      let count = count_of setting (now_of p) (now_of q) front s.dids s.does ∙ long in
      let zero_more : length s.dids + 0 ≡ ended_in taken = omega (arith, count) in
      let first : s.dids ≡ take (ended_in taken) (s.dids ++ w.dids) = sym (append-nil s.dids) ∙ sym (take-append-add s.dids w.dids 0) ∙ ap (λ (n : ℕ). take n (s.dids ++ w.dids)) zero_more in
      record {
        course = record {
          dids = s.dids ++ w.dids;
          last = w.last;
          does = same_asks setting (now_of p) w.last (lines_in taken) (s.dids ++ w.dids)
              (subst (λ (l : List Asked). DoesAsks setting (now_of p) l (s.dids ++ w.dids) w.last) (sym split) (does_then setting (now_of p) (now_of q) w.last front back s.dids w.dids s.does w.does));
        };
        said = s.dids;
        others = w.dids ++ end;
        is = append_assoc s.dids w.dids end;
        short = CutShort-more setting past left p q.outer (result ≡ status.OutFault) s.dids [] (w.dids ++ end) none (DoneAll-cut setting past left p q (result ≡ status.OutFault) s.dids s.all);
        host =
            let sum = host_faults-append (s.dids ++ w.dids) end in
            let b = no_faults w.last in
            let same : host_faults (s.dids ++ w.dids) ≡ host_faults ((s.dids ++ w.dids) ++ end) = omega (arith, sum, b) in
            same ∙ ap host_faults (append_assoc s.dids w.dids end);
        files = files_after setting taken (text_of s.dids) (now_of p) (now_of q) w.last front back s.dids w.dids q.outer.moment.files split s.does w.does ([], sym (append-nil (text_of s.dids))) (same_but _ q.outer.moment.files q.outer.moment.files refl);
        done = λ is. absurd (not_done is);
        stops = λ is. record {
          names = s.all.names ∙ ap (λ (l : List Did). flushes_of (events_of l)) first;
          done = s.all.done;
          text = ap text_of first;
        };
      }

-- ---- the last line was served

module _ (setting : Setting) (past mid left : ℕ → Image → Type 0) (p q : Point) (o : Outer) (taken : List ℕ) (front : List Asked) (ask : Asked) (split : map line_of (lines_in taken) ≡ front ++ ask ∷ [])
    (s : Serves setting past mid front p q) (did : Did) (step : Step setting (now_of q) ask did) (files_are : o.moment.files ≡ did.now.files) where
  abbrev all_dids : List Did
  all_dids = s.dids ++ did ∷ []

  does_all : DoesAsks setting (now_of p) (front ++ ask ∷ []) all_dids did.now
  does_all = does_then setting (now_of p) (now_of q) did.now front (ask ∷ []) s.dids (did ∷ []) s.does (step, refl)

  abbrev whole_course : Course setting (now_of p) taken
  whole_course = record {
    dids = all_dids;
    last = did.now;
    does = same_asks setting (now_of p) did.now (lines_in taken) all_dids (subst (λ (l : List Asked). DoesAsks setting (now_of p) l all_dids did.now) (sym split) does_all);
  }

  all_files : (wrote : List ℕ) → FilesAfter taken wrote (now_of p) all_dids o.moment.files
  all_files wrote =
      let n = count_of setting (now_of p) did.now (front ++ ask ∷ []) all_dids does_all in
      let end : after_some (now_of p) (length (front ++ ask ∷ []) + 0) (all_dids ++ []) ≡ did.now = after_front setting (now_of p) did.now (front ++ ask ∷ []) all_dids [] 0 does_all in
      let count : length (front ++ ask ∷ []) + 0 ≡ length all_dids = omega (arith, n) in
      let there : after_some (now_of p) (length all_dids) all_dids ≡ did.now = ap (λ (k : ℕ). after_some (now_of p) k all_dids) (sym count) ∙ ap (after_some (now_of p) (length (front ++ ask ∷ []) + 0)) (sym (append-nil all_dids)) ∙ end in
      record {
        lines = length all_dids;
        same = same_but (next_begun (lines_in taken) (length all_dids)) (after_some (now_of p) (length all_dids) all_dids).files o.moment.files (files_are ∙ ap (λ (n : Now). n.files) (sym there));
        answered = λ n within written. within;
      }

  whole_is : all_dids ++ at_end did.now ∷ [] ≡ s.dids ++ did ∷ at_end did.now ∷ []
  whole_is = append_assoc s.dids (did ∷ []) (at_end did.now ∷ [])

  faults_are : host_faults all_dids ≡ host_faults (all_dids ++ at_end did.now ∷ [])
  faults_are = let sum = host_faults-append all_dids (at_end did.now ∷ []) in let b = no_faults did.now in omega (arith, sum, b)

  pub finish_done : (state : State) (end : StoreState) → DoneAll setting mid left q (record { outer = o; state = state; store = end }) (did ∷ at_end did.now ∷ []) → Finish setting past left p o status.Done taken
  unfolding DoneAll-cut
  finish_done state store a =
      let end : Point = record { outer = o; state = state; store = store } in
      let all = subst (λ (l : List Did). DoneAll setting past left p end l) (sym whole_is) (DoneAll-then setting past mid left p q end s.dids (did ∷ at_end did.now ∷ []) s.all a) in
      record {
        course = whole_course;
        said = all_dids ++ at_end did.now ∷ [];
        others = [];
        is = sym (append-nil (all_dids ++ at_end did.now ∷ []));
        short = DoneAll-cut setting past left p end (status.Done ≡ status.OutFault) (all_dids ++ at_end did.now ∷ []) all;
        host = faults_are ∙ ap host_faults (sym (append-nil (all_dids ++ at_end did.now ∷ [])));
        files = all_files (text_of (all_dids ++ at_end did.now ∷ []));
        done = λ is. record { end = store; is_whole = all.is_whole; names = all.names; done = all.done; text = refl; files = files_are };
        stops = λ is. absurd (false≢true is);
      }

  pub finish_cut : (result : Status) (IsOut : Type 0) (said others : List Did) → said ++ others ≡ at_end did.now ∷ [] → (IsOut → result ≡ status.OutFault) → (result ≡ status.Done → ⊥) → (stops_on_input result ≡ true → ⊥)
      → CutShort setting mid left q o IsOut (did ∷ said) others → Finish setting past left p o result taken
  finish_cut result IsOut said others is out not_done goes_on short =
      let cut = CutShort-then setting past mid left p q o (result ≡ status.OutFault) s.dids (did ∷ said) others s.all (other_fault setting mid left q o IsOut (result ≡ status.OutFault) (did ∷ said) others out short) in
      let same : all_dids ++ at_end did.now ∷ [] ≡ (s.dids ++ did ∷ said) ++ others =
      whole_is ∙ ap (λ (l : List Did). s.dids ++ did ∷ l) (sym is) ∙ sym (append_assoc s.dids (did ∷ said) others) in
      record {
        course = whole_course;
        said = s.dids ++ did ∷ said;
        others = others;
        is = same;
        short = cut;
        host = faults_are ∙ ap host_faults same;
        files = all_files cut.wrote;
        done = λ is. absurd (not_done is);
        stops = λ is. absurd (goes_on is);
      }
