-- Pieces of work on an open store: none, one that met no fault as a cut one, and one after another.
use Rattle.std.proofs.Common.{◌≡◌, ℕ, ◌+◌, ◌≤◌, false, List, [], ◌++◌, map, refl, sym, ap, subst, ◌∙◌}
use Rattle.std.specs.Prelude.{Option}
use Rattle.std.proofs.lemmas.List.{map-append}
use Rattle.disk_model.specs.Disk.{Image}
use Rattle.base_types.specs.declared.flushes.Flushed.{Flushed}
use Rattle.io_traits.specs.Causes.{RoseBy}
use Rattle.io_traits.specs.Host.{Files}
use Rattle.io_traits.proofs.Causes.{RoseBy-then}
use Rattle.store_state.specs.State.{StoreState}
use Rattle.machine.specs.State.{Setting, Event}
use Rattle.machine.specs.Steps.{Did}
use Rattle.machine.specs.Calls.{Call, IsCall, IsOpen, IsWhole, nothing_at}
use Rattle.machine.specs.Answers.{IsPrefix, FlushName, SameBut, name_of, flushes_of, flushes_told_by, flushes_with_lines}
use Rattle.machine.specs.Work.{Moment, WorkDone, WorkCut, call_between}
use Rattle.machine.proofs.FlushLists.{prefix_all, prefix_more, prefix_behind, flushes_of-append, told_by-append, with_lines-append, done-append, done_but_last, unfinished-append}
use Rattle.machine.proofs.Joining.{all-append, nothing_done, whole_then, whole_both}
use Rattle.machine.proofs.LineFiles.{same_but_then}
use Rattle.machine.proofs.Telling.{more_events}

-- ---- none

-- Nothing was done on an open store, for an answer that tells of no flush; the host's files may have changed.
pub no_work : (setting : Setting) (past : ℕ → Image → Type 0) (before after : Moment) (store : StoreState) (did : Did)
    → ((t u : ℕ) (c : Image) → t ≤ u → u ≤ before.time → past u c → past t c) → IsOpen setting.limit setting.given (past before.time) before.contents store
    → after.time ≡ before.time → after.contents ≡ before.contents → after.files ≡ did.now.files → did.events ≡ [] → flushes_told_by did.replies ≡ [] → RoseBy did.faults before.faults after.faults
    → WorkDone setting past past before after store store did []
no_work setting past before after store did earlier is_open time contents files events replies host =
    let none : nothing_at before.time before.contents ≡ call_between before after [] did.events = λ i. record {
      entered = before.time;
      ended = sym time i;
      contents = before.contents;
      after = sym contents i;
      flushes = [];
      events = sym events i;
    } in
    record {
      whole = subst (λ (call : Call). IsWhole setting.limit setting.given past past call store store) none (nothing_done setting.limit setting.given past before.time before.contents store earlier is_open);
      files = files;
      names = sym (ap flushes_of events);
      done = tt;
      untold = tt;
      lines = sym replies;
      host = host;
    }

-- ---- work that met no fault, as work that was cut

-- what it did to the host's files, a cut piece of work may leave
pub done_is_cut : (setting : Setting) (past left : ℕ → Image → Type 0) (before after : Moment) (from on : StoreState) (did : Did) (begun : Option (List ℕ)) (flushes : List Flushed)
    → SameBut begun before.files did.now.files → WorkDone setting past left before after from on did flushes → WorkCut setting past left before after from did begun flushes
done_is_cut setting past left before after from on did begun flushes same work = record {
  meets = work.whole.meets;
  files = subst (λ (files : Files). SameBut begun before.files files) (sym work.files) same;
  names = subst (λ (names : List FlushName). IsPrefix (map name_of flushes) names) work.names (prefix_all (map name_of flushes));
  unfinished = done_but_last flushes work.done;
  untold = work.untold;
  host = work.host;
}

-- ---- further events, which didn't come

pub cut_more : (setting : Setting) (past left : ℕ → Image → Type 0) (before after : Moment) (from : StoreState) (did longer : Did) (more : List Event) (begun : Option (List ℕ)) (flushes : List Flushed)
    → longer.events ≡ did.events ++ more → RoseBy longer.faults before.faults after.faults → WorkCut setting past left before after from did begun flushes
    → WorkCut setting past left before after from longer begun flushes
cut_more setting past left before after from did longer more begun flushes events host work = record {
  meets = subst (λ (all : List Event). IsCall setting.limit setting.given past left (call_between before after flushes all) from) (sym events)
      (more_events setting.limit setting.given past left (call_between before after flushes did.events) more from work.meets);
  files = work.files;
  names = subst (λ (names : List FlushName). IsPrefix (map name_of flushes) names) (sym (ap flushes_of events ∙ flushes_of-append did.events more))
      (prefix_more (map name_of flushes) (flushes_of did.events) (flushes_of more) work.names);
  unfinished = work.unfinished;
  untold = work.untold;
  host = host;
}

-- nothing was done of some work, in which the host had as many faults
pub nothing_cut : (setting : Setting) (past : ℕ → Image → Type 0) (before after : Moment) (store : StoreState) (did : Did) (begun : Option (List ℕ))
    → ((t u : ℕ) (c : Image) → t ≤ u → u ≤ before.time → past u c → past t c) → IsOpen setting.limit setting.given (past before.time) before.contents store
    → after.time ≡ before.time → after.contents ≡ before.contents → SameBut begun before.files after.files → RoseBy did.faults before.faults after.faults
    → WorkCut setting past past before after store did begun []
nothing_cut setting past before after store did begun earlier is_open time contents files host =
    let idle : Did = record { now = record did.now { files = after.files }; replies = []; events = []; reads = 0; faults = did.faults } in
    cut_more setting past past before after store idle did did.events begun [] refl host
    (done_is_cut setting past past before after store store idle begun [] files
    (no_work setting past before after store idle earlier is_open time contents refl refl refl host))

-- ---- one piece of work after another

-- both have the replies and the events of the first and then those of the second, leave the host's files as the second does,
-- and met the faults of each
pub record Joins (first second both : Did) : Type 0 where
  pub replies : both.replies ≡ first.replies ++ second.replies
  pub events : both.events ≡ first.events ++ second.events
  pub files : both.now.files ≡ second.now.files
  pub faults : both.faults ≡ first.faults + second.faults

module _ (setting : Setting) (past mid left : ℕ → Image → Type 0) (before middle after : Moment) (from on : StoreState) (first second both : Did) (fs gs : List Flushed) (joins : Joins first second both) where
  names_then : (names : List FlushName) → map name_of fs ≡ flushes_of first.events → map name_of gs ≡ names → map name_of (fs ++ gs) ≡ flushes_of first.events ++ names
  names_then names one two = map-append name_of fs gs ∙ ap (λ (l : List FlushName). l ++ map name_of gs) one ∙ ap (λ (l : List FlushName). flushes_of first.events ++ l) two

  names_both : flushes_of both.events ≡ flushes_of first.events ++ flushes_of second.events
  names_both = ap flushes_of joins.events ∙ flushes_of-append first.events second.events

  faults_then : RoseBy first.faults before.faults middle.faults → RoseBy second.faults middle.faults after.faults → RoseBy both.faults before.faults after.faults
  faults_then one two =
      subst (λ (n : ℕ). RoseBy n before.faults after.faults) (sym joins.faults) (RoseBy-then first.faults second.faults before.faults middle.faults after.faults one two)

  pub done_then_done : (end : StoreState) → WorkDone setting past mid before middle from on first fs → WorkDone setting mid left middle after on end second gs
      → WorkDone setting past left before after from end both (fs ++ gs)
  done_then_done end one two = record {
    whole = subst (λ (events : List Event). IsWhole setting.limit setting.given past left (call_between before after (fs ++ gs) events) from end) (sym joins.events)
        (whole_both setting.limit setting.given past mid left (call_between before middle fs first.events) (call_between middle after gs second.events) from on end one.whole two.whole (record { time = refl; contents = refl }));
    files = two.files ∙ sym joins.files;
    names = names_then (flushes_of second.events) one.names two.names ∙ sym names_both;
    done = done-append fs gs one.done two.done;
    untold = all-append (λ (member : Flushed). member.told ≡ false) fs gs one.untold two.untold;
    lines =
        with_lines-append fs gs ∙ ap (λ l. l ++ flushes_with_lines gs) one.lines ∙ ap (λ l. flushes_told_by first.replies ++ l) two.lines
        ∙ sym (ap flushes_told_by joins.replies ∙ told_by-append first.replies second.replies);
    host = faults_then one.host two.host;
  }

  pub done_then_cut : (begun : Option (List ℕ)) → SameBut begun before.files first.now.files → WorkDone setting past mid before middle from on first fs → WorkCut setting mid left middle after on second begun gs
      → WorkCut setting past left before after from both begun (fs ++ gs)
  done_then_cut begun same one two = record {
    meets = subst (λ (events : List Event). IsCall setting.limit setting.given past left (call_between before after (fs ++ gs) events) from) (sym joins.events)
        (whole_then setting.limit setting.given past mid left (call_between before middle fs first.events) (call_between middle after gs second.events) from on one.whole two.meets (record { time = refl; contents = refl }));
    files = same_but_then begun before.files middle.files after.files (subst (λ (files : Files). SameBut begun before.files files) (sym one.files) same) two.files;
    names =
        subst (λ (l : List FlushName). IsPrefix l (flushes_of both.events)) (sym (names_then (map name_of gs) one.names refl))
        (subst (λ (l : List FlushName). IsPrefix (flushes_of first.events ++ map name_of gs) l) (sym names_both)
        (prefix_behind (flushes_of first.events) (map name_of gs) (flushes_of second.events) two.names));
    unfinished = unfinished-append fs gs one.done two.unfinished;
    untold = all-append (λ (member : Flushed). member.told ≡ false) fs gs one.untold two.untold;
    host = faults_then one.host two.host;
  }
