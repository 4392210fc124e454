-- A run as it is seen.
use Rattle.std.proofs.Common.{◌≡◌, ◌≤◌, ℕ, true, false, List, [], ◌++◌, Option, Some, refl, sym, ap, subst, ◌∙◌, arith}
use Rattle.std.specs.Option.{option_map}
use Rattle.disk_model.specs.Disk.{Image}
use Rattle.base_types.specs.declared.flushes.Flushed.{Flushed}
use Rattle.base_types.specs.declared.program.Status.TheVariants as status
use Rattle.io_traits.specs.Host.{Held}
use Rattle.machine.specs.declared.report.Found.{Found}
use Rattle.machine.specs.declared.report.Opened.TheVariants.{Not, Yes}
use Rattle.machine.specs.declared.report.Report.{Report}
use Rattle.machine.specs.Answers.{found_of, needs_opening, comes_before}
use Rattle.machine.specs.Calls.{FailsToOpen}
use Rattle.machine.specs.Clauses.{IsRun}
use Rattle.machine.specs.Runs.{Run}
use Rattle.machine.specs.State.{Setting, begins}
use Rattle.machine.specs.Tips.{AllSettled}
use Rattle.machine.specs.Work.{AddsFlushes, Moment}
use Rattle.store_state.specs.Roles.{full_of, snapshot_of}
use Rattle.command_loop.specs.declared.server.FoundStore.{FoundStore}
use Rattle.command_loop.specs.Ending.{AnswersInput}
use Rattle.command_loop.specs.Points.{Standing, Outer, Point, IsOuter, At}
use Rattle.command_loop.specs.Seen.{IsSeen}
use Rattle.command_loop.specs.ServerCalls.{OpensStore}
use Rattle.command_loop.proofs.Meeting.{opens_run, in_order_run, opened_settled, run_of, meets_run, meets_unopened, nothing_more, cancel, same_some, same_taken, none_taken}

module _ {D : Type 0} (time : D → ℕ) (contents : D → Option Image) (left_since : D → ℕ → Image → Type 0)
    (reads_as : (disk : D) (m : Image) → contents disk ≡ Some m → left_since disk (time disk) m)
    (since_earlier : (disk : D) (t u : ℕ) (c : Image) → t ≤ u → u ≤ time disk → left_since disk u c → left_since disk t c)
    (setting : Setting) (old new : D) where
  pub unopened : (input written : Option (List ℕ)) (held : Option Held) (count : ℕ) (report : Report) (run : Run)
      → IsSeen setting (record { time = time old; contents = contents old; input = input; written = written; held = held; faults = count }) (record { time = time new; contents = contents new; input = input; written = written; held = held; faults = count }) report run
      → report.opened ≡ Not → report.flushes ≡ [] → needs_opening report.status ≡ false → FailsToOpen setting.limit setting.given (left_since old) (left_since new) (time old) (time new)
      → IsRun setting.limit setting.given (left_since old (time old)) (left_since new) run
  unopened input written held count report run seen not flushes before fails =
      let a = seen.entered in
      let b = seen.ended in
      subst (λ (t : ℕ). IsRun setting.limit setting.given (left_since old t) (left_since new) run) a
      (meets_unopened setting.limit setting.given (left_since old) (left_since new) run
      (subst (λ (t : ℕ). FailsToOpen setting.limit setting.given (left_since old) (left_since new) t run.ended) (sym a) (subst (λ (t : ℕ). FailsToOpen setting.limit setting.given (left_since old) (left_since new) (time old) t) (sym b) fails))
      (ap (λ (s : Setting). s.limit) seen.setting_is) (ap (λ (s : Setting). s.given) seen.setting_is)
      (subst (λ (t : ℕ). left_since old t run.contents) (sym a) (reads_as old run.contents seen.contents))
      (subst (λ (t : ℕ). left_since new t run.after) (sym b) (reads_as new run.after seen.contents_after))
      (λ t u c h k l. since_earlier new t u c h (let z : u ≤ time new = omega (arith, k, b) in z) l)
      (seen.opened ∙ not) (ap needs_opening seen.status ∙ before) (nothing_more seen.had run.wrote written seen.had_written seen.wrote) (seen.flushes ∙ flushes)
      (none_taken report.status seen.bytes run.taken input seen.input seen.takes)
      (seen.files_after ∙ ap (λ (h : Held). h.files) (same_some seen.host_after held seen.host seen.host_after_told seen.host_told) ∙ sym seen.files))

  -- where all images at entry are settled
  opened_known : (mid : D) (stands : Standing) (found : FoundStore) (at : ℕ) (none : List Flushed) (input input_after written written_after : Option (List ℕ)) (held held_after : Option Held) (count count_after : ℕ)
      (report : Report) (run : Run)
      (seen : IsSeen setting (record { time = time old; contents = contents old; input = input; written = written; held = held; faults = count }) (record { time = time new; contents = contents new; input = input_after; written = written_after; held = held_after; faults = count_after }) report run)
      → OpensStore setting (left_since old) (left_since mid) (time old) (time mid) run.contents (contents mid) stands found
      → AllSettled setting.limit setting.given (left_since old (time old)) → report.opened ≡ Yes at found.full found.snapshot → at ≡ time mid → none ≡ [] → comes_before report.status ≡ false
      → ((p : Point) (bytes : List ℕ) → input ≡ Some bytes → At setting stands (time mid) (contents mid) (left_since mid) held count written none p
      → AnswersInput setting (left_since mid) (left_since new) report.status bytes input_after p (IsOuter (time new) (contents new) held_after count_after written_after report.flushes))
      → IsRun setting.limit setting.given (left_since old (time old)) (left_since new) run
  opened_known mid stands found at none input input_after written written_after held held_after count count_after report run seen op all report_is at_is no_flushes goes answers =
      let moment : Moment = record { time = time mid; contents = op.after; files = seen.host.files; faults = count } in
      let first : Outer = record { moment = moment; written = seen.had; flushes = [] } in
      let p : Point = record { outer = first; state = begins op.from; store = op.on } in
      let there : At setting stands (time mid) (contents mid) (left_since mid) held count written none p = record {
        outer = record {
          moment = record { time = refl; contents = op.told; host = seen.host; held = seen.host_told; files = refl; faults = refl };
          output = seen.had_written;
          members = sym no_flushes;
        };
        is_open = op.is_open;
        settled = opened_settled setting.limit setting.given (left_since old) (left_since mid) (record { entered = time old; ended = time mid; contents = run.contents; after = op.after; flushes = []; events = [] }) op.from op.on op.opening op.is_open all;
        stood = op.stood;
      } in
      let a = answers p seen.bytes seen.input there in
      let ends : report.status ≡ status.Done → run.at_end ≡ true = λ done. seen.at_end.1 (a.takes.left ∙ ap (λ l. Some l) (a.takes.ended done)) in
      let built = run_of setting (left_since old) (left_since mid) (left_since new) (time old) run.contents first op.from op.on op.opening a.o report.status a.taken run.at_end a.finish goes ends in
      let meets : IsRun setting.limit setting.given (left_since old (time old)) (left_since new) built = meets_run setting (left_since old) (left_since mid) (left_since new) (time old) run.contents first op.from op.on op.opening a.o report.status a.taken run.at_end a.finish goes ends in
      let ended : a.o.moment.time ≡ run.ended = a.there.moment.time ∙ sym seen.ended in
      let after : a.o.moment.contents ≡ run.after = same_some a.o.moment.contents (contents new) run.after a.there.moment.contents seen.contents_after in
      let taken : a.taken ≡ run.taken = same_taken report.status seen.bytes a.taken run.taken input_after a.takes seen.takes in
      let wrote : a.finish.short.wrote ≡ run.wrote = cancel seen.had a.finish.short.wrote run.wrote (sym a.finish.short.text ∙ same_some a.o.written written_after (seen.had ++ run.wrote) a.there.output seen.wrote) in
      let files : a.o.moment.files ≡ run.files_after = a.there.moment.files ∙ ap (λ (h : Held). h.files) (same_some a.there.moment.host held_after seen.host_after a.there.moment.held seen.host_after_told) ∙ sym seen.files_after in
      let faults : a.o.moment.faults ≡ run.faults_after = a.there.moment.faults ∙ sym seen.faults_after in
      let flushes : a.finish.short.flushes ≡ run.flushes = sym a.finish.short.added ∙ a.there.members ∙ sym seen.flushes in
      let opened_is : built.opened ≡ run.opened =
      ap (λ (f : Option Found). Yes (time mid) f (option_map found_of (snapshot_of op.from.active op.from.role))) (sym op.full) ∙ ap (λ (f : Option Found). Yes (time mid) found.full f) (sym op.snapshot)
      ∙ ap (λ (t : ℕ). Yes t found.full found.snapshot) (sym at_is) ∙ sym report_is ∙ sym seen.opened in
      let same : built ≡ run = λ i. record {
        setting = sym seen.setting_is i;
        entered = sym seen.entered i;
        ended = ended i;
        contents = run.contents;
        after = after i;
        taken = taken i;
        at_end = run.at_end;
        wrote = wrote i;
        files_before = sym seen.files i;
        files_after = files i;
        faults_before = sym seen.faults_before i;
        faults_after = faults i;
        status = sym seen.status i;
        flushes = flushes i;
        opened = opened_is i;
      } in
      subst (λ (r : Run). IsRun setting.limit setting.given (left_since old (time old)) (left_since new) r) same meets

  pub opened : (mid : D) (stands : Standing) (found : FoundStore) (at : ℕ) (none : List Flushed) (input input_after written written_after : Option (List ℕ)) (held held_after : Option Held) (count count_after : ℕ)
      (report : Report) (run : Run)
      (seen : IsSeen setting (record { time = time old; contents = contents old; input = input; written = written; held = held; faults = count }) (record { time = time new; contents = contents new; input = input_after; written = written_after; held = held_after; faults = count_after }) report run)
      → OpensStore setting (left_since old) (left_since mid) (time old) (time mid) run.contents (contents mid) stands found
      → report.opened ≡ Yes at found.full found.snapshot → at ≡ time mid → none ≡ [] → comes_before report.status ≡ false
      → ((p : Point) (bytes : List ℕ) → input ≡ Some bytes → At setting stands (time mid) (contents mid) (left_since mid) held count written none p
      → AnswersInput setting (left_since mid) (left_since new) report.status bytes input_after p (IsOuter (time new) (contents new) held_after count_after written_after report.flushes))
      → AddsFlushes (time mid) (time new) none report.flushes
      → IsRun setting.limit setting.given (left_since old (time old)) (left_since new) run
  opened mid stands found at none input input_after written written_after held held_after count count_after report run seen op report_is at_is no_flushes goes answers adds =
      let a = seen.entered in
      let b = seen.ended in
      let first = op.opening.disk.later in
      let second = adds.later in
      let known : AllSettled setting.limit setting.given (left_since old (time old)) → IsRun setting.limit setting.given (left_since old (time old)) (left_since new) run =
      λ all. opened_known mid stands found at none input input_after written written_after held held_after count count_after report run seen op all report_is at_is no_flushes goes answers in
      let full : Option Found = option_map found_of (full_of op.from.active op.from.role) in
      let snapshot : Option Found = option_map found_of (snapshot_of op.from.active op.from.role) in
      let is : run.opened ≡ Yes (time mid) full snapshot =
      seen.opened ∙ report_is ∙ ap (λ (t : ℕ). Yes t found.full found.snapshot) at_is ∙ ap (λ (f : Option Found). Yes (time mid) f found.snapshot) op.full ∙ ap (λ (f : Option Found). Yes (time mid) full f) op.snapshot in
      let new_only : AddsFlushes (time mid) run.ended [] run.flushes =
      subst (λ (t : ℕ). AddsFlushes (time mid) t [] run.flushes) (sym b)
      (subst (λ (l : List Flushed). AddsFlushes (time mid) (time new) [] l) (sym seen.flushes) (subst (λ (l : List Flushed). AddsFlushes (time mid) (time new) l report.flushes) no_flushes adds)) in
      record {
        limits = ap (λ (s : Setting). s.limit) seen.setting_is;
        rules = ap (λ (s : Setting). s.given) seen.setting_is;
        disk = record {
          later = omega (arith, a, b, first, second);
          reads = reads_as old run.contents seen.contents;
          reads_after = subst (λ (t : ℕ). left_since new t run.after) (sym b) (reads_as new run.after seen.contents_after);
          earlier = λ t u c h k l. since_earlier new t u c h (let z : u ≤ time new = omega (arith, k, b) in z) l;
        };
        settled = λ all. (let run_known = known all in run_known.settled all);
        opens = opens_run setting.limit setting.given run (time mid) full snapshot is (op.from, op.opening.stands_for, refl, refl) (ap comes_before seen.status ∙ goes);
        in_order = in_order_run run (time mid) full snapshot is (let z : run.entered ≤ time mid = omega (arith, a, first) in z) new_only;
        not_opened = λ all. (let run_known = known all in run_known.not_opened all);
        after_opening = λ all. (let run_known = known all in run_known.after_opening all);
      }
