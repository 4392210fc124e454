-- The import of a file: its headers first, and then its bodies.
use Rattle.std.proofs.Common.{◌≡◌, inl, inr, ℕ, ◌+◌, ◌-◌, ◌<◌, ◌≤◌, Bool, List, [], ◌∷◌, ◌++◌, length, take, append-nil, Option, Some, None, Ok, refl, sym, ap, subst, ◌∙◌, arith}
use Rattle.std.specs.Prelude.{Result}
use Rattle.std.specs.FinMap.{get}
use Rattle.std.specs.FinMap as finite
use Rattle.std.specs.List.{flat_map}
use Rattle.std.proofs.lemmas.List.{flat_map_more, take_at}
use Rattle.disk_model.specs.Disk.{Image}
use Rattle.base_types.specs.declared.fault.StoreFault.{StoreFault}
use Rattle.base_types.specs.declared.flushes.Flushed.{Flushed}
use Rattle.block_codec.specs.Frames.{frames as blocks_in}
use Rattle.block_codec.specs.declared.block.Block.{Block}
use Rattle.block_codec.specs.declared.block.Header.{Header}
use Rattle.chainstates.specs.declared.session.Info.{Info}
use Rattle.chainstates.specs.declared.session.Session.{Session}
use Rattle.command_loop.specs.Points.{IsOpenAt}
use Rattle.command_loop.specs.ServerCalls.{WorkServed, WorkStopped}
use Rattle.command_text.specs.Replies.{reply_text}
use Rattle.command_text.specs.declared.line.Line.TheVariants as line
use Rattle.command_text.specs.declared.reply.Reply.{Reply}
use Rattle.command_text.specs.declared.reply.Reply.TheVariants as says
use Rattle.frame_scan.specs.declared.fault.FrameFault.{FrameFault}
use Rattle.frame_scan.specs.declared.fault.FrameFault.TheVariants.{NoMemory, HostFailed, FileTooLong}
use Rattle.io_traits.specs.Causes.{Rose, RoseBy}
use Rattle.io_traits.specs.Host.{Held}
use Rattle.io_traits.specs.Told.{OnTold}
use Rattle.io_traits.proofs.Causes.{RoseBy-none, RoseBy-once}
use Rattle.machine.specs.Answers.{flushes_told_by}
use Rattle.machine.specs.State.{Moved, Setting, State, and_reply, and_then}
use Rattle.machine.specs.Steps.{Did, ImportDoes, Imports, OffersAll, OffersUnless, closure_of, import_reply, longest_file, more_bodies, moved_on, with_headers}
use Rattle.machine.specs.Work.{IsMoment, Moment, WorkCut, WorkDone}
use Rattle.machine.proofs.FlushLists.{told_by-append}
use Rattle.machine.proofs.Working.{Joins, done_then_cut, done_then_done}
use Rattle.store_lines.specs.Passing.{HasPassed, HasPassedPart, Passes, SaysEnd, StopsAt, StopsIn}
use Rattle.store_lines.specs.Serving.{DoesLine, now_at, standing_of}
use Rattle.store_lines.specs.Taking.{SaysFault, TakesHeaders}
use Rattle.store_lines.specs.declared.passes.PassEnd.{PassEnd}
use Rattle.store_lines.specs.declared.passes.PassEnd.TheVariants.{Whole, Broken}
use Rattle.store_lines.specs.declared.taking.TakenHeaders.{TakenHeaders}
use Rattle.store_lines.proofs.FileWays.{with_bytes}
use Rattle.store_lines.proofs.PassSteps.{told_from}
use Rattle.store_lines.proofs.Telling.{IsInfo, height_told, tip_told}
use Rattle.store_lines.proofs.Works.{work_cut, work_done}
use Rattle.store_state.specs.State.{StoreState, first_rules}
use Rattle.store_writes.specs.Written.{WritesAll, WritesSome}

-- ---- what follows the headers

zero_first : (n : ℕ) → n ≡ 0 + n
zero_first n = omega arith

more_is : (before more after : ℕ) → after ≡ before + more → more ≡ after - before
more_is before more after is = omega (arith, is)

not_longer : (n : ℕ) → n ≤ longest_file → 68719476736 < n → ⊥
not_longer n fits long = omega (arith, fits, long)

module _ (setting : Setting) (rules : setting.given ≡ first_rules) (past mid left : ℕ → Image → Type 0) (before : Moment) (state : State) (from : StoreState) (name : List ℕ) (key : Option (List ℕ)) (t u : List ℕ) (taken : TakenHeaders)
    (entered : ℕ) (contents : Option Image) (held : Option Held) (faults : ℕ) (middle : Session)
    (takes : TakesHeaders setting past mid before state from (IsOpenAt setting (standing_of setting.limit middle) entered contents mid held faults) name key t u taken)
    (ended : ℕ) (now : Option Image) (told : Option Held) (count : ℕ) (session : Session) (later : faults ≤ count) where
  abbrev pub blocks : List Block
  blocks = blocks_in takes.bytes key

  abbrev added : List Header
  added = (closure_of setting state blocks).added

  abbrev pub headed : Moved
  headed = with_headers state added

  abbrev Does : Did → Type 0
  Does did = DoesLine setting before state (line.Import name key) did

  -- the host holds the file still
  pub file_there : get takes.now.told.host.files name ≡ Some takes.bytes
  file_there = ap (λ files. get files name) (sym takes.now.told.files ∙ takes.work.files) ∙ takes.file

  -- what was done in all, and in the second part alone
  abbrev in_all : Moved → Reply → ℕ → Did
  in_all moved reply n = record (moved_on (now_at before state) (and_reply reply (and_then headed moved))) { faults = n }

  abbrev in_rest : Moved → Reply → ℕ → Did
  in_rest moved reply n = record (moved_on (now_at takes.after headed.state) (and_reply reply moved)) { faults = n }

  in_file : (did : Did) → ImportDoes setting (now_at before state) blocks (closure_of setting state blocks) did → Does did
  in_file did does = with_bytes (now_at before state) name takes.bytes (Imports setting (now_at before state) key) did takes.file takes.fits does

  abbrev reply_of : Moved → Reply
  reply_of moved = import_reply state blocks added moved.state

  does_all : (moved : Moved) → OffersAll setting headed.state blocks moved → Does (in_all moved (reply_of moved) 0)
  does_all moved offers =
      in_file (in_all moved (reply_of moved) 0)
      (inl (subst (λ (full : Bool). OffersUnless full setting (now_at before state) blocks (closure_of setting state blocks) (in_all moved (reply_of moved) 0)) (sym takes.room) (moved, offers, refl)))

  does_some : (first rest : List Block) (moved : Moved) → blocks ≡ first ++ rest → OffersAll setting headed.state first moved → Does (in_all moved says.HostFault 1)
  does_some first rest moved parts offers =
      in_file (in_all moved says.HostFault 1)
      (inr (inr (
        length first,
        moved,
        takes.room,
        subst (λ (bs : List Block). OffersAll setting headed.state bs moved) (sym (ap (take (length first)) parts ∙ take_at first rest (length first) refl)) offers,
        refl,
      )))

  module _ (moved : Moved) (reply : Reply) (n : ℕ) (found : Held) (same : found.files ≡ takes.now.told.host.files) (rose : RoseBy n faults count) where
    abbrev moment_of : Image → Moment
    moment_of image = record { time = ended; contents = image; files = found.files; faults = count }

    joins : Joins (moved_on (now_at before state) headed) (in_rest moved reply n) (in_all moved reply n)
    joins = record { replies = refl; events = refl; files = sym takes.work.files; faults = zero_first n }

    stays : found.files ≡ takes.after.files
    stays = same ∙ sym takes.now.told.files

    risen : RoseBy n takes.after.faults count
    risen = subst (λ (f : ℕ). RoseBy n f count) (sym takes.now.told.faults) rose

    whole : (on : StoreState) (writes : WritesAll setting.limit mid left entered ended contents now [] moved.events takes.on on) → flushes_told_by (moved.replies ++ reply ∷ []) ≡ [] → WorkDone setting past left before (moment_of writes.after) from on (in_all moved reply n) []
    whole on writes untold =
        done_then_done setting past mid left before takes.after (moment_of writes.after) from takes.on (moved_on (now_at before state) headed) (in_rest moved reply n) (in_all moved reply n) [] [] joins on takes.work
        (work_done setting rules mid left entered ended contents now held faults takes.after takes.now.told takes.on (in_rest moved reply n) found count on writes stays untold risen)

    cut : (writes : WritesSome setting.limit mid left entered ended contents now [] moved.events takes.on) → WorkCut setting past left before (moment_of writes.after) from (in_all moved reply n) None []
    cut writes =
        done_then_cut setting past mid left before takes.after (moment_of writes.after) from takes.on (moved_on (now_at before state) headed) (in_rest moved reply n) (in_all moved reply n) [] [] joins None refl takes.work
        (work_cut setting rules mid left entered ended contents now held faults takes.after takes.now.told takes.on (in_rest moved reply n) found count writes stays risen)

  -- ---- what was done is served

  module _ (info : Info) (tells : IsInfo session info) (had : List Flushed) (found : Held) (is : told ≡ Some found) (same : found.files ≡ takes.now.told.host.files) where
    done : (v w : List ℕ) (bs : List Block) (bodies : ℕ) (reply : Reply) (n : ℕ) → RoseBy n faults count → (passed : HasPassed setting.limit mid left entered ended contents now session headed.state takes.on u v bs bodies)
        → flushes_told_by (reply ∷ []) ≡ [] → w ≡ v ++ reply_text reply → Does (in_all passed.moved reply n)
        → WorkServed setting past left before from (DoesLine setting before state (line.Import name key)) (IsOpenAt setting (standing_of setting.limit session) ended now left told count) had had t w
    done v w bs bodies reply n rose passed silent said does =
        let untold = told_by-append passed.moved.replies (reply ∷ []) ∙ ap (λ l. l ++ flushes_told_by (reply ∷ [])) passed.untold ∙ silent in
        let work = whole passed.moved reply n found same rose passed.on passed.writes untold in
        record {
          did = in_all passed.moved reply n;
          does = does;
          after = record { time = ended; contents = passed.writes.after; files = found.files; faults = count };
          on = passed.on;
          now = record {
            told = record { time = refl; contents = passed.writes.told; host = found; held = is; files = refl; faults = refl };
            is_open = work.whole.ends;
            settled = passed.settled;
            stood = passed.stands;
          };
          flushes = [];
          added = sym (append-nil had);
          text =
              said ∙ ap (λ (l : List ℕ). l ++ reply_text reply) (passed.text ∙ ap (λ (l : List ℕ). l ++ flat_map reply_text passed.moved.replies) takes.text)
              ∙ flat_map_more reply_text t passed.moved.replies reply;
          work = work;
        }

    said_is : (v : List ℕ) (bodies : ℕ) (passed : HasPassed setting.limit mid left entered ended contents now session headed.state takes.on u v blocks bodies)
        → says.Import taken.frames taken.added bodies info.height info.tip ≡ reply_of passed.moved
    said_is v bodies passed =
        let more : bodies ≡ more_bodies state passed.moved.state = more_is (finite.len state.bodies) bodies (finite.len passed.moved.state.bodies) passed.count in
        let high = height_told setting.limit now (left ended) session passed.moved.state passed.on passed.stands info tells passed.settled in
        let tip = tip_told setting.limit now (left ended) session passed.moved.state passed.on passed.stands info tells in
        λ i. says.Import (takes.count i) (takes.fresh i) (more i) (high i) (tip i)

    served : (v w : List ℕ) (end : PassEnd) → Passes setting.limit mid left entered ended contents now session headed.state takes.on u v blocks end → StopsAt (length takes.bytes) (Rose faults count) (Ok end) → SaysEnd info taken end v w
        → WorkServed setting past left before from (DoesLine setting before state (line.Import name key)) (IsOpenAt setting (standing_of setting.limit session) ended now left told count) had had t w
    served v w (Whole bodies) passed stop said =
        done v w blocks bodies (reply_of passed.moved) 0 (RoseBy-none faults count later) passed refl (said ∙ ap (λ (r : Reply). v ++ reply_text r) (said_is v bodies passed)) (does_all passed.moved (passed.does setting))
    served v w (Broken fault) some stop said = by_fault fault stop said
      where
        by_fault : (f : FrameFault) → StopsAt (length takes.bytes) (Rose faults count) (Ok (Broken f)) → SaysFault f v w
            → WorkServed setting past left before from (DoesLine setting before state (line.Import name key)) (IsOpenAt setting (standing_of setting.limit session) ended now left told count) had had t w
        by_fault NoMemory stop said = absurd said
        by_fault FileTooLong stop said = absurd (not_longer (length takes.bytes) takes.fits stop)
        by_fault HostFailed stop said =
            done v w some.first some.bodies says.HostFault 1 (RoseBy-once faults count stop) some.passed refl said (does_some some.first some.rest some.passed.moved some.parts (some.passed.does setting))

  -- or it was cut
  module _ (had : List Flushed) (found : Held) (is : told ≡ Some found) (same : found.files ≡ takes.now.told.host.files) where
    stopped : HasPassedPart setting.limit mid left entered ended contents now headed.state takes.on blocks
        → WorkStopped setting past left before from (DoesLine setting before state (line.Import name key)) (IsMoment ended now told count) None had had
    stopped part = record {
      did = in_all part.moved (reply_of part.moved) 0;
      does = does_all part.moved (part.does setting);
      after = record { time = ended; contents = part.writes.after; files = found.files; faults = count };
      there = record { time = refl; contents = part.writes.told; host = found; held = is; files = refl; faults = refl };
      flushes = [];
      added = sym (append-nil had);
      work = cut part.moved (reply_of part.moved) 0 found same (RoseBy-none faults count later) part.writes;
    }

  pub import_served : (info : Info) → IsInfo session info → (had : List Flushed) (v w : List ℕ) (end : PassEnd) → OnTold held told (λ s t. (t.files ≡ s.files) × StopsIn (get s.files name) (Rose faults count) (Ok end))
      → Passes setting.limit mid left entered ended contents now session headed.state takes.on u v blocks end → SaysEnd info taken end v w
      → WorkServed setting past left before from (DoesLine setting before state (line.Import name key)) (IsOpenAt setting (standing_of setting.limit session) ended now left told count) had had t w
  import_served info tells had v w end host passes said =
      let at = told_from (λ s t. (t.files ≡ s.files) × StopsIn (get s.files name) (Rose faults count) (Ok end)) held told takes.now.told.host takes.now.told.held host in
      served info tells had at.0 at.1 at.2.0 v w end passes (subst (λ (file : Option (List ℕ)). StopsIn file (Rose faults count) (Ok end)) file_there at.2.1) said

  pub import_stopped : (had : List Flushed) (result : Result PassEnd StoreFault) → OnTold held told (λ s t. (t.files ≡ s.files) × StopsIn (get s.files name) (Rose faults count) result)
      → HasPassedPart setting.limit mid left entered ended contents now headed.state takes.on blocks
      → WorkStopped setting past left before from (DoesLine setting before state (line.Import name key)) (IsMoment ended now told count) None had had
  import_stopped had result host part =
      let at = told_from (λ s t. (t.files ≡ s.files) × StopsIn (get s.files name) (Rose faults count) result) held told takes.now.told.host takes.now.told.held host in
      stopped had at.0 at.1 at.2.0 part
