-- Headers that are offered to an open session, and a line that takes those of a file, as work that was served or stopped.
use Rattle.std.proofs.Common.{◌≡◌, ℕ, zero, suc, ◌≤◌, true, false, List, [], ◌∷◌, ◌++◌, append-nil, length, map, refl, sym, ap, subst, ◌∙◌, arith, le_refl}
use Rattle.std.specs.Prelude.{Option, Some, None, Result, Ok, Err, IfOk}
use Rattle.std.specs.FinMap.{get}
use Rattle.std.proofs.lemmas.List.{length-map}
use Rattle.std.proofs.lemmas.Option.{same_Some}
use Rattle.disk_model.specs.Disk.{Image}
use Rattle.base_types.specs.declared.fault.StoreFault.{StoreFault}
use Rattle.base_types.specs.declared.flushes.Flushed.{Flushed}
use Rattle.block_codec.specs.Frames.{frames as blocks_in}
use Rattle.block_codec.specs.declared.block.Header.{Header}
use Rattle.block_files.specs.Passes.{HeadersAre, ReadsHeaders}
use Rattle.chainstates.specs.Offers.{HasTaken, HasTakenSome, closed_under}
use Rattle.chainstates.specs.declared.offers.Closure.{Closure}
use Rattle.chainstates.specs.declared.session.Info.{Info}
use Rattle.chainstates.specs.declared.session.Session.{Session}
use Rattle.command_loop.specs.Points.{IsOpenAt, Standing}
use Rattle.command_loop.specs.ServerCalls.{WorkServed, WorkStopped}
use Rattle.command_text.specs.Replies.{reply_text}
use Rattle.command_text.specs.declared.line.Line.{Line}
use Rattle.command_text.specs.declared.line.Line.TheVariants as line
use Rattle.command_text.specs.declared.reply.Reply.{Reply}
use Rattle.command_text.specs.declared.reply.Reply.TheVariants as says
use Rattle.frame_scan.specs.declared.fault.FrameFault.{FrameFault}
use Rattle.io_traits.specs.Causes.{Rose, RoseBy}
use Rattle.io_traits.specs.Host.{Files, Held}
use Rattle.io_traits.specs.Told.{OnTold}
use Rattle.io_traits.proofs.Causes.{RoseBy-none}
use Rattle.machine.specs.Answers.{flushes_of}
use Rattle.machine.specs.Calls.{IsOpen}
use Rattle.machine.specs.State.{Setting, State, and_reply, header_events, stored_by}
use Rattle.machine.specs.Steps.{Did, closure_of, header_of, longest_file, moved_on, tree_size, with_headers}
use Rattle.machine.specs.Work.{IsMoment, Moment, WorkDone}
use Rattle.machine.proofs.LineWays.{way}
use Rattle.machine.proofs.Working.{cut_more, done_is_cut, no_work, nothing_cut}
use Rattle.store_lines.specs.Serving.{DoesLine, now_at, standing_of}
use Rattle.store_lines.specs.Taking.{AddsHeaders, OffersHeaders, SaysFault, TakesFile, TakesHeaders, TakesOrEnds, WorkBroken, adding}
use Rattle.store_lines.specs.declared.taking.TakenHeaders.{TakenHeaders}
use Rattle.store_lines.proofs.Between.{cut_earlier, done_earlier, moment_at, some_between, still_told, whole_between, with_reply}
use Rattle.store_lines.proofs.FileWays.{either_full, either_unread, headers_taken, longer_way, unread}
use Rattle.store_lines.proofs.Telling.{IsInfo, headers_told}
use Rattle.store_state.specs.State.{StoreState, first_rules}
use Rattle.store_writes.specs.Written.{with_tree}

-- ---- headers that are offered

no_flushes : (most : ℕ) (headers : List Header) → flushes_of (stored_by most headers) ≡ []
unfolding stored_by
no_flushes zero headers = refl
no_flushes (suc most) [] = refl
no_flushes (suc most) (header ∷ headers) = no_flushes most _

module _ (setting : Setting) (given : setting.given ≡ first_rules) (past left : ℕ → Image → Type 0) (entered ended : ℕ) (bc nc : Option Image) (session : Session) (held : Option Held) (count : ℕ) (before : Moment) (state : State) (from : StoreState)
    (at : IsOpenAt setting (standing_of setting.limit session) entered bc past held count before state from) (headers : List Header) where
  abbrev did_add : Did
  did_add = moved_on (now_at before state) (adding setting state headers)

  silent : [] ≡ flushes_of did_add.events
  silent = sym (no_flushes (length (closed_under setting.limit state headers).added) (closed_under setting.limit state headers).added)

  pub headers_broken : HasTakenSome setting.limit past left entered ended bc nc state from headers → WorkBroken setting past left before from did_add (IsMoment ended nc held count)
  headers_broken some = record {
    after = moment_at before ended some.writes.after;
    there = still_told entered ended bc nc held count before some.writes.after at.told some.writes.told;
    work = record {
      meets = some_between setting given past left entered ended bc nc held count before at.told [] did_add.events did_add.events refl from some.writes;
      files = refl;
      names = (flushes_of did_add.events, refl);
      unfinished = tt;
      untold = tt;
      host = RoseBy-none before.faults before.faults (le_refl before.faults);
    };
  }

  module _ (session_after : Session) (closure : Closure) (has : HasTaken setting.limit past left entered ended bc nc session_after state from headers closure) where
    abbrev store_after : StoreState
    store_after = with_tree (closed_under setting.limit state headers).tree from

    abbrev added_at : Moment
    added_at = moment_at before ended has.writes.after

    add_done : WorkDone setting past left before added_at from store_after did_add []
    add_done = record {
      whole = whole_between setting given past left entered ended bc nc held count before at.told [] did_add.events did_add.events refl from store_after has.writes;
      files = refl;
      names = silent;
      done = tt;
      untold = tt;
      lines = refl;
      host = RoseBy-none before.faults before.faults (le_refl before.faults);
    }

    there : IsMoment ended nc held count added_at
    there = still_told entered ended bc nc held count before has.writes.after at.told has.writes.told

    open_after : IsOpenAt setting (standing_of setting.limit session_after) ended nc left held count added_at did_add.now.state store_after
    open_after = record { told = there; is_open = add_done.whole.ends; settled = has.settled; stood = has.stands }

    -- the tree is full, and that wasn't said
    pub full_broken : WorkBroken setting past left before from did_add (IsMoment ended nc held count)
    full_broken = record { after = added_at; there = there; work = done_is_cut setting past left before added_at from store_after did_add None [] refl add_done }

    pub full_offered : (tb ta : List ℕ) → closure.tree_full ≡ true → ta ≡ tb ++ reply_text says.TreeFull
        → OffersHeaders setting past left before state from (IsOpenAt setting (standing_of setting.limit session_after) ended nc left held count) headers tb ta None
    full_offered tb ta full said = (
      sym has.full ∙ full,
      record {
        after = added_at;
        on = store_after;
        now = open_after;
        text = said ∙ ap (λ (l : List ℕ). tb ++ l) (sym (append-nil (reply_text says.TreeFull)));
        work = with_reply setting past left before added_at from store_after (now_at before state) (adding setting state headers) says.TreeFull [] refl add_done;
      },
    )

    pub all_offered : (tb ta : List ℕ) (taken : TakenHeaders) → closure.tree_full ≡ false → ta ≡ tb → taken.frames ≡ length headers → taken.added ≡ closure.added
        → OffersHeaders setting past left before state from (IsOpenAt setting (standing_of setting.limit session_after) ended nc left held count) headers tb ta (Some taken)
    all_offered tb ta taken room same frames new = record {
      room = sym has.full ∙ room;
      count = frames;
      fresh = new ∙ has.added;
      work = record { after = added_at; on = store_after; now = open_after; text = same ∙ sym (append-nil tb); work = add_done };
    }

-- ---- a file that is read

told_later : {S : Type 0} (P : S → S → Type 0) (a b : Option S) (s : S) → a ≡ Some s → OnTold a b P → (t : S) × (b ≡ Some t) × P s t
told_later P None b s is told = absurd cc
told_later P (Some x) None s is told = absurd told
told_later {S} P (Some x) (Some t) s is told = (t, refl, subst (λ (y : S). P y t) (same_Some x s is) told)

-- the headers of a file that was read whole
pub record FileRead (file key : Option (List ℕ)) (headers : List Header) : Type 0 where
  pub bytes : List ℕ
  pub found : file ≡ Some bytes
  pub are : headers ≡ map header_of (blocks_in bytes key)
  pub fits : length bytes ≤ longest_file

file_read : (file key : Option (List ℕ)) (rose : Type 0) (headers : List Header) → HeadersAre key file rose (Ok headers) → FileRead file key headers
file_read None key rose headers read = absurd read
file_read (Some bytes) key rose headers read = record { bytes = bytes; found = refl; are = read.0; fits = read.1 }

module _ (setting : Setting) (stands : Standing) (time : ℕ) (contents : Option Image) (past : ℕ → Image → Type 0) (held held_after : Option Held) (count count_after : ℕ) (before : Moment) (state : State) (from : StoreState)
    (at : IsOpenAt setting stands time contents past held count before state from) (name : List ℕ) (key : Option (List ℕ)) (result : Result (List Header) FrameFault)
    (told : OnTold held held_after (ReadsHeaders name key count count_after result)) (later : count ≤ count_after) where
  abbrev read_at : Moment
  read_at = record before { faults = count_after }

  read : (t : Held) × (held_after ≡ Some t) × ReadsHeaders name key count count_after result at.told.host t
  read = told_later (ReadsHeaders name key count count_after result) held held_after at.told.host at.told.held told

  pub open_read : IsOpenAt setting stands time contents past held_after count_after read_at state from
  open_read = record {
    told = record { time = at.told.time; contents = at.told.contents; host = read.0; held = read.1; files = at.told.files ∙ sym read.2.files; faults = refl };
    is_open = at.is_open;
    settled = at.settled;
    stood = at.stood;
  }

  pub counted : before.faults ≤ count_after
  counted = omega (arith, at.told.faults, later)

  pub headers_are : HeadersAre key (get before.files name) (Rose before.faults count_after) result
  headers_are =
      subst (λ (n : ℕ). HeadersAre key (get before.files name) (Rose n count_after) result) (sym at.told.faults)
      (subst (λ (files : Files). HeadersAre key (get files name) (Rose count count_after) result) (sym at.told.files) read.2.headers)

  module _ (had : List Flushed) (earlier : (t u : ℕ) (c : Image) → t ≤ u → u ≤ time → past u c → past t c) where
    earlier_at : (t u : ℕ) (c : Image) → t ≤ u → u ≤ before.time → past u c → past t c
    earlier_at = subst (λ (n : ℕ). (t u : ℕ) (c : Image) → t ≤ u → u ≤ n → past u c → past t c) (sym at.told.time) earlier

    is_open_at : IsOpen setting.limit setting.given (past before.time) before.contents from
    is_open_at = subst (λ (n : ℕ). IsOpen setting.limit setting.given (past n) before.contents from) (sym at.told.time) at.is_open

    -- nothing was done
    pub read_stopped : (asked : Line) → WorkStopped setting past past before from (DoesLine setting before state asked) (IsMoment time contents held_after count_after) None had had
    read_stopped asked =
        let one = way setting (now_at before state) (Ok asked) in
        record {
          did = one.did;
          does = one.step;
          after = read_at;
          there = open_read.told;
          flushes = [];
          added = sym (append-nil had);
          work = nothing_cut setting past before read_at from one.did None earlier_at is_open_at refl refl refl
              (subst (λ (n : ℕ). RoseBy n before.faults count_after) (sym one.faults) (RoseBy-none before.faults count_after counted));
        }

    -- the file couldn't be read, and that was said
    pub unread_served : (fault : FrameFault) (tb ta : List ℕ) → result ≡ Err fault → SaysFault fault tb ta
        → TakesOrEnds setting past past before state from (IsOpenAt setting stands time contents past held_after count_after) name key had tb ta None
    unread_served fault tb ta is said asked takes =
        let unread_so = unread (now_at before state) key (get before.files name) before.faults count_after tb ta fault counted
        (subst (λ (r : Result (List Header) FrameFault). HeadersAre key (get before.files name) (Rose before.faults count_after) r) is headers_are) said in
        record {
          did = unread_so.did;
          does = either_unread setting (now_at before state) name key asked unread_so.did takes unread_so.does;
          after = read_at;
          on = from;
          now = subst (λ (s : State). IsOpenAt setting stands time contents past held_after count_after read_at s from) (sym (ap (λ n. n.state) unread_so.stays)) open_read;
          flushes = [];
          added = sym (append-nil had);
          text = unread_so.text;
          work = no_work setting past before read_at from unread_so.did earlier_at is_open_at refl refl (sym (ap (λ n. n.files) unread_so.stays)) unread_so.events unread_so.silent unread_so.faults;
        }

  module _ (headers : List Header) (is : result ≡ Ok headers) (left : ℕ → Image → Type 0) (had : List Flushed) where
    file : FileRead (get before.files name) key headers
    file = file_read (get before.files name) key (Rose before.faults count_after) headers (subst (λ (r : Result (List Header) FrameFault). HeadersAre key (get before.files name) (Rose before.faults count_after) r) is headers_are)

    closes : closed_under setting.limit state headers ≡ closure_of setting state (blocks_in file.bytes key)
    closes = ap (λ (l : List Header). closed_under setting.limit state l) file.are

    -- the offer of its headers was cut
    pub offer_stopped : (asked : Line) (IsThere : Moment → Type 0) → TakesFile name key asked → WorkBroken setting past left read_at from (moved_on (now_at read_at state) (adding setting state headers)) IsThere
        → WorkStopped setting past left before from (DoesLine setting before state asked) IsThere None had had
    offer_stopped asked IsThere takes broken =
        let longer = longer_way setting (now_at before state) name key file.bytes file.found file.fits asked takes in
        let all = longer.events ∙ sym (ap (λ c. header_events c.added ++ longer.more) closes) in
        let first = cut_earlier setting past left before broken.after count_after from (moved_on (now_at before state) (adding setting state headers)) [] counted None broken.work in
        record {
          did = longer.did;
          does = longer.does;
          after = broken.after;
          there = broken.there;
          flushes = [];
          added = sym (append-nil had);
          work = cut_more setting past left before broken.after from (moved_on (now_at before state) (adding setting state headers)) longer.did longer.more None [] all
              (subst (λ (n : ℕ). RoseBy n before.faults broken.after.faults) (sym longer.faults) first.host) first;
        }

    -- or it was done
    pub offer_taken : (IsNow : Moment → State → StoreState → Type 0) (tb ta : List ℕ) (answer : Option TakenHeaders) → OffersHeaders setting past left read_at state from IsNow headers tb ta answer
        → TakesOrEnds setting past left before state from IsNow name key had tb ta answer
    offer_taken IsNow tb ta None offered = λ asked takes.
        let on_blocks = subst (λ (l : List Header). OffersHeaders setting past left read_at state from IsNow l tb ta None) file.are offered in
        let did = moved_on (now_at before state) (and_reply says.TreeFull (adding setting state (map header_of (blocks_in file.bytes key)))) in
        record {
          did = did;
          does = either_full setting (now_at before state) name key file.bytes file.found file.fits asked takes on_blocks.0;
          after = on_blocks.1.after;
          on = on_blocks.1.on;
          now = on_blocks.1.now;
          flushes = [];
          added = sym (append-nil had);
          text = on_blocks.1.text;
          work = done_earlier setting past left before on_blocks.1.after count_after from did [] counted on_blocks.1.on on_blocks.1.work;
        }
    offer_taken IsNow tb ta (Some taken) offered =
        let on_blocks = subst (λ (l : List Header). AddsHeaders setting past left read_at state from IsNow l tb ta taken) file.are offered in
        record {
          bytes = file.bytes;
          file = file.found;
          fits = file.fits;
          room = on_blocks.room;
          count = on_blocks.count ∙ length-map (blocks_in file.bytes key) header_of;
          fresh = on_blocks.fresh;
          text = on_blocks.work.text ∙ append-nil tb;
          after = on_blocks.work.after;
          on = on_blocks.work.on;
          now = on_blocks.work.now;
          work = done_earlier setting past left before on_blocks.work.after count_after from (moved_on (now_at before state) (adding setting state (map header_of (blocks_in file.bytes key)))) [] counted on_blocks.work.on on_blocks.work.work;
        }

    pub offer_taken_of : (IsNow : Moment → State → StoreState → Type 0) (tb ta : List ℕ) (offered : Result (Option TakenHeaders) StoreFault) → IfOk offered (OffersHeaders setting past left read_at state from IsNow headers tb ta)
        → IfOk offered (TakesOrEnds setting past left before state from IsNow name key had tb ta)
    offer_taken_of IsNow tb ta (Ok answer) took = offer_taken IsNow tb ta answer took
    offer_taken_of IsNow tb ta (Err fault) took = tt

-- ---- the line `headers`

module _ (setting : Setting) (past left : ℕ → Image → Type 0) (before : Moment) (state : State) (from : StoreState) (session : Session) (ended : ℕ) (nc : Option Image) (held : Option Held) (count : ℕ) (name : List ℕ) (key : Option (List ℕ)) (had : List Flushed)
    (tb middle : List ℕ) (taken : TakenHeaders) (has : TakesHeaders setting past left before state from (IsOpenAt setting (standing_of setting.limit session) ended nc left held count) name key tb middle taken) where
  abbrev meant : Reply
  meant =
      says.Headers (length (blocks_in has.bytes key)) (length (closure_of setting state (blocks_in has.bytes key)).added)
      (tree_size (with_headers state (closure_of setting state (blocks_in has.bytes key)).added).state)

  abbrev did_line : Did
  did_line = moved_on (now_at before state) (and_reply meant (with_headers state (closure_of setting state (blocks_in has.bytes key)).added))

  line_does : DoesLine setting before state (line.Headers name key) did_line
  line_does = headers_taken setting (now_at before state) name key has.bytes has.file has.fits has.room

  line_done : WorkDone setting past left before has.after from has.on did_line []
  line_done = with_reply setting past left before has.after from has.on (now_at before state) (with_headers state (closure_of setting state (blocks_in has.bytes key)).added) meant [] refl has.work

  pub headers_unsaid : WorkStopped setting past left before from (DoesLine setting before state (line.Headers name key)) (IsMoment ended nc held count) None had had
  headers_unsaid = record {
    did = did_line;
    does = line_does;
    after = has.after;
    there = has.now.told;
    flushes = [];
    added = sym (append-nil had);
    work = done_is_cut setting past left before has.after from has.on did_line None [] refl line_done;
  }

  pub headers_served : (info : Info) (ta : List ℕ) → IsInfo session info → ta ≡ middle ++ reply_text (says.Headers taken.frames taken.added info.headers)
      → WorkServed setting past left before from (DoesLine setting before state (line.Headers name key)) (IsOpenAt setting (standing_of setting.limit session) ended nc left held count) had had tb ta
  headers_served info ta is said =
      let tree = headers_told setting.limit nc (left ended) session (with_headers state (closure_of setting state (blocks_in has.bytes key)).added).state has.on has.now.stood info is in
      let reply : says.Headers taken.frames taken.added info.headers ≡ meant = λ i. says.Headers (has.count i) (has.fresh i) (tree i) in
      record {
        did = did_line;
        does = line_does;
        after = has.after;
        on = has.on;
        now = has.now;
        flushes = [];
        added = sym (append-nil had);
        text = said ∙ ap (λ (l : List ℕ). l ++ reply_text (says.Headers taken.frames taken.added info.headers)) has.text ∙ ap (λ (l : List ℕ). tb ++ l) (ap reply_text reply ∙ sym (append-nil (reply_text meant)));
        work = line_done;
      }
