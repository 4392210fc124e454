-- Work that leaves the disk as it is, as that of a server.
use Rattle.std.proofs.Common.{◌≡◌, ℕ, ◌≤◌, List, [], ◌∷◌, ◌++◌, append-nil, refl, sym, ap, subst, le_refl}
use Rattle.std.specs.Prelude.{Option, Some, None, Result, Ok, Err, OnOk, OnErr}
use Rattle.std.specs.List.{flat_map}
use Rattle.disk_model.specs.Disk.{Image}
use Rattle.base_types.specs.declared.flushes.Flushed.{Flushed}
use Rattle.command_loop.specs.Points.{IsOpenAt, Standing}
use Rattle.command_loop.specs.ServerCalls.{Asked, LineDoes, WorkServed, WorkStopped}
use Rattle.command_text.specs.Replies.{reply_text}
use Rattle.command_text.specs.declared.line.Line.TheVariants as line
use Rattle.command_text.specs.Lines.{line_of}
use Rattle.command_text.specs.Parsed.{Parses}
use Rattle.command_text.specs.declared.line.LineFault.{LineFault}
use Rattle.command_text.specs.declared.line.LineFault.TheVariants as fault
use Rattle.command_text.specs.declared.line.LineRefused.{LineRefused}
use Rattle.command_text.specs.declared.reply.Reply.TheVariants as says
use Rattle.io_traits.specs.Causes.{RoseBy}
use Rattle.io_traits.specs.Host.{Files, Held}
use Rattle.io_traits.specs.Told.{OnTold}
use Rattle.io_traits.proofs.Causes.{RoseBy-none}
use Rattle.machine.specs.Answers.{SameBut, file_begun}
use Rattle.machine.specs.Calls.{IsOpen}
use Rattle.machine.specs.State.{Setting, State}
use Rattle.machine.specs.Steps.{Now, answered}
use Rattle.machine.specs.Work.{AddsFlushes, IsMoment, Moment}
use Rattle.machine.proofs.LineFiles.{same_but}
use Rattle.machine.proofs.LineWays.{way}
use Rattle.machine.proofs.Working.{no_work, nothing_cut}
use Rattle.store_lines.proofs.PassSteps.{told_from}
use Rattle.store_state.specs.State.{StoreState}
use Rattle.coins_top.specs.HostLines.{HostCut, HostDone, HostLine, SaysRefusal}

pub adds_none : (entered ended : ℕ) (flushes : List Flushed) → entered ≤ ended → AddsFlushes entered ended flushes flushes
adds_none entered ended flushes later = record { later = later; flushes = []; added = sym (append-nil flushes); in_order = tt }

module _ (setting : Setting) (stands : Standing) (past : ℕ → Image → Type 0) (time : ℕ) (contents : Option Image) (held : Option Held) (count : ℕ) (before : Moment) (state : State) (from : StoreState)
    (at : IsOpenAt setting stands time contents past held count before state from) (earlier : (t u : ℕ) (c : Image) → t ≤ u → u ≤ time → past u c → past t c) (had : List Flushed)
    (ask : Asked) (now_held : Option Held) (now_count : ℕ) where
  abbrev after_with : Held → Moment
  after_with host = record before { files = host.files; faults = now_count }

  earlier_than : (t u : ℕ) (c : Image) → t ≤ u → u ≤ before.time → past u c → past t c
  earlier_than = subst (λ (n : ℕ). (t u : ℕ) (c : Image) → t ≤ u → u ≤ n → past u c → past t c) (sym at.told.time) earlier

  open_there : IsOpen setting.limit setting.given (past before.time) before.contents from
  open_there = subst (λ (n : ℕ). IsOpen setting.limit setting.given (past n) before.contents from) (sym at.told.time) at.is_open

  there : (host : Held) → now_held ≡ Some host → IsMoment time contents now_held now_count (after_with host)
  there host is = record { time = at.told.time; contents = at.told.contents; host = host; held = is; files = refl; faults = refl }

  rose : (faults : ℕ) → RoseBy faults count now_count → RoseBy faults before.faults now_count
  rose faults = subst (λ (n : ℕ). RoseBy faults n now_count) (sym at.told.faults)

  pub done_served : (host : Held) → now_held ≡ Some host → (tb ta : List ℕ) → HostDone setting ask count now_count tb ta before.files host.files state
      → WorkServed setting past past before from (LineDoes setting before state ask) (IsOpenAt setting stands time contents past now_held now_count) had had tb ta
  done_served host is tb ta done = record {
    did = done.did;
    does = done.step;
    after = after_with host;
    on = from;
    now = subst (λ (s : State). IsOpenAt setting stands time contents past now_held now_count (after_with host) s from) (sym (ap (λ (n : Now). n.state) done.stays))
        (record { told = there host is; is_open = at.is_open; settled = at.settled; stood = at.stood });
    flushes = [];
    added = sym (append-nil had);
    text = done.text;
    work = no_work setting past before (after_with host) from done.did earlier_than open_there refl refl (sym (ap (λ (n : Now). n.files) done.stays)) done.events done.untold (rose done.did.faults done.host);
  }

  pub cut_stopped : (host : Held) → now_held ≡ Some host → HostCut setting ask count now_count before.files host.files state
      → WorkStopped setting past past before from (LineDoes setting before state ask) (IsMoment time contents now_held now_count) (file_begun ask) had had
  cut_stopped host is cut = record {
    did = cut.did;
    does = cut.step;
    after = after_with host;
    there = there host is;
    flushes = [];
    added = sym (append-nil had);
    work = nothing_cut setting past before (after_with host) from cut.did (file_begun ask) earlier_than open_there refl refl cut.files (rose cut.did.faults cut.host);
  }

  module _ {A E : Type 0} (tb ta : List ℕ) where
    later_held : (result : Result A E) → OnTold held now_held (λ s t. HostLine setting ask count now_count tb ta result s.files t.files)
        → (t : Held) × (now_held ≡ Some t) × HostLine setting ask count now_count tb ta result before.files t.files
    later_held result told =
        let host = told_from (λ s t. HostLine setting ask count now_count tb ta result s.files t.files) held now_held at.told.host at.told.held told in
        (host.0, host.1, subst (λ (files : Files). HostLine setting ask count now_count tb ta result files host.0.files) (sym at.told.files) host.2)

    pub line_served : (result : Result A E) → OnTold held now_held (λ s t. HostLine setting ask count now_count tb ta result s.files t.files)
        → OnOk result (WorkServed setting past past before from (LineDoes setting before state ask) (IsOpenAt setting stands time contents past now_held now_count) had had tb ta)
    line_served (Ok done) told = let host = later_held (Ok done) told in done_served host.0 host.1 tb ta (host.2 state)
    line_served (Err fault) told = tt

    pub line_stopped : (result : Result A E) → OnTold held now_held (λ s t. HostLine setting ask count now_count tb ta result s.files t.files)
        → OnErr result (WorkStopped setting past past before from (LineDoes setting before state ask) (IsMoment time contents now_held now_count) (file_begun ask) had had)
    line_stopped (Ok done) told = tt
    line_stopped (Err fault) told = let host = later_held (Err fault) told in cut_stopped host.0 host.1 (host.2 state)

-- ---- lines that do nothing

module _ (setting : Setting) (stands : Standing) (past : ℕ → Image → Type 0) (time : ℕ) (contents : Option Image) (held : Option Held) (count : ℕ) (before : Moment) (state : State) (from : StoreState)
    (at : IsOpenAt setting stands time contents past held count before state from) (earlier : (t u : ℕ) (c : Image) → t ≤ u → u ≤ time → past u c → past t c) (had : List Flushed) where
  none : RoseBy 0 count count
  none = RoseBy-none count count (le_refl count)

  pub empty_served : (text : List ℕ) → WorkServed setting past past before from (LineDoes setting before state (Ok line.Empty)) (IsOpenAt setting stands time contents past held count) had had text text
  empty_served text =
      done_served setting stands past time contents held count before state from at earlier had (Ok line.Empty) held count at.told.host at.told.held text text
      (record { did = answered (record { state = state; files = before.files }) []; step = refl; stays = ap (λ (files : Files). record { state = state; files = files }) at.told.files; events = refl; untold = refl; text = sym (append-nil text); host = none })

  refusal_served : (why : LineRefused) (tb ta : List ℕ) → ta ≡ tb ++ reply_text (says.Refused why)
      → WorkServed setting past past before from (LineDoes setting before state (Err why)) (IsOpenAt setting stands time contents past held count) had had tb ta
  refusal_served why tb ta text =
      done_served setting stands past time contents held count before state from at earlier had (Err why) held count at.told.host at.told.held tb ta
      (record {
        did = answered (record { state = state; files = before.files }) (says.Refused why ∷ []);
        step = refl;
        stays = ap (λ (files : Files). record { state = state; files = files }) at.told.files;
        events = refl;
        untold = refl;
        text = subst (λ (l : List ℕ). ta ≡ tb ++ l) (sym (append-nil (reply_text (says.Refused why)))) text;
        host = none;
      })

  -- no memory was left
  nothing_stopped : (ask : Asked) → WorkStopped setting past past before from (LineDoes setting before state ask) (IsMoment time contents held count) (file_begun ask) had had
  nothing_stopped ask =
      let one = way setting (record { state = state; files = before.files }) ask in
      cut_stopped setting stands past time contents held count before state from at earlier had ask held count at.told.host at.told.held
      (record { did = one.did; step = one.step; files = same_but (file_begun ask) before.files at.told.host.files (sym at.told.files); host = subst (λ (n : ℕ). RoseBy n count count) (sym one.faults) none })

  -- the reply to a line that isn't a command is said, or no memory was left for it
  pub refusal_said : {A E : Type 0} (text : List ℕ) (fault : LineFault) (tb ta : List ℕ) (result : Result A E) → Parses (line_of text) (Err fault) → OnOk result (SaysRefusal fault tb ta)
      → OnOk result (WorkServed setting past past before from (LineDoes setting before state (line_of text)) (IsOpenAt setting stands time contents past held count) had had tb ta)
  refusal_said text fault tb ta (Err error) parses is = tt
  refusal_said text fault.NoMemory tb ta (Ok done) parses is = absurd is
  refusal_said text (fault.Refused why) tb ta (Ok done) parses is =
      subst (λ (a : Asked). WorkServed setting past past before from (LineDoes setting before state a) (IsOpenAt setting stands time contents past held count) had had tb ta) (sym parses) (refusal_served why tb ta is)

  pub nothing_said : {A E : Type 0} (ask : Asked) (result : Result A E)
      → OnErr result (WorkStopped setting past past before from (LineDoes setting before state ask) (IsMoment time contents held count) (file_begun ask) had had)
  nothing_said ask (Ok done) = tt
  nothing_said ask (Err fault) = nothing_stopped ask
