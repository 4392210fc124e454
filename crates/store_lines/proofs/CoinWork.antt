-- Lines that change nothing on the disk, as work that was served or stopped.
use Rattle.std.proofs.Common.{◌≡◌, ℕ, ◌≤◌, List, [], ◌∷◌, ◌++◌, append-nil, refl, sym, ap, subst, ◌∙◌, le_refl}
use Rattle.std.specs.Prelude.{Option, Some, None}
use Rattle.std.specs.FinMap.{get}
use Rattle.std.specs.List.{flat_map}
use Rattle.std.specs.Option.{option_map}
use Rattle.disk_model.specs.Disk.{Image}
use Rattle.base_types.specs.declared.coin.Coin.{Coin}
use Rattle.base_types.specs.declared.flushes.Flushed.{Flushed}
use Rattle.base_types.specs.declared.hash.OutPoint.{OutPoint}
use Rattle.chainstates.specs.Standing.{HasAnswered}
use Rattle.chainstates.specs.declared.session.Info.{Info}
use Rattle.chainstates.specs.declared.session.Session.{Session}
use Rattle.command_loop.specs.Points.{IsOpenAt}
use Rattle.command_loop.specs.ServerCalls.{WorkServed, WorkStopped}
use Rattle.command_text.specs.Replies.{reply_text}
use Rattle.command_text.specs.declared.line.Line.TheVariants as line
use Rattle.command_text.specs.declared.reply.Reply.{Reply}
use Rattle.command_text.specs.declared.reply.Reply.TheVariants as says
use Rattle.command_text.specs.declared.reply.Role.TheVariants as role
use Rattle.command_text.specs.declared.reply.TxOutFound.{TxOutFound}
use Rattle.io_traits.specs.Host.{Held}
use Rattle.io_traits.proofs.Causes.{RoseBy-none}
use Rattle.machine.specs.Calls.{IsOpen, IsWhole}
use Rattle.machine.specs.State.{Setting, State, active_coins}
use Rattle.machine.specs.Steps.{Did, answered, asked, coin_reply, info_reply, moved_on, role_name}
use Rattle.machine.specs.Work.{IsMoment, Moment, WorkDone, call_between}
use Rattle.machine.proofs.Working.{done_is_cut, no_work}
use Rattle.store_lines.specs.Coins.{found_at}
use Rattle.store_lines.specs.Serving.{DoesLine, now_at, standing_of}
use Rattle.store_lines.proofs.Between.{moment_at, still_told}
use Rattle.store_lines.proofs.QuietWork.{quiet_whole}
use Rattle.store_lines.proofs.Telling.{IsInfo, coin_told, headers_told, height_told, tip_told}
use Rattle.store_state.specs.State.{StoreState}
use Rattle.store_writes.specs.Written.{events_call}

one_text : (tb ta : List ℕ) (said meant : Reply) → said ≡ meant → ta ≡ tb ++ reply_text said → ta ≡ tb ++ flat_map reply_text (meant ∷ [])
one_text tb ta said meant same text = text ∙ ap (λ (l : List ℕ). tb ++ l) (ap reply_text same ∙ sym (append-nil (reply_text meant)))

-- ---- a coin that is asked for

module _ (setting : Setting) (past left : ℕ → Image → Type 0) (entered ended : ℕ) (bc nc : Option Image) (session : Session) (held : Option Held) (count : ℕ) (before : Moment) (state : State) (from : StoreState)
    (at : IsOpenAt setting (standing_of setting.limit session) entered bc past held count before state from) (key : OutPoint) (had : List Flushed)
    (later : entered ≤ ended) (since : (t : ℕ) (c : Image) → t ≤ entered → left t c → past t c) (earlier : (t u : ℕ) (c : Image) → t ≤ u → u ≤ ended → left u c → left t c)
    (reads_as : (c : Image) → nc ≡ Some c → left ended c) (same : nc ≡ bc) where
  abbrev did_ask : Did
  did_ask = moved_on (now_at before state) (asked state key)

  abbrev asked_at : Moment
  asked_at = moment_at before ended before.contents

  told_now : nc ≡ Some before.contents
  told_now = same ∙ at.told.contents

  whole : IsWhole setting.limit setting.given past left (call_between before asked_at [] []) from from
  whole =
      subst (λ (t : ℕ). IsWhole setting.limit setting.given past left (events_call t ended before.contents before.contents [] []) from from) (sym at.told.time)
      (quiet_whole setting.limit setting.given past left entered ended before.contents from later since earlier (reads_as before.contents told_now) at.is_open)

  ask_done : WorkDone setting past left before asked_at from from did_ask []
  ask_done = record {
    whole = whole;
    files = refl;
    names = refl;
    done = tt;
    untold = tt;
    lines = refl;
    host = RoseBy-none before.faults before.faults (le_refl before.faults);
  }

  there : IsMoment ended nc held count asked_at
  there = still_told entered ended bc nc held count before before.contents at.told told_now

  pub ask_stopped : WorkStopped setting past left before from (DoesLine setting before state (line.GetTxOut key)) (IsMoment ended nc held count) None had had
  ask_stopped = record {
    did = did_ask;
    does = refl;
    after = asked_at;
    there = there;
    flushes = [];
    added = sym (append-nil had);
    work = done_is_cut setting past left before asked_at from from did_ask None [] refl ask_done;
  }

  pub ask_served : (session_after : Session) (info : Info) (coin : Option Coin) (tb ta : List ℕ)
      → HasAnswered setting.limit nc (left ended) session_after state from key coin → IsInfo session_after info → ta ≡ tb ++ reply_text (says.TxOut (option_map (found_at info) coin))
      → WorkServed setting past left before from (DoesLine setting before state (line.GetTxOut key)) (IsOpenAt setting (standing_of setting.limit session_after) ended nc left held count) had had tb ta
  ask_served session_after info coin tb ta has is said =
      let found = coin_told setting.limit nc (left ended) session_after (asked state key).state from has.stands info is at.settled coin in
      let reply : says.TxOut (option_map (found_at info) coin) ≡ coin_reply state (get (active_coins state) key) =
      ap (λ (o : Option TxOutFound). says.TxOut o) found ∙ ap (coin_reply state) has.coin in
      record {
        did = did_ask;
        does = refl;
        after = asked_at;
        on = from;
        now = record { told = there; is_open = whole.ends; settled = at.settled; stood = has.stands };
        flushes = [];
        added = sym (append-nil had);
        text = one_text tb ta (says.TxOut (option_map (found_at info) coin)) (coin_reply state (get (active_coins state) key)) reply said;
        work = ask_done;
      }

-- ---- where the store stands

module _ (setting : Setting) (left : ℕ → Image → Type 0) (time : ℕ) (contents : Option Image) (session : Session) (held : Option Held) (count : ℕ) (before : Moment) (state : State) (from : StoreState)
    (at : IsOpenAt setting (standing_of setting.limit session) time contents left held count before state from) (had : List Flushed)
    (earlier : (t u : ℕ) (c : Image) → t ≤ u → u ≤ time → left u c → left t c) where
  abbrev did_tell : Did
  did_tell = answered (now_at before state) (info_reply state ∷ [])

  tell_done : WorkDone setting left left before before from from did_tell []
  tell_done =
      no_work setting left before before from did_tell
      (subst (λ (n : ℕ). (t u : ℕ) (c : Image) → t ≤ u → u ≤ n → left u c → left t c) (sym at.told.time) earlier)
      (subst (λ (n : ℕ). IsOpen setting.limit setting.given (left n) before.contents from) (sym at.told.time) at.is_open)
      refl refl refl refl refl (RoseBy-none before.faults before.faults (le_refl before.faults))

  pub tell_stopped : WorkStopped setting left left before from (DoesLine setting before state line.Info) (IsMoment time contents held count) None had had
  tell_stopped = record {
    did = did_tell;
    does = refl;
    after = before;
    there = at.told;
    flushes = [];
    added = sym (append-nil had);
    work = done_is_cut setting left left before before from from did_tell None [] refl tell_done;
  }

  pub tell_served : (info : Info) (tb ta : List ℕ) → IsInfo session info → ta ≡ tb ++ reply_text (says.Info None info.headers info.height role.Full info.tip)
      → WorkServed setting left left before from (DoesLine setting before state line.Info) (IsOpenAt setting (standing_of setting.limit session) time contents left held count) had had tb ta
  tell_served info tb ta is said =
      let headers = headers_told setting.limit contents (left time) session state from at.stood info is in
      let high = height_told setting.limit contents (left time) session state from at.stood info is at.settled in
      let tip = tip_told setting.limit contents (left time) session state from at.stood info is in
      let reply : says.Info None info.headers info.height role.Full info.tip ≡ info_reply state = λ i. says.Info None (headers i) (high i) (role_name (sym at.stood.role i)) (tip i) in
      record {
        did = did_tell;
        does = refl;
        after = before;
        on = from;
        now = at;
        flushes = [];
        added = sym (append-nil had);
        text = one_text tb ta (says.Info None info.headers info.height role.Full info.tip) (info_reply state) reply said;
        work = tell_done;
      }
