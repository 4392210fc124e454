-- A flush of an open session, as work that was served or stopped.
use Rattle.std.proofs.Common.{◌≡◌, ◌⊎◌, inl, inr, ℕ, true, false, List, [], ◌∷◌, ◌++◌, append-nil, map, refl, sym, ap, subst, ◌∙◌, le_refl}
use Rattle.std.specs.Prelude.{Option, None}
use Rattle.std.specs.List.{flat_map}
use Rattle.disk_model.specs.Disk.{Image}
use Rattle.base_types.specs.Flushes.{begun_flush}
use Rattle.base_types.specs.declared.flushes.Chain.TheVariants.{Full}
use Rattle.base_types.specs.declared.flushes.Flushed.{Flushed}
use Rattle.base_types.specs.declared.flushes.Why.{Why}
use Rattle.base_types.specs.declared.flushes.Why.TheVariants.{Command, Limit, Base, Dump, Compact, End}
use Rattle.chainstates.specs.declared.session.Info.{Info}
use Rattle.chainstates.specs.declared.session.Session.{Session}
use Rattle.command_loop.specs.Points.{IsOpenAt}
use Rattle.command_loop.specs.ServerCalls.{WorkServed, WorkStopped}
use Rattle.command_text.specs.Replies.{reply_text}
use Rattle.command_text.specs.declared.reply.Reply.TheVariants as says
use Rattle.flusher.specs.Flushing.{HasFailedToFlush, HasFlushed, flush_of, kept_at, member_of}
use Rattle.io_traits.specs.Host.{Held}
use Rattle.io_traits.proofs.Causes.{RoseBy-none}
use Rattle.machine.specs.Answers.{FlushName, flushes_of, flushes_told_by, flushes_with_lines, has_line, name_of}
use Rattle.machine.specs.Calls.{IsCall, IsWhole}
use Rattle.machine.specs.Moves.{flush, flush_event, flush_reply}
use Rattle.machine.specs.State.{Setting, Standing, State, height_of}
use Rattle.machine.specs.Steps.{Did, moved_on}
use Rattle.machine.specs.Work.{IsMoment, Moment, WorkCut, WorkDone, call_between}
use Rattle.store_lines.specs.Serving.{DoesFlush, now_at, standing_of}
use Rattle.store_lines.proofs.Between.{moment_at, some_between, still_told, whole_between}
use Rattle.store_lines.proofs.Telling.{IsInfo, height_told, tip_told}
use Rattle.store_state.specs.Roles.{Role, each_chain}
use Rattle.store_state.specs.State.{StoreState, first_rules}

-- a flush that is to be told has its line once it is done
with_line : (state : State) (why : Why) (begun done : ℕ) → has_line why ≡ true → flushes_with_lines (member_of state why begun done ∷ []) ≡ (Full, state.active.tip) ∷ []
with_line state Command begun done told = refl
with_line state End begun done told = refl
with_line state Limit begun done told = absurd cc
with_line state Base begun done told = absurd cc
with_line state Dump begun done told = absurd cc
with_line state Compact begun done told = absurd cc

module _ (setting : Setting) (given : setting.given ≡ first_rules) (past left : ℕ → Image → Type 0) (entered ended : ℕ) (bc nc : Option Image) (session : Session) (held : Option Held) (count : ℕ) (before : Moment) (state : State) (from : StoreState)
    (at : IsOpenAt setting (standing_of setting.limit session) entered bc past held count before state from) (why : Why) (fb fa : List Flushed) where
  abbrev did_flush : Did
  did_flush = moved_on (now_at before state) (flush why state)

  one_event : did_flush.events ≡ flush_of state why ∷ []
  one_event = ap (λ (r : Role Standing). map (flush_event why) (each_chain state.active r)) at.stood.role

  one_reply : did_flush.replies ≡ says.Flushed Full (height_of state state.active.tip) state.active.tip ∷ []
  one_reply = ap (λ (r : Role Standing). map (flush_reply state) (each_chain state.active r)) at.stood.role

  one_name : flushes_of did_flush.events ≡ (Full, state.active.tip, why) ∷ []
  one_name = ap flushes_of one_event

  -- ---- it was cut, or its line wasn't said

  cut_with : (after : Image) (member : Flushed) → name_of member ≡ (Full, state.active.tip, why) → member.told ≡ false
      → IsCall setting.limit setting.given past left (call_between before (moment_at before ended after) (member ∷ []) did_flush.events) from
      → WorkCut setting past left before (moment_at before ended after) from did_flush None (member ∷ [])
  cut_with after member name silent call = record {
    meets = call;
    files = refl;
    names = ([], one_name ∙ ap (λ (n : FlushName). n ∷ []) (sym name));
    unfinished = tt;
    untold = (silent, tt);
    host = RoseBy-none before.faults before.faults (le_refl before.faults);
  }

  cut_before : (after : Image) → IsCall setting.limit setting.given past left (call_between before (moment_at before ended after) [] did_flush.events) from
      → WorkCut setting past left before (moment_at before ended after) from did_flush None []
  cut_before after call = record {
    meets = call;
    files = refl;
    names = (flushes_of did_flush.events, refl);
    unfinished = tt;
    untold = tt;
    host = RoseBy-none before.faults before.faults (le_refl before.faults);
  }

  cut_work : (after : Image) (members : List Flushed) → (members ≡ []) ⊎ (members ≡ begun_flush Full state.active.tip why entered ∷ [])
      → IsCall setting.limit setting.given past left (call_between before (moment_at before ended after) members did_flush.events) from
      → WorkCut setting past left before (moment_at before ended after) from did_flush None members
  cut_work after members (inl none) call =
      subst (λ (l : List Flushed). WorkCut setting past left before (moment_at before ended after) from did_flush None l) (sym none)
      (cut_before after (subst (λ (l : List Flushed). IsCall setting.limit setting.given past left (call_between before (moment_at before ended after) l did_flush.events) from) none call))
  cut_work after members (inr one) call =
      subst (λ (l : List Flushed). WorkCut setting past left before (moment_at before ended after) from did_flush None l) (sym one)
      (cut_with after (begun_flush Full state.active.tip why entered) refl refl
      (subst (λ (l : List Flushed). IsCall setting.limit setting.given past left (call_between before (moment_at before ended after) l did_flush.events) from) one call))

  pub flush_stopped : HasFailedToFlush setting.limit past left entered ended bc nc state from why fb fa
      → WorkStopped setting past left before from (DoesFlush why before state) (IsMoment ended nc held count) None fb fa
  flush_stopped failed = record {
    did = did_flush;
    does = refl;
    after = moment_at before ended failed.writes.after;
    there = still_told entered ended bc nc held count before failed.writes.after at.told failed.writes.told;
    flushes = failed.members;
    added = failed.added;
    work = cut_work failed.writes.after failed.members failed.at_most_one
        (some_between setting given past left entered ended bc nc held count before at.told failed.members (flush_of state why ∷ []) did_flush.events one_event from failed.writes);
  }

  -- ---- it was made

  module _ (session_after : Session) (made : HasFlushed setting.limit past left entered ended bc nc session_after.shared session_after.active state from why fb fa) where
    whole : IsWhole setting.limit setting.given past left (call_between before (moment_at before ended made.writes.after) (member_of state why entered ended ∷ []) did_flush.events) from (kept_at state from)
    whole = whole_between setting given past left entered ended bc nc held count before at.told (member_of state why entered ended ∷ []) (flush_of state why ∷ []) did_flush.events one_event from (kept_at state from) made.writes

    pub flush_untold : WorkStopped setting past left before from (DoesFlush why before state) (IsMoment ended nc held count) None fb fa
    flush_untold = record {
      did = did_flush;
      does = refl;
      after = moment_at before ended made.writes.after;
      there = still_told entered ended bc nc held count before made.writes.after at.told made.writes.told;
      flushes = member_of state why entered ended ∷ [];
      added = made.added;
      work = cut_with made.writes.after (member_of state why entered ended) refl refl whole.meets;
    }

    flush_done : has_line why ≡ true → WorkDone setting past left before (moment_at before ended made.writes.after) from (kept_at state from) did_flush (member_of state why entered ended ∷ [])
    flush_done told = record {
      whole = whole;
      files = refl;
      names = sym one_name;
      done = (refl, tt);
      untold = (refl, tt);
      lines = with_line state why entered ended told ∙ sym (ap flushes_told_by one_reply);
      host = RoseBy-none before.faults before.faults (le_refl before.faults);
    }

    pub flush_served : (info : Info) (tb ta : List ℕ) → has_line why ≡ true → IsInfo session_after info → ta ≡ tb ++ reply_text (says.Flushed Full info.height info.tip)
        → WorkServed setting past left before from (DoesFlush why before state) (IsOpenAt setting (standing_of setting.limit session_after) ended nc left held count) fb fa tb ta
    flush_served info tb ta told is said =
        let high = height_told setting.limit nc (left ended) session_after (flush why state).state (kept_at state from) made.stands info is made.settled in
        let tip = tip_told setting.limit nc (left ended) session_after (flush why state).state (kept_at state from) made.stands info is in
        let reply : says.Flushed Full info.height info.tip ∷ [] ≡ did_flush.replies = (λ i. says.Flushed Full (high i) (tip i) ∷ []) ∙ sym one_reply in
        record {
          did = did_flush;
          does = refl;
          after = moment_at before ended made.writes.after;
          on = kept_at state from;
          now = record {
            told = still_told entered ended bc nc held count before made.writes.after at.told made.writes.told;
            is_open = whole.ends;
            settled = made.settled;
            stood = made.stands;
          };
          flushes = member_of state why entered ended ∷ [];
          added = made.added;
          text = said ∙ ap (λ (l : List ℕ). tb ++ l) (sym (append-nil (reply_text (says.Flushed Full info.height info.tip))) ∙ ap (flat_map reply_text) reply);
          work = flush_done told;
        }
