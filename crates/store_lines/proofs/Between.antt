-- A call of the store between two moments, and what its work is then.
use Rattle.std.proofs.Common.{◌≡◌, ℕ, ◌≤◌, List, [], ◌∷◌, ◌++◌, append-nil, refl, sym, ap, subst, ◌∙◌, arith}
use Rattle.std.specs.Prelude.{Option, Some}
use Rattle.std.proofs.lemmas.Option.{same_Some}
use Rattle.disk_model.specs.Disk.{Image}
use Rattle.base_types.specs.declared.flushes.Flushed.{Flushed}
use Rattle.base_types.specs.declared.program.Rules.{Rules}
use Rattle.command_text.specs.declared.reply.Reply.{Reply}
use Rattle.io_traits.specs.Causes.{RoseBy}
use Rattle.io_traits.specs.Host.{Held}
use Rattle.machine.specs.Answers.{flushes_told_by}
use Rattle.machine.specs.Calls.{Call, IsCall, IsWhole}
use Rattle.machine.specs.State.{Setting, Moved, Event, and_reply}
use Rattle.machine.specs.Steps.{Now, Did, moved_on}
use Rattle.machine.specs.Work.{Moment, IsMoment, WorkCut, WorkDone, call_between}
use Rattle.machine.proofs.FlushLists.{told_by-append}
use Rattle.store_state.specs.State.{StoreState, first_rules}
use Rattle.store_writes.specs.Written.{WritesAll, WritesSome, events_call}

-- ---- moments

-- a moment with other readings of the disk
abbrev pub moment_at : Moment → ℕ → Image → Moment
moment_at before time contents = record before { time = time; contents = contents }

pub still_told : (entered ended : ℕ) (bc nc : Option Image) (held : Option Held) (count : ℕ) (before : Moment) (after : Image)
    → IsMoment entered bc held count before → nc ≡ Some after → IsMoment ended nc held count (moment_at before ended after)
still_told entered ended bc nc held count before after told now = record {
  time = refl;
  contents = now;
  host = told.host;
  held = told.held;
  files = told.files;
  faults = told.faults;
}

-- ---- calls

module _ (setting : Setting) (given : setting.given ≡ first_rules) (past left : ℕ → Image → Type 0) (entered ended : ℕ) (bc nc : Option Image) (held : Option Held) (count : ℕ) (before : Moment) (told : IsMoment entered bc held count before)
    (flushes : List Flushed) (events meant : List Event) (same : meant ≡ events) (from : StoreState) where
  same_call : (contents after : Image) → bc ≡ Some contents → events_call entered ended contents after flushes events ≡ call_between before (moment_at before ended after) flushes meant
  same_call contents after was =
      let image : contents ≡ before.contents = same_Some contents before.contents (sym was ∙ told.contents) in
      λ i. record {
        entered = sym told.time i;
        ended = ended;
        contents = image i;
        after = after;
        flushes = flushes;
        events = sym same i;
      }

  pub whole_between : (on : StoreState) (writes : WritesAll setting.limit past left entered ended bc nc flushes events from on)
      → IsWhole setting.limit setting.given past left (call_between before (moment_at before ended writes.after) flushes meant) from on
  whole_between on writes =
      subst (λ (call : Call). IsWhole setting.limit setting.given past left call from on) (same_call writes.contents writes.after writes.was)
      (subst (λ (rules : Rules). IsWhole setting.limit rules past left (events_call entered ended writes.contents writes.after flushes events) from on) (sym given) writes.whole)

  pub some_between : (writes : WritesSome setting.limit past left entered ended bc nc flushes events from)
      → IsCall setting.limit setting.given past left (call_between before (moment_at before ended writes.after) flushes meant) from
  some_between writes =
      subst (λ (call : Call). IsCall setting.limit setting.given past left call from) (same_call writes.contents writes.after writes.was)
      (subst (λ (rules : Rules). IsCall setting.limit rules past left (events_call entered ended writes.contents writes.after flushes events) from) (sym given) writes.meets)

-- ---- work

-- a line more, which tells of no flush
pub with_reply : (setting : Setting) (past left : ℕ → Image → Type 0) (before after : Moment) (from on : StoreState) (now : Now) (moved : Moved) (reply : Reply) (flushes : List Flushed)
    → flushes_told_by (reply ∷ []) ≡ [] → WorkDone setting past left before after from on (moved_on now moved) flushes → WorkDone setting past left before after from on (moved_on now (and_reply reply moved)) flushes
with_reply setting past left before after from on now moved reply flushes silent work = record {
  whole = work.whole;
  files = work.files;
  names = work.names;
  done = work.done;
  untold = work.untold;
  lines = work.lines ∙ sym (told_by-append moved.replies (reply ∷ []) ∙ ap (λ l. flushes_told_by moved.replies ++ l) silent ∙ append-nil (flushes_told_by moved.replies));
  host = work.host;
}

-- the host may have failed before it
module _ (setting : Setting) (past left : ℕ → Image → Type 0) (before after : Moment) (count : ℕ) (from : StoreState) (did : Did) (flushes : List Flushed) (later : before.faults ≤ count) where
  rose_earlier : RoseBy did.faults count after.faults → RoseBy did.faults before.faults after.faults
  rose_earlier rose = omega (arith, rose, later)

  pub done_earlier : (on : StoreState) → WorkDone setting past left (record before { faults = count }) after from on did flushes → WorkDone setting past left before after from on did flushes
  done_earlier on work = record {
    whole = work.whole;
    files = work.files;
    names = work.names;
    done = work.done;
    untold = work.untold;
    lines = work.lines;
    host = rose_earlier work.host;
  }

  pub cut_earlier : (begun : Option (List ℕ)) → WorkCut setting past left (record before { faults = count }) after from did begun flushes → WorkCut setting past left before after from did begun flushes
  cut_earlier begun work = record {
    meets = work.meets;
    files = work.files;
    names = work.names;
    unfinished = work.unfinished;
    untold = work.untold;
    host = rose_earlier work.host;
  }
