-- What was written, as work of the machine.
use Rattle.std.proofs.Common.{◌≡◌, ℕ, List, [], ◌∷◌, ◌++◌, Option, Some, None, refl, sym, ◌∙◌, arith}
use Rattle.disk_model.specs.Disk.{Image}
use Rattle.io_traits.specs.Causes.{RoseBy}
use Rattle.io_traits.specs.Host.{Held}
use Rattle.machine.specs.Answers.{flushes_of, flushes_told_by}
use Rattle.machine.specs.State.{BodyStored, Event, Flush, HeadersStored, Setting}
use Rattle.machine.specs.Steps.{Did}
use Rattle.machine.specs.Tips.{flush_count}
use Rattle.machine.specs.Work.{IsMoment, Moment, WorkCut, WorkDone}
use Rattle.machine.proofs.FlushLists.{prefix_none}
use Rattle.machine.proofs.Joining.{whole_both, whole_then}
use Rattle.machine.proofs.Telling.{more_events}
use Rattle.store_lines.proofs.Between.{some_between, whole_between}
use Rattle.store_state.specs.State.{StoreState, first_rules}
use Rattle.store_writes.specs.Written.{WritesAll, WritesSome, events_call}

same_some : {A : Type 0} (a b : A) → Some a ≡ Some b → a ≡ b
same_some a b e = cc

-- ---- one after another

module _ (limit : ℕ) (past mid left : ℕ → Image → Type 0) (entered between ended : ℕ) (before inter now : Option Image) (es fs : List Event) (from on : StoreState)
    (first : WritesAll limit past mid entered between before inter [] es from on) where
  pub writes_then : (end : StoreState) → WritesAll limit mid left between ended inter now [] fs on end → WritesAll limit past left entered ended before now [] (es ++ fs) from end
  writes_then end second = record {
    contents = first.contents;
    was = first.was;
    after = second.after;
    told = second.told;
    whole = whole_both limit first_rules past mid left (events_call entered between first.contents first.after [] es) (events_call between ended second.contents second.after [] fs) from on end first.whole second.whole
        (record { time = refl; contents = same_some second.contents first.after (sym second.was ∙ first.told) });
  }

  pub writes_then_some : WritesSome limit mid left between ended inter now [] fs on → WritesSome limit past left entered ended before now [] (es ++ fs) from
  writes_then_some second = record {
    contents = first.contents;
    was = first.was;
    after = second.after;
    told = second.told;
    meets = whole_then limit first_rules past mid left (events_call entered between first.contents first.after [] es) (events_call between ended second.contents second.after [] fs) from on first.whole second.meets
        (record { time = refl; contents = same_some second.contents first.after (sym second.was ∙ first.told) });
  }

pub writes_more : (limit : ℕ) (past left : ℕ → Image → Type 0) (entered ended : ℕ) (before now : Option Image) (es more : List Event) (from : StoreState)
    → WritesSome limit past left entered ended before now [] es from → WritesSome limit past left entered ended before now [] (es ++ more) from
writes_more limit past left entered ended before now es more from some = record {
  contents = some.contents;
  was = some.was;
  after = some.after;
  told = some.told;
  meets = more_events limit first_rules past left (events_call entered ended some.contents some.after [] es) more from some.meets;
}

-- ---- as work

no_flushes : (events : List Event) → flush_count events ≡ 0 → flushes_of events ≡ []
no_flushes [] none = refl
no_flushes (HeadersStored headers ∷ events) none = no_flushes events none
no_flushes (BodyStored hash block ∷ events) none = no_flushes events none
no_flushes (Flush chain tip why touched ∷ events) none = absurd (omega (arith, none))

module _ (setting : Setting) (rules : setting.given ≡ first_rules) (past left : ℕ → Image → Type 0) (entered ended : ℕ) (was now : Option Image) (held : Option Held) (count : ℕ) (before : Moment)
    (told : IsMoment entered was held count before) (from : StoreState) (did : Did) (found : Held) (later : ℕ) where
  abbrev moment : Image → Moment
  moment image = record { time = ended; contents = image; files = found.files; faults = later }

  pub work_done : (on : StoreState) (writes : WritesAll setting.limit past left entered ended was now [] did.events from on) → found.files ≡ did.now.files → flushes_told_by did.replies ≡ [] → RoseBy did.faults before.faults later
      → WorkDone setting past left before (moment writes.after) from on did []
  work_done on writes files untold host = record {
    whole = whole_between setting rules past left entered ended was now held count before told [] did.events did.events refl from on writes;
    files = files;
    names = sym (no_flushes did.events writes.whole.well.flushed);
    done = tt;
    untold = tt;
    lines = sym untold;
    host = host;
  }

  pub work_cut : (writes : WritesSome setting.limit past left entered ended was now [] did.events from) → found.files ≡ before.files → RoseBy did.faults before.faults later
      → WorkCut setting past left before (moment writes.after) from did None []
  work_cut writes files host = record {
    meets = some_between setting rules past left entered ended was now held count before told [] did.events did.events refl from writes;
    files = files;
    names = prefix_none (flushes_of did.events);
    unfinished = tt;
    untold = tt;
    host = host;
  }
