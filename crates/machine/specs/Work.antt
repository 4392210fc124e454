-- A piece of work on an open store: done whole, or cut by a fault.
use Rattle.std.specs.Prelude.{◌≡◌, ◌≤◌, ℕ, false, List, ◌++◌, map, Option, Some}
use Rattle.std.specs.List.{AllByRecursion}
use Rattle.disk_model.specs.Disk.{Image}
use Rattle.base_types.specs.declared.flushes.Flushed.{Flushed}
use Rattle.io_traits.specs.Causes.{RoseBy}
use Rattle.io_traits.specs.Host.{Files, Held}
use Rattle.store_state.specs.State.{StoreState}
use Rattle.machine.specs.State.{Setting, Event}
use Rattle.machine.specs.Steps.{Did}
use Rattle.machine.specs.Calls.{Call, IsCall, IsWhole}
use Rattle.machine.specs.Clauses.{ReadsWithin}
use Rattle.machine.specs.Answers.{IsPrefix, SameBut, AllDone, AllDoneButLast, name_of, flushes_of, flushes_told_by, flushes_with_lines}

-- the reading of the disk's clock and its contents, and the host's files and count of faults
pub record Moment : Type 0 where
  pub time : ℕ
  pub contents : Image
  pub files : Files
  pub faults : ℕ

-- these are the values that disk and host tell
pub record IsMoment (reading : ℕ) (disk_told : Option Image) (host_told : Option Held) (count : ℕ) (moment : Moment) : Type 0 where
  pub time : moment.time ≡ reading
  pub contents : disk_told ≡ Some moment.contents
  pub host : Held
  pub held : host_told ≡ Some host
  pub files : moment.files ≡ host.files
  pub faults : moment.faults ≡ count

abbrev pub call_between : Moment → Moment → List Flushed → List Event → Call
call_between before after flushes events = record {
  entered = before.time;
  ended = after.time;
  contents = before.contents;
  after = after.contents;
  flushes = flushes;
  events = events;
}

abbrev pub AllUntold : List Flushed → Type 0
AllUntold flushes = AllByRecursion (λ member. member.told ≡ false) flushes

-- The work was done whole: its events are in each image, its flushes are done and none is told yet, and those that have a
-- line are the ones that its replies tell.
pub record WorkDone (setting : Setting) (past left : ℕ → Image → Type 0) (before after : Moment) (from on : StoreState) (did : Did) (flushes : List Flushed) : Type 0 where
  pub whole : IsWhole setting.limit setting.given past left (call_between before after flushes did.events) from on
  pub files : after.files ≡ did.now.files
  pub names : map name_of flushes ≡ flushes_of did.events
  pub done : AllDone flushes
  pub untold : AllUntold flushes
  pub lines : flushes_with_lines flushes ≡ flushes_told_by did.replies
  pub host : RoseBy did.faults before.faults after.faults

-- The work was cut: a first part of its events is in each image; only its last flush may be unfinished, and none is told. The
-- host's files are as before, but maybe for one that was begun.
pub record WorkCut (setting : Setting) (past left : ℕ → Image → Type 0) (before after : Moment) (from : StoreState) (did : Did) (begun : Option (List ℕ)) (flushes : List Flushed) : Type 0 where
  pub meets : IsCall setting.limit setting.given past left (call_between before after flushes did.events) from
  pub files : SameBut begun before.files after.files
  pub names : IsPrefix (map name_of flushes) (flushes_of did.events)
  pub unfinished : AllDoneButLast flushes
  pub untold : AllUntold flushes
  pub host : RoseBy did.faults before.faults after.faults

-- The clock went on, and these flushes were added to those of a run, with readings of that time in their order. It is so of any
-- store, settled or not.
pub record AddsFlushes (entered ended : ℕ) (before after : List Flushed) : Type 0 where
  pub later : entered ≤ ended
  pub flushes : List Flushed
  pub added : after ≡ before ++ flushes
  pub in_order : AllByRecursion (ReadsWithin entered ended) flushes
