-- What a call on an open store promises, as a part of a run.
use Rattle.std.specs.Prelude.{◌≡◌, ◌⊎◌, ℕ, ◌<◌, ◌≤◌, false, List, [], ◌++◌, length, map, Some}
use Rattle.std.specs.List.{AllByRecursion}
use Rattle.std.specs.Option.{option_map}
use Rattle.disk_model.specs.Disk.{Image}
use Rattle.base_types.specs.declared.flushes.Flushed.{Flushed}
use Rattle.base_types.specs.declared.program.Rules.{Rules}
use Rattle.machine.specs.declared.report.Opened.{Opened}
use Rattle.machine.specs.declared.report.Opened.TheVariants.{Not, Yes}
use Rattle.store_state.specs.Roles.{full_of, snapshot_of}
use Rattle.store_state.specs.Settled.{Settled}
use Rattle.store_state.specs.State.{StoreState, state_of}
use Rattle.machine.specs.State.{Event}
use Rattle.machine.specs.Tips.{AllSettled, StaysSettled, OfEach, IsAfterSome, AsAtEntry, stored_in, stored_after, flush_count}
use Rattle.machine.specs.Answers.{found_of}
use Rattle.machine.specs.Clauses.{ReadsWithin}

-- the values of a call: the clock and the disk before and after it, what it flushed, and the machine's events in it
pub record Call : Type 0 where
  pub entered : ℕ
  pub ended : ℕ
  pub contents : Image
  pub after : Image
  pub flushes : List Flushed
  pub events : List Event

-- the disk as it was and as it is
pub record Passes (past left : ℕ → Image → Type 0) (call : Call) : Type 0 where
  pub later : call.entered ≤ call.ended
  pub reads : past call.entered call.contents
  pub reads_after : left call.ended call.after
  pub earlier : (t u : ℕ) (c : Image) → t ≤ u → u ≤ call.ended → left u c → left t c

-- an image that the call makes at some moment of it, as a crash since t leaves it: it is settled, and has a first part of the
-- events; the store at the call's beginning stands in the place of that at opening
pub record IsMade (limit : ℕ) (given : Rules) (call : Call) (from : StoreState) (t : ℕ) (c : Image) : Type 0 where
  pub settled : Settled limit given c
  pub stored : (store : StoreState) → state_of limit given c ≡ Some store → IsAfterSome call.events t call.flushes from store

-- From a store that stands: settled images stay settled, and what a crash in the call leaves of the events, and of each tip
-- with them; a crash since a moment before the call leaves what it might have left before it, or an image that the call makes.
pub record IsCall (limit : ℕ) (given : Rules) (past left : ℕ → Image → Type 0) (call : Call) (from : StoreState) : Type 0 where
  pub disk : Passes past left call
  pub stands_for : state_of limit given call.contents ≡ Some from
  pub settled : StaysSettled limit given (past call.entered) left call.entered
  pub before : AllSettled limit given (past call.entered) → (t : ℕ) (c : Image) → t < call.entered → left t c → past t c ⊎ IsMade limit given call from t c
  pub leaves : AllSettled limit given (past call.entered) → OfEach limit given left call.entered call.ended (λ t store. IsAfterSome call.events t call.flushes from store)
  pub in_order : AllByRecursion (ReadsWithin call.entered call.ended) call.flushes

-- What a call that met no fault has besides: all its events are in each image, and each of its flushes was one of them.
pub record EndsWell (limit : ℕ) (given : Rules) (left : ℕ → Image → Type 0) (call : Call) (from : StoreState) : Type 0 where
  pub stored : (c : Image) (store : StoreState) → left call.ended c → state_of limit given c ≡ Some store → stored_in store ≡ stored_after call.events (stored_in from)
  pub flushed : flush_count call.events ≡ length call.flushes

-- each image stands for this store
abbrev pub AllStand : ℕ → Rules → (Image → Type 0) → StoreState → Type 0
AllStand limit given images store = (c : Image) → images c → state_of limit given c ≡ Some store

-- Each call but the opening needs this, and the opening and each answer but a fault give it again: the disk tells one of the
-- images that a crash leaves, and each of them stands for this store.
pub record IsOpen (limit : ℕ) (given : Rules) (images : Image → Type 0) (contents : Image) (store : StoreState) : Type 0 where
  pub reads : images contents
  pub all : AllStand limit given images store

-- a call that met no fault, and the store that it ends with
pub record IsWhole (limit : ℕ) (given : Rules) (past left : ℕ → Image → Type 0) (call : Call) (from on : StoreState) : Type 0 where
  pub meets : IsCall limit given past left call from
  pub well : EndsWell limit given left call from
  pub ends : IsOpen limit given (left call.ended) call.after on

-- the second call goes on where the first ended
pub record Follows (first second : Call) : Type 0 where
  pub time : second.entered ≡ first.ended
  pub contents : second.contents ≡ first.after

abbrev pub joined : Call → Call → Call
joined first second = record {
  entered = first.entered;
  ended = second.ended;
  contents = first.contents;
  after = second.after;
  flushes = first.flushes ++ second.flushes;
  events = first.events ++ second.events;
}

-- a call that makes no device call
abbrev pub nothing_at : ℕ → Image → Call
nothing_at t contents = record { entered = t; ended = t; contents = contents; after = contents; flushes = []; events = [] }

-- a member as if it weren't told
abbrev pub untold : Flushed → Flushed
untold member = record member { told = false }

-- the second list has the members of the first, some of which may be told since
abbrev pub SameButTold : List Flushed → List Flushed → Type 0
SameButTold before since = map untold since ≡ map untold before

-- an opening keeps settled images settled, leaves what is stored and each tip, and ends with a store as that of the contents
-- at entry
pub record IsOpening (limit : ℕ) (given : Rules) (past left : ℕ → Image → Type 0) (call : Call) (from on : StoreState) : Type 0 where
  pub disk : Passes past left call
  pub stands_for : state_of limit given call.contents ≡ Some from
  pub settled : StaysSettled limit given (past call.entered) left call.entered
  pub leaves : AllSettled limit given (past call.entered) → OfEach limit given left call.entered call.ended (λ t store. AsAtEntry limit given (past call.entered) Not t store)
  pub same : stored_in on ≡ stored_in from

-- an opening that failed leaves what was there
pub record FailsToOpen (limit : ℕ) (given : Rules) (past left : ℕ → Image → Type 0) (entered ended : ℕ) : Type 0 where
  pub later : entered ≤ ended
  pub settled : StaysSettled limit given (past entered) left entered
  pub leaves : AllSettled limit given (past entered) → OfEach limit given left entered ended (λ t store. AsAtEntry limit given (past entered) Not t store)

abbrev pub opened_at : Call → StoreState → Opened
opened_at call from = Yes call.ended (option_map found_of (full_of from.active from.role)) (option_map found_of (snapshot_of from.active from.role))

-- what a run promises of images that opens the store and then makes a call
pub record IsOpenedRun (limit : ℕ) (given : Rules) (past left : ℕ → Image → Type 0) (opening call : Call) (from : StoreState) : Type 0 where
  pub settled : StaysSettled limit given (past opening.entered) left opening.entered
  pub leaves : AllSettled limit given (past opening.entered) → OfEach limit given left opening.entered call.ended (λ t store.
      AsAtEntry limit given (past opening.entered) (opened_at opening from) t store
      ⊎ IsAfterSome call.events t call.flushes from store)
