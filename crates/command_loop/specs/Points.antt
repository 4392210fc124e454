-- Where all stands at a moment of a run over an open store, as plain values.
use Rattle.std.specs.Prelude.{◌≡◌, ℕ, List, Option, Some}
use Rattle.disk_model.specs.Disk.{Image}
use Rattle.base_types.specs.declared.flushes.Flushed.{Flushed}
use Rattle.io_traits.specs.Host.{Held}
use Rattle.store_state.specs.Settled.{IsSettled}
use Rattle.store_state.specs.State.{StoreState}
use Rattle.machine.specs.Calls.{IsOpen}
use Rattle.machine.specs.State.{Setting, State}
use Rattle.machine.specs.Steps.{Now}
use Rattle.machine.specs.Work.{Moment, IsMoment}

-- how an open server stands, over contents that are told and the images that a crash may leave: where the machine stands,
-- and what each image stands for
abbrev pub Standing : Type 1
Standing = Option Image → (Image → Type 0) → State → StoreState → Type 0

-- the disk and the host, the bytes written and the flushes
pub record Outer : Type 0 where
  pub moment : Moment
  pub written : List ℕ
  pub flushes : List Flushed

-- with an open store: where the machine stands, and what each image stands for
pub record Point : Type 0 where
  pub outer : Outer
  pub state : State
  pub store : StoreState

abbrev pub now_of : Point → Now
now_of p = record { state = p.state; files = p.outer.moment.files }

-- these are the values that are told
pub record IsOuter (time : ℕ) (contents : Option Image) (held : Option Held) (faults : ℕ) (written : Option (List ℕ)) (flushes : List Flushed) (outer : Outer) : Type 0 where
  pub moment : IsMoment time contents held faults outer.moment
  pub output : written ≡ Some outer.written
  pub members : outer.flushes ≡ flushes

-- the store is open at a moment and settled, the machine and the store stand so, and all this is told
pub record IsOpenAt (setting : Setting) (stands : Standing) (time : ℕ) (contents : Option Image) (left : ℕ → Image → Type 0) (held : Option Held) (faults : ℕ) (moment : Moment) (state : State) (store : StoreState) : Type 0 where
  pub told : IsMoment time contents held faults moment
  pub is_open : IsOpen setting.limit setting.given (left time) moment.contents store
  pub settled : IsSettled store
  pub stood : stands contents (left time) state store

-- the same with the bytes written and the flushes
pub record At (setting : Setting) (stands : Standing) (time : ℕ) (contents : Option Image) (left : ℕ → Image → Type 0) (held : Option Held) (faults : ℕ) (written : Option (List ℕ)) (flushes : List Flushed) (p : Point) : Type 0 where
  pub outer : IsOuter time contents held faults written flushes p.outer
  pub is_open : IsOpen setting.limit setting.given (left time) p.outer.moment.contents p.store
  pub settled : IsSettled p.store
  pub stood : stands contents (left time) p.state p.store
