-- What a crash at any moment of a run leaves: settled images, and what was stored, with each chainstate's tip.
use Rattle.std.specs.Prelude.{◌≡◌, ◌⊎◌, ℕ, zero, suc, ◌<◌, ◌≤◌, Bool, true, false, List, [], ◌∷◌, ◌++◌, length, fold, Some}
use Rattle.std.specs.FinMap.{empty, insert}
use Rattle.disk_model.specs.Disk.{Image}
use Rattle.base_types.specs.Coins.{Coins}
use Rattle.base_types.specs.declared.flushes.Chain.{Chain}
use Rattle.base_types.specs.declared.flushes.Chain.TheVariants.{Full, Snapshot}
use Rattle.base_types.specs.declared.flushes.Flushed.{Flushed}
use Rattle.base_types.specs.declared.hash.Hash32.{Hash32}
use Rattle.base_types.specs.declared.program.Rules.{Rules}
use Rattle.base_types.specs.declared.program.Status.TheVariants as status
use Rattle.chain_model.specs.Tree.{Tree}
use Rattle.chain_model.specs.HeaderRules.{with_header}
use Rattle.chain_model.specs.Choice.{Bodies}
use Rattle.machine.specs.declared.report.Opened.{Opened}
use Rattle.machine.specs.declared.report.Opened.TheVariants.{Not, Yes}
use Rattle.store_state.specs.Roles.{Role, Alone, beside}
use Rattle.store_state.specs.State.{StoreState, Chainstate, state_of, tip_of, blocks_in}
use Rattle.store_state.specs.Settled.{Settled}
use Rattle.machine.specs.State.{Event, HeadersStored, BodyStored, Flush}
use Rattle.machine.specs.Marks.{done_by}
use Rattle.machine.specs.Runs.{Run}

abbrev pub AllSettled : ℕ → Rules → (Image → Type 0) → Type 0
AllSettled limit given images = (c : Image) → images c → Settled limit given c

-- settled images stay settled, at any moment
abbrev pub StaysSettled : ℕ → Rules → (Image → Type 0) → (ℕ → Image → Type 0) → ℕ → Type 0
StaysSettled limit given entry left entered = AllSettled limit given entry → AllSettled limit given (left entered)

-- ---- what is stored

-- a chainstate by what it began with and its tip: nothing is said of files, rows and markers
pub record StoredChain : Type 0 where
  pub start : Hash32
  pub start_coins : Coins
  pub tip : Hash32

-- the tree, the bodies, and the chainstates with their roles
pub record Stored : Type 0 where
  pub tree : Tree
  pub bodies : Bodies
  pub active : StoredChain
  pub role : Role StoredChain

abbrev pub stored_chain : Chainstate → StoredChain
stored_chain chain = record { start = chain.start; start_coins = chain.start_coins; tip = tip_of chain }

abbrev pub stored_in : StoreState → Stored
stored_in store = record { tree = store.tree; bodies = blocks_in empty store.bodies; active = stored_chain store.active; role = beside stored_chain store.role }

-- ---- what events do to it

abbrev pub with_tip : Hash32 → StoredChain → StoredChain
with_tip tip chain = record chain { tip = tip }

-- the chainstate from genesis has this tip
abbrev pub full_flushed : Hash32 → Role StoredChain → Stored → Stored
full_flushed tip Alone stored = record stored { active = with_tip tip stored.active }

abbrev pub flushed_at : Chain → Hash32 → Stored → Stored
flushed_at Full tip stored = full_flushed tip stored.role stored
flushed_at Snapshot tip stored = stored

abbrev pub with_event : Event → Stored → Stored
with_event (HeadersStored headers) stored = record stored { tree = fold with_header stored.tree headers }
with_event (BodyStored hash block) stored = record stored { bodies = insert stored.bodies hash block }
with_event (Flush chain tip why touched) stored = flushed_at chain tip stored

abbrev pub stored_after : List Event → Stored → Stored
stored_after events stored = fold (λ all event. with_event event all) stored events

-- ---- the two kinds of images

-- before the opening had ended
abbrev pub IsEarly : Opened → ℕ → Type 0
IsEarly Not t = Unit {0}
IsEarly (Yes at full snapshot) t = t < at

-- what is stored is that of an image of the disk at entry; this may be so only before the opening had ended
pub record AsAtEntry (limit : ℕ) (given : Rules) (entry : Image → Type 0) (opened : Opened) (t : ℕ) (store : StoreState) : Type 0 where
  pub early : IsEarly opened t
  pub image : Image
  pub at_entry : entry image
  pub was : StoreState
  pub stands_for : state_of limit given image ≡ Some was
  pub stored : stored_in store ≡ stored_in was

abbrev pub flush_count : List Event → ℕ
flush_count [] = 0
flush_count (HeadersStored headers ∷ events) = flush_count events
flush_count (BodyStored hash block ∷ events) = flush_count events
flush_count (Flush chain tip why touched ∷ events) = suc (flush_count events)

-- the length of the shortest part that holds every flush that was done by then
abbrev pub with_later : Bool → ℕ → ℕ
with_later done (suc n) = suc (suc n)
with_later true zero = 1
with_later false zero = 0

abbrev pub kept_count : ℕ → List Flushed → ℕ
kept_count t [] = 0
kept_count t (f ∷ fs) = with_later (done_by t f.done) (kept_count t fs)

-- What is stored is what a first part of the events leaves. It has every event up to each flush that was done by then, and
-- of flushes none but those of members. So each tip is that of the last such flush of its chainstate, or of a later one; a
-- chainstate without one is where it was opened.
pub record IsAfterSome (events : List Event) (t : ℕ) (flushes : List Flushed) (from store : StoreState) : Type 0 where
  pub first : List Event
  pub rest : List Event
  pub parts : events ≡ first ++ rest
  pub enough : kept_count t flushes ≤ flush_count first
  pub made : flush_count first ≤ length flushes
  pub stored : stored_in store ≡ stored_after first (stored_in from)

-- a fact of what each image stands for that a crash since a reading of the clock may leave
abbrev pub OfEach : ℕ → Rules → (ℕ → Image → Type 0) → ℕ → ℕ → (ℕ → StoreState → Type 0) → Type 0
OfEach limit given left entered ended P =
    (t : ℕ) (c : Image) (store : StoreState) → entered ≤ t → t ≤ ended → left t c → state_of limit given c ≡ Some store → P t store

-- where the store wasn't opened, a crash leaves what was there
abbrev pub LeavesAsAtEntry : ℕ → Rules → (Image → Type 0) → (ℕ → Image → Type 0) → Run → Type 0
LeavesAsAtEntry limit given entry left run =
    run.opened ≡ Not → OfEach limit given left run.entered run.ended (λ t store. AsAtEntry limit given entry run.opened t store)

-- what a crash leaves of the events, and of each tip with them
abbrev pub LeavesEvents : ℕ → Rules → (Image → Type 0) → (ℕ → Image → Type 0) → Run → List Event → StoreState → Type 0
LeavesEvents limit given entry left run events from =
    OfEach limit given left run.entered run.ended (λ t store.
    AsAtEntry limit given entry run.opened t store ⊎ IsAfterSome events t run.flushes from store)

-- at the exit with status 0 all events are there
abbrev pub LeavesAll : ℕ → Rules → (ℕ → Image → Type 0) → Run → List Event → StoreState → Type 0
LeavesAll limit given left run events from =
    run.status ≡ status.Done → (c : Image) (store : StoreState) → left run.ended c → state_of limit given c ≡ Some store
    → stored_in store ≡ stored_after events (stored_in from)
