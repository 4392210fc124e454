-- Lists of runs, each finished or cut by a crash.
use Rattle.std.specs.Prelude.{◌≡◌, ◌⊎◌, ℕ, ◌≤◌, zero, suc, true, [], Option, Some, None, map}
use Rattle.std.specs.FinMap.{empty}
use Rattle.std.specs.List.{AllByRecursion}
use Rattle.disk_model.specs.Disk.{Image}
use Rattle.base_types.specs.Coins.{Coins}
use Rattle.chain_model.specs.Tree.{Headers, first_headers}
use Rattle.block_codec.specs.Genesis.{genesis_hash}
use Rattle.chain_model.specs.Choice.{Bodies, coins_at}
use Rattle.store_state.specs.Roles.{Role, Alone, full_of}
use Rattle.store_state.specs.Settled.{IsSettled}
use Rattle.store_state.specs.State.{StoreState, Chainstate, state_of, tip_of, choice_of}
use Rattle.machine.specs.Answers.{FoundIn, IsPrefix, name_of, flushes_of}
use Rattle.machine.specs.Clauses.{now_at}
use Rattle.machine.specs.Courses.{Course, whole, events_of, text_of}
use Rattle.machine.specs.Marks.{Since, Past, StandsInWords, begun_at, past_after, done_by}
use Rattle.machine.specs.Runs.{Run}
use Rattle.machine.specs.Tips.{Stored, StoredChain, IsEarly, IsAfterSome, stored_in}

-- how a run ended: by itself, or by a crash at some moment since a reading of the clock, which left an image
pub data Stop : Type 0 where
  Finished : Stop
  Stopped : ℕ → Image → Stop

-- the last reading of the clock that is known to lie before the end
abbrev pub moment : Stop → Run → ℕ
moment Finished run = run.ended
moment (Stopped t c) run = t

-- what the next run begins with: what the last one left, or the image that a crash in it left, which is durable
abbrev pub GoesOn : Stop → (ℕ → Image → Type 0) → Run → (Image → Type 0) → Run → Type 0
GoesOn Finished left run entry next = (next.contents ≡ run.after) × ((c : Image) → entry c → left run.ended c)
GoesOn (Stopped t d) left run entry next = (run.entered ≤ t) × (t ≤ run.ended) × left t d × ((c : Image) → entry c → c ≡ d)

-- an empty disk
abbrev pub BeginsEmpty : (Image → Type 0) → Type 0
BeginsEmpty entry = (c : Image) → entry c → (file : ℕ) → c file ≡ []

-- ---- what came before

-- what a store is, but for the rules of its tree, which are those that are given where no header is stored yet
pub record Left : Type 0 where
  pub headers : Headers
  pub bodies : Bodies
  pub active : StoredChain
  pub role : Role StoredChain

abbrev pub left_of : Stored → Left
left_of stored = record { headers = stored.tree.headers; bodies = stored.bodies; active = stored.active; role = stored.role }

-- an empty disk has genesis, where the one chainstate begins
abbrev pub left_empty : Left
left_empty = record { headers = first_headers; bodies = empty; active = record { start = genesis_hash; start_coins = empty; tip = genesis_hash }; role = Alone }

abbrev pub first_past : Past
first_past = record { full = begun_at genesis_hash }

-- A run from what was there: one course of the machine from what its contents stand for, of whose events a first part was
-- done, with every flush that was done by this moment. The members of the list are flushes of that course.
pub record DidSome (t : ℕ) (run : Run) (before : Left) (past : Past) (after : Left) (now : Past) : Type 0 where
  pub from : StoreState
  pub stands_for : state_of run.setting.limit run.setting.given run.contents ≡ Some from
  pub begins_there : left_of (stored_in from) ≡ before
  pub course : Course run.setting (now_at run from) run.taken
  pub names : IsPrefix (map name_of run.flushes) (flushes_of (events_of (whole course)))
  pub store : StoreState
  pub some : IsAfterSome (events_of (whole course)) t run.flushes from store
  pub left : after ≡ left_of (stored_in store)
  pub marked : now ≡ past_after t some.first run.flushes past

-- or nothing was done, since the store wasn't opened by then
pub record DidNothing (t : ℕ) (run : Run) (before : Left) (past : Past) (after : Left) (now : Past) : Type 0 where
  pub early : IsEarly run.opened t
  pub same : after ≡ before
  pub unmarked : now ≡ past

-- what the runs before the nth left, and the flushes of each chainstate in them since it began
abbrev pub Led : (ℕ → Run) → (ℕ → Stop) → ℕ → Left → Past → Type 0
Led run stop zero left past = (left ≡ left_empty) × (past ≡ first_past)
Led run stop (suc n) left past =
    (before : Left) × (earlier : Past) × Led run stop n before earlier
    × (DidSome (moment (stop n) (run n)) (run n) before earlier left past ⊎ DidNothing (moment (stop n) (run n)) (run n) before earlier left past)

-- ---- the theorem

-- a chainstate, if it is there, is at the tip of its last kept flush or of a later one, to which its blocks can be replayed
-- from where it began
abbrev pub StandsWell : StoreState → Since → Option Chainstate → Type 0
StandsWell store since None = Unit {0}
StandsWell store since (Some chain) = StandsInWords since.start since.marks (tip_of chain) × ((coins : Coins) × (coins_at (choice_of store chain) (tip_of chain) ≡ Some coins))

-- Each chainstate opens at the tip of its last kept flush or of a later one, with the coins of replaying its blocks to it from
-- where it began, which are those of its rows; the report tells this tip; and what is written is what the machine answers from
-- there on.
pub record OpensWell (limit : ℕ) (run : ℕ → Run) (stop : ℕ → Stop) (n : ℕ) : Type 0 where
  pub store : StoreState
  pub stands_for : state_of limit (run n).setting.given (run n).contents ≡ Some store
  pub past : Past
  pub led : Led run stop n (left_of (stored_in store)) past
  pub settled : IsSettled store
  pub found : FoundIn limit (run n).setting.given (run n).contents (run n).opened
  pub full : StandsWell store past.full (full_of store.active store.role)
  pub course : Course (run n).setting (now_at (run n) store) (run n).taken
  pub answers : IsPrefix (run n).wrote (text_of (whole course))

-- each member that was told was done by the end
abbrev pub ToldAreKept : Run → Type 0
ToldAreKept run = AllByRecursion (λ f. f.told ≡ true → done_by run.ended f.done ≡ true) run.flushes
