-- Headers and bodies that are offered to an open store.
use Rattle.std.specs.Prelude.{⊤, ◌≡◌, ◌⊎◌, ℕ, ◌+◌, ◌^◌, ◌≤◌, List, [], ◌∷◌, length, map, Option}
use Rattle.disk_model.specs.Disk.{Image, Rose}
use Rattle.base_types.specs.declared.fault.StoreFault.{StoreFault}
use Rattle.base_types.specs.declared.fault.StoreFault.TheVariants.{NoMemory, DiskFailed, Damaged, Full, CacheFull}
use Rattle.base_types.specs.declared.hash.Hash32.{Hash32}
use Rattle.batch_log.specs.OpenLog.{IsOver, OpenLog}
use Rattle.block_codec.specs.Text.{hash_of_header}
use Rattle.block_codec.specs.declared.block.Block.{Block}
use Rattle.block_codec.specs.declared.block.Header.{Header}
use Rattle.block_store.specs.Bodies.{body_text}
use Rattle.chain_model.specs.HeaderRules.{Closed, closure}
use Rattle.chain_state.specs.Standing.{IsStanding}
use Rattle.chainstates.specs.declared.offers.Closure.{Closure}
use Rattle.chainstates.specs.declared.offers.Offered.{Offered}
use Rattle.chainstates.specs.declared.offers.Offered.TheVariants.{Stored, Known, NoHeader, Refused}
use Rattle.chainstates.specs.declared.session.Session.{Session}
use Rattle.command_text.specs.declared.reply.Reply.{Reply}
use Rattle.command_text.specs.declared.reply.Reply.TheVariants.{Body}
use Rattle.machine.specs.State.{Setting, State, Moved, Event, BodyStored, header_events}
use Rattle.machine.specs.Steps.{Offers, with_headers}
use Rattle.reorg.specs.Advancing.{refusal_reply}
use Rattle.store_state.specs.Settled.{IsSettled}
use Rattle.store_state.specs.State.{StoreState, body_file, coin_file}
use Rattle.store_writes.specs.Written.{WritesAll, WritesSome, with_tree}

-- an open session stands so
abbrev pub Stands : ℕ → Option Image → (Image → Type 0) → Session → State → StoreState → Type 0
Stands limit contents images session state store = IsStanding limit contents images session.shared session.active state store

-- the closure of the tree under headers
abbrev pub closed_under : ℕ → State → List Header → Closed
closed_under limit state headers = closure limit state.tree headers

-- the headers of the closure are stored
pub record HasTaken (limit : ℕ) (past left : ℕ → Image → Type 0) (entered ended : ℕ) (before now : Option Image) (session : Session) (state : State) (store : StoreState) (headers : List Header) (answer : Closure) : Type 0 where
  pub added : answer.added ≡ length (closed_under limit state headers).added
  pub full : answer.tree_full ≡ (closed_under limit state headers).full
  pub writes : WritesAll limit past left entered ended before now [] (header_events (closed_under limit state headers).added) store (with_tree (closed_under limit state headers).tree store)
  pub settled : IsSettled (with_tree (closed_under limit state headers).tree store)
  pub stands : Stands limit now (left ended) session (with_headers state (closed_under limit state headers).added).state (with_tree (closed_under limit state headers).tree store)

-- a first part of them may be stored
pub record HasTakenSome (limit : ℕ) (past left : ℕ → Image → Type 0) (entered ended : ℕ) (before now : Option Image) (state : State) (store : StoreState) (headers : List Header) : Type 0 where
  pub writes : WritesSome limit past left entered ended before now [] (header_events (closed_under limit state headers).added) store

-- ---- a body

-- the lines that tell of it
abbrev pub replies_of : Hash32 → Offered → List Reply
replies_of hash (Stored refusals) = map refusal_reply refusals
replies_of hash Known = []
replies_of hash NoHeader = []
replies_of hash (Refused why) = Body hash why ∷ []

-- what was stored
abbrev pub events_of : Block → Offered → List Event
events_of block (Stored refusals) = BodyStored (hash_of_header block.header) block ∷ []
events_of block Known = []
events_of block NoHeader = []
events_of block (Refused why) = []

-- the offer is done, as the machine does it under any setting
pub record HasOffered (limit : ℕ) (past left : ℕ → Image → Type 0) (entered ended : ℕ) (before now : Option Image) (session : Session) (state : State) (store : StoreState) (block : Block) (answer : Offered) : Type 0 where
  pub moved : Moved
  pub does : (setting : Setting) → Offers setting state block moved
  pub replies : moved.replies ≡ replies_of (hash_of_header block.header) answer
  pub events : moved.events ≡ events_of block answer
  pub on : StoreState
  pub writes : WritesAll limit past left entered ended before now [] moved.events store on
  pub settled : IsSettled on
  pub stands : Stands limit now (left ended) session moved.state on

-- or it was cut
pub record HasOfferedPart (limit : ℕ) (past left : ℕ → Image → Type 0) (entered ended : ℕ) (before now : Option Image) (state : State) (store : StoreState) (block : Block) : Type 0 where
  pub moved : Moved
  pub does : (setting : Setting) → Offers setting state block moved
  pub writes : WritesSome limit past left entered ended before now [] moved.events store

-- ---- why a body may not be taken

-- `Full` where the body would let the file of bodies grow beyond its limit; a body or a coin that is read may be broken
abbrev pub OfferFails : OpenLog → Block → ℕ → ℕ → StoreFault → Type 0
OfferFails log block before now NoMemory = ⊤
OfferFails log block before now DiskFailed = Rose before now
OfferFails log block before now (Full file) = (file ≡ log.file) × (IsOver log (5 + length (body_text (hash_of_header block.header) block)) ⊎ (2 ^ 32 ≤ length (body_text (hash_of_header block.header) block)))
OfferFails log block before now (Damaged file at) = (file ≡ body_file) ⊎ (file ≡ coin_file)
OfferFails log block before now CacheFull = ⊥
