-- What each line does.
use Rattle.std.specs.Prelude.{◌≡◌, ◌≢◌, ◌⊎◌, ℕ, ◌+◌, ◌-◌, ◌≤◌, ◌<◌, Bool, true, false, ◌||◌, ◌==◌, List, [], ◌∷◌, length, map, take, fold, Option, Some, None, Result, Ok, Err}
use Rattle.std.specs.Option.{option_map, option_map_or}
use Rattle.std.specs.Ordering.{int_eq}
use Rattle.std.specs.FinMap.{get, insert, contains_key}
use Rattle.std.specs.FinMap as finite
use Rattle.base_types.specs.declared.coin.Coin.{Coin}
use Rattle.base_types.specs.declared.flushes.Why.TheVariants.{Command, End}
use Rattle.base_types.specs.declared.hash.Hash32.{Hash32}
use Rattle.base_types.specs.declared.hash.OutPoint.{OutPoint}
use Rattle.base_types.specs.declared.refused.BodyRefused.{BodyRefused}
use Rattle.block_codec.specs.declared.block.Block.{Block}
use Rattle.block_codec.specs.declared.block.Header.{Header}
use Rattle.block_codec.specs.Frames.{frames}
use Rattle.block_codec.specs.Text.{hash_of_header, same_hash, every}
use Rattle.io_traits.specs.Host.{Files}
use Rattle.block_codec.specs.Genesis.{genesis_hash}
use Rattle.chain_model.specs.Tree.{height}
use Rattle.chain_model.specs.Generated.{chain as generated_chain, tip_of, file_text}
use Rattle.chain_model.specs.HeaderRules.{Closed, closure, with_header}
use Rattle.chain_model.specs.BodyRules.{body_broken, place_below}
use Rattle.chain_model.specs.Folding.{Folded, FoldRefused, NotNext, BreaksHeader, BreaksBody, BreaksCoins, fold_of}
use Rattle.command_text.specs.declared.line.Line.{Line}
use Rattle.command_text.specs.declared.line.Line.TheVariants as line
use Rattle.command_text.specs.declared.line.LineRefused.{LineRefused}
use Rattle.command_text.specs.declared.reply.Reply.{Reply}
use Rattle.command_text.specs.declared.reply.Reply.TheVariants as says
use Rattle.command_text.specs.declared.reply.TxOutFound.{TxOutFound}
use Rattle.command_text.specs.declared.reply.Role.{Role as RoleName}
use Rattle.command_text.specs.declared.reply.Role.TheVariants as role
use Rattle.command_text.specs.declared.reply.Rule.TheVariants as rule
use Rattle.store_state.specs.Roles.{Role, Alone}
use Rattle.machine.specs.State.{Setting, Standing, State, Moved, Event, BodyStored, header_events, still, and_then, and_reply, active_coins, height_of}
use Rattle.machine.specs.Moves.{flush, Advances}

-- where the machine and the host's files stand
pub record Now : Type 0 where
  pub state : State
  pub files : Files

-- what a line did: the replies and events, where all stands after it, how many bytes of bodies may have been read, and how
-- many faults of the host it met
pub record Did : Type 0 where
  pub now : Now
  pub replies : List Reply
  pub events : List Event
  pub reads : ℕ
  pub faults : ℕ

-- the longest file that is read, in bytes
abbrev pub longest_file : ℕ
longest_file = 68719476736

-- ---- simple outcomes

abbrev pub answered : Now → List Reply → Did
answered now replies = record { now = now; replies = replies; events = []; reads = 0; faults = 0 }

-- some work on the store, which leaves the host's files
abbrev pub moved_on : Now → Moved → Did
moved_on now moved = record { now = record now { state = moved.state }; replies = moved.replies; events = moved.events; reads = moved.reads; faults = 0 }

-- the same, ended by a fault of the host
abbrev pub faulted : Now → Moved → Did
faulted now moved = record (moved_on now (and_reply says.HostFault moved)) { faults = 1 }

-- ---- fold

abbrev pub refusal_of : FoldRefused → Reply
refusal_of (NotNext hash) = says.NotNext hash
refusal_of (BreaksHeader hash why) = says.Block hash (rule.Header why)
refusal_of (BreaksBody hash why) = says.Block hash (rule.Body why)
refusal_of (BreaksCoins hash why) = says.Block hash (rule.Coin why)

abbrev pub folded_reply : Folded → Reply
folded_reply folded = says.Folded folded.frames (height folded.tree.headers folded.tip) folded.tip (finite.len folded.coins)

-- the reply to the fold of a file of so many bytes; one that is too long may be found so before a block is refused
abbrev pub IsFoldReply : ℕ → Result Folded FoldRefused → Reply → Type 0
IsFoldReply n (Ok folded) reply = ((reply ≡ folded_reply folded) × (n ≤ longest_file)) ⊎ ((reply ≡ says.FileTooLong) × (longest_file < n))
IsFoldReply n (Err why) reply = (reply ≡ refusal_of why) ⊎ ((reply ≡ says.FileTooLong) × (longest_file < n))

-- ---- headers

abbrev pub header_of : Block → Header
header_of block = block.header

-- headers are added one after the other and stored
abbrev pub with_headers : State → List Header → Moved
with_headers state headers = record (still (record state { tree = fold with_header state.tree headers })) { events = header_events headers }

-- the reply after the closure: the tree was full, or another
abbrev pub unless_full : Bool → Reply → Reply
unless_full true other = says.TreeFull
unless_full false other = other

abbrev pub tree_size : State → ℕ
tree_size state = finite.len state.tree.headers

-- ---- bodies

-- a body is stored, and the chainstate moves on
abbrev pub Stores : Setting → State → Hash32 → Block → Moved → Type 0
Stores setting state hash block moved =
    (rest : Moved) × Advances setting (record state { bodies = insert state.bodies hash block }) rest
    × (moved ≡ record rest { events = BodyStored hash block ∷ rest.events })

abbrev pub StoresUnless : Option BodyRefused → Setting → State → Hash32 → Block → Moved → Type 0
StoresUnless None setting state hash block moved = Stores setting state hash block moved
StoresUnless (Some why) setting state hash block moved = moved ≡ record (still state) { replies = says.Body hash why ∷ [] }

-- a body is stored already; genesis's counts as stored
abbrev pub is_stored : State → Hash32 → Bool
is_stored state hash = same_hash hash genesis_hash || contains_key state.bodies hash

-- whether two headers are equal
abbrev pub same_header : Header → Header → Bool
same_header a b =
    every (int_eq a.version b.version ∷ same_hash a.prev b.prev ∷ same_hash a.root b.root ∷ (a.time == b.time) ∷ (a.bits == b.bits) ∷ (a.nonce == b.nonce) ∷ [])

-- the tree's header under a hash is this one
abbrev pub is_known : State → Hash32 → Header → Bool
is_known state hash header = option_map_or (same_header header) (get state.tree.headers hash) false

-- a frame's body is offered: nothing happens where it is stored, or its header isn't that of the tree
abbrev pub OffersBody : Bool → Bool → Setting → State → Hash32 → Block → Moved → Type 0
OffersBody true known setting state hash block moved = moved ≡ still state
OffersBody false false setting state hash block moved = moved ≡ still state
OffersBody false true setting state hash block moved =
    StoresUnless (body_broken (place_below state.tree block.header.prev) block) setting state hash block moved

abbrev pub Offers : Setting → State → Block → Moved → Type 0
Offers setting state block moved =
    OffersBody (is_stored state (hash_of_header block.header)) (is_known state (hash_of_header block.header) block.header) setting state (hash_of_header block.header) block moved

-- one body after the other
abbrev pub OffersAll : Setting → State → List Block → Moved → Type 0
OffersAll setting state [] moved = moved ≡ still state
OffersAll setting state (block ∷ blocks) moved =
    (first : Moved) × Offers setting state block first × (rest : Moved) × OffersAll setting first.state blocks rest × (moved ≡ and_then first rest)

-- the number of bodies that a state has more than another
abbrev pub more_bodies : State → State → ℕ
more_bodies before after = finite.len after.bodies - finite.len before.bodies

-- ---- gettxout and info

abbrev pub txout_of : State → Coin → TxOutFound
txout_of state coin = record {
  bestblock = state.active.tip;
  coinbase = coin.coinbase;
  confirmations = height_of state state.active.tip - coin.height + 1;
  height = coin.height;
  script = coin.script;
  value = coin.value;
}

abbrev pub coin_reply : State → Option Coin → Reply
coin_reply state coin = says.TxOut (option_map (txout_of state) coin)

-- the outpoint's coin at the active tip; the outpoint is touched
abbrev pub asked : State → OutPoint → Moved
asked state key =
    record (still (record state { active = record state.active { touched = key ∷ state.active.touched } }))
    { replies = coin_reply state (get (active_coins state) key) ∷ [] }

abbrev pub role_name : Role Standing → RoleName
role_name Alone = role.Full

abbrev pub info_reply : State → Reply
info_reply state = says.Info None (tree_size state) (height_of state state.active.tip) (role_name state.role) state.active.tip

-- ---- commands that read a file

-- the closure's headers, a first part of them where the host failed
abbrev pub HeadersDo : Setting → Now → List Block → Closed → Did → Type 0
HeadersDo setting now blocks closed did =
    (did ≡ moved_on now (and_reply (unless_full closed.full (says.Headers (length blocks) (length closed.added) (tree_size (with_headers now.state closed.added).state))) (with_headers now.state closed.added)))
    ⊎ ((n : ℕ) × (did ≡ faulted now (with_headers now.state (take n closed.added))))

abbrev pub import_reply : State → List Block → List Header → State → Reply
import_reply before blocks added after =
    says.Import (length blocks) (length added) (more_bodies before after) (height_of after after.active.tip) after.active.tip

-- bodies are offered once the whole closure is stored, unless the tree is full; a fault of the host may end the command
-- before that, or behind the bodies of a first part of the frames
abbrev pub OffersUnless : Bool → Setting → Now → List Block → Closed → Did → Type 0
OffersUnless true setting now blocks closed did = did ≡ moved_on now (and_reply says.TreeFull (with_headers now.state closed.added))
OffersUnless false setting now blocks closed did =
    (offered : Moved) × OffersAll setting (with_headers now.state closed.added).state blocks offered
    × (did ≡ moved_on now (and_reply (import_reply now.state blocks closed.added offered.state) (and_then (with_headers now.state closed.added) offered)))

abbrev pub ImportDoes : Setting → Now → List Block → Closed → Did → Type 0
ImportDoes setting now blocks closed did =
    OffersUnless closed.full setting now blocks closed did
    ⊎ ((n : ℕ) × (did ≡ faulted now (with_headers now.state (take n closed.added))))
    ⊎ ((n : ℕ) × (offered : Moved) × (closed.full ≡ false) × OffersAll setting (with_headers now.state closed.added).state (take n blocks) offered
    × (did ≡ faulted now (and_then (with_headers now.state closed.added) offered)))

-- the closure of the tree under the headers of frames
abbrev pub closure_of : Setting → State → List Block → Closed
closure_of setting state blocks = closure setting.limit state.tree (map header_of blocks)

-- what a command does with the bytes of its file; nothing where there are too many
abbrev pub WithBytes : Option (List ℕ) → Now → (List ℕ → Did → Type 0) → Did → Type 0
WithBytes None now Does did = did ≡ answered now (says.HostFault ∷ [])
WithBytes (Some bytes) now Does did = Does bytes did

abbrev pub UnlessTooLong : Now → (List ℕ → Did → Type 0) → List ℕ → Did → Type 0
UnlessTooLong now Does bytes did =
    ((length bytes ≤ longest_file) × Does bytes did)
    ⊎ ((longest_file < length bytes) × (did ≡ answered now (says.FileTooLong ∷ [])))

abbrev pub Folds : Setting → Now → List ℕ → Did → Type 0
Folds setting now bytes did =
    ((reply : Reply) × IsFoldReply (length bytes) (fold_of setting.limit setting.given (frames bytes None)) reply × (did ≡ answered now (reply ∷ [])))
    ⊎ (did ≡ faulted now (still now.state))

abbrev pub TakesHeaders : Setting → Now → Option (List ℕ) → List ℕ → Did → Type 0
TakesHeaders setting now key bytes did = HeadersDo setting now (frames bytes key) (closure_of setting now.state (frames bytes key)) did

abbrev pub Imports : Setting → Now → Option (List ℕ) → List ℕ → Did → Type 0
Imports setting now key bytes did = ImportDoes setting now (frames bytes key) (closure_of setting now.state (frames bytes key)) did

-- a fault of the host while a file is read that may be too long
abbrev pub OrFault : Now → (Did → Type 0) → Did → Type 0
OrFault now Does did = Does did ⊎ (did ≡ faulted now (still now.state))

-- ---- generate

-- each file but one is as before
abbrev pub OthersStay : List ℕ → Files → Files → Type 0
OthersStay name before after = (other : List ℕ) → other ≢ name → get after other ≡ get before other

-- the blocks that were made, and whether there is a next one that has no nonce
abbrev pub Generation : Type 0
Generation = Result (List Block) (List Block)

abbrev pub generated_reply : ℕ → Generation → Reply
generated_reply count (Ok blocks) = says.Generated count (tip_of blocks)
generated_reply count (Err blocks) = says.NoNonce

abbrev pub generated_bytes : Generation → List ℕ
generated_bytes (Ok blocks) = file_text blocks
generated_bytes (Err blocks) = file_text blocks

abbrev pub Generates : Now → List ℕ → ℕ → Generation → Did → Type 0
Generates now name count generation did =
    (did ≡ record (answered now (generated_reply count generation ∷ [])) { now = record now { files = insert now.files name (generated_bytes generation) } })
    ⊎ ((files : Files) × OthersStay name now.files files × (did ≡ record (faulted now (still now.state)) { now = record now { files = files } }))

-- ---- lines

abbrev pub Does : Setting → Now → Line → Did → Type 0
Does setting now line.Empty did = did ≡ answered now []
Does setting now (line.Fold file) did = WithBytes (get now.files file) now (Folds setting now) did
Does setting now (line.Headers file key) did = WithBytes (get now.files file) now (λ bytes. OrFault now (UnlessTooLong now (TakesHeaders setting now key) bytes)) did
Does setting now (line.Import file key) did = WithBytes (get now.files file) now (λ bytes. OrFault now (UnlessTooLong now (Imports setting now key) bytes)) did
Does setting now (line.Generate number count file) did = Generates now file count (generated_chain number count) did
Does setting now line.Flush did = did ≡ moved_on now (flush Command now.state)
Does setting now (line.GetTxOut key) did = did ≡ moved_on now (asked now.state key)
Does setting now line.Info did = did ≡ answered now (info_reply now.state ∷ [])

-- what a line of the input does: a refused one changes nothing
abbrev pub Step : Setting → Now → Result Line LineRefused → Did → Type 0
Step setting now (Ok line) did = Does setting now line did
Step setting now (Err why) did = did ≡ answered now (says.Refused why ∷ [])

-- the end of the input: one more flush
abbrev pub at_end : Now → Did
at_end now = moved_on now (flush End now.state)
