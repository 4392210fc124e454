-- What the files of a store stand for.
use Rattle.std.specs.Prelude.{ℕ, ◌+◌, Bool, true, false, ◌&&◌, List, [], ◌∷◌, length, map, cond, Option, Some, None, Result, Ok, Err, replicate}
use Rattle.std.specs.Result.{result_ok}
use Rattle.std.specs.List.{list_any, list_all}
use Rattle.std.specs.FinMap.{contains_key, insert, empty}
use Rattle.disk_model.specs.Disk.{Image}
use Rattle.batch_log.specs.Records.{log}
use Rattle.base_types.specs.Coins.{Coins}
use Rattle.base_types.specs.Views.{BrokenPlace}
use Rattle.base_types.specs.declared.hash.Hash32.{Hash32}
use Rattle.base_types.specs.declared.program.Rules.{Rules}
use Rattle.block_codec.specs.declared.block.Header.{Header}
use Rattle.block_codec.specs.declared.block.Block.{Block}
use Rattle.chain_model.specs.Tree.{Tree, path}
use Rattle.block_codec.specs.Genesis.{genesis_hash}
use Rattle.chain_model.specs.HeaderRules.{first_tree, tree_with}
use Rattle.chain_model.specs.Choice.{Bodies, Choice, is_at_or_below}
use Rattle.block_codec.specs.Text.{same_hash}
use Rattle.coin_store.specs.declared.marker.Marker.{Marker}
use Rattle.coin_store.specs.declared.marker.Marker.TheVariants.{At, Between}
use Rattle.coin_store.specs.Batches.{Batch}
use Rattle.coin_store.specs.Places.{coins_after}
use Rattle.coin_store.specs.Reading.{batch_of}
use Rattle.block_store.specs.Headers.{headers_of}
use Rattle.block_store.specs.Bodies.{body_hash, body_of}
use Rattle.store_state.specs.Roles.{Role, Alone}

-- ---- files

-- the file of headers, that of bodies, and the file of coins where no manifest names another
abbrev pub header_file : ℕ
header_file = 1

abbrev pub body_file : ℕ
body_file = 2

abbrev pub coin_file : ℕ
coin_file = 3

-- the key with which rows are covered where no manifest keeps one
abbrev pub first_key : List ℕ
first_key = replicate 8 0

-- a record of a log: the offset of its gate, and what its payload says
abbrev pub Record : Type 0 → Type 0
Record A = ℕ × A

-- payloads with the offsets of their gates, the first of which is given
unfoldable pub gated : ℕ → List (List ℕ) → List (Record (List ℕ))
gated at [] = []
gated at (payload ∷ payloads) = (at, payload) ∷ gated (at + (5 + length payload)) payloads

-- ---- what can be broken

abbrev pub Read : Type 0 → Type 0
Read A = Result A BrokenPlace

infixl 10 ◌>>=◌
abbrev pub ◌>>=◌ : {A B : Type 0} → Read A → (A → Read B) → Read B
Ok a >>= next = next a
Err place >>= next = Err place

abbrev pub broken_at : {A : Type 0} → ℕ → ℕ → Read A
broken_at file at = Err (record { file = file; at = at })

-- what is there, or else that place is broken
abbrev pub there_or_broken : {A : Type 0} → ℕ → ℕ → Option A → Read A
there_or_broken file at None = broken_at file at
there_or_broken file at (Some a) = Ok a

abbrev pub true_or_broken : {A : Type 0} → ℕ → ℕ → Bool → A → Read A
true_or_broken file at true a = Ok a
true_or_broken file at false a = broken_at file at

-- the records of a log, unless it is damaged
abbrev pub whole_log : ℕ → Result (List (List ℕ)) ℕ → Read (List (Record (List ℕ)))
whole_log file (Ok payloads) = Ok (gated 0 payloads)
whole_log file (Err gate) = broken_at file gate

abbrev pub records_of : Image → ℕ → Read (List (Record (List ℕ)))
records_of image file = whole_log file (log (image file))

-- what each record of a file says, unless one isn't of its form
unfoldable pub each_of : {A : Type 0} → ℕ → (List ℕ → Option A) → List (Record (List ℕ)) → Read (List (Record A))
each_of file read [] = Ok []
each_of file read (one ∷ others) = there_or_broken file one.0 (read one.1) >>= λ a. each_of file read others >>= λ more. Ok ((one.0, a) ∷ more)

-- each record passes a test, unless one doesn't
unfoldable pub each_passes : {A : Type 0} → ℕ → (A → Bool) → List (Record A) → Read (List (Record A))
each_passes file test [] = Ok []
each_passes file test (one ∷ others) = true_or_broken file one.0 (test one.1) one >>= λ a. each_passes file test others >>= λ more. Ok (a ∷ more)

-- the tree after the headers of each record, unless one is refused
unfoldable pub tree_after : ℕ → Tree → List (Record (List Header)) → Read Tree
tree_after limit tree [] = Ok tree
tree_after limit tree (one ∷ others) = there_or_broken header_file one.0 (tree_with limit tree one.1) >>= λ next. tree_after limit next others

-- ---- bodies

-- a stored body: the hash that its record carries, and the whole payload
pub record StoredBody : Type 0 where
  pub hash : Hash32
  pub payload : List ℕ

abbrev pub and_payload : List ℕ → Option Hash32 → Option StoredBody
and_payload payload None = None
and_payload payload (Some hash) = Some (record { hash = hash; payload = payload })

abbrev pub stored_body : List ℕ → Option StoredBody
stored_body payload = and_payload payload (body_hash payload)

-- the bodies with this one, if its payload is a block
abbrev pub with_body : Hash32 → Option Block → Bodies → Bodies
with_body hash None bodies = bodies
with_body hash (Some block) bodies = insert bodies hash block

-- the stored blocks by their hashes; a later record overrules an earlier one
unfoldable pub blocks_in : Bodies → List StoredBody → Bodies
blocks_in bodies [] = bodies
blocks_in bodies (body ∷ more) = blocks_in (with_body body.hash (body_of body.payload) bodies) more

-- ---- chainstates

-- the tips that a marker names
abbrev pub tips_of : Marker → List Hash32
tips_of (At tip) = tip ∷ []
tips_of (Between new_tip old_tip) = new_tip ∷ old_tip ∷ []

-- the tip that a chainstate is at, once a flush that was cut off is settled
abbrev pub tip_of_marker : Marker → Hash32
tip_of_marker (At tip) = tip
tip_of_marker (Between new_tip old_tip) = new_tip

abbrev pub is_at : Marker → Bool
is_at (At tip) = true
is_at (Between new_tip old_tip) = false

-- no chainstate has a marker between two tips yet
abbrev pub settled_batch : Option Batch → Option Batch
settled_batch None = None
settled_batch (Some batch) = cond (is_at batch.marker) (Some batch) None

-- the last marker; a chainstate without a batch is at its start
abbrev pub marker_after : Hash32 → List Batch → Marker
marker_after start [] = At start
marker_after start (batch ∷ []) = batch.marker
marker_after start (batch ∷ next ∷ batches) = marker_after start (next ∷ batches)

-- a chainstate as its files have it: the block and the coins that it started with, its last marker, and the coins of its
-- rows
pub record Chainstate : Type 0 where
  pub start : Hash32
  pub start_coins : Coins
  pub marker : Marker
  pub coins : Coins

abbrev pub tip_of : Chainstate → Hash32
tip_of chainstate = tip_of_marker chainstate.marker

-- ---- the store

-- the active chainstate, and what it is
pub record StoreState : Type 0 where
  pub tree : Tree
  pub bodies : List StoredBody
  pub active : Chainstate
  pub role : Role Chainstate

-- what a chainstate chooses among
abbrev pub choice_of : StoreState → Chainstate → Choice
choice_of state chainstate = record {
  tree = state.tree;
  bodies = blocks_in empty state.bodies;
  start = chainstate.start;
  start_coins = chainstate.start_coins;
  tip = tip_of chainstate;
  is_candidate = λ hash. true;
}

abbrev pub is_in : Tree → Hash32 → Bool
is_in tree hash = contains_key tree.headers hash

-- the body's hash is one of those that records carry, whatever stands behind them
abbrev pub has_record : List StoredBody → Hash32 → Bool
has_record bodies hash = list_any (λ body. same_hash body.hash hash) bodies

-- a tip is at or above a start, and each block after the start up to it has a body record
abbrev pub is_reached : Tree → List StoredBody → Hash32 → Hash32 → Bool
is_reached tree bodies start tip = is_at_or_below tree.headers start tip && list_all (has_record bodies) (path tree.headers start tip)

-- the tips of the last batch are reached, if there is one
unfoldable pub last_reached : Tree → List StoredBody → Hash32 → List (Record Batch) → Read (List (Record Batch))
last_reached tree bodies start [] = Ok []
last_reached tree bodies start (last ∷ []) = true_or_broken coin_file last.0 (list_all (is_reached tree bodies start) (tips_of last.1.marker)) (last ∷ [])
last_reached tree bodies start (one ∷ next ∷ others) = last_reached tree bodies start (next ∷ others) >>= λ more. Ok (one ∷ more)

abbrev pub said : {A : Type 0} → List (Record A) → List A
said records = map (λ one. one.1) records

-- four rules that hold from the first block on
abbrev pub first_rules : Rules
first_rules = record { version4 = 1; bip34 = 1; csv = 1; segwit = 1 }

-- the rules of the tree: no store keeps them yet, so they are the first ones wherever a header is stored, and else those that
-- are given
abbrev pub rules_in : Rules → List (Record (List ℕ)) → Rules
rules_in given [] = given
rules_in given (header ∷ headers) = first_rules

-- the tree of the stored headers
abbrev pub read_tree : ℕ → Rules → Image → Read Tree
read_tree limit given image =
    records_of image header_file >>= λ records.
    each_of header_file headers_of records >>= λ lists.
    tree_after limit (first_tree (rules_in given records)) lists

-- the stored bodies, whose hashes are all in the tree
abbrev pub read_bodies : Tree → Image → Read (List StoredBody)
read_bodies tree image =
    records_of image body_file >>= λ records.
    each_of body_file stored_body records >>= λ bodies.
    each_passes body_file (λ body. is_in tree body.hash) bodies >>= λ known.
    Ok (said known)

-- the batches of the chainstate from genesis, whose tips are all in the tree, the last ones reached by stored bodies
abbrev pub read_batches : Tree → List StoredBody → Image → Read (List Batch)
read_batches tree bodies image =
    records_of image coin_file >>= λ records.
    each_of coin_file (λ payload. settled_batch (batch_of first_key payload)) records >>= λ batches.
    each_passes coin_file (λ batch. list_all (is_in tree) (tips_of batch.marker)) batches >>= λ known.
    last_reached tree bodies genesis_hash known >>= λ reached.
    Ok (said reached)

abbrev pub chainstate_of : Hash32 → Coins → List Batch → Chainstate
chainstate_of start coins batches = record {
  start = start;
  start_coins = coins;
  marker = marker_after start batches;
  coins = coins_after coins batches;
}

-- what an image stands for, or a place of it that is broken, where the tree may have so many headers and these are the
-- rules where none are kept
abbrev pub read_store : ℕ → Rules → Image → Read StoreState
read_store limit given image =
    read_tree limit given image >>= λ tree.
    read_bodies tree image >>= λ bodies.
    read_batches tree bodies image >>= λ batches.
    Ok (record { tree = tree; bodies = bodies; active = chainstate_of genesis_hash empty batches; role = Alone })

-- what an image stands for; none where something is broken
abbrev pub state_of : ℕ → Rules → Image → Option StoreState
state_of limit given image = result_ok (read_store limit given image)
