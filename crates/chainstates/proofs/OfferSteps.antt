-- A body that is offered to an open store.
use Rattle.std.proofs.Common.{◌≡◌, ◌≢◌, ◌≤◌, ◌⊎◌, ℕ, zero, suc, ◌+◌, ◌^◌, ◌&&◌, ◌||◌, Bool, true, false, List, [], ◌∷◌, length, map, Option, Some, None, refl, sym, ap, subst, ◌∙◌, arith}
use Rattle.std.specs.Prelude.{is_some, OnErr, Result, Ok, Err}
use Rattle.std.specs.FinMap.{get, insert, contains_key}
use Rattle.std.proofs.lemmas.Option.{same_Some}
use Rattle.disk_model.specs.Disk.{Image, Quiet}
use Rattle.disk_model.proofs.Moments.{IsSinceEarlier}
use Rattle.base_types.specs.declared.fault.StoreFault.{StoreFault}
use Rattle.base_types.specs.declared.fault.StoreFault.TheVariants.{NoMemory, DiskFailed, Damaged, Full, CacheFull}
use Rattle.base_types.specs.declared.hash.Hash32.{Hash32}
use Rattle.batch_log.specs.OpenLog.{AppendCause, IsOver, OpenLog}
use Rattle.base_types.specs.declared.refused.BodyRefused.{BodyRefused}
use Rattle.block_checks.specs.Answer.{Answers}
use Rattle.block_checks.specs.declared.fault.CheckFault.{CheckFault}
use Rattle.block_checks.specs.declared.fault.CheckFault.TheVariants as check
use Rattle.block_codec.specs.Genesis.{genesis_hash}
use Rattle.block_codec.specs.Text.{hash_of_header, same_hash}
use Rattle.block_codec.specs.declared.block.Block.{Block}
use Rattle.block_codec.specs.declared.block.Header.{Header}
use Rattle.block_store.specs.Bodies.{body_text}
use Rattle.block_store.specs.Index.{last_place}
use Rattle.block_store.specs.OpenStore.{OpenStore}
use Rattle.chain_model.specs.BodyRules.{body_broken, place_below}
use Rattle.chain_model.specs.Choice.{Bodies}
use Rattle.chain_model.specs.Tree.{Tree}
use Rattle.chain_model.specs.Above.{IsAbove}
use Rattle.chain_model.specs.HeaderRules.{IsTree}
use Rattle.chain_model.proofs.Hashes.{get_same, same_self}
use Rattle.chain_model.proofs.Trees.{above_known, is_rooted}
use Rattle.chain_state.specs.Waiting.{waits}
use Rattle.chain_state.specs.declared.waiting.Waiting.{Waiting}
use Rattle.chainstates.proofs.Carrying.{coins_with_body}
use Rattle.chainstates.proofs.Pieces.{blocks_on, none_to_write, none_written, settled_on, written_in_part, written_then}
use Rattle.chainstates.proofs.ReachSteps.{record_there}
use Rattle.chainstates.proofs.StoredBlocks.{named_by, stored_is}
use Rattle.chainstates.specs.Offers.{HasOffered, HasOfferedPart, OfferFails, Stands, events_of, replies_of}
use Rattle.chainstates.specs.Taking.{HasMoved, HasStored, IsNew, store_with, with_block}
use Rattle.chainstates.specs.declared.offers.Offered.{Offered}
use Rattle.chainstates.specs.declared.offers.Offered.TheVariants.{Refused}
use Rattle.chainstates.specs.declared.session.Session.{Session}
use Rattle.command_text.specs.declared.reply.Reply.{Reply}
use Rattle.command_text.specs.declared.reply.Reply.TheVariants.{Body}
use Rattle.machine.specs.Moves.{move_with}
use Rattle.machine.specs.State.{BodyStored, Moved, Setting, State, still}
use Rattle.machine.specs.Steps.{Offers, OffersBody, StoresUnless, is_known, is_stored}
use Rattle.machine.proofs.Keeping.{known}
use Rattle.reorg.specs.Advancing.{AdvanceFails, HasAdvanced, refusal_reply}
use Rattle.reorg.specs.declared.refusals.RefusedBlock.{RefusedBlock}
use Rattle.store_state.specs.Settled.{IsSettled}
use Rattle.store_state.specs.State.{StoreState, has_record}
use Rattle.store_writes.specs.OnDisk.{OnDisk}
use Rattle.store_writes.specs.Written.{Writes, WritesPart, body_as_stored, with_stored}

-- ---- what is stored

module _ (limit : ℕ) (before : Option Image) (images : Image → Type 0) (session : Session) (state : State) (store : StoreState) (stands : Stands limit before images session state store) (settled : IsSettled store) where
  stored_records : (hash : Hash32) → contains_key state.bodies hash ≡ has_record store.bodies hash
  stored_records hash = ap (λ (all : Bodies). contains_key all hash) stands.bodies ∙ stored_is store.tree store.bodies settled.bodies hash

  pub stored_there : (hash : Hash32) (b : Bool) → (same_hash hash genesis_hash || is_some (last_place session.shared.blocks.hashes hash)) ≡ b → is_stored state hash ≡ b
  stored_there hash b e =
      let named = named_by limit before images session.shared.blocks session.active.store store stands.files in
      ap (λ (there : Bool). same_hash hash genesis_hash || there) (stored_records hash ∙ record_there store.bodies session.shared.blocks.hashes hash named) ∙ e

  -- the tests of the code, by the hash that a block was given with
  pub stored_by : (key hash : Hash32) → key ≡ hash → (b : Bool) → (same_hash key genesis_hash || is_some (last_place session.shared.blocks.hashes key)) ≡ b → is_stored state hash ≡ b
  stored_by key hash named b e = stored_there hash b (ap (λ (h : Hash32). same_hash h genesis_hash || is_some (last_place session.shared.blocks.hashes h)) (sym named) ∙ e)

  pub header_by : (key : Hash32) (given block : Block) → key ≡ hash_of_header block.header → given ≡ block → get session.shared.tree.tree.headers key ≡ Some given.header → get state.tree.headers (hash_of_header block.header) ≡ Some block.header
  header_by key given block named same e =
      ap (λ (t : Tree). get t.headers (hash_of_header block.header)) (stands.tree ∙ sym stands.headers)
      ∙ ap (λ (h : Hash32). get session.shared.tree.tree.headers h) (sym named)
      ∙ e
      ∙ ap (λ (b : Block). Some b.header) same

  pub no_header_by : (key : Hash32) (given block : Block) → key ≡ hash_of_header block.header → given ≡ block → (get session.shared.tree.tree.headers key ≢ Some given.header) → get state.tree.headers (hash_of_header block.header) ≢ Some block.header
  no_header_by key given block named same apart found = apart
      (ap (λ (t : Tree). get t.headers key) (stands.headers ∙ sym stands.tree)
      ∙ ap (λ (h : Hash32). get state.tree.headers h) named
      ∙ found
      ∙ ap (λ (b : Block). Some b.header) (sym same))

  pub broken_by : (block : Block) (broken : Option BodyRefused) → body_broken (place_below session.shared.tree.tree block.header.prev) block ≡ broken → body_broken (place_below state.tree block.header.prev) block ≡ broken
  broken_by block broken e = ap (λ (t : Tree). body_broken (place_below t block.header.prev) block) (stands.tree ∙ sym stands.headers) ∙ e

  -- ---- a new body, as it is stored

  module _ (block : Block) (new : IsNew state block) where
    pub header_there : (key : Hash32) → key ≡ hash_of_header block.header → get store.tree.headers key ≡ Some block.header
    header_there key named = ap (λ (t : Tree). get t.headers key) (sym stands.tree) ∙ ap (λ (h : Hash32). get state.tree.headers h) named ∙ new.known

    pub meets_there : body_broken (place_below store.tree block.header.prev) block ≡ None
    meets_there = ap (λ (t : Tree). body_broken (place_below t block.header.prev) block) (sym stands.tree) ∙ new.meets

    pub fresh_there : (key : Hash32) → key ≡ hash_of_header block.header → has_record store.bodies key ≡ false
    fresh_there key named = sym (stored_records key) ∙ ap (λ (h : Hash32). contains_key state.bodies h) named ∙ new.fresh

-- the parent of a block of a tree but genesis is in it
pub parent_there : (limit : ℕ) (tree : Tree) → IsTree limit tree → (hash : Hash32) (header : Header) → get tree.headers hash ≡ Some header → same_hash hash genesis_hash ≡ false → contains_key tree.headers header.prev ≡ true
parent_there limit tree is hash header found apart = let way = (is_rooted limit tree is).high hash header found in go way.0 way.1
  where
    go : (n : ℕ) → IsAbove tree.headers n hash genesis_hash → contains_key tree.headers header.prev ≡ true
    go zero way = absurd (let self : same_hash hash genesis_hash ≡ true = ap (λ (h : Hash32). same_hash h genesis_hash) way ∙ same_self genesis_hash in cc)
    go (suc n) (other, step, way) =
        ap (λ (h : Header). contains_key tree.headers h.prev) (same_Some header other (sym found ∙ step.found)) ∙ above_known tree.headers (is_rooted limit tree is) n other.prev way

neither : (a b : Bool) → (a || b) ≡ false → (a ≡ false) × (b ≡ false)
neither true b e = absurd cc
neither false b e = (refl, e)

module _ (limit : ℕ) (past left : ℕ → Image → Type 0) (entered ended : ℕ) (before now : Option Image) (session : Session) (state : State) (store : StoreState) (stands : Stands limit before (past entered) session state store) (settled : IsSettled store)
    (block : Block) (new : IsNew state block) where
  pub has_stored : (blocks : OpenStore) (waiting : Waiting)
      → ((parent hash : Hash32) → waits waiting parent hash ≡ (waits session.active.waiting parent hash || (same_hash parent block.header.prev && same_hash hash (hash_of_header block.header))))
      → Writes limit past left entered ended before now [] (BodyStored (hash_of_header block.header) block) store (store_with block store)
      → OnDisk limit now (left ended) blocks session.active.store (store_with block store)
      → HasStored limit past left entered ended before now (record { shared = record session.shared { blocks = blocks }; active = record session.active { waiting = waiting } }) state store block
  has_stored blocks waiting added writes files = record {
    writes = writes;
    settled = settled_on limit past left entered ended before now [] (BodyStored (hash_of_header block.header) block ∷ []) store (store_with block store) writes stands.files.is_open.all settled;
    stands = record {
      files = files;
      headers = stands.headers;
      most = stands.most;
      grown = stands.grown;
      tree = stands.tree;
      bodies =
          ap (λ (all : Bodies). insert all (hash_of_header block.header) block) stands.bodies
          ∙ sym (blocks_on limit past left entered ended before now [] (BodyStored (hash_of_header block.header) block ∷ []) store (store_with block store) writes);
      start = stands.start;
      start_coins = stands.start_coins;
      kept = stands.kept;
      tip = stands.tip;
      begun = stands.begun;
      role = stands.role;
      coins = λ later. coins_with_body limit state store stands.tree stands.bodies settled stands.grown block new session.active waiting added (store_with block store).bodies (stands.coins settled);
    };
  }

  -- the same by a hash that was given
  pub stored_under : (key : Hash32) → key ≡ hash_of_header block.header → (blocks : OpenStore) (waiting : Waiting)
      → ((parent hash : Hash32) → waits waiting parent hash ≡ (waits session.active.waiting parent hash || (same_hash parent block.header.prev && same_hash hash key)))
      → Writes limit past left entered ended before now [] (BodyStored key block) store (with_stored (body_as_stored key block) store)
      → OnDisk limit now (left ended) blocks session.active.store (with_stored (body_as_stored key block) store)
      → HasStored limit past left entered ended before now (record { shared = record session.shared { blocks = blocks }; active = record session.active { waiting = waiting } }) state store block
  stored_under key named blocks waiting = subst
      (λ (k : Hash32).
      ((parent hash : Hash32) → waits waiting parent hash ≡ (waits session.active.waiting parent hash || (same_hash parent block.header.prev && same_hash hash k)))
      → Writes limit past left entered ended before now [] (BodyStored k block) store (with_stored (body_as_stored k block) store)
      → OnDisk limit now (left ended) blocks session.active.store (with_stored (body_as_stored k block) store)
      → HasStored limit past left entered ended before now (record { shared = record session.shared { blocks = blocks }; active = record session.active { waiting = waiting } }) state store block)
      (sym named)
      (has_stored blocks waiting)

-- the block that was stored last is there
pub last_there : (state : State) (block : Block) → get (with_block state block).bodies (hash_of_header block.header) ≡ Some block
last_there state block = get_same state.bodies (hash_of_header block.header) block

-- ---- why it may not be taken

pub store_fails : (log : OpenLog) (block : Block) (key : Hash32) (before now : ℕ) (fault : StoreFault) → key ≡ hash_of_header block.header → AppendCause log (length (body_text key block)) before now fault → OfferFails log block before now fault
store_fails log block key before now NoMemory named cause = tt
store_fails log block key before now DiskFailed named cause = cause
store_fails log block key before now (Full file) named cause =
    subst (λ (k : Hash32). (file ≡ log.file) × (IsOver log (5 + length (body_text k block)) ⊎ (2 ^ 32 ≤ length (body_text k block)))) named cause
store_fails log block key before now (Damaged file at) named cause = absurd cause
store_fails log block key before now CacheFull named cause = absurd cause

pub move_fails : (log : OpenLog) (block : Block) (before mid now : ℕ) (fault : StoreFault) → before ≤ mid → AdvanceFails mid now fault → OfferFails log block before now fault
move_fails log block before mid now NoMemory later cause = tt
move_fails log block before mid now DiskFailed later cause = omega (arith, later, cause)
move_fails log block before mid now (Full file) later cause = absurd cause
move_fails log block before mid now (Damaged file at) later cause = cause
move_fails log block before mid now CacheFull later cause = absurd cause

-- ---- what the machine does with it

abbrev pub taken : State → Block → Moved
taken state block = record (move_with (with_block state block) []) { events = BodyStored (hash_of_header block.header) block ∷ [] }

abbrev pub told : State → List Reply → Moved
told state replies = record (still state) { replies = replies }

module _ (state : State) (block : Block) where
  abbrev Done : Bool → Bool → Moved → Type 0
  Done stored there moved = (setting : Setting) → OffersBody stored there setting state (hash_of_header block.header) block moved

  of_tests : (stored there : Bool) (moved : Moved) → is_stored state (hash_of_header block.header) ≡ stored → is_known state (hash_of_header block.header) block.header ≡ there → Done stored there moved → (setting : Setting) → Offers setting state block moved
  of_tests stored there moved s k done setting =
      subst (λ (b : Bool). OffersBody b (is_known state (hash_of_header block.header) block.header) setting state (hash_of_header block.header) block moved) (sym s)
      (subst (λ (b : Bool). OffersBody stored b setting state (hash_of_header block.header) block moved) (sym k) (done setting))

  pub does_known : is_stored state (hash_of_header block.header) ≡ true → (setting : Setting) → Offers setting state block (told state [])
  does_known stored = of_tests true (is_known state (hash_of_header block.header) block.header) (told state []) stored refl (λ setting. refl)

  module _ (unstored : is_stored state (hash_of_header block.header) ≡ false) where
    pub does_unknown : (get state.tree.headers (hash_of_header block.header) ≢ Some block.header) → (setting : Setting) → Offers setting state block (told state [])
    does_unknown apart = of_tests false false (told state []) unstored (go (is_known state (hash_of_header block.header) block.header) refl) (λ setting. refl)
      where
        go : (b : Bool) → is_known state (hash_of_header block.header) block.header ≡ b → is_known state (hash_of_header block.header) block.header ≡ false
        go false is = is
        go true is = absurd (apart ((known state (hash_of_header block.header) block.header).0 is))

    module _ (there : get state.tree.headers (hash_of_header block.header) ≡ Some block.header) where
      by_rules : (broken : Option BodyRefused) (moved : Moved) → body_broken (place_below state.tree block.header.prev) block ≡ broken
          → ((setting : Setting) → StoresUnless broken setting state (hash_of_header block.header) block moved) → (setting : Setting) → Offers setting state block moved
      by_rules broken moved is done =
          of_tests false true moved unstored ((known state (hash_of_header block.header) block.header).1 there)
          (λ setting. subst (λ (o : Option BodyRefused). StoresUnless o setting state (hash_of_header block.header) block moved) (sym is) (done setting))

      pub does_refuse : (why : BodyRefused) → body_broken (place_below state.tree block.header.prev) block ≡ Some why → (setting : Setting) → Offers setting state block (told state (Body (hash_of_header block.header) why ∷ []))
      does_refuse why broken = by_rules (Some why) (told state (Body (hash_of_header block.header) why ∷ [])) broken (λ setting. refl)

      pub does_take : body_broken (place_below state.tree block.header.prev) block ≡ None → (setting : Setting) → Offers setting state block (taken state block)
      does_take meets = by_rules None (taken state block) meets (λ setting. (move_with (with_block state block) [], ([], tt, refl), refl))

      -- one of them, whichever
      pub does_either : (moved : Moved) × ((setting : Setting) → Offers setting state block moved)
      does_either = go (body_broken (place_below state.tree block.header.prev) block) refl
        where
          go : (o : Option BodyRefused) → body_broken (place_below state.tree block.header.prev) block ≡ o → (moved : Moved) × ((setting : Setting) → Offers setting state block moved)
          go None meets = (taken state block, does_take meets)
          go (Some why) broken = (told state (Body (hash_of_header block.header) why ∷ []), does_refuse why broken)

      -- a body that was tested so is new
      pub is_new : body_broken (place_below state.tree block.header.prev) block ≡ None → IsNew state block
      is_new meets =
          let apart = neither (same_hash (hash_of_header block.header) genesis_hash) (contains_key state.bodies (hash_of_header block.header)) unstored in
          record {
            known = there;
            above = λ same. let self : same_hash (hash_of_header block.header) genesis_hash ≡ true = ap (same_hash (hash_of_header block.header)) (sym same) ∙ same_self (hash_of_header block.header) in let never = apart.0 in absurd cc;
            meets = meets;
            fresh = apart.1;
          }

-- the rule that a check found broken
pub why_refused : (broken : Option BodyRefused) (fault : CheckFault) (why : BodyRefused) → fault ≡ check.Refused why → Answers {A = Unit {0}} broken (Err fault) → broken ≡ Some why
why_refused broken fault why is answers = subst (λ (f : CheckFault). Answers {A = Unit {0}} broken (Err f)) is answers

-- ---- what was done

-- nothing was written
module _ (limit : ℕ) (past : ℕ → Image → Type 0) (t : ℕ) (contents : Option Image) (session : Session) (state : State) (store : StoreState) (block : Block)
    (earlier : (u v : ℕ) (c : Image) → u ≤ v → v ≤ t → past v c → past u c) (stands : Stands limit contents (past t) session state store) (settled : IsSettled store) where
  pub nothing_offered : (replies : List Reply) (answer : Offered) → ((setting : Setting) → Offers setting state block (told state replies)) → replies ≡ replies_of (hash_of_header block.header) answer → [] ≡ events_of block answer
      → HasOffered limit past past t t contents contents session state store block answer
  nothing_offered replies answer does are none = record {
    moved = told state replies;
    does = does;
    replies = are;
    events = none;
    on = store;
    writes = none_to_write limit past t contents session.shared.blocks session.active.store store earlier stands.files;
    settled = settled;
    stands = stands;
  }

  pub nothing_stored : (moved : Moved) → ((setting : Setting) → Offers setting state block moved) → HasOfferedPart limit past past t t contents contents state store block
  nothing_stored moved does = record { moved = moved; does = does; writes = none_written limit past t contents session.shared.blocks session.active.store store earlier stands.files moved.events }

  -- a rule is broken
  pub refusal_offered : is_stored state (hash_of_header block.header) ≡ false → get state.tree.headers (hash_of_header block.header) ≡ Some block.header
      → (why : BodyRefused) (answer : Offered) → answer ≡ Refused why → body_broken (place_below session.shared.tree.tree block.header.prev) block ≡ Some why
      → HasOffered limit past past t t contents contents session state store block answer
  refusal_offered unstored there why answer is broken =
      nothing_offered (Body (hash_of_header block.header) why ∷ []) answer
      (does_refuse state block unstored there why (broken_by limit contents (past t) session state store stands settled block (Some why) broken))
      (ap (replies_of (hash_of_header block.header)) (sym is)) (ap (events_of block) (sym is))

module _ (limit : ℕ) (past left : ℕ → Image → Type 0) (entered ended : ℕ) (before now : Option Image) (state : State) (store : StoreState) (block : Block) (does : (setting : Setting) → Offers setting state block (taken state block)) where
  pub body_offered : (session : Session) (refusals : List RefusedBlock) (answer : Offered) → map refusal_reply refusals ≡ replies_of (hash_of_header block.header) answer → BodyStored (hash_of_header block.header) block ∷ [] ≡ events_of block answer
      → HasMoved limit past left entered ended before now session state store block refusals → HasOffered limit past left entered ended before now session state store block answer
  body_offered session refusals answer are stored moved = record {
    moved = taken state block;
    does = does;
    replies = sym moved.replies ∙ are;
    events = stored;
    on = store_with block store;
    writes = moved.writes;
    settled = moved.settled;
    stands = moved.stands;
  }

  pub body_offered_in_part : WritesPart limit past left entered ended before now [] (BodyStored (hash_of_header block.header) block) store → HasOfferedPart limit past left entered ended before now state store block
  body_offered_in_part part = record { moved = taken state block; does = does; writes = part }

-- ---- a body that is stored, and a move after it

module _ {D : Type 0} (time : D → ℕ) (left : D → ℕ → Image → Type 0) (contents : D → Option Image) (earlier : IsSinceEarlier time left)
    (reads_as : (disk : D) (m : Image) → contents disk ≡ Some m → left disk (time disk) m) (old mid new : D) (limit : ℕ) (session : Session) (state : State) (store : StoreState) (block : Block)
    (stored : HasStored limit (left old) (left mid) (time old) (time mid) (contents old) (contents mid) session state store block) (quiet : Quiet time left mid new) (same : contents new ≡ contents mid) where
  writes_still : Writes limit (left old) (left new) (time old) (time new) (contents old) (contents new) [] (BodyStored (hash_of_header block.header) block) store (store_with block store)
  writes_still = written_then time left contents earlier reads_as mid new limit (store_with block store) quiet same old (BodyStored (hash_of_header block.header) block ∷ []) store stored.writes

  pub has_moved : (now : Session) (refusals : List RefusedBlock) → HasAdvanced limit (contents new) (left new (time new)) now.shared now.active (with_block state block) (store_with block store) refusals
      → HasMoved limit (left old) (left new) (time old) (time new) (contents old) (contents new) now state store block refusals
  has_moved now refusals advanced = record { writes = writes_still; settled = stored.settled; replies = advanced.replies; stands = advanced.stands }

  -- the move failed
  pub has_stopped : WritesPart limit (left old) (left new) (time old) (time new) (contents old) (contents new) [] (BodyStored (hash_of_header block.header) block) store
  has_stopped =
      written_in_part limit (left old) (left new) (time old) (time new) (contents old) (contents new) [] (BodyStored (hash_of_header block.header) block ∷ []) store (store_with block store) writes_still

pub at_err : {T E : Type 0} (result : Result T E) (P : Type 0) → P → OnErr result P
at_err (Ok value) P p = tt
at_err (Err fault) P p = p
