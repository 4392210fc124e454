-- The import of one block above genesis, step by step.
use Rattle.std.proofs.Common.{◌≡◌, inl, inr, ℕ, ◌+◌, ◌-◌, ◌≤◌, Bool, true, false, cond, List, [], ◌∷◌, length, Option, Some, None, Ok, refl, sym, ap, subst, ◌∙◌, arith, ◌++◌, append-nil, eq-eqb}
use Rattle.std.specs.Ordering.{int_eq}
use Rattle.std.proofs.lemmas.Bool.Decides.{Decides-int_eq}
use Rattle.std.specs.Prelude.{ℤ, Result, is_some, ◌&&◌, ◌||◌, unwrap_or, filter, not, nat_le}
use Rattle.std.specs.List.{find, flat_map, list_any}
use Rattle.std.specs.Option.{option_map_or, option_and_then}
use Rattle.std.specs.FinMap.{get, insert, empty, contains_key, entries, put, get-empty, len-empty, len-entries, entries-insert}
use Rattle.std.specs.FinMap as finite
use Rattle.std.specs.FinMap.Entries.{by_order}
use Rattle.std.specs.declared.cmp.Ordering.{Ordering}
use Rattle.std.specs.declared.cmp.Ordering.TheVariants.{Less, Equal, Greater}
use Rattle.base_types.specs.Coins.{Coins}
use Rattle.base_types.specs.Keys.{hash_cmp}
use Rattle.base_types.proofs.KeyOrders.{hash_cmp_total, hash_cmp-IsAntisymmetric}
use Rattle.base_types.specs.declared.hash.Hash32.{Hash32}
use Rattle.base_types.specs.declared.program.Rules.{Rules}
use Rattle.base_types.specs.declared.refused.BodyRefused.{BodyRefused}
use Rattle.base_types.specs.declared.refused.CoinRefused.{CoinRefused}
use Rattle.base_types.specs.declared.refused.HeaderRefused.{HeaderRefused}
use Rattle.block_codec.specs.Frames.{frames}
use Rattle.block_codec.specs.Text.{same_hash}
use Rattle.block_codec.specs.declared.block.Block.{Block}
use Rattle.block_codec.specs.declared.block.Header.{Header}
use Rattle.io_traits.specs.Host.{Files}
use Rattle.chain_model.specs.Apply.{outcome, replayed}
use Rattle.chain_model.specs.Choice.{coins_at, blocks_of, and_block, is_valid}
use Rattle.chain_model.specs.HeaderRules.{Closed, first_tree, rounds, closed_with}
use Rattle.chain_model.specs.Tree.{Tree, first_headers}
use Rattle.block_codec.specs.Genesis.{genesis, genesis_hash}
use Rattle.command_text.specs.declared.line.Line.TheVariants as line
use Rattle.command_text.specs.declared.reply.Reply.{Reply}
use Rattle.command_text.specs.declared.reply.Reply.TheVariants as says
use Rattle.store_state.specs.SmallStores.{FirstBlock, hash_of, tree_of}
use Rattle.chain_model.proofs.Hashes.{same_self, same_false, get_same, get_other, len_new}
use Rattle.chain_model.proofs.SmallTrees.{apart_of_one, known_of_one, genesis_in_one, two_members, height_of_one, reaches_one, path_of_one, any_second}
use Rattle.machine.specs.State.{Setting, State, Moved, Event, BodyStored, Flush, still, choice_of, height_of, stored_by}
use Rattle.machine.specs.State.{and_then as then_moved}
use Rattle.machine.specs.Moves.{touched_by, count_of, is_open_child, next_child, tried, trial, trial_of, forward_from, forward, tried_from, and_tip, way, touched_on_way, Advances}
use Rattle.machine.specs.SmallStates.{genesis_standing, genesis_state, at_start, with_its_header, with_its_body, moved_to_it, moved_and_flushed, imported, headers_taken}
use Rattle.machine.specs.Steps.{Now, Step, WithBytes, OrFault, UnlessTooLong, Imports, TakesHeaders, HeadersDo, ImportDoes, OffersAll, Offers, OffersBody, StoresUnless, longest_file, closure_of, is_stored, is_known, same_header, import_reply, more_bodies}
use Rattle.std.specs.Result.{result_ok}
use Rattle.std.proofs.lemmas.List.Concat.{flat_map-cons}
use Rattle.base_types.specs.declared.hash.OutPoint.{OutPoint}
use Rattle.base_types.specs.declared.flushes.Chain.TheVariants.{Full}
use Rattle.base_types.specs.declared.flushes.Why.TheVariants.{Limit}
use Rattle.store_state.proofs.OneBlock.{stored_path}

-- ---- entries of genesis and one header

nothing_first : {V : Type 0} → entries (empty {X = V} {R = hash_cmp}) ≡ []
nothing_first {V} = none_of (entries (empty {X = V} {R = hash_cmp})) (sym (len-entries (empty {X = V} {R = hash_cmp})) ∙ len-empty hash_cmp V)
  where
    none_of : (es : List (Hash32 × V)) → length es ≡ 0 → es ≡ []
    none_of [] e = refl
    none_of (x ∷ es) e = absurd (omega (arith, e))

two_entries : (hash : Hash32) (header : Header) → entries (insert first_headers hash header) ≡ by_order (hash_cmp hash genesis_hash) ((hash, header) ∷ (genesis_hash, genesis) ∷ []) ((genesis_hash, header) ∷ []) ((genesis_hash, genesis) ∷ (hash, header) ∷ [])
two_entries hash header =
    entries-insert hash_cmp_total first_headers hash header
    ∙ ap (λ (es : List (Hash32 × Header)). put hash_cmp hash header es) (entries-insert hash_cmp_total empty genesis_hash genesis ∙ ap (λ (es : List (Hash32 × Header)). put hash_cmp genesis_hash genesis es) nothing_first)

-- in whatever order the two stand, a test that fails at genesis finds the other, if any
found_child : (test : Hash32 × Header → Bool) (hash : Hash32) (header : Header) → (hash ≡ genesis_hash → ⊥) → test (genesis_hash, genesis) ≡ false
    → find test (entries (insert first_headers hash header)) ≡ cond (test (hash, header)) (Some (hash, header)) None
found_child test hash header apart fails = ap (find test) (two_entries hash header) ∙ ordered (hash_cmp hash genesis_hash) refl
  where
    ordered : (order : Ordering) → hash_cmp hash genesis_hash ≡ order
        → find test (by_order order ((hash, header) ∷ (genesis_hash, genesis) ∷ []) ((genesis_hash, header) ∷ []) ((genesis_hash, genesis) ∷ (hash, header) ∷ [])) ≡ cond (test (hash, header)) (Some (hash, header)) None
    ordered Less e = ap (λ (b : Bool). cond (test (hash, header)) (Some (hash, header)) (cond b (Some (genesis_hash, genesis)) None)) fails
    ordered Equal e = absurd (apart (hash_cmp-IsAntisymmetric hash genesis_hash e))
    ordered Greater e = ap (λ (b : Bool). cond b (Some (genesis_hash, genesis)) (cond (test (hash, header)) (Some (hash, header)) None)) fails

int_self : (z : ℤ) → int_eq z z ≡ true
int_self z = (Decides-int_eq z z).1 refl

second_false : (a b c : Bool) → b ≡ false → (a && b && c) ≡ false
second_false true b c e = ap (λ (x : Bool). x && c) e
second_false false b c e = refl

all_true : (a b c : Bool) → a ≡ true → b ≡ true → c ≡ true → (a && b && c) ≡ true
all_true a b c x y z = rw (x, y, z) refl

first_false : (a b c : Bool) → a ≡ false → (a && b && c) ≡ false
first_false a b c e = ap (λ (x : Bool). x && b && c) e

-- ---- one block

module _ (limit : ℕ) (given : Rules) (first : FirstBlock limit given) where
  abbrev hash : Hash32
  hash = hash_of limit given first

  abbrev tree : Tree
  tree = tree_of limit given first

  abbrev headed : State
  headed = with_its_header limit given first

  abbrev stored : State
  stored = with_its_body limit given first

  abbrev moved : State
  moved = moved_to_it limit given first

  apart : hash ≡ genesis_hash → ⊥
  apart = apart_of_one limit given first.block.header first.child

  only_body : get (insert (empty {X = Block} {R = hash_cmp}) hash first.block) genesis_hash ≡ None
  only_body = get_other empty hash first.block genesis_hash (λ e. apart (sym e)) ∙ get-empty hash_cmp genesis_hash

  its_body : get (insert (empty {X = Block} {R = hash_cmp}) hash first.block) hash ≡ Some first.block
  its_body = get_same empty hash first.block

  -- the chainstate at the block, before anything is counted
  abbrev tipped : State
  tipped = record stored { active = record genesis_standing { tip = hash } }

  -- genesis is no child, and the block is a child of genesis alone
  genesis_is_none : (tip : Hash32) → is_open_child (record stored { active = record genesis_standing { tip = tip } }) (genesis_hash, genesis) ≡ false
  genesis_is_none tip =
      second_false (same_hash genesis.prev tip) (contains_key (insert (empty {X = Block} {R = hash_cmp}) hash first.block) genesis_hash) true (ap (λ (o : Option Block). is_some o) only_body)

  child_is_open : is_open_child stored (hash, first.block.header) ≡ true
  child_is_open =
      all_true (same_hash first.block.header.prev genesis_hash) (contains_key (insert (empty {X = Block} {R = hash_cmp}) hash first.block) hash) true
      (ap (λ (h : Hash32). same_hash h genesis_hash) first.child.below ∙ same_self genesis_hash) (ap (λ (o : Option Block). is_some o) its_body) refl

  child_is_shut : is_open_child tipped (hash, first.block.header) ≡ false
  child_is_shut =
      first_false (same_hash first.block.header.prev hash) (contains_key (insert (empty {X = Block} {R = hash_cmp}) hash first.block) hash) true
      (ap (λ (h : Hash32). same_hash h hash) first.child.below ∙ same_false genesis_hash hash (λ e. apart (sym e)))

  next_is_it : next_child stored ≡ Some hash
  next_is_it =
      ap (λ (o : Option (Hash32 × Header)). option_map_or (λ entry. Some entry.0) o None)
      (found_child (is_open_child stored) hash first.block.header apart (genesis_is_none genesis_hash)
      ∙ ap (λ (b : Bool). cond b (Some (hash, first.block.header)) None) child_is_open)

  none_is_next : next_child tipped ≡ None
  none_is_next =
      ap (λ (o : Option (Hash32 × Header)). option_map_or (λ entry. Some entry.0) o None)
      (found_child (is_open_child tipped) hash first.block.header apart (genesis_is_none hash)
      ∙ ap (λ (b : Bool). cond b (Some (hash, first.block.header)) None) child_is_shut)

  -- ---- the move to it

  no_coins : coins_at (choice_of stored genesis_standing) genesis_hash ≡ Some empty
  unfolding replayed
  no_coins = rw (genesis_in_one limit given first.block.header first.child, same_self genesis_hash) refl

  tried_it : trial_of stored hash ≡ still tipped
  tried_it =
      ap (trial stored hash) its_body
      ∙ ap (λ (o : Option Coins). tried stored hash (outcome tree (unwrap_or o empty) first.block)) no_coins
      ∙ ap (λ (r : Result Coins CoinRefused). tried stored hash r) first.applies

  -- no child is left behind the block
  ends_there : forward_from 1 tipped (next_child tipped) ≡ still tipped
  ends_there = ap (forward_from 1 tipped) none_is_next

  two : finite.len stored.tree.headers ≡ 2
  two = two_members limit given first.block.header first.child

  forward_is : forward stored ≡ still tipped
  forward_is =
      ap (λ (n : ℕ). forward_from n stored (next_child stored)) two
      ∙ ap (forward_from 2 stored) next_is_it
      ∙ ap (λ (m : Moved). then_moved m (forward_from 1 m.state (next_child m.state))) tried_it
      ∙ ap (λ (m : Moved). then_moved (still tipped) m) ends_there

  way_is : way stored ≡ genesis_hash ∷ hash ∷ []
  way_is =
      ap (λ (n : ℕ). and_tip genesis_hash (tried_from n stored (next_child stored))) two
      ∙ ap (λ (o : Option Hash32). and_tip genesis_hash (tried_from 2 stored o)) next_is_it
      ∙ ap (λ (m : Moved). genesis_hash ∷ hash ∷ tried_from 1 m.state (next_child m.state)) tried_it
      ∙ ap (λ (o : Option Hash32). genesis_hash ∷ hash ∷ tried_from 1 tipped o) none_is_next

  above_start : filter (λ h. not (same_hash h genesis_hash)) (genesis_hash ∷ hash ∷ []) ≡ hash ∷ []
  above_start = rw (same_self genesis_hash, same_false hash genesis_hash apart) refl

  touched_is : touched_on_way stored ≡ touched_by first.block
  touched_is =
      ap (λ (hashes : List Hash32). flat_map touched_at (filter (λ h. not (same_hash h genesis_hash)) hashes)) way_is
      ∙ ap (flat_map touched_at) above_start
      ∙ flat_map-cons touched_at hash []
      ∙ ap (λ (o : Option Block). option_map_or touched_by o [] ++ flat_map touched_at []) its_body
      ∙ append-nil (touched_by first.block)
    where
      touched_at : Hash32 → List OutPoint
      touched_at h = option_map_or touched_by (get stored.bodies h) []

  -- the move with these limit flushes, by what it touches
  abbrev moved_by : List OutPoint → List OutPoint → Hash32 → List Event → Moved
  moved_by touched after kept events = record (still (record tipped { active = record tipped.active { kept = kept; touched = after } })) { events = events }

  module _ (setting : Setting) where
    -- the chainstate moves to the block, and no flush stands behind it
    pub advances : Advances setting stored (still moved)
    advances = (
      [],
      tt,
      sym (ap (λ (m : Moved). record m { state = record m.state { active = record m.state.active { kept = genesis_hash; touched = touched_on_way stored ++ [] } }; events = [] }) forward_is
          ∙ ap (λ (touched : List OutPoint). moved_by touched (touched ++ []) genesis_hash []) touched_is),
    )

    -- the block is valid: its replay gives the coins after it
    blocks_there : blocks_of stored.bodies (hash ∷ []) ≡ Some (first.block ∷ [])
    blocks_there = ap (λ (o : Option Block). and_block o (Some [])) its_body

    replayed_one : replayed tree empty (first.block ∷ []) ≡ Ok first.coins
    unfolding replayed
    replayed_one = rw first.applies refl

    is_valid_there : is_valid (choice_of stored genesis_standing) hash ≡ true
    is_valid_there = ap is_some (
        ap (option_and_then (λ blocks. result_ok (replayed tree empty blocks)))
        (stored_path (choice_of stored genesis_standing) hash (hash ∷ []) (first.block ∷ []) (reaches_one limit given first.block.header first.child) (path_of_one limit given first.block.header first.child) blocks_there)
        ∙ ap result_ok replayed_one)

    on_the_way : list_any (same_hash hash) (way stored) ≡ true
    on_the_way = ap (list_any (same_hash hash)) way_is ∙ any_second (same_hash hash) genesis_hash hash (same_self hash)

    -- where the cache has as many entries as it may, a flush may stand behind the block
    pub advances_with_flush : nat_le setting.cache (count_of (touched_by first.block ++ [])) ≡ true → Advances setting stored (moved_and_flushed limit given first)
    advances_with_flush due = (
      hash ∷ [],
      (on_the_way, is_valid_there, ap (λ (touched : List OutPoint). nat_le setting.cache (count_of (touched ++ []))) touched_is ∙ due, tt),
      sym (ap (λ (m : Moved). record m { state = record m.state { active = record m.state.active { kept = hash; touched = touched_on_way stored } }; events = Flush Full hash Limit (touched_on_way stored ++ []) ∷ [] }) forward_is
          ∙ ap (λ (touched : List OutPoint). moved_by touched touched hash (Flush Full hash Limit (touched ++ []) ∷ [])) touched_is),
    )

    -- ---- its body is offered

    not_stored : is_stored headed hash ≡ false
    not_stored =
        ap (λ (b : Bool). b || contains_key (empty {X = Block} {R = hash_cmp}) hash) (same_false hash genesis_hash apart)
        ∙ ap (λ (o : Option Block). is_some o) (get-empty hash_cmp hash)

    same_as_itself : (header : Header) → same_header header header ≡ true
    same_as_itself header = rw (int_self header.version, same_self header.prev, same_self header.root, eq-eqb header.time header.time refl, eq-eqb header.bits header.bits refl, eq-eqb header.nonce header.nonce refl) refl

    known : is_known headed hash first.block.header ≡ true
    known = ap (λ (o : Option Header). option_map_or (same_header first.block.header) o false) (known_of_one limit given first.block.header first.child) ∙ same_as_itself first.block.header

    -- the body is stored, and the chainstate is at the block
    abbrev pub offered_it : Moved
    offered_it = record { state = moved; replies = []; events = BodyStored hash first.block ∷ []; reads = 0 }

    offers : Offers setting headed first.block offered_it
    offers =
        subst (λ (b : Bool). OffersBody b (is_known headed hash first.block.header) setting headed hash first.block offered_it) (sym not_stored)
        (subst (λ (b : Bool). OffersBody false b setting headed hash first.block offered_it) (sym known)
        (subst (λ (o : Option BodyRefused). StoresUnless o setting headed hash first.block offered_it) (sym first.meets)
        (still moved, advances, refl)))

    offers_all : OffersAll setting headed (first.block ∷ []) offered_it
    offers_all = (offered_it, offers, still moved, refl, refl)

-- ---- the import of a file

module _ (setting : Setting) (first : FirstBlock setting.limit setting.given) where
  -- the closure of the tree under its header has its header
  abbrev closed : Closed
  closed = record { tree = tree_of setting.limit setting.given first; added = first.block.header ∷ []; full = false }

  closes : closure_of setting (genesis_state setting.given) (first.block ∷ []) ≡ closed
  unfolding rounds
  closes = ap (λ (o : Option HeaderRefused). closed_with o (record { tree = first_tree setting.given; added = []; full = false }) first.block.header) first.child.accepted

  module _ (files : Files) (name bytes : List ℕ) (held : get files name ≡ Some bytes) (short : length bytes ≤ longest_file) (one_frame : frames bytes None ≡ first.block ∷ []) where
    abbrev here : Now
    here = at_start setting.given files

    one_more_body : more_bodies (genesis_state setting.given) (moved_to_it setting.limit setting.given first) ≡ 1
    one_more_body =
        ap (λ (n : ℕ). n - finite.len (empty {X = Block} {R = hash_cmp})) (len_new empty (hash_of setting.limit setting.given first) first.block (get-empty hash_cmp (hash_of setting.limit setting.given first)))
        ∙ ap (λ (n : ℕ). n + 1 - n) (len-empty hash_cmp Block)

    reply_is : import_reply (genesis_state setting.given) (first.block ∷ []) (first.block.header ∷ []) (moved_to_it setting.limit setting.given first) ≡ says.Import 1 1 1 1 (hash_of setting.limit setting.given first)
    reply_is =
        ap (λ (n : ℕ). says.Import 1 1 n (height_of (moved_to_it setting.limit setting.given first) (hash_of setting.limit setting.given first)) (hash_of setting.limit setting.given first)) one_more_body
        ∙ ap (λ (n : ℕ). says.Import 1 1 1 n (hash_of setting.limit setting.given first)) (height_of_one setting.limit setting.given first.block.header first.child)

    does : ImportDoes setting here (first.block ∷ []) closed (imported setting first files)
    unfolding stored_by
    does = inl (
      offered_it setting.limit setting.given first setting,
      offers_all setting.limit setting.given first setting,
      ap (λ (reply : Reply). record (imported setting first files) { replies = reply ∷ [] }) (sym reply_is),
    )

    imports : Imports setting here None bytes (imported setting first files)
    imports =
        subst (λ (blocks : List Block). ImportDoes setting here blocks (closure_of setting (genesis_state setting.given) blocks) (imported setting first files)) (sym one_frame)
        (subst (λ (c : Closed). ImportDoes setting here (first.block ∷ []) c (imported setting first files)) (sym closes) does)

    -- a step of the machine
    pub import_line : Step setting here (Ok (line.Import name None)) (imported setting first files)
    import_line =
        subst (λ (o : Option (List ℕ)). WithBytes o here (λ bs. OrFault here (UnlessTooLong here (Imports setting here None) bs)) (imported setting first files))
        (sym held) (inl (inl (short, imports)))

    -- ---- its headers alone

    takes : HeadersDo setting here (first.block ∷ []) closed (headers_taken setting first files)
    unfolding stored_by
    takes = inl (ap (λ (n : ℕ). record (headers_taken setting first files) { replies = says.Headers 1 1 n ∷ [] }) (sym (two_members setting.limit setting.given first.block.header first.child)))

    takes_headers : TakesHeaders setting here None bytes (headers_taken setting first files)
    takes_headers =
        subst (λ (blocks : List Block). HeadersDo setting here blocks (closure_of setting (genesis_state setting.given) blocks) (headers_taken setting first files)) (sym one_frame)
        (subst (λ (c : Closed). HeadersDo setting here (first.block ∷ []) c (headers_taken setting first files)) (sym closes) takes)

    pub headers_line : Step setting here (Ok (line.Headers name None)) (headers_taken setting first files)
    headers_line =
        subst (λ (o : Option (List ℕ)). WithBytes o here (λ bs. OrFault here (UnlessTooLong here (TakesHeaders setting here None) bs)) (headers_taken setting first files))
        (sym held) (inl (inl (short, takes_headers)))

    -- a fault of the host after the header was stored, and before a body was offered
    pub import_fault : Step setting here (Ok (line.Import name None)) (record (headers_taken setting first files) { replies = says.HostFault ∷ []; faults = 1 })
    unfolding stored_by
    import_fault =
        let faulty = record (headers_taken setting first files) { replies = says.HostFault ∷ []; faults = 1 } in
        let does : ImportDoes setting here (first.block ∷ []) closed faulty = inr (inl (1, refl)) in
        let imports : Imports setting here None bytes faulty =
        subst (λ (blocks : List Block). ImportDoes setting here blocks (closure_of setting (genesis_state setting.given) blocks) faulty) (sym one_frame)
        (subst (λ (c : Closed). ImportDoes setting here (first.block ∷ []) c faulty) (sym closes) does) in
        subst (λ (o : Option (List ℕ)). WithBytes o here (λ bs. OrFault here (UnlessTooLong here (Imports setting here None) bs)) faulty)
        (sym held) (inl (inl (short, imports)))
