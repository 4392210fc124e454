-- Payloads that are added to the logs of a store, and what the store then stands for.
use Rattle.std.proofs.Common.{◌≡◌, ℕ, ◌+◌, Bool, true, false, ◌&&◌, ◌||◌, List, [], ◌∷◌, ◌++◌, length, Option, Some, None, Ok, Err, refl, sym, ap, subst, ◌∙◌}
use Rattle.std.specs.Prelude.{Result}
use Rattle.std.specs.List.{list_any, list_all}
use Rattle.std.specs.FinMap.{empty}
use Rattle.std.specs.Result.{result_ok}
use Rattle.std.proofs.lemmas.List.Folds.{list_any-append}
use Rattle.disk_model.specs.Disk.{Image}
use Rattle.batch_log.specs.Records.{log}
use Rattle.base_types.specs.Coins.{Coins}
use Rattle.base_types.specs.declared.hash.Hash32.{Hash32}
use Rattle.base_types.specs.declared.program.Rules.{Rules}
use Rattle.block_codec.specs.Genesis.{genesis_hash}
use Rattle.block_codec.specs.Text.{same_hash}
use Rattle.block_codec.specs.declared.block.Header.{Header}
use Rattle.block_store.specs.Bodies.{body_hash, body_of}
use Rattle.block_store.specs.Headers.{headers_of}
use Rattle.chain_model.specs.Choice.{Bodies, is_at_or_below}
use Rattle.chain_model.specs.Growth.{Grows}
use Rattle.chain_model.specs.HeaderRules.{IsTree, first_tree, tree_with}
use Rattle.chain_model.specs.Tree.{Tree, path}
use Rattle.chain_model.proofs.Growth.{grows_by, same_chain, same_path, stays_known}
use Rattle.chain_model.proofs.Replays.{on_chain_known}
use Rattle.chain_model.proofs.Trees.{is_rooted}
use Rattle.coin_store.specs.Batches.{Batch}
use Rattle.coin_store.specs.Places.{coins_after, coins_after_rows}
use Rattle.coin_store.specs.Reading.{batch_of}
use Rattle.coin_store.specs.declared.marker.Marker.{Marker}
use Rattle.coin_store.specs.declared.marker.Marker.TheVariants.{At}
use Rattle.store_state.specs.Roles.{Alone}
use Rattle.store_state.specs.State.{StoreState, StoredBody, Chainstate, Record, Read, there_or_broken, true_or_broken, header_file, body_file, coin_file, first_key, gated, whole_log, records_of, each_of, each_passes, tree_after, stored_body, and_payload, with_body, blocks_in, settled_batch, marker_after, tips_of, is_in, has_record, is_reached, last_reached, said, rules_in, first_rules, read_tree, read_bodies, read_batches, read_store, state_of, chainstate_of}
use Rattle.store_state.proofs.BrokenImages.{read_batch}
use Rattle.store_state.proofs.EachRecord.{ok_parts, true_ok, each_first, passes_ok}
use Rattle.store_state.proofs.ReadingSteps.{goes_on, records_are, more_each, more_pass, none_each, none_passes, store_is}

-- the payloads of the three files
pub record Logs : Type 0 where
  pub headers : List (List ℕ)
  pub bodies : List (List ℕ)
  pub coins : List (List ℕ)

pub record HasLogs (image : Image) (logs : Logs) : Type 0 where
  pub headers : log (image header_file) ≡ Ok logs.headers
  pub bodies : log (image body_file) ≡ Ok logs.bodies
  pub coins : log (image coin_file) ≡ Ok logs.coins

-- what the payloads say, record by record, and the store that they stand for
pub record IsRead (limit : ℕ) (given : Rules) (logs : Logs) (store : StoreState) : Type 0 where
  pub lists : List (Record (List Header))
  pub header_records : each_of header_file headers_of (gated 0 logs.headers) ≡ Ok lists
  pub tree : tree_after limit (first_tree (rules_in given (gated 0 logs.headers))) lists ≡ Ok store.tree
  pub known : List (Record StoredBody)
  pub body_records : each_of body_file stored_body (gated 0 logs.bodies) ≡ Ok known
  pub in_tree : each_passes body_file (λ body. is_in store.tree body.hash) known ≡ Ok known
  pub bodies : store.bodies ≡ said known
  pub batches : List (Record Batch)
  pub batch_records : each_of coin_file read_batch (gated 0 logs.coins) ≡ Ok batches
  pub tips_in_tree : each_passes coin_file (λ batch. list_all (is_in store.tree) (tips_of batch.marker)) batches ≡ Ok batches
  pub reached : last_reached store.tree store.bodies genesis_hash batches ≡ Ok batches
  pub active : store.active ≡ chainstate_of genesis_hash empty (said batches)
  pub role : store.role ≡ Alone

-- ---- an image with such logs stands for the store

pub stands_for_read : (limit : ℕ) (given : Rules) (image : Image) (logs : Logs) (store : StoreState) → HasLogs image logs → IsRead limit given logs store → state_of limit given image ≡ Some store
stands_for_read limit given image logs store has read =
    let headers : read_tree limit given image ≡ Ok store.tree =
    goes_on (records_of image header_file) _ (gated 0 logs.headers) (records_are image header_file logs.headers has.headers)
    ∙ goes_on (each_of header_file headers_of (gated 0 logs.headers)) _ read.lists read.header_records ∙ read.tree in
    let bodies : read_bodies store.tree image ≡ Ok store.bodies =
    goes_on (records_of image body_file) _ (gated 0 logs.bodies) (records_are image body_file logs.bodies has.bodies)
    ∙ goes_on (each_of body_file stored_body (gated 0 logs.bodies)) _ read.known read.body_records
    ∙ goes_on (each_passes body_file (λ body. is_in store.tree body.hash) read.known) _ read.known read.in_tree
    ∙ ap (λ (all : List StoredBody). Ok all) (sym read.bodies) in
    let batches : read_batches store.tree store.bodies image ≡ Ok (said read.batches) =
    goes_on (records_of image coin_file) _ (gated 0 logs.coins) (records_are image coin_file logs.coins has.coins)
    ∙ goes_on (each_of coin_file read_batch (gated 0 logs.coins)) _ read.batches read.batch_records
    ∙ goes_on (each_passes coin_file (λ batch. list_all (is_in store.tree) (tips_of batch.marker)) read.batches) _ read.batches read.tips_in_tree
    ∙ goes_on (last_reached store.tree store.bodies genesis_hash read.batches) _ read.batches read.reached in
    let active = read.active in
    let role = read.role in
    ap result_ok (store_is limit given image store.tree store.bodies (said read.batches) headers bodies batches)
    ∙ (λ i. Some (record { tree = store.tree; bodies = store.bodies; active = sym active i; role = sym role i }))

-- ---- a store that stands was read

ok_of : {A : Type 0} (r : Read A) (a : A) → result_ok r ≡ Some a → r ≡ Ok a
ok_of (Ok b) a e = let s : b ≡ a = cc in ap (λ x. Ok x) s
ok_of (Err place) a e = absurd cc

same_ok : {A : Type 0} (a b : A) → (let x : Read A = Ok a in x) ≡ Ok b → a ≡ b
same_ok a b e = cc

log_of : (file : ℕ) (l : Result (List (List ℕ)) ℕ) (records : List (Record (List ℕ))) → whole_log file l ≡ Ok records → (payloads : List (List ℕ)) × (l ≡ Ok payloads) × (records ≡ gated 0 payloads)
log_of file (Ok payloads) records e = (payloads, refl, sym (same_ok (gated 0 payloads) records e))
log_of file (Err gate) records e = absurd cc

-- the records that are tested for the last tips are those that come out
pub reached_ok : (tree : Tree) (bodies : List StoredBody) (start : Hash32) (batches all : List (Record Batch)) → last_reached tree bodies start batches ≡ Ok all → all ≡ batches
unfolding last_reached
reached_ok tree bodies start [] all e = sym (same_ok [] all e)
reached_ok tree bodies start (last ∷ []) all e = sym (true_ok coin_file last.0 (list_all (is_reached tree bodies start) (tips_of last.1.marker)) (last ∷ []) all e).1
reached_ok tree bodies start (one ∷ next ∷ others) all e =
    let rest = ok_parts (last_reached tree bodies start (next ∷ others)) _ all e in
    sym (same_ok (one ∷ rest.0) all rest.2) ∙ ap (λ (more : List (Record Batch)). one ∷ more) (reached_ok tree bodies start (next ∷ others) rest.0 rest.1)

pub is_read : (limit : ℕ) (given : Rules) (image : Image) (store : StoreState) → state_of limit given image ≡ Some store → (logs : Logs) × HasLogs image logs × IsRead limit given logs store
is_read limit given image store stands =
    let whole = ok_of (read_store limit given image) store stands in
    let tree = ok_parts (read_tree limit given image) _ store whole in
    let bodies = ok_parts (read_bodies tree.0 image) _ store tree.2 in
    let batches = ok_parts (read_batches tree.0 bodies.0 image) _ store bodies.2 in
    let made = same_ok (record { tree = tree.0; bodies = bodies.0; active = chainstate_of genesis_hash empty batches.0; role = Alone }) store batches.2 in
    let header_records = ok_parts (records_of image header_file) _ tree.0 tree.1 in
    let lists = ok_parts (each_of header_file headers_of header_records.0) _ tree.0 header_records.2 in
    let header_log = log_of header_file (log (image header_file)) header_records.0 header_records.1 in
    let body_records = ok_parts (records_of image body_file) _ bodies.0 bodies.1 in
    let found = ok_parts (each_of body_file stored_body body_records.0) _ bodies.0 body_records.2 in
    let known = ok_parts (each_passes body_file (λ body. is_in tree.0 body.hash) found.0) _ bodies.0 found.2 in
    let body_log = log_of body_file (log (image body_file)) body_records.0 body_records.1 in
    let coin_records = ok_parts (records_of image coin_file) _ batches.0 batches.1 in
    let read = ok_parts (each_of coin_file read_batch coin_records.0) _ batches.0 coin_records.2 in
    let tips = ok_parts (each_passes coin_file (λ batch. list_all (is_in tree.0) (tips_of batch.marker)) read.0) _ batches.0 read.2 in
    let reached = ok_parts (last_reached tree.0 bodies.0 genesis_hash tips.0) _ batches.0 tips.2 in
    let coin_log = log_of coin_file (log (image coin_file)) coin_records.0 coin_records.1 in
    let all_known = passes_ok body_file (λ body. is_in tree.0 body.hash) found.0 known.0 known.1 in
    let all_tips = passes_ok coin_file (λ batch. list_all (is_in tree.0) (tips_of batch.marker)) read.0 tips.0 tips.1 in
    let all_reached = reached_ok tree.0 bodies.0 genesis_hash tips.0 reached.0 reached.1 in
    let same_tree : tree.0 ≡ store.tree = ap (λ (s : StoreState). s.tree) made in
    let same_bodies : bodies.0 ≡ store.bodies = ap (λ (s : StoreState). s.bodies) made in
    let same_active : chainstate_of genesis_hash empty batches.0 ≡ store.active = ap (λ (s : StoreState). s.active) made in
    let logs : Logs = record { headers = header_log.0; bodies = body_log.0; coins = coin_log.0 } in
    let first : IsRead limit given logs (record { tree = tree.0; bodies = bodies.0; active = chainstate_of genesis_hash empty batches.0; role = Alone }) =
    record {
      lists = lists.0;
      header_records = ap (each_of header_file headers_of) (sym header_log.2) ∙ lists.1;
      tree = ap (λ (records : List (Record (List ℕ))). tree_after limit (first_tree (rules_in given records)) lists.0) (sym header_log.2) ∙ lists.2;
      known = found.0;
      body_records = ap (each_of body_file stored_body) (sym body_log.2) ∙ found.1;
      in_tree = known.1 ∙ ap (λ (all : List (Record StoredBody)). Ok all) all_known;
      bodies = sym (same_ok (said known.0) bodies.0 known.2) ∙ ap said all_known;
      batches = read.0;
      batch_records = ap (each_of coin_file read_batch) (sym coin_log.2) ∙ read.1;
      tips_in_tree = tips.1 ∙ ap (λ (all : List (Record Batch)). Ok all) all_tips;
      reached = ap (last_reached tree.0 bodies.0 genesis_hash) (sym all_tips) ∙ reached.1 ∙ ap (λ (all : List (Record Batch)). Ok all) (all_reached ∙ all_tips);
      active = ap (chainstate_of genesis_hash empty) (sym (same_ok (said reached.0) batches.0 reached.2) ∙ ap said (all_reached ∙ all_tips));
      role = refl;
    } in
    (logs, record { headers = header_log.1; bodies = body_log.1; coins = coin_log.1 }, subst (IsRead limit given logs) made first)

-- ---- one record more

-- where the record of a further payload has its gate
gated_more : (at : ℕ) (payloads : List (List ℕ)) (payload : List ℕ) → (gate : ℕ) × (gated at (payloads ++ payload ∷ []) ≡ gated at payloads ++ (gate, payload) ∷ [])
unfolding gated
gated_more at [] payload = (at, refl)
gated_more at (first ∷ payloads) payload =
    let rest = gated_more (at + (5 + length first)) payloads payload in
    (rest.0, ap (λ (records : List (Record (List ℕ))). (at, first) ∷ records) rest.1)

module _ {A : Type 0} (file : ℕ) (read : List ℕ → Option A) where
  each_more : (records : List (Record (List ℕ))) (all : List (Record A)) (gate : ℕ) (payload : List ℕ) (a : A) → each_of file read records ≡ Ok all → read payload ≡ Some a
      → each_of file read (records ++ (gate, payload) ∷ []) ≡ Ok (all ++ (gate, a) ∷ [])
  unfolding each_of
  each_more [] all gate payload a e is =
      more_each file read gate payload [] a [] is (none_each file read) ∙ ap (λ (xs : List (Record A)). Ok (xs ++ (gate, a) ∷ [])) (same_ok [] all e)
  each_more (one ∷ records) all gate payload a e is =
      let first = each_first file read one records all e in
      more_each file read one.0 one.1 (records ++ (gate, payload) ∷ []) first.0 (first.1 ++ (gate, a) ∷ []) first.2 (each_more records first.1 gate payload a first.3 is)
      ∙ ap (λ (xs : List (Record A)). Ok (xs ++ (gate, a) ∷ [])) (sym first.4)

  pub each_added : (payloads : List (List ℕ)) (all : List (Record A)) (payload : List ℕ) (a : A) → each_of file read (gated 0 payloads) ≡ Ok all → read payload ≡ Some a
      → (gate : ℕ) × (each_of file read (gated 0 (payloads ++ payload ∷ [])) ≡ Ok (all ++ (gate, a) ∷ []))
  each_added payloads all payload a e is =
      let more = gated_more 0 payloads payload in
      (more.0, ap (each_of file read) more.1 ∙ each_more (gated 0 payloads) all more.0 payload a e is)

passes_first : {A : Type 0} (file : ℕ) (test : A → Bool) (one : Record A) (others all : List (Record A)) → each_passes file test (one ∷ others) ≡ Ok all → (test one.1 ≡ true) × (each_passes file test others ≡ Ok others)
unfolding each_passes
passes_first file test one others all e =
    let a = ok_parts (true_or_broken file one.0 (test one.1) one) _ all e in
    let b = ok_parts (each_passes file test others) _ all a.2 in
    ((true_ok file one.0 (test one.1) one a.0 a.1).0, b.1 ∙ ap (λ (xs : List (Record _)). Ok xs) (passes_ok file test others b.0 b.1))

-- a weaker test is passed, and by one record more that passes it
passes_more : {A : Type 0} (file : ℕ) (test wider : A → Bool) → ((a : A) → test a ≡ true → wider a ≡ true) → (records all more : List (Record A)) → each_passes file test records ≡ Ok all
    → each_passes file wider more ≡ Ok more → each_passes file wider (records ++ more) ≡ Ok (records ++ more)
passes_more file test wider weaker [] all more e passes = passes
passes_more file test wider weaker (one ∷ records) all more e passes =
    let first = passes_first file test one records all e in
    more_pass file wider one (records ++ more) (records ++ more) (weaker one.1 first.0) (passes_more file test wider weaker records records more first.1 passes)

no_more : {A : Type 0} (xs : List A) → xs ++ [] ≡ xs
no_more [] = refl
no_more (x ∷ xs) = ap (λ (l : List _). x ∷ l) (no_more xs)

passes_still : {A : Type 0} (file : ℕ) (test wider : A → Bool) → ((a : A) → test a ≡ true → wider a ≡ true) → (records : List (Record A)) → each_passes file test records ≡ Ok records → each_passes file wider records ≡ Ok records
passes_still file test wider weaker records e =
    subst (λ (xs : List (Record _)). each_passes file wider xs ≡ Ok xs) (no_more records) (passes_more file test wider weaker records records [] e (none_passes file wider))

pub tree_more : (limit : ℕ) (first : Tree) (lists : List (Record (List Header))) (middle : Tree) (gate : ℕ) (headers : List Header) (last : Tree) → tree_after limit first lists ≡ Ok middle → tree_with limit middle headers ≡ Some last
    → tree_after limit first (lists ++ (gate, headers) ∷ []) ≡ Ok last
unfolding tree_after
tree_more limit first [] middle gate headers last e is =
    goes_on (there_or_broken header_file gate (tree_with limit first headers)) _ last (ap (there_or_broken header_file gate) (ap (λ (tree : Tree). tree_with limit tree headers) (same_ok first middle e) ∙ is))
tree_more limit first (one ∷ lists) middle gate headers last e is =
    let next = ok_parts (there_or_broken header_file one.0 (tree_with limit first one.1)) _ middle e in
    goes_on (there_or_broken header_file one.0 (tree_with limit first one.1)) _ next.0 next.1 ∙ tree_more limit next.0 lists middle gate headers last next.2 is

-- what is reached, in a tree and bodies that are more
abbrev pub Reaches : Tree → List StoredBody → Tree → List StoredBody → Type 0
Reaches tree bodies wider more = (tip : Hash32) → is_reached tree bodies genesis_hash tip ≡ true → is_reached wider more genesis_hash tip ≡ true

all_wider : (test wider : Hash32 → Bool) → ((hash : Hash32) → test hash ≡ true → wider hash ≡ true) → (hashes : List Hash32) → list_all test hashes ≡ true → list_all wider hashes ≡ true
all_wider test wider weaker [] e = refl
all_wider test wider weaker (hash ∷ hashes) e = go (λ rest. all_wider test wider weaker hashes rest) (test hash) refl e
  where
    go : (list_all test hashes ≡ true → list_all wider hashes ≡ true) → (b : Bool) → test hash ≡ b → (b && list_all test hashes) ≡ true → list_all wider (hash ∷ hashes) ≡ true
    go others true is rest = ap (λ (b : Bool). b && list_all wider hashes) (weaker hash is) ∙ others rest
    go others false is rest = absurd cc

reached_still : (tree : Tree) (bodies : List StoredBody) (wider : Tree) (more : List StoredBody) → Reaches tree bodies wider more → (batches : List (Record Batch)) → last_reached tree bodies genesis_hash batches ≡ Ok batches
    → last_reached wider more genesis_hash batches ≡ Ok batches
unfolding last_reached
reached_still tree bodies wider more reaches [] e = refl
reached_still tree bodies wider more reaches (last ∷ []) e =
    let test = (true_ok coin_file last.0 (list_all (is_reached tree bodies genesis_hash) (tips_of last.1.marker)) (last ∷ []) (last ∷ []) e).0 in
    ap (λ (b : Bool). true_or_broken coin_file last.0 b (last ∷ [])) (all_wider (is_reached tree bodies genesis_hash) (is_reached wider more genesis_hash) reaches (tips_of last.1.marker) test)
reached_still tree bodies wider more reaches (one ∷ next ∷ others) e =
    let rest = ok_parts (last_reached tree bodies genesis_hash (next ∷ others)) _ (one ∷ next ∷ others) e in
    let same = rest.1 ∙ ap (λ (xs : List (Record Batch)). Ok xs) (reached_ok tree bodies genesis_hash (next ∷ others) rest.0 rest.1) in
    goes_on (last_reached wider more genesis_hash (next ∷ others)) _ (next ∷ others) (reached_still tree bodies wider more reaches (next ∷ others) same)

reached_last : (tree : Tree) (bodies : List StoredBody) (batches : List (Record Batch)) (last : Record Batch) → list_all (is_reached tree bodies genesis_hash) (tips_of last.1.marker) ≡ true
    → last_reached tree bodies genesis_hash (batches ++ last ∷ []) ≡ Ok (batches ++ last ∷ [])
unfolding last_reached
reached_last tree bodies [] last test = ap (λ (b : Bool). true_or_broken coin_file last.0 b (last ∷ [])) test
reached_last tree bodies (one ∷ []) last test = goes_on (last_reached tree bodies genesis_hash (last ∷ [])) _ (last ∷ []) (reached_last tree bodies [] last test)
reached_last tree bodies (one ∷ next ∷ others) last test =
    goes_on (last_reached tree bodies genesis_hash (next ∷ others ++ last ∷ [])) _ (next ∷ others ++ last ∷ []) (reached_last tree bodies (next ∷ others) last test)

said_more : {A : Type 0} (records : List (Record A)) (one : Record A) → said (records ++ one ∷ []) ≡ said records ++ one.1 ∷ []
said_more [] one = refl
said_more (first ∷ records) one = ap (λ (l : List _). first.1 ∷ l) (said_more records one)

-- ---- the tree that was read

first_is_tree : (limit : ℕ) (rules : Rules) → IsTree limit (first_tree rules)
unfolding tree_with
first_is_tree limit rules = record { accepted = []; comes = refl }

read_is_tree : (limit : ℕ) (first : Tree) (lists : List (Record (List Header))) (last : Tree) → IsTree limit first → tree_after limit first lists ≡ Ok last → IsTree limit last
unfolding tree_after
read_is_tree limit first [] last is e = subst (IsTree limit) (same_ok first last e) is
read_is_tree limit first (one ∷ lists) last is e =
    let next = ok_parts (there_or_broken header_file one.0 (tree_with limit first one.1)) _ last e in
    read_is_tree limit next.0 lists last (grows_by limit first next.0 one.1 is (there (tree_with limit first one.1) next.0 next.1)).after next.2
  where
    there : (o : Option Tree) (tree : Tree) → there_or_broken header_file one.0 o ≡ Ok tree → o ≡ Some tree
    there None tree e = absurd cc
    there (Some other) tree e = let s : other ≡ tree = cc in ap (λ (t : Tree). Some t) s

pub tree_is_read : (limit : ℕ) (given : Rules) (logs : Logs) (store : StoreState) → IsRead limit given logs store → IsTree limit store.tree
tree_is_read limit given logs store read =
    let rules = rules_in given (gated 0 logs.headers) in
    read_is_tree limit (first_tree rules) read.lists store.tree (first_is_tree limit rules) read.tree

-- ---- headers

first_or_given : (records : List (Record (List ℕ))) → rules_in first_rules records ≡ first_rules
first_or_given [] = refl
first_or_given (one ∷ records) = refl

reached_parts : (tree : Tree) (bodies : List StoredBody) (tip : Hash32) → is_reached tree bodies genesis_hash tip ≡ true
    → (is_at_or_below tree.headers genesis_hash tip ≡ true) × (list_all (has_record bodies) (path tree.headers genesis_hash tip) ≡ true)
reached_parts tree bodies tip e = go (is_at_or_below tree.headers genesis_hash tip) refl e
  where
    go : (b : Bool) → is_at_or_below tree.headers genesis_hash tip ≡ b → (b && list_all (has_record bodies) (path tree.headers genesis_hash tip)) ≡ true
        → (is_at_or_below tree.headers genesis_hash tip ≡ true) × (list_all (has_record bodies) (path tree.headers genesis_hash tip) ≡ true)
    go true is rest = (is, rest)
    go false is rest = absurd cc

-- what is reached stays so as the tree grows
pub reaches_grown : (limit : ℕ) (old new : Tree) (bodies : List StoredBody) → Grows limit old new → Reaches old bodies new bodies
reaches_grown limit old new bodies grows tip e =
    let parts = reached_parts old bodies tip e in
    let member = on_chain_known old.headers (is_rooted limit old grows.before) genesis_hash tip parts.0 in
    ap (λ (hashes : List Hash32). list_any (same_hash genesis_hash) hashes && list_all (has_record bodies) (path new.headers genesis_hash tip)) (same_chain limit old new grows tip member)
    ∙ ap (λ (hashes : List Hash32). is_at_or_below old.headers genesis_hash tip && list_all (has_record bodies) hashes) (same_path limit old new grows genesis_hash tip member)
    ∙ e

known_grown : (limit : ℕ) (old new : Tree) → Grows limit old new → (hash : Hash32) → is_in old hash ≡ true → is_in new hash ≡ true
known_grown limit old new grows hash known = stays_known limit old new grows hash known

-- further headers, where the rules that are given are the first ones
pub headers_added : (limit : ℕ) (logs : Logs) (store : StoreState) (payload : List ℕ) (headers : List Header) (tree : Tree) → IsRead limit first_rules logs store → headers_of payload ≡ Some headers
    → tree_with limit store.tree headers ≡ Some tree → IsRead limit first_rules (record logs { headers = logs.headers ++ payload ∷ [] }) (record store { tree = tree })
headers_added limit logs store payload headers tree read is more =
    let added = each_added header_file headers_of logs.headers read.lists payload headers read.header_records is in
    let grows = grows_by limit store.tree tree headers (tree_is_read limit first_rules logs store read) more in
    let known = known_grown limit store.tree tree grows in
    let rules = first_or_given (gated 0 logs.headers) in
    let rules_more = first_or_given (gated 0 (logs.headers ++ payload ∷ [])) in
    record {
      lists = read.lists ++ (added.0, headers) ∷ [];
      header_records = added.1;
      tree =
          ap (λ (r : Rules). tree_after limit (first_tree r) (read.lists ++ (added.0, headers) ∷ [])) (rules_more ∙ sym rules)
          ∙ tree_more limit (first_tree (rules_in first_rules (gated 0 logs.headers))) read.lists store.tree added.0 headers tree read.tree more;
      known = read.known;
      body_records = read.body_records;
      in_tree = passes_still body_file (λ body. is_in store.tree body.hash) (λ body. is_in tree body.hash) (λ body in_it. known body.hash in_it) read.known read.in_tree;
      bodies = read.bodies;
      batches = read.batches;
      batch_records = read.batch_records;
      tips_in_tree =
          passes_still coin_file (λ batch. list_all (is_in store.tree) (tips_of batch.marker)) (λ batch. list_all (is_in tree) (tips_of batch.marker))
          (λ batch in_it. all_wider (is_in store.tree) (is_in tree) known (tips_of batch.marker) in_it) read.batches read.tips_in_tree;
      reached = reached_still store.tree store.bodies tree store.bodies (reaches_grown limit store.tree tree store.bodies grows) read.batches read.reached;
      active = read.active;
      role = read.role;
    }

-- ---- a body

has_more : (bodies : List StoredBody) (body : StoredBody) (hash : Hash32) → has_record bodies hash ≡ true → has_record (bodies ++ body ∷ []) hash ≡ true
has_more bodies body hash e =
    list_any-append (λ (one : StoredBody). same_hash one.hash hash) bodies (body ∷ []) ∙ ap (λ (b : Bool). b || has_record (body ∷ []) hash) e

pub reaches_more : (tree : Tree) (bodies : List StoredBody) (body : StoredBody) → Reaches tree bodies tree (bodies ++ body ∷ [])
reaches_more tree bodies body tip e =
    let parts = reached_parts tree bodies tip e in
    ap (λ (b : Bool). b && list_all (has_record (bodies ++ body ∷ [])) (path tree.headers genesis_hash tip)) parts.0
    ∙ all_wider (has_record bodies) (has_record (bodies ++ body ∷ [])) (has_more bodies body) (path tree.headers genesis_hash tip) parts.1

pub body_added : (limit : ℕ) (given : Rules) (logs : Logs) (store : StoreState) (payload : List ℕ) (hash : Hash32) → IsRead limit given logs store → body_hash payload ≡ Some hash → is_in store.tree hash ≡ true
    → IsRead limit given (record logs { bodies = logs.bodies ++ payload ∷ [] }) (record store { bodies = store.bodies ++ record { hash = hash; payload = payload } ∷ [] })
body_added limit given logs store payload hash read is known =
    let body : StoredBody = record { hash = hash; payload = payload } in
    let added = each_added body_file stored_body logs.bodies read.known payload body read.body_records (ap (and_payload payload) is) in
    let test : StoredBody → Bool = λ body. is_in store.tree body.hash in
    record {
      lists = read.lists;
      header_records = read.header_records;
      tree = read.tree;
      known = read.known ++ (added.0, body) ∷ [];
      body_records = added.1;
      in_tree = passes_more body_file test test (λ one in_it. in_it) read.known read.known ((added.0, body) ∷ []) read.in_tree (more_pass body_file test (added.0, body) [] [] known (none_passes body_file test));
      bodies = ap (λ (all : List StoredBody). all ++ body ∷ []) read.bodies ∙ sym (said_more read.known (added.0, body));
      batches = read.batches;
      batch_records = read.batch_records;
      tips_in_tree = read.tips_in_tree;
      reached = reached_still store.tree store.bodies store.tree (store.bodies ++ body ∷ []) (reaches_more store.tree store.bodies body) read.batches read.reached;
      active = read.active;
      role = read.role;
    }

-- ---- a batch

marker_more : (start : Hash32) (batches : List Batch) (batch : Batch) → marker_after start (batches ++ batch ∷ []) ≡ batch.marker
marker_more start [] batch = refl
marker_more start (one ∷ []) batch = refl
marker_more start (one ∷ next ∷ batches) batch = marker_more start (next ∷ batches) batch

coins_more : (coins : Coins) (batches : List Batch) (batch : Batch) → coins_after coins (batches ++ batch ∷ []) ≡ coins_after_rows (coins_after coins batches) batch.rows
coins_more coins [] batch = refl
coins_more coins (one ∷ batches) batch = coins_more (coins_after_rows coins one.rows) batches batch

-- a chainstate with a batch more
abbrev pub with_batch : Batch → Chainstate → Chainstate
with_batch batch chainstate = record chainstate { marker = batch.marker; coins = coins_after_rows chainstate.coins batch.rows }

chainstate_more : (batches : List Batch) (batch : Batch) → chainstate_of genesis_hash empty (batches ++ batch ∷ []) ≡ with_batch batch (chainstate_of genesis_hash empty batches)
chainstate_more batches batch =
    let marker = marker_more genesis_hash batches batch in
    let coins = coins_more empty batches batch in
    λ i. record { start = genesis_hash; start_coins = empty; marker = marker i; coins = coins i }

pub batch_added : (limit : ℕ) (given : Rules) (logs : Logs) (store : StoreState) (payload : List ℕ) (tip : Hash32) (batch : Batch) → IsRead limit given logs store → batch_of first_key payload ≡ Some batch → batch.marker ≡ At tip
    → is_in store.tree tip ≡ true → is_reached store.tree store.bodies genesis_hash tip ≡ true
    → IsRead limit given (record logs { coins = logs.coins ++ payload ∷ [] }) (record store { active = with_batch batch store.active })
batch_added limit given logs store payload tip batch read is marker known reached =
    let settled : settled_batch (Some batch) ≡ Some batch = rw marker refl in
    let added = each_added coin_file read_batch logs.coins read.batches payload batch read.batch_records (ap settled_batch is ∙ settled) in
    let test : Batch → Bool = λ batch. list_all (is_in store.tree) (tips_of batch.marker) in
    let in_tree : test batch ≡ true = ap (λ (m : Marker). list_all (is_in store.tree) (tips_of m)) marker ∙ ap (λ (b : Bool). b && true) known in
    let there : list_all (is_reached store.tree store.bodies genesis_hash) (tips_of batch.marker) ≡ true =
    ap (λ (m : Marker). list_all (is_reached store.tree store.bodies genesis_hash) (tips_of m)) marker ∙ ap (λ (b : Bool). b && true) reached in
    record {
      lists = read.lists;
      header_records = read.header_records;
      tree = read.tree;
      known = read.known;
      body_records = read.body_records;
      in_tree = read.in_tree;
      bodies = read.bodies;
      batches = read.batches ++ (added.0, batch) ∷ [];
      batch_records = added.1;
      tips_in_tree = passes_more coin_file test test (λ one in_it. in_it) read.batches read.batches ((added.0, batch) ∷ []) read.tips_in_tree (more_pass coin_file test (added.0, batch) [] [] in_tree (none_passes coin_file test));
      reached = reached_last store.tree store.bodies read.batches (added.0, batch) there;
      active =
          ap (with_batch batch) read.active ∙ sym (chainstate_more (said read.batches) batch)
          ∙ ap (chainstate_of genesis_hash empty) (sym (said_more read.batches (added.0, batch)));
      role = read.role;
    }

-- ---- the stored blocks

pub blocks_more : (bodies : Bodies) (all : List StoredBody) (body : StoredBody) → blocks_in bodies (all ++ body ∷ []) ≡ with_body body.hash (body_of body.payload) (blocks_in bodies all)
unfolding blocks_in
blocks_more bodies [] body = refl
blocks_more bodies (one ∷ all) body = blocks_more (with_body one.hash (body_of one.payload) bodies) all body
