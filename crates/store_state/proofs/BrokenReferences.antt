-- Images that are broken by a reference: a hash that isn't in the tree, a header that is refused, a body that isn't there.
use Rattle.std.proofs.Common.{◌≡◌, ℕ, ◌+◌, Bool, true, false, List, [], ◌∷◌, length, Option, Some, None, Ok, ap, ◌∙◌, cond, arith}
use Rattle.std.specs.Prelude.{is_some, ◌&&◌}
use Rattle.std.specs.List.{list_all}
use Rattle.std.specs.FinMap.{get, empty, get-empty}
use Rattle.disk_model.specs.Disk.{Image}
use Rattle.batch_log.specs.Records.{log}
use Rattle.base_types.specs.Keys.{hash_cmp}
use Rattle.base_types.specs.declared.hash.Hash32.{Hash32}
use Rattle.base_types.specs.declared.program.Rules.{Rules}
use Rattle.block_codec.specs.declared.block.Block.{Block}
use Rattle.block_codec.specs.declared.block.Header.{Header}
use Rattle.block_store.specs.Bodies.{body_text}
use Rattle.block_store.proofs.PayloadLaws.{hash_again, length-headers}
use Rattle.chain_model.specs.Tree.{Tree, path}
use Rattle.block_codec.specs.Genesis.{genesis, genesis_hash}
use Rattle.chain_model.specs.Rules.{first_broken}
use Rattle.chain_model.specs.HeaderRules.{first_tree, header_broken, tree_with, and_header, and_then}
use Rattle.base_types.specs.declared.refused.HeaderRefused.{HeaderRefused}
use Rattle.base_types.specs.declared.refused.HeaderRefused.TheVariants.{Known}
use Rattle.block_codec.specs.Fitting.{HeaderFits}
use Rattle.block_codec.proofs.BlockLaws.{length-header}
use Rattle.block_codec.specs.Text.{hash_of_header}
use Rattle.block_store.specs.Headers.{headers_text, headers_of}
use Rattle.coin_store.specs.Batches.{Row, Batch, HashFits, BatchFits}
use Rattle.coin_store.proofs.BatchLaws.{batch_again}
use Rattle.store_state.specs.State.{Record, there_or_broken, true_or_broken, has_record, is_reached, tree_after, last_reached, StoredBody, stored_body, and_payload, settled_batch, is_in, tips_of, header_file, body_file, coin_file, first_key, records_of, each_of, each_passes, first_rules}
use Rattle.store_state.specs.Breaks.{UnknownBody, UnknownTip, RefusedHeader, Unreached}
use Rattle.store_state.proofs.ReadingSteps.{goes_on, stops, one_record, two_records, one_each, more_each, first_fails, later_fails, one_passes, stops_in_batches, no_headers, no_bodies, stops_in_tree, stops_in_bodies}
use Rattle.store_state.specs.SmallImages.{HasLogs, IsBrokenAt, place_at, batch_at, payload_at}
use Rattle.chain_model.specs.SmallTrees.{IsChild, tree_of_one}
use Rattle.chain_model.proofs.Hashes.{get_other}
use Rattle.chain_model.proofs.Trees.{genesis_known}
use Rattle.chain_model.proofs.SmallTrees.{known_of_one, reaches_one, path_of_one}
use Rattle.store_state.proofs.OneHeader.{reads_tree, one_grown, reads_headers}
use Rattle.store_state.proofs.BrokenImages.{read_batch}

-- ---- hashes that aren't in the tree

unknown_hash : (given : Rules) (hash : Hash32) → (hash ≡ genesis_hash → ⊥) → is_in (first_tree given) hash ≡ false
unknown_hash given hash apart = ap (λ (o : Option Header). is_some o) (get_other empty genesis_hash genesis hash apart ∙ get-empty hash_cmp hash)

pub known_genesis : (given : Rules) → is_in (first_tree given) genesis_hash ≡ true
known_genesis given = ap (λ (o : Option Header). is_some o) genesis_known

-- the tips of a batch, or the hash of a body, are in the tree
abbrev pub knows_tips : Tree → Batch → Bool
knows_tips tree batch = list_all (is_in tree) (tips_of batch.marker)

abbrev pub knows_body : Tree → StoredBody → Bool
knows_body tree body = is_in tree body.hash

pub reads_batch : (tip : Hash32) (rows : List Row) → BatchFits (batch_at tip rows) → read_batch (payload_at tip rows) ≡ Some (batch_at tip rows)
reads_batch tip rows fits = ap settled_batch (batch_again first_key (batch_at tip rows) fits)

-- a tip that is known, or not
pub tip_known : (is : Hash32 → Bool) (tip : Hash32) (known : Bool) → is tip ≡ known → list_all is (tip ∷ []) ≡ known
tip_known is tip true e = ap (λ (b : Bool). b && true) e
tip_known is tip false e = ap (λ (b : Bool). b && true) e

-- a file of coins with one batch, after a hash that isn't in the tree
pub unknown_tip : (limit : ℕ) (given : Rules) (image : Image) (tip : Hash32) (rows : List Row) → (tip ≡ genesis_hash → ⊥) → BatchFits (batch_at tip rows)
    → log (image header_file) ≡ Ok [] → log (image body_file) ≡ Ok [] → log (image coin_file) ≡ Ok (payload_at tip rows ∷ [])
    → IsBrokenAt limit given image coin_file 0
unknown_tip limit given image tip rows apart fits headers bodies coins =
    let tree = no_headers limit given image headers in
    let fails : knows_tips (first_tree given) (batch_at tip rows) ≡ false = tip_known (is_in (first_tree given)) tip false (unknown_hash given tip apart) in (
      stops_in_batches limit given image (first_tree given) [] (place_at coin_file 0) tree (no_bodies (first_tree given) image bodies)
          (goes_on (records_of image coin_file) _ ((0, payload_at tip rows) ∷ []) (one_record image coin_file (payload_at tip rows) coins)
          ∙ goes_on (each_of coin_file read_batch ((0, payload_at tip rows) ∷ [])) _ ((0, batch_at tip rows) ∷ [])
          (one_each coin_file read_batch 0 (payload_at tip rows) (batch_at tip rows) (reads_batch tip rows fits))
          ∙ stops (each_passes coin_file (knows_tips (first_tree given)) ((0, batch_at tip rows) ∷ [])) _ (place_at coin_file 0)
          (first_fails coin_file (knows_tips (first_tree given)) (0, batch_at tip rows) [] fails)),
      UnknownTip [] [] 0 (payload_at tip rows) (first_tree given) (batch_at tip rows) (one_record image coin_file (payload_at tip rows) coins) tree (reads_batch tip rows fits) fails,
    )

-- a second batch after such a hash is broken at its own gate
pub unknown_second_tip : (limit : ℕ) (given : Rules) (image : Image) (tip : Hash32) (first rows : List Row) → (tip ≡ genesis_hash → ⊥)
    → BatchFits (batch_at genesis_hash first) → BatchFits (batch_at tip rows)
    → log (image header_file) ≡ Ok [] → log (image body_file) ≡ Ok [] → log (image coin_file) ≡ Ok (payload_at genesis_hash first ∷ payload_at tip rows ∷ [])
    → IsBrokenAt limit given image coin_file (5 + length (payload_at genesis_hash first))
unknown_second_tip limit given image tip first rows apart first_fits fits headers bodies coins =
    let n = 5 + length (payload_at genesis_hash first) in
    let tree = no_headers limit given image headers in
    let is = two_records image coin_file (payload_at genesis_hash first) (payload_at tip rows) coins in
    let fails : knows_tips (first_tree given) (batch_at tip rows) ≡ false = tip_known (is_in (first_tree given)) tip false (unknown_hash given tip apart) in
    let passes : knows_tips (first_tree given) (batch_at genesis_hash first) ≡ true = tip_known (is_in (first_tree given)) genesis_hash true (known_genesis given) in (
      stops_in_batches limit given image (first_tree given) [] (place_at coin_file n) tree (no_bodies (first_tree given) image bodies)
          (goes_on (records_of image coin_file) _ ((0, payload_at genesis_hash first) ∷ (n, payload_at tip rows) ∷ []) is
          ∙ goes_on (each_of coin_file read_batch ((0, payload_at genesis_hash first) ∷ (n, payload_at tip rows) ∷ [])) _ ((0, batch_at genesis_hash first) ∷ (n, batch_at tip rows) ∷ [])
          (more_each coin_file read_batch 0 (payload_at genesis_hash first) ((n, payload_at tip rows) ∷ []) (batch_at genesis_hash first) ((n, batch_at tip rows) ∷ []) (reads_batch genesis_hash first first_fits)
          (one_each coin_file read_batch n (payload_at tip rows) (batch_at tip rows) (reads_batch tip rows fits)))
          ∙ stops (each_passes coin_file (knows_tips (first_tree given)) ((0, batch_at genesis_hash first) ∷ (n, batch_at tip rows) ∷ [])) _ (place_at coin_file n)
          (later_fails coin_file (knows_tips (first_tree given)) (0, batch_at genesis_hash first) ((n, batch_at tip rows) ∷ []) (place_at coin_file n) passes
          (first_fails coin_file (knows_tips (first_tree given)) (n, batch_at tip rows) [] fails))),
      UnknownTip ((0, payload_at genesis_hash first) ∷ []) [] n (payload_at tip rows) (first_tree given) (batch_at tip rows) is tree (reads_batch tip rows fits) fails,
    )

-- a file of bodies with one body, whose hash isn't in the tree
pub unknown_body : (limit : ℕ) (given : Rules) (image : Image) (hash : Hash32) (block : Block) → (hash ≡ genesis_hash → ⊥) → HashFits hash
    → log (image header_file) ≡ Ok [] → log (image body_file) ≡ Ok (body_text hash block ∷ [])
    → IsBrokenAt limit given image body_file 0
unknown_body limit given image hash block apart fits headers bodies =
    let payload = body_text hash block in
    let body : StoredBody = record { hash = hash; payload = payload } in
    let tree = no_headers limit given image headers in
    let is = one_record image body_file payload bodies in
    let reads : stored_body payload ≡ Some body = ap (and_payload payload) (hash_again hash block fits) in
    let fails = unknown_hash given hash apart in (
      stops_in_bodies limit given image (first_tree given) (place_at body_file 0) tree
          (goes_on (records_of image body_file) _ ((0, payload) ∷ []) is
          ∙ goes_on (each_of body_file stored_body ((0, payload) ∷ [])) _ ((0, body) ∷ []) (one_each body_file stored_body 0 payload body reads)
          ∙ stops (each_passes body_file (knows_body (first_tree given)) ((0, body) ∷ [])) _ (place_at body_file 0)
          (first_fails body_file (knows_body (first_tree given)) (0, body) [] fails)),
      UnknownBody [] [] 0 payload (first_tree given) body is tree reads fails,
    )

-- ---- a header that is refused

breaks_first : {R : Type 0} (b : Bool) (rule : R) (rules : List (Bool × R)) → b ≡ true → first_broken ((b, rule) ∷ rules) ≡ Some rule
unfolding first_broken
breaks_first b rule rules e = ap (λ (x : Bool). cond x (Some rule) (first_broken rules)) e

known_again : (limit : ℕ) (tree : Tree) (header : Header) → get tree.headers (hash_of_header header) ≡ Some header → header_broken limit tree header ≡ Some Known
unfolding header_broken
known_again limit tree header is = breaks_first (is_some (get tree.headers (hash_of_header header))) Known _ (ap (λ (o : Option Header). is_some o) is)

refused_again : (limit : ℕ) (tree : Tree) (header : Header) → get tree.headers (hash_of_header header) ≡ Some header → tree_with limit tree (header ∷ []) ≡ None
unfolding tree_with
refused_again limit tree header is = ap (λ (o : Option HeaderRefused). and_then (and_header o tree header) (λ next. Some next)) (known_again limit tree header is)

headers_long : (header : Header) → HeaderFits header → 5 + length (headers_text (header ∷ [])) ≡ 85
headers_long header fits = let n = length-headers (header ∷ []) (length-header header fits.prev fits.root, tt) in omega (arith, n)

-- a header that has a record already is refused at the gate of the second
pub header_twice : (limit : ℕ) (given : Rules) (image : Image) (header : Header) → HeaderFits header → IsChild limit (first_tree first_rules) genesis_hash header
    → log (image header_file) ≡ Ok (headers_text (header ∷ []) ∷ headers_text (header ∷ []) ∷ [])
    → IsBrokenAt limit given image header_file 85
unfolding tree_after
header_twice limit given image header fits child is =
    let payload = headers_text (header ∷ []) in
    let tree = tree_of_one limit first_rules header child in
    let lists : List (Record (List Header)) = (0, header ∷ []) ∷ [] in
    let both : List (Record (List Header)) = (0, header ∷ []) ∷ (85, header ∷ []) ∷ [] in
    let reads = reads_headers limit given header fits child in
    let records : records_of image header_file ≡ Ok ((0, payload) ∷ (85, payload) ∷ []) =
    two_records image header_file payload payload is ∙ ap (λ (at : ℕ). Ok ((0, payload) ∷ (at, payload) ∷ [])) (headers_long header fits) in
    let first : tree_after limit (first_tree first_rules) lists ≡ Ok tree = goes_on (there_or_broken header_file 0 (tree_with limit (first_tree first_rules) (header ∷ []))) _ tree (ap (there_or_broken header_file 0) (one_grown limit given header fits child)) in
    let refused = refused_again limit tree header (known_of_one limit first_rules header child) in (
      stops_in_tree limit given image (place_at header_file 85)
          (goes_on (records_of image header_file) _ ((0, payload) ∷ (85, payload) ∷ []) records
          ∙ goes_on (each_of header_file headers_of ((0, payload) ∷ (85, payload) ∷ [])) _ both
          (more_each header_file headers_of 0 payload ((85, payload) ∷ []) (header ∷ []) ((85, header ∷ []) ∷ []) reads (one_each header_file headers_of 85 payload (header ∷ []) reads))
          ∙ goes_on (there_or_broken header_file 0 (tree_with limit (first_tree first_rules) (header ∷ []))) _ tree (ap (there_or_broken header_file 0) (one_grown limit given header fits child))
          ∙ stops (there_or_broken header_file 85 (tree_with limit tree (header ∷ []))) _ (place_at header_file 85) (ap (there_or_broken header_file 85) refused)),
      RefusedHeader ((0, payload) ∷ []) [] 85 payload lists tree (header ∷ []) records (one_each header_file headers_of 0 payload (header ∷ []) reads) first reads refused,
    )

-- ---- a body that isn't there

-- a batch at a header of the tree whose body has no record
pub unreached_tip : (limit : ℕ) (given : Rules) (image : Image) (header : Header) (rows : List Row) → HeaderFits header → (child : IsChild limit (first_tree first_rules) genesis_hash header)
    → BatchFits (batch_at (hash_of_header header) rows)
    → HasLogs image (headers_text (header ∷ []) ∷ []) [] (payload_at (hash_of_header header) rows ∷ [])
    → IsBrokenAt limit given image coin_file 0
unfolding last_reached
unreached_tip limit given image header rows fits child batch_fits has =
    let tip = hash_of_header header in
    let tree = tree_of_one limit first_rules header child in
    let payload = payload_at tip rows in
    let batch = batch_at tip rows in
    let known : is_in tree tip ≡ true = ap (λ (o : Option Header). is_some o) (known_of_one limit first_rules header child) in
    let records = one_record image coin_file payload has.coins in
    let trees = reads_tree limit given header fits child image has.headers in
    let bodies = no_bodies tree image has.bodies in
    let reads = reads_batch tip rows batch_fits in
    let absent : is_reached tree [] genesis_hash tip ≡ false =
    ap (λ (b : Bool). b && list_all (has_record []) (path tree.headers genesis_hash tip)) (reaches_one limit first_rules header child)
    ∙ ap (λ (l : List Hash32). list_all (has_record []) l) (path_of_one limit first_rules header child) in
    let fails : list_all (is_reached tree [] genesis_hash) (tips_of batch.marker) ≡ false = tip_known (is_reached tree [] genesis_hash) tip false absent in
    let one : List (Record Batch) = (0, batch) ∷ [] in (
      stops_in_batches limit given image tree [] (place_at coin_file 0) trees bodies
          (goes_on (records_of image coin_file) _ ((0, payload) ∷ []) records
          ∙ goes_on (each_of coin_file read_batch ((0, payload) ∷ [])) _ one (one_each coin_file read_batch 0 payload batch reads)
          ∙ goes_on (each_passes coin_file (knows_tips tree) one) _ one (one_passes coin_file (knows_tips tree) (0, batch) (tip_known (is_in tree) tip true known))
          ∙ stops (last_reached tree [] genesis_hash one) _ (place_at coin_file 0) (ap (λ (b : Bool). true_or_broken coin_file 0 b one) fails)),
      Unreached [] 0 payload tree [] batch records trees bodies reads fails,
    )
