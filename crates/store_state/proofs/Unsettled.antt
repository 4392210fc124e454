-- Which record counts where there are several, and images that aren't settled.
use Rattle.std.proofs.Common.{◌≡◌, ℕ, true, List, [], ◌∷◌, Some, Ok, refl, sym, ap, subst, ◌∙◌, arith}
use Rattle.std.specs.Prelude.{◌≢◌, AllPairs}
use Rattle.std.specs.Result.{result_ok}
use Rattle.std.specs.FinMap.{empty}
use Rattle.disk_model.specs.Disk.{Image}
use Rattle.base_types.specs.declared.program.Rules.{Rules}
use Rattle.chain_model.specs.Apply.{replayed}
use Rattle.chain_model.specs.Choice.{coins_at}
use Rattle.chain_model.specs.HeaderRules.{first_tree}
use Rattle.block_codec.specs.Genesis.{genesis_hash}
use Rattle.chain_model.specs.Tree.{first_headers, chain, chain_within}
use Rattle.coin_store.specs.Batches.{Row, Batch, BatchFits}
use Rattle.coin_store.specs.Places.{coins_after_rows}
use Rattle.store_state.specs.State.{Record, StoreState, StoredBody, blocks_in, choice_of, is_in, is_reached, coin_file, records_of, each_of, each_passes, last_reached, read_batches, state_of}
use Rattle.store_state.specs.Settled.{IsSettled}
use Rattle.store_state.proofs.BrokenImages.{read_batch}
use Rattle.store_state.proofs.BrokenReferences.{knows_tips, reads_batch, tip_known, known_genesis}
use Rattle.store_state.proofs.ReadingSteps.{goes_on, one_record, one_each, one_passes, no_headers, no_bodies, store_is}
use Rattle.store_state.proofs.OneBlock.{last_batch}
use Rattle.store_state.specs.SmallImages.{HasLogs, batch_at, payload_at}
use Rattle.store_state.specs.SmallStores.{store_with_rows}
use Rattle.chain_model.proofs.Hashes.{same_self}
use Rattle.chain_model.proofs.SmallTrees.{at_genesis}
use Rattle.chain_model.proofs.Trees.{one_member}

-- ---- not settled

abbrev Distinct : List StoredBody → Type 0
Distinct bodies = AllPairs (λ a b. a.hash ≢ b.hash) bodies

one_hash : (a b : StoredBody) → a.hash ≡ b.hash → Distinct (a ∷ b ∷ []) → ⊥
one_hash a b same all = all 0 1 a (omega arith) (omega arith) same

-- a store in which a hash has two records
pub twice_stored : (store : StoreState) (a b : StoredBody) → a.hash ≡ b.hash → store.bodies ≡ a ∷ b ∷ [] → IsSettled store → ⊥
twice_stored store a b same is settled = one_hash a b same (subst Distinct is settled.distinct)

chain_of_genesis : chain first_headers genesis_hash ≡ genesis_hash ∷ []
chain_of_genesis = ap (λ (n : ℕ). chain_within n first_headers genesis_hash) one_member ∙ at_genesis 0 first_headers

reached : (given : Rules) → is_reached (first_tree given) [] genesis_hash genesis_hash ≡ true
reached given = rw (chain_of_genesis, same_self genesis_hash) refl

-- an image with one batch at genesis stands for it, whatever its rows say
pub rows_at_genesis : (limit : ℕ) (given : Rules) (image : Image) (rows : List Row) → BatchFits (batch_at genesis_hash rows) → HasLogs image [] [] (payload_at genesis_hash rows ∷ [])
    → state_of limit given image ≡ Some (store_with_rows given rows)
rows_at_genesis limit given image rows fits has =
    let payload = payload_at genesis_hash rows in
    let batch = batch_at genesis_hash rows in
    let one : List (Record Batch) = (0, batch) ∷ [] in
    let reads : read_batches (first_tree given) [] image ≡ Ok (batch ∷ []) =
    goes_on (records_of image coin_file) _ ((0, payload) ∷ []) (one_record image coin_file payload has.coins)
    ∙ goes_on (each_of coin_file read_batch ((0, payload) ∷ [])) _ one (one_each coin_file read_batch 0 payload batch (reads_batch genesis_hash rows fits))
    ∙ goes_on (each_passes coin_file (knows_tips (first_tree given)) one) _ one (one_passes coin_file (knows_tips (first_tree given)) (0, batch) (tip_known (is_in (first_tree given)) genesis_hash true (known_genesis given)))
    ∙ goes_on (last_reached (first_tree given) [] genesis_hash one) _ one (last_batch (first_tree given) [] genesis_hash 0 batch (tip_known (is_reached (first_tree given) [] genesis_hash) genesis_hash true (reached given))) in
    ap result_ok (store_is limit given image (first_tree given) [] (batch ∷ []) (no_headers limit given image has.headers) (no_bodies (first_tree given) image has.bodies) reads)

replay : (given : Rules) (rows : List Row) → coins_at (choice_of (store_with_rows given rows) (store_with_rows given rows).active) genesis_hash ≡ Some empty
unfolding blocks_in replayed
replay given rows = rw (chain_of_genesis, same_self genesis_hash) refl

-- it isn't settled where they give a coin, since genesis gives none
pub coins_from_nowhere : (given : Rules) (rows : List Row) → coins_after_rows empty rows ≢ empty → IsSettled (store_with_rows given rows) → ⊥
coins_from_nowhere given rows some settled = let e = sym settled.rows ∙ replay given rows in some (cc)
