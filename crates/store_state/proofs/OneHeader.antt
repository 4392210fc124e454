-- Images of one header, and of one block that was flushed: what they stand for, and that they are settled.
use Rattle.std.proofs.Common.{◌≡◌, ℕ, true, [], ◌∷◌, Option, Some, Ok, refl, ap, ◌∙◌, arith}
use Rattle.std.specs.Prelude.{is_some}
use Rattle.std.specs.Result.{result_ok}
use Rattle.std.proofs.lemmas.List.Elements.{All-nil, All-cons}
use Rattle.std.specs.FinMap.{empty}
use Rattle.disk_model.specs.Disk.{Image}
use Rattle.batch_log.specs.Records.{log}
use Rattle.base_types.specs.declared.hash.Hash32.{Hash32}
use Rattle.base_types.specs.declared.program.Rules.{Rules}
use Rattle.base_types.specs.declared.refused.HeaderRefused.{HeaderRefused}
use Rattle.block_codec.specs.declared.block.Header.{Header}
use Rattle.block_codec.specs.Fitting.{HeaderFits}
use Rattle.block_store.specs.Headers.{headers_text, headers_of}
use Rattle.block_store.proofs.PayloadLaws.{headers_again}
use Rattle.chain_model.specs.Apply.{replayed}
use Rattle.chain_model.specs.Choice.{coins_at, is_valid}
use Rattle.chain_model.specs.HeaderRules.{first_tree, tree_with, and_header, and_then}
use Rattle.chain_model.specs.Tree.{Tree}
use Rattle.block_codec.specs.Genesis.{genesis_hash}
use Rattle.store_state.specs.State.{◌>>=◌, blocks_in, header_file, there_or_broken, records_of, each_of, tree_after, read_tree, choice_of, first_rules}
use Rattle.store_state.proofs.ReadingSteps.{goes_on, one_record, one_each, no_bodies, no_batches, store_is}
use Rattle.store_state.specs.SmallImages.{HasLogs, StandsSettled}
use Rattle.store_state.specs.SmallStores.{store_of_header}
use Rattle.chain_model.specs.SmallTrees.{IsChild, tree_of_one}
use Rattle.chain_model.proofs.Hashes.{same_self}
use Rattle.chain_model.proofs.SmallTrees.{genesis_in_one}

-- ---- one header

module _ (limit : ℕ) (given : Rules) (header : Header) (fits : HeaderFits header) (child : IsChild limit (first_tree first_rules) genesis_hash header) where
  pub one_grown : tree_with limit (first_tree first_rules) (header ∷ []) ≡ Some (tree_of_one limit first_rules header child)
  unfolding tree_with
  one_grown = ap (λ (o : Option HeaderRefused). and_then (and_header o (first_tree first_rules) header) (λ next. Some next)) child.accepted

  pub reads_headers : headers_of (headers_text (header ∷ [])) ≡ Some (header ∷ [])
  reads_headers = headers_again (header ∷ []) (omega arith) (omega arith) (fits, tt)

  -- the tree of a file with this header
  pub reads_tree : (image : Image) → log (image header_file) ≡ Ok (headers_text (header ∷ []) ∷ []) → read_tree limit given image ≡ Ok (tree_of_one limit first_rules header child)
  unfolding tree_after
  reads_tree image is =
      let payload = headers_text (header ∷ []) in
      goes_on (records_of image header_file) _ ((0, payload) ∷ []) (one_record image header_file payload is)
      ∙ goes_on (each_of header_file headers_of ((0, payload) ∷ [])) _ ((0, header ∷ []) ∷ [])
      (one_each header_file headers_of 0 payload (header ∷ []) reads_headers)
      ∙ ap (λ (o : Option Tree). there_or_broken header_file 0 o >>= λ next. tree_after limit next []) one_grown

  no_replay : coins_at (choice_of (store_of_header first_rules header) (store_of_header first_rules header).active) genesis_hash ≡ Some empty
  unfolding blocks_in replayed
  no_replay = rw (genesis_in_one limit first_rules header child, same_self genesis_hash) refl

  -- such an image stands for the tree of genesis and the header, at genesis
  pub one_header_stands : (image : Image) → HasLogs image (headers_text (header ∷ []) ∷ []) [] [] → StandsSettled limit given image (store_of_header first_rules header)
  one_header_stands image has =
      let tree = tree_of_one limit first_rules header child in
      let Valid : Hash32 → Type 0 = λ tip. is_valid (choice_of (store_of_header first_rules header) (store_of_header first_rules header).active) tip ≡ true in record {
        stands_for = ap result_ok (store_is limit given image tree [] [] (reads_tree image has.headers) (no_bodies tree image has.bodies) (no_batches tree [] image has.coins));
        settled = record {
          bodies = All-nil _;
          distinct = λ i j d low high. absurd (omega arith);
          tips = All-cons Valid genesis_hash [] (ap is_some no_replay) (All-nil Valid);
          rows = no_replay;
        };
      }
