-- What an image stands for, step by step: records that are of their form, pass, or don't.
use Rattle.std.proofs.Common.{◌≡◌, ℕ, ◌+◌, Bool, true, false, List, [], ◌∷◌, length, Option, Some, None, Ok, Err, refl, ap, ◌∙◌, arith}
use Rattle.std.specs.FinMap.{empty}
use Rattle.disk_model.specs.Disk.{Image}
use Rattle.batch_log.specs.Records.{log}
use Rattle.base_types.specs.Views.{BrokenPlace}
use Rattle.base_types.specs.declared.program.Rules.{Rules}
use Rattle.chain_model.specs.Tree.{Tree}
use Rattle.block_codec.specs.Genesis.{genesis_hash}
use Rattle.chain_model.specs.HeaderRules.{first_tree}
use Rattle.coin_store.specs.Batches.{Batch}
use Rattle.store_state.specs.State.{Record, Read, ◌>>=◌, StoredBody, there_or_broken, true_or_broken, broken_at, gated, whole_log, records_of, each_of, each_passes, tree_after, last_reached, header_file, body_file, coin_file, read_tree, read_bodies, read_batches, read_store, chainstate_of}
use Rattle.store_state.specs.Roles.{Alone}

pub goes_on : {A B : Type 0} (r : Read A) (next : A → Read B) (a : A) → r ≡ Ok a → (r >>= next) ≡ next a
goes_on r next a e = ap (λ (x : Read _). x >>= next) e

pub stops : {A B : Type 0} (r : Read A) (next : A → Read B) (place : BrokenPlace) → r ≡ Err place → (r >>= next) ≡ Err place
stops r next place e = ap (λ (x : Read _). x >>= next) e

-- ---- records

pub records_are : (image : Image) (file : ℕ) (payloads : List (List ℕ)) → log (image file) ≡ Ok payloads → records_of image file ≡ Ok (gated 0 payloads)
records_are image file payloads e = ap (whole_log file) e

pub no_records : (image : Image) (file : ℕ) → log (image file) ≡ Ok [] → records_of image file ≡ Ok []
unfolding gated
no_records image file e = records_are image file [] e

pub one_record : (image : Image) (file : ℕ) (payload : List ℕ) → log (image file) ≡ Ok (payload ∷ []) → records_of image file ≡ Ok ((0, payload) ∷ [])
unfolding gated
one_record image file payload e = records_are image file (payload ∷ []) e

pub two_records : (image : Image) (file : ℕ) (first second : List ℕ) → log (image file) ≡ Ok (first ∷ second ∷ [])
    → records_of image file ≡ Ok ((0, first) ∷ (5 + length first, second) ∷ [])
unfolding gated
two_records image file first second e =
    records_are image file (first ∷ second ∷ []) e
    ∙ ap (λ (at : ℕ). Ok ((0, first) ∷ (at, second) ∷ [])) (from_zero (5 + length first))
  where
    from_zero : (n : ℕ) → 0 + n ≡ n
    from_zero n = omega arith

-- ---- records in their order

module _ {A : Type 0} (file : ℕ) (read : List ℕ → Option A) where
  pub none_each : each_of file read [] ≡ Ok []
  unfolding each_of
  none_each = refl

  pub more_each : (at : ℕ) (payload : List ℕ) (others : List (Record (List ℕ))) (a : A) (more : List (Record A))
      → read payload ≡ Some a → each_of file read others ≡ Ok more → each_of file read ((at, payload) ∷ others) ≡ Ok ((at, a) ∷ more)
  unfolding each_of
  more_each at payload others a more first rest =
      ap (λ (o : Option A). there_or_broken file at o >>= λ x. each_of file read others >>= λ xs. Ok ((at, x) ∷ xs)) first
      ∙ goes_on (each_of file read others) (λ xs. Ok ((at, a) ∷ xs)) more rest

  pub first_unread : (at : ℕ) (payload : List ℕ) (others : List (Record (List ℕ))) → read payload ≡ None → each_of file read ((at, payload) ∷ others) ≡ broken_at file at
  unfolding each_of
  first_unread at payload others none = ap (λ (o : Option A). there_or_broken file at o >>= λ x. each_of file read others >>= λ xs. Ok ((at, x) ∷ xs)) none

  pub one_each : (at : ℕ) (payload : List ℕ) (a : A) → read payload ≡ Some a → each_of file read ((at, payload) ∷ []) ≡ Ok ((at, a) ∷ [])
  one_each at payload a first = more_each at payload [] a [] first none_each

module _ {A : Type 0} (file : ℕ) (test : A → Bool) where
  pub none_passes : each_passes file test [] ≡ Ok []
  unfolding each_passes
  none_passes = refl

  pub more_pass : (one : Record A) (others more : List (Record A)) → test one.1 ≡ true → each_passes file test others ≡ Ok more
      → each_passes file test (one ∷ others) ≡ Ok (one ∷ more)
  unfolding each_passes
  more_pass one others more first rest =
      ap (λ (b : Bool). true_or_broken file one.0 b one >>= λ x. each_passes file test others >>= λ xs. Ok (x ∷ xs)) first
      ∙ goes_on (each_passes file test others) (λ xs. Ok (one ∷ xs)) more rest

  pub one_passes : (one : Record A) → test one.1 ≡ true → each_passes file test (one ∷ []) ≡ Ok (one ∷ [])
  one_passes one first = more_pass one [] [] first none_passes

  pub first_fails : (one : Record A) (others : List (Record A)) → test one.1 ≡ false → each_passes file test (one ∷ others) ≡ broken_at file one.0
  unfolding each_passes
  first_fails one others fails = ap (λ (b : Bool). true_or_broken file one.0 b one >>= λ x. each_passes file test others >>= λ xs. Ok (x ∷ xs)) fails

  pub later_fails : (one : Record A) (others : List (Record A)) (place : BrokenPlace) → test one.1 ≡ true → each_passes file test others ≡ Err place
      → each_passes file test (one ∷ others) ≡ Err place
  unfolding each_passes
  later_fails one others place first fails =
      ap (λ (b : Bool). true_or_broken file one.0 b one >>= λ x. each_passes file test others >>= λ xs. Ok (x ∷ xs)) first
      ∙ stops (each_passes file test others) (λ xs. Ok (one ∷ xs)) place fails

-- ---- files without records

pub no_headers : (limit : ℕ) (given : Rules) (image : Image) → log (image header_file) ≡ Ok [] → read_tree limit given image ≡ Ok (first_tree given)
unfolding each_of tree_after
no_headers limit given image none = goes_on (records_of image header_file) _ [] (no_records image header_file none)

pub no_bodies : (tree : Tree) (image : Image) → log (image body_file) ≡ Ok [] → read_bodies tree image ≡ Ok []
unfolding each_of each_passes
no_bodies tree image none = goes_on (records_of image body_file) _ [] (no_records image body_file none)

pub no_batches : (tree : Tree) (bodies : List StoredBody) (image : Image) → log (image coin_file) ≡ Ok [] → read_batches tree bodies image ≡ Ok []
unfolding each_of each_passes last_reached
no_batches tree bodies image none = goes_on (records_of image coin_file) _ [] (no_records image coin_file none)

-- ---- the store

module _ (limit : ℕ) (given : Rules) (image : Image) where
  pub store_is : (tree : Tree) (bodies : List StoredBody) (batches : List Batch)
      → read_tree limit given image ≡ Ok tree → read_bodies tree image ≡ Ok bodies → read_batches tree bodies image ≡ Ok batches
      → read_store limit given image ≡ Ok (record { tree = tree; bodies = bodies; active = chainstate_of genesis_hash empty batches; role = Alone })
  store_is tree bodies batches t b c = goes_on (read_tree limit given image) _ tree t ∙ goes_on (read_bodies tree image) _ bodies b ∙ goes_on (read_batches tree bodies image) _ batches c

  pub stops_in_tree : (place : BrokenPlace) → read_tree limit given image ≡ Err place → read_store limit given image ≡ Err place
  stops_in_tree place t = stops (read_tree limit given image) _ place t

  pub stops_in_bodies : (tree : Tree) (place : BrokenPlace) → read_tree limit given image ≡ Ok tree → read_bodies tree image ≡ Err place → read_store limit given image ≡ Err place
  stops_in_bodies tree place t b = goes_on (read_tree limit given image) _ tree t ∙ stops (read_bodies tree image) _ place b

  pub stops_in_batches : (tree : Tree) (bodies : List StoredBody) (place : BrokenPlace)
      → read_tree limit given image ≡ Ok tree → read_bodies tree image ≡ Ok bodies → read_batches tree bodies image ≡ Err place → read_store limit given image ≡ Err place
  stops_in_batches tree bodies place t b c =
      goes_on (read_tree limit given image) _ tree t ∙ goes_on (read_bodies tree image) _ bodies b ∙ stops (read_batches tree bodies image) _ place c
