-- What is read of the logs, all together.
use Rattle.std.proofs.Common.{◌≡◌, ◌⊎◌, inl, inr, ⊎_elim, ◌∙◌, ℕ, List, Option, Ok, Err, refl, sym, subst}
use Rattle.disk_model.specs.Disk.{Image}
use Rattle.base_types.specs.declared.fault.StoreFault.{StoreFault}
use Rattle.base_types.specs.declared.fault.StoreFault.TheVariants.{NoMemory, DiskFailed, Damaged, Full, CacheFull}
use Rattle.batch_log.specs.Reading.{WhereDamaged}
use Rattle.block_store.specs.OpenStore.{OpenStore, Payloads, Holds}
use Rattle.block_store.specs.Opening.{DamagedAs, OpenCause}
use Rattle.chain_model.specs.Tree.{Tree}
use Rattle.chainstates.specs.Opening.{OpenFault, StopsIn, store_in, store_of}
use Rattle.chainstates.specs.Reading.{CheckCause, HasBodies, IsRefused, batches_in, bodies_in, tree_in}
use Rattle.coin_store.specs.Batches.{Batch}
use Rattle.coin_store.specs.Store.{texts}
use Rattle.store_state.specs.State.{Read, StoredBody, header_file, body_file, coin_file, first_key}
use Rattle.store_state.proofs.ReadingSteps.{goes_on, stops}

pub has_bodies : (contents : Option Image) (images : Image → Type 0) (store : OpenStore) (payloads : Payloads) → Holds contents images store payloads → HasBodies store payloads.bodies
has_bodies contents images store payloads holds = record { hashes = holds.hashes; places = holds.bodies.places }

module _ (limit : ℕ) (payloads : Payloads) (batches : List Batch) where
  pub tree_stops : (fault : StoreFault) → WhereDamaged (λ file at. (file ≡ header_file) × IsRefused limit payloads.headers at) fault → StopsIn limit payloads batches fault
  tree_stops (Damaged file at) refused = inl refused
  tree_stops NoMemory refused = tt
  tree_stops DiskFailed refused = tt
  tree_stops (Full file) refused = tt
  tree_stops CacheFull refused = tt

  reading_stops : (fault : StoreFault) → ((file at : ℕ) → fault ≡ Damaged file at → store_in limit payloads batches ≡ Err (record { file = file; at = at })) → StopsIn limit payloads batches fault
  reading_stops (Damaged file at) broken = inr (broken file at refl)
  reading_stops NoMemory broken = tt
  reading_stops DiskFailed broken = tt
  reading_stops (Full file) broken = tt
  reading_stops CacheFull broken = tt

  damaged_at : {A : Type 0} (read : Read A) (fault : StoreFault) (file at : ℕ) → DamagedAs read fault → fault ≡ Damaged file at → read ≡ Err (record { file = file; at = at })
  damaged_at read fault file at damaged is = subst (DamagedAs read) is damaged

  module _ (tree : Tree) (grown : tree_in limit payloads.headers ≡ Ok tree) where
    pub bodies_stop : (fault : StoreFault) → DamagedAs (bodies_in tree payloads.bodies) fault → StopsIn limit payloads batches fault
    bodies_stop fault damaged = reading_stops fault (λ file at is.
        goes_on (tree_in limit payloads.headers) _ tree grown
        ∙ stops (bodies_in tree payloads.bodies) _ (record { file = file; at = at }) (damaged_at (bodies_in tree payloads.bodies) fault file at damaged is))

    module _ (bodies : List StoredBody) (known : bodies_in tree payloads.bodies ≡ Ok bodies) where
      pub batches_stop : (fault : StoreFault) → DamagedAs (batches_in tree bodies (texts first_key batches)) fault → StopsIn limit payloads batches fault
      batches_stop fault damaged = reading_stops fault (λ file at is.
          goes_on (tree_in limit payloads.headers) _ tree grown
          ∙ goes_on (bodies_in tree payloads.bodies) _ bodies known
          ∙ stops (batches_in tree bodies (texts first_key batches)) _ (record { file = file; at = at }) (damaged_at (batches_in tree bodies (texts first_key batches)) fault file at damaged is))

      pub reads_all : batches_in tree bodies (texts first_key batches) ≡ Ok batches → store_in limit payloads batches ≡ Ok (store_of tree bodies batches)
      reads_all read =
          goes_on (tree_in limit payloads.headers) _ tree grown
          ∙ goes_on (bodies_in tree payloads.bodies) _ bodies known
          ∙ goes_on (batches_in tree bodies (texts first_key batches)) _ batches read

pub tree_fault : (before now : ℕ) (fault : StoreFault) → OpenCause before now fault → OpenFault before now fault
tree_fault before now NoMemory cause = tt
tree_fault before now DiskFailed cause = cause
tree_fault before now (Damaged file at) cause = ⊎_elim (λ headers. inl headers) (λ bodies. inr (inl bodies)) cause
tree_fault before now (Full file) cause = absurd cause
tree_fault before now CacheFull cause = absurd cause

pub check_fault : (file before now : ℕ) (fault : StoreFault) → (file ≡ header_file) ⊎ (file ≡ body_file) ⊎ (file ≡ coin_file) → CheckCause file fault → OpenFault before now fault
check_fault file before now NoMemory one_of cause = tt
check_fault file before now DiskFailed one_of cause = absurd cause
check_fault file before now (Damaged f at) one_of cause = subst (λ (n : ℕ). (n ≡ header_file) ⊎ (n ≡ body_file) ⊎ (n ≡ coin_file)) (sym cause) one_of
check_fault file before now (Full f) one_of cause = absurd cause
check_fault file before now CacheFull one_of cause = absurd cause
