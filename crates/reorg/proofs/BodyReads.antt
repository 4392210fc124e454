-- A stored block is read back whole, and its transactions can be applied to coins.
use Rattle.std.proofs.Common.{◌≡◌, ℕ, false, List, Option, Some, None, Result, Ok, Err, inl, sym, ap, ◌∙◌}
use Rattle.std.specs.Prelude.{All, MatchResult, slice_get}
use Rattle.std.specs.FinMap.{empty, get}
use Rattle.std.specs.List.{list_any}
use Rattle.std.proofs.lemmas.Option.{none-some}
use Rattle.base_types.specs.declared.fault.StoreFault.{StoreFault}
use Rattle.base_types.specs.declared.fault.StoreFault.TheVariants.{NoMemory, DiskFailed, Damaged, Full, CacheFull}
use Rattle.base_types.specs.declared.hash.Hash32.{Hash32}
use Rattle.batch_log.specs.Reading.{OnDamaged}
use Rattle.block_checks.specs.Unpayable.{is_unpayable}
use Rattle.block_checks.proofs.PayableTxs.{none_unpayable}
use Rattle.block_codec.specs.declared.block.Block.{Block}
use Rattle.block_store.specs.Bodies.{body_of}
use Rattle.block_store.specs.Index.{last_place}
use Rattle.block_store.specs.OpenStore.{OpenStore}
use Rattle.block_store.specs.Reading.{FetchFault, NoDamage}
use Rattle.chain_model.specs.BodyRules.{place_below}
use Rattle.chain_model.proofs.Payable.{payable}
use Rattle.coin_store.specs.declared.store.CoinStore.{CoinStore}
use Rattle.disk_model.specs.Disk.{Image}
use Rattle.reorg.specs.Advancing.{AdvanceFails, IsBodyFault}
use Rattle.reorg.proofs.StoredBodies.{IsStored, stored_there}
use Rattle.store_state.specs.Settled.{IsBody}
use Rattle.store_state.specs.State.{StoreState, blocks_in, body_file}
use Rattle.store_writes.specs.OnDisk.{OnDisk}

-- ---- why one may not be read

pub read_fails : (before now : ℕ) (fault : StoreFault) → FetchFault body_file before now fault → AdvanceFails before now fault
read_fails before now NoMemory cause = tt
read_fails before now DiskFailed cause = cause
read_fails before now (Damaged file at) cause = inl cause
read_fails before now (Full file) cause = cause
read_fails before now CacheFull cause = cause

pub body_fails : (before now : ℕ) (fault : StoreFault) → IsBodyFault fault → AdvanceFails before now fault
body_fails before now NoMemory is = absurd is
body_fails before now DiskFailed is = absurd is
body_fails before now (Damaged file at) is = inl is
body_fails before now (Full file) is = is
body_fails before now CacheFull is = is

no_damage : (before now : ℕ) (fault : StoreFault) → FetchFault body_file before now fault → OnDamaged fault ⊥ → NoDamage fault
no_damage before now NoMemory cause never = tt
no_damage before now DiskFailed cause never = tt
no_damage before now (Damaged file at) cause never = never
no_damage before now (Full file) cause never = cause
no_damage before now CacheFull cause never = cause

never_damaged : (fault : StoreFault) (A : Type 0) → (A → ⊥) → OnDamaged fault A → OnDamaged fault ⊥
never_damaged NoMemory A not damaged = tt
never_damaged DiskFailed A not damaged = tt
never_damaged (Damaged file at) A not damaged = not damaged
never_damaged (Full file) A not damaged = tt
never_damaged CacheFull A not damaged = tt

-- ---- of an open store

module _ (limit : ℕ) (contents : Option Image) (images : Image → Type 0) (open_blocks : OpenStore) (open_coins : CoinStore) (store : StoreState)
    (on : OnDisk limit contents images open_blocks open_coins store) (all : All (IsBody store.tree) store.bodies) (hash : Hash32) (block : Block) (found : get (blocks_in empty store.bodies) hash ≡ Some block) where
  stored : IsStored limit contents images open_blocks open_coins store on hash block
  stored = stored_there limit contents images open_blocks open_coins store on all hash block found

  -- what is told of each payload that counts for the hash
  abbrev Reads_as : Result (Option Block) StoreFault → Type 0
  Reads_as result = (number : ℕ) (payload : List ℕ) → last_place open_blocks.hashes hash ≡ Some number → slice_get on.payloads.bodies number ≡ Some payload
      → MatchResult result (λ read. body_of payload ≡ read) (λ fault. OnDamaged fault (body_of payload ≡ None))

  pub is_read : (read : Option Block) → Reads_as (Ok read) → read ≡ Some block
  is_read read tells = sym (tells stored.number stored.payload stored.last stored.there) ∙ stored.is

  pub read_whole : (before now : ℕ) (fault : StoreFault) → FetchFault body_file before now fault → Reads_as (Err fault) → NoDamage fault
  read_whole before now fault cause tells =
      no_damage before now fault cause (never_damaged fault (body_of stored.payload ≡ None) (λ none. absurd (none-some block (sym none ∙ stored.is))) (tells stored.number stored.payload stored.last stored.there))

  pub pays : list_any is_unpayable block.txs ≡ false
  pays = none_unpayable block.txs (payable (place_below store.tree block.header.prev) block stored.meets)
