-- What an index is: from each of its buckets a chain of slots leads through the values of a pool, and the chains have the slot of each key.
use Rattle.std.specs.Prelude.{◌≡◌, ℕ, List, [], ◌∷◌, map, length, get_or, replicate, Option, Some, None, vec_len}
use Rattle.std.specs.Ordering.{nat_cmp}
use Rattle.std.specs.FinMap.{FinMap, get}
use Rattle.slot_pool.specs.Slots.{first_or, IsIn, IsDistinct}
use Rattle.base_types.specs.Keys.{outpoint_cmp}
use Rattle.base_types.specs.declared.hash.OutPoint.{OutPoint}
use Rattle.base_types.specs.declared.program.Salt.{Salt}
use Rattle.coin_index.specs.declared.index.Index.{Index}
use Rattle.coin_index.specs.Hash.{bucket_of}

-- how many buckets an index has
abbrev pub bucket_count : Index → ℕ
bucket_count i = vec_len i.buckets

-- the salt of its hash
abbrev pub salt_of : Index → Salt
salt_of i = i.salt

-- an index without buckets, which over every pool finds nothing
abbrev pub IsNew : Index → Salt → Type 0
IsNew i salt = (i.buckets.items ≡ []) × (i.salt ≡ salt)

-- an index with so many buckets, which are empty: over every pool it finds nothing
abbrev pub HasEmptyBuckets : Index → ℕ → Type 0
HasEmptyBuckets i count = i.buckets.items ≡ replicate count None

module _ {T : Type 0} (key : T → OutPoint) (chain : T → Option ℕ) (m : FinMap nat_cmp T) where
  -- each slot holds a value whose link names the next
  abbrev pub AreChained : List ℕ → Type 0
  AreChained [] = Unit {0}
  AreChained (s ∷ ss) = (x : T) × (get m s ≡ Some x) × (chain x ≡ first_or None ss) × AreChained ss

  -- over a pool with these values, i finds these slots
  pub record IsIndex (i : Index) (found : FinMap outpoint_cmp ℕ) : Type 0 where
    -- the slots of each bucket
    pub chains : List (List ℕ)
    pub heads : i.buckets.items ≡ map (first_or None) chains
    pub chained : (b : ℕ) → AreChained (get_or chains b [])
    pub distinct : (b : ℕ) → IsDistinct (get_or chains b [])
    -- a slot stands in the bucket of its key, and is found by it
    pub listed : (b s : ℕ) → IsIn s (get_or chains b []) → (x : T) × (get m s ≡ Some x) × (bucket_of i.salt (length chains) (key x) ≡ b) × (get found (key x) ≡ Some s)
    -- what is found stands in its bucket
    pub present : (k : OutPoint) (s : ℕ) → get found k ≡ Some s → IsIn s (get_or chains (bucket_of i.salt (length chains) k) []) × ((x : T) × (get m s ≡ Some x) × (key x ≡ k))
