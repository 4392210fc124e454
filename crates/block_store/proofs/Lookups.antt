-- Which place has a number.
use Rattle.std.proofs.Common.{◌≡◌, ◌≤◌, ℕ, List, length, get_or, Option, Some, None, sym, ap, ◌∙◌, arith}
use Rattle.std.specs.Prelude.{All, Contains, slice_get, IfErr, IfSome, IsSomeAnd, Result, Ok, Err}
use Rattle.std.proofs.lemmas.Option.{get_or_from_slice_get, slice_get_within, slice_get-get_or, slice_get_past}
use Rattle.base_types.specs.declared.fault.StoreFault.{StoreFault}
use Rattle.base_types.specs.declared.fault.StoreFault.TheVariants.{NoMemory, DiskFailed, Damaged, Full, CacheFull}
use Rattle.base_types.specs.declared.hash.Hash32.{Hash32}
use Rattle.batch_log.specs.OpenLog.{places_of}
use Rattle.batch_log.specs.declared.places.Place.{Place}
use Rattle.block_store.specs.Index.{last_place}
use Rattle.block_store.specs.Reading.{FetchCause, FetchFault}
use Rattle.block_store.proofs.IndexLaws.{last_is}
use Rattle.block_store.proofs.HashSteps.{as_many, of_each}

one_place : (p q : Place) → Some p ≡ Some q → p ≡ q
one_place p q e = cc

nothing : (p : Place) → None ≡ Some p → ⊥
nothing p e = cc

pub same_place : (places : List Place) (i : ℕ) (p q : Place) → slice_get places i ≡ Some p → slice_get places i ≡ Some q → p ≡ q
same_place places i p q a b = one_place p q (sym a ∙ b)

pub listed : (places : List Place) (i : ℕ) (p : Place) → slice_get places i ≡ Some p → Contains places p
listed places i p e = (i, slice_get_within places i p e, get_or_from_slice_get places i p p e)

-- a place past the end is none
pub past_end : (places : List Place) (i : ℕ) (p : Place) → length places ≤ i → slice_get places i ≡ Some p → ⊥
past_end places i p past e = nothing p (sym (slice_get_past places i past) ∙ e)

-- each payload has a place
pub has_place : (places : List Place) (payloads : List (List ℕ)) (i : ℕ) (payload : List ℕ) → places ≡ places_of 0 payloads → slice_get payloads i ≡ Some payload → slice_get places i ≡ None → ⊥
has_place places payloads i payload is here none =
    let within = slice_get_within payloads i payload here in
    let many : length places ≡ length payloads = ap length is ∙ as_many 0 payloads in
    let d : Place = record { at = 0; len = 0 } in
    nothing (get_or places i d) (sym none ∙ slice_get-get_or places i d (omega arith))

-- so has the last body of a hash
pub last_there : (hashes : List Hash32) (places : List Place) (hash : Hash32) (n : ℕ) (found : Option Place) → length hashes ≡ length places → last_place hashes hash ≡ Some n → found ≡ slice_get places n
    → IsSomeAnd found (λ p. slice_get places n ≡ Some p)
last_there hashes places hash n None same last is =
    let within = slice_get_within hashes n hash (last_is hashes hash n last) in
    let d : Place = record { at = 0; len = 0 } in
    absurd (nothing (get_or places n d) (is ∙ slice_get-get_or places n d (omega arith)))
last_there hashes places hash n (Some p) same last is = sym is

pub one_number : (m n : ℕ) → Some m ≡ Some n → m ≡ n
one_number m n e = cc

-- a place that is found is listed, and long enough
pub found_listed : (places : List Place) (n : ℕ) (found : Option Place) → found ≡ slice_get places n → All (λ (p : Place). 32 ≤ p.len) places → IfSome found (λ p. Contains places p × (32 ≤ p.len))
found_listed places n None is all = tt
found_listed places n (Some p) is all = (listed places n p (sym is), of_each (λ (q : Place). 32 ≤ q.len) places n p all (sym is))

-- why a record may not be read, wherever it lies
fault_of : (file gate before now : ℕ) (fault : StoreFault) → FetchCause file gate before now fault → FetchFault file before now fault
fault_of file gate before now NoMemory cause = tt
fault_of file gate before now DiskFailed cause = cause
fault_of file gate before now (Damaged f at) cause = cause.0
fault_of file gate before now (Full f) cause = absurd cause
fault_of file gate before now CacheFull cause = absurd cause

pub fault_found : {T : Type 0} (file gate before now : ℕ) (result : Result T StoreFault) → IfErr result (FetchCause file gate before now) → IfErr result (FetchFault file before now)
fault_found file gate before now (Ok value) cause = tt
fault_found file gate before now (Err fault) cause = fault_of file gate before now fault cause
