-- The definitions computed on small cases.
use Rattle.std.specs.Prelude.{◌≡◌, ℕ, true, false, List, [], ◌∷◌, ◌++◌, ◌==◌, replicate, Some, None, Result, Ok, Err, refl, pos, if◌then◌else◌}
use Rattle.disk_model.specs.Disk.{Image}
use Rattle.base_types.specs.Reading.{compact_at, length_at}
use Rattle.base_types.specs.Codec.{many_at}
use Rattle.base_types.specs.Views.{BrokenPlace}
use Rattle.base_types.specs.declared.hash.Hash32.{Hash32}
use Rattle.block_codec.specs.declared.block.Header.{Header}
use Rattle.block_codec.specs.Text.{zero_hash}
use Rattle.block_codec.specs.Reading.{header_at, block_at, block_of}
use Rattle.block_store.specs.Headers.{is_headers_length, headers_of}
use Rattle.block_store.specs.Bodies.{body_hash, body_of}
use Rattle.block_store.specs.Index.{last_place}
use Rattle.block_store.specs.OpenStore.{Payloads}
use Rattle.block_store.specs.Opening.{stored_payloads}

-- ---- payloads

-- a header of zeros
abbrev zero_header : Header
zero_header = record { version = pos 0; prev = zero_hash; root = zero_hash; time = 0; bits = 0; nonce = 0 }

pub two_headers : headers_of (replicate 160 0) ≡ Some (zero_header ∷ zero_header ∷ [])
unfolding many_at header_at
two_headers = refl

pub a_byte_short : headers_of (replicate 79 0) ≡ None
a_byte_short = refl

pub a_byte_more : headers_of (replicate 81 0) ≡ None
a_byte_more = refl

pub no_headers : headers_of [] ≡ None
no_headers = refl

pub a_thousand : is_headers_length 80000 ≡ true
a_thousand = refl

pub one_too_many : is_headers_length 80080 ≡ false
one_too_many = refl

abbrev hash_of_byte : ℕ → Hash32
hash_of_byte b = record { bytes = replicate 32 b }

pub carries_a_hash : body_hash (replicate 32 7 ++ 1 ∷ []) ≡ Some (hash_of_byte 7)
carries_a_hash = refl

pub no_hash : body_hash (replicate 31 7) ≡ None
no_hash = refl

-- a block without a transaction, behind its hash
pub a_block : body_of (replicate 32 7 ++ replicate 81 0) ≡ Some (record { header = zero_header; txs = [] })
unfolding block_of block_at header_at length_at compact_at many_at
a_block = refl

pub half_a_block : body_of (replicate 32 7 ++ replicate 80 0) ≡ None
unfolding block_of block_at header_at length_at compact_at many_at
half_a_block = refl

-- ---- the last body of a hash

pub the_last_counts : last_place (hash_of_byte 1 ∷ hash_of_byte 2 ∷ hash_of_byte 1 ∷ []) (hash_of_byte 1) ≡ Some 2
the_last_counts = refl

pub not_there : last_place (hash_of_byte 1 ∷ hash_of_byte 2 ∷ []) (hash_of_byte 3) ≡ None
not_there = refl

-- ---- what opening finds

abbrev two_files : List ℕ → List ℕ → Image
two_files headers bodies f = if f == 1 then headers else if f == 2 then bodies else []

-- a record of n zeros, below 256
abbrev zeros : ℕ → List ℕ
zeros n = (1 ∷ n ∷ 0 ∷ 0 ∷ 0 ∷ []) ++ replicate n 0

abbrev broken : ℕ → ℕ → Result Payloads BrokenPlace
broken file at = Err (record { file = file; at = at })

pub one_of_each : stored_payloads (two_files (zeros 80 ++ 0 ∷ []) (zeros 32 ++ 0 ∷ [])) ≡ Ok (record { headers = replicate 80 0 ∷ []; bodies = replicate 32 0 ∷ [] })
one_of_each = refl

pub no_files : stored_payloads (two_files [] []) ≡ Ok (record { headers = []; bodies = [] })
no_files = refl

-- the second header record is wrong, and so is the first body
pub headers_first : stored_payloads (two_files (zeros 80 ++ zeros 79 ++ 0 ∷ []) (zeros 31 ++ 0 ∷ [])) ≡ broken 1 85
headers_first = refl

pub short_body : stored_payloads (two_files [] (zeros 33 ++ zeros 31 ++ 0 ∷ [])) ≡ broken 2 38
short_body = refl

pub no_closing_gate : stored_payloads (two_files [] (zeros 33)) ≡ broken 2 0
no_closing_gate = refl
