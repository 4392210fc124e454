-- A log's bytes: records, each with an open gate, and then a closed gate.
use Rattle.std.specs.Prelude.{◌≡◌, ◌≢◌, ◌⊎◌, ⊤, ℕ, ◌+◌, ◌-◌, ◌<◌, ◌^◌, ◌==◌, nat_lt, nat_le, List, [], ◌∷◌, ◌++◌, length, take, drop, if◌then◌else◌, Option, Some, Result, Ok, Err, zero, suc}
use Rattle.std.specs.Int.{to_le_bytes, from_le_bytes, w32}
use Rattle.disk_model.specs.Disk.{Image}

-- what stands behind the gate of a payload
abbrev pub body : List ℕ → List ℕ
body payload = to_le_bytes w32 (length payload) ++ payload

-- the payload in a buffer that has room before it for its length, four bytes, and room behind it for the next gate
abbrev pub payload_in : List ℕ → List ℕ
payload_in framed = take (length framed - 5) (drop 4 framed)

-- the records of these payloads
abbrev pub records : List (List ℕ) → List ℕ
records [] = []
records (payload ∷ payloads) = (1 ∷ body payload) ++ records payloads

-- a payload before others, where these are known
abbrev pub onto : List ℕ → Result (List (List ℕ)) ℕ → Result (List (List ℕ)) ℕ
onto payload (Ok payloads) = Ok (payload ∷ payloads)
onto payload (Err gate) = Err gate

-- the length that stands behind a gate
abbrev pub length_at : List ℕ → ℕ
length_at rest = from_le_bytes w32 (take 4 rest)

-- the payloads from the gate on that is so many bytes on, or the damaged gate; the first byte has the offset
abbrev pub payloads_from : ℕ → ℕ → List ℕ → Result (List (List ℕ)) ℕ
payloads_from offset skip [] = Ok []
payloads_from offset (suc skip) (byte ∷ rest) = payloads_from (offset + 1) skip rest
payloads_from offset zero (gate ∷ rest) =
    if gate == 1
    then (if nat_lt (4 + length_at rest) (length rest)
    then onto (take (length_at rest) (drop 4 rest)) (payloads_from (offset + 1) (4 + length_at rest) rest)
    else Err offset)
    else Ok []

-- what a log's bytes stand for: its payloads, or the offset of the gate where it is damaged
abbrev pub log : List ℕ → Result (List (List ℕ)) ℕ
log bytes = if nat_le (length bytes) 1 then Ok [] else payloads_from 0 0 bytes

-- the length of each can be written
abbrev pub AllFit : List (List ℕ) → Type 0
AllFit [] = ⊤
AllFit (payload ∷ payloads) = (length payload < 2 ^ 32) × AllFit payloads

-- the records of these payloads, a closed gate, and anything
pub record EndsClosed (payloads : List (List ℕ)) (bytes : List ℕ) : Type 0 where
  pub fit : AllFit payloads
  pub gate : ℕ
  pub rest : List ℕ
  pub closed : gate ≢ 1
  pub is : bytes ≡ records payloads ++ gate ∷ rest

-- the records of these payloads, and anything
pub record StartsWith (payloads : List (List ℕ)) (bytes : List ℕ) : Type 0 where
  pub rest : List ℕ
  pub is : bytes ≡ records payloads ++ rest

-- without the payload or with it
abbrev pub WithOrWithout : List (List ℕ) → List ℕ → List ℕ → List ℕ → Type 0
WithOrWithout payloads payload before after = EndsClosed payloads after ⊎ EndsClosed (payloads ++ payload ∷ []) after

-- the file stands for the same payloads
abbrev pub SameLog : List ℕ → List ℕ → Type 0
SameLog before after = log after ≡ log before

-- a file of the disk is a log of these payloads, as it reads and after each crash
pub record HoldsLog (contents : Option Image) (left : Image → Type 0) (file : ℕ) (payloads : List (List ℕ)) : Type 0 where
  pub image : Image
  pub told : contents ≡ Some image
  pub reads : EndsClosed payloads (image file)
  pub outcomes : (c : Image) → left c → EndsClosed payloads (c file)
