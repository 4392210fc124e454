-- What contracts see of an open store, and what it says of its two files.
use Rattle.std.specs.Prelude.{◌≡◌, ℕ, All, IsTrue, List, [], ◌∷◌, ◌++◌, length, map, Option, Some}
use Rattle.disk_model.specs.Disk.{Image}
use Rattle.base_types.specs.declared.hash.Hash32.{Hash32}
use Rattle.batch_log.specs.OpenLog.{OpenLog, Stands, Unchanged}
use Rattle.block_store.specs.Headers.{is_headers_length}
use Rattle.block_store.specs.Bodies.{body_hash}

-- the payloads of headers and of bodies, in the order of their files
pub record Payloads : Type 0 where
  pub headers : List (List ℕ)
  pub bodies : List (List ℕ)

-- one payload of headers more
abbrev pub with_headers : Payloads → List ℕ → Payloads
with_headers payloads payload = record payloads { headers = payloads.headers ++ payload ∷ [] }

-- one body more
abbrev pub with_body : Payloads → List ℕ → Payloads
with_body payloads payload = record payloads { bodies = payloads.bodies ++ payload ∷ [] }

-- the logs of headers and of bodies, and the hash that each body carries
pub record OpenStore : Type 0 where
  pub headers : OpenLog
  pub bodies : OpenLog
  pub hashes : List Hash32

-- both logs stand for these payloads, as the disk reads and after each crash; each payload of headers has a right
-- length, and the hashes are those that the bodies carry
pub record Holds (contents : Option Image) (left : Image → Type 0) (store : OpenStore) (payloads : Payloads) : Type 0 where
  pub header_file : store.headers.file ≡ 1
  pub body_file : store.bodies.file ≡ 2
  pub headers : Stands contents left store.headers payloads.headers
  pub bodies : Stands contents left store.bodies payloads.bodies
  pub lengths : All (λ payload. IsTrue (is_headers_length (length payload))) payloads.headers
  pub hashes : map body_hash payloads.bodies ≡ map Some store.hashes

-- no payload was added, and no room was lost
pub record SameStore (old new : OpenStore) : Type 0 where
  pub headers : Unchanged old.headers new.headers
  pub bodies : Unchanged old.bodies new.bodies
  pub hashes : new.hashes ≡ old.hashes
