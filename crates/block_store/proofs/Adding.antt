-- A store with one payload more.
use Rattle.std.proofs.Common.{◌≡◌, ◌≢◌, ◌≤◌, ℕ, List, [], ◌∷◌, ◌++◌, length, map, Option, Some, sym, ap, subst, ◌∙◌, arith, length-append}
use Rattle.std.specs.Prelude.{All, IsTrue}
use Rattle.std.proofs.lemmas.List.{map-append}
use Rattle.std.proofs.lemmas.List.Elements.{All-push}
use Rattle.disk_model.specs.Disk.{Image, At, Leaves, OthersKept}
use Rattle.disk_model.proofs.Moments.{IsSinceEarlier}
use Rattle.base_types.specs.declared.hash.Hash32.{Hash32}
use Rattle.batch_log.specs.Records.{WithOrWithout}
use Rattle.batch_log.specs.OpenLog.{OpenLog, Stands}
use Rattle.batch_log.proofs.OtherLogs.{other_stands}
use Rattle.batch_log.specs.declared.places.Place.{Place}
use Rattle.block_store.specs.Headers.{is_headers_length}
use Rattle.block_store.specs.Bodies.{body_hash}
use Rattle.block_store.specs.OpenStore.{OpenStore, Payloads, with_headers, with_body, Holds}
use Rattle.block_store.proofs.HashSteps.{carried}

apart : (a b : ℕ) → a ≡ 1 → b ≡ 2 → a ≢ b
apart a b one two same = let never : 1 ≡ 2 = sym one ∙ same ∙ two in omega arith

module _ {D : Type 0} (time : D → ℕ) (left : D → ℕ → Image → Type 0) (contents : D → Option Image) (earlier : IsSinceEarlier time left)
    (old new : D) (store : OpenStore) (payloads : Payloads) (payload : List ℕ) (log : OpenLog) (holds : Holds (contents old) (left old (time old)) store payloads) where
  pub headers_added : Leaves time left (At store.headers.file (WithOrWithout payloads.headers payload)) old new → OthersKept store.headers.file (contents old) (contents new) → log.file ≡ store.headers.file
      → IsTrue (is_headers_length (length payload)) → Stands (contents new) (left new (time new)) log (payloads.headers ++ payload ∷ [])
      → Holds (contents new) (left new (time new)) (record { headers = log; bodies = store.bodies; hashes = store.hashes }) (with_headers payloads payload)
  headers_added moves others named right stands = record {
    header_file = named ∙ holds.header_file;
    body_file = holds.body_file;
    headers = stands;
    bodies = other_stands time left contents earlier store.headers.file (WithOrWithout payloads.headers payload) old new moves others store.bodies
        (λ same. apart store.headers.file store.bodies.file holds.header_file holds.body_file (sym same)) payloads.bodies holds.bodies;
    lengths = All-push (λ (p : List ℕ). IsTrue (is_headers_length (length p))) payloads.headers payload holds.lengths right;
    hashes = holds.hashes;
  }

  pub body_added : (hash : Hash32) → Leaves time left (At store.bodies.file (WithOrWithout payloads.bodies payload)) old new → OthersKept store.bodies.file (contents old) (contents new) → log.file ≡ store.bodies.file
      → body_hash payload ≡ Some hash → Stands (contents new) (left new (time new)) log (payloads.bodies ++ payload ∷ [])
      → Holds (contents new) (left new (time new)) (record { headers = store.headers; bodies = log; hashes = store.hashes ++ hash ∷ [] }) (with_body payloads payload)
  body_added hash moves others named carries stands = record {
    header_file = holds.header_file;
    body_file = named ∙ holds.body_file;
    headers = other_stands time left contents earlier store.bodies.file (WithOrWithout payloads.bodies payload) old new moves others store.headers
        (apart store.headers.file store.bodies.file holds.header_file holds.body_file) payloads.headers holds.headers;
    bodies = stands;
    lengths = holds.lengths;
    hashes = map-append body_hash payloads.bodies (payload ∷ [])
        ∙ ap (λ (l : List (Option Hash32)). l ++ body_hash payload ∷ []) holds.hashes
        ∙ ap (λ (o : Option Hash32). map carried store.hashes ++ o ∷ []) carries
        ∙ sym (map-append carried store.hashes (hash ∷ []));
  }

-- what an open store's places and hashes are, with one body more
pub one_each : (hashes new : List Hash32) (hash : Hash32) (places added : List Place) (place : Place) → length hashes ≡ length places → new ≡ hashes ++ hash ∷ [] → added ≡ places ++ place ∷ [] → length new ≡ length added
one_each hashes new hash places added place same is listed =
    omega (arith, same, ap length is, ap length listed, length-append hashes (hash ∷ []), length-append places (place ∷ []))

pub all_long : (places added : List Place) (place : Place) → All (λ (p : Place). 32 ≤ p.len) places → added ≡ places ++ place ∷ [] → 32 ≤ place.len → All (λ (p : Place). 32 ≤ p.len) added
all_long places added place all listed long = subst (All (λ (p : Place). 32 ≤ p.len)) (sym listed) (All-push (λ (p : Place). 32 ≤ p.len) places place all long)
