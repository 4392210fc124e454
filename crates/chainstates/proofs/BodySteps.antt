-- Bodies by the hashes that they carry.
use Rattle.std.proofs.Common.{Bor, ◌≡◌, ℕ, zero, suc, ◌+◌, Bool, true, false, List, [], ◌∷◌, length, map, take, Option, Some, None, Ok, Err, refl, sym, ap, ◌∙◌}
use Rattle.std.specs.Prelude.{slice_get, is_some, option_map}
use Rattle.std.specs.FinMap.{get}
use Rattle.std.specs.Option.{option_copied}
use Rattle.std.specs.List.{list_all}
use Rattle.base_types.specs.declared.hash.Hash32.{Hash32}
use Rattle.batch_log.specs.OpenLog.{places_of}
use Rattle.batch_log.specs.declared.places.Place.{Place}
use Rattle.block_codec.specs.declared.block.Header.{Header}
use Rattle.block_store.specs.Bodies.{body_hash}
use Rattle.block_store.specs.OpenStore.{OpenStore}
use Rattle.chain_model.specs.Tree.{Tree}
use Rattle.chainstates.proofs.Gates.{both_true, same_value}
use Rattle.chainstates.specs.Reading.{HasBodies, bodies_in, hash_of_body}
use Rattle.store_state.specs.State.{Read, Record, StoredBody, stored_body, and_payload, each_of, each_passes, gated, is_in, said, body_file}
use Rattle.store_state.proofs.ReadingSteps.{goes_on, stops, none_each, more_each, none_passes, more_pass, first_fails, later_fails}

abbrev knows : Tree → StoredBody → Bool
knows tree body = is_in tree body.hash

abbrev carried : Hash32 → Option Hash32
carried hash = Some hash

-- the records of payloads that carry these hashes
stored_at : ℕ → List (List ℕ) → List Hash32 → List (Record StoredBody)
stored_at at [] hashes = []
stored_at at (payload ∷ payloads) [] = []
stored_at at (payload ∷ payloads) (hash ∷ hashes) = (at, record { hash = hash; payload = payload }) ∷ stored_at (at + (5 + length payload)) payloads hashes

each_stored : (at : ℕ) (payloads : List (List ℕ)) (hashes : List Hash32) → map body_hash payloads ≡ map carried hashes → each_of body_file stored_body (gated at payloads) ≡ Ok (stored_at at payloads hashes)
unfolding gated stored_at
each_stored at [] hashes e = none_each body_file stored_body
each_stored at (payload ∷ payloads) [] e = absurd cc
each_stored at (payload ∷ payloads) (hash ∷ hashes) e =
    let here : body_hash payload ≡ Some hash = cc in
    let rest : map body_hash payloads ≡ map carried hashes = cc in
    more_each body_file stored_body at payload (gated (at + (5 + length payload)) payloads) (record { hash = hash; payload = payload }) (stored_at (at + (5 + length payload)) payloads hashes)
    (ap (and_payload payload) here) (each_stored (at + (5 + length payload)) payloads hashes rest)

hashes_stored : (at : ℕ) (payloads : List (List ℕ)) (hashes : List Hash32) → map body_hash payloads ≡ map carried hashes → map hash_of_body (said (stored_at at payloads hashes)) ≡ hashes
unfolding stored_at
hashes_stored at [] [] e = refl
hashes_stored at [] (hash ∷ hashes) e = absurd cc
hashes_stored at (payload ∷ payloads) [] e = absurd cc
hashes_stored at (payload ∷ payloads) (hash ∷ hashes) e =
    let rest : map body_hash payloads ≡ map carried hashes = cc in
    ap (λ (l : List Hash32). hash ∷ l) (hashes_stored (at + (5 + length payload)) payloads hashes rest)

-- the bodies that are read of payloads carry these hashes
pub names_read : (payloads : List (List ℕ)) (hashes : List Hash32) (known : List (Record StoredBody)) → each_of body_file stored_body (gated 0 payloads) ≡ Ok known → map body_hash payloads ≡ map carried hashes → map hash_of_body (said known) ≡ hashes
names_read payloads hashes known read e =
    let same = same_read known (stored_at 0 payloads hashes) (sym read ∙ each_stored 0 payloads hashes e) in
    ap (λ (l : List (Record StoredBody)). map hash_of_body (said l)) same ∙ hashes_stored 0 payloads hashes e
  where
    same_read : (a b : List (Record StoredBody)) → (let x : Read (List (Record StoredBody)) = Ok a in x) ≡ Ok b → a ≡ b
    same_read a b e = cc

all_known : (tree : Tree) (at : ℕ) (payloads : List (List ℕ)) (hashes : List Hash32) → list_all (is_in tree) hashes ≡ true → each_passes body_file (knows tree) (stored_at at payloads hashes) ≡ Ok (stored_at at payloads hashes)
unfolding stored_at
all_known tree at [] hashes all = none_passes body_file (knows tree)
all_known tree at (payload ∷ payloads) [] all = none_passes body_file (knows tree)
all_known tree at (payload ∷ payloads) (hash ∷ hashes) all =
    let parts = both_true (is_in tree hash) (list_all (is_in tree) hashes) all in
    more_pass body_file (knows tree) (at, record { hash = hash; payload = payload }) (stored_at (at + (5 + length payload)) payloads hashes) (stored_at (at + (5 + length payload)) payloads hashes) parts.0
    (all_known tree (at + (5 + length payload)) payloads hashes parts.1)

-- the first body whose hash isn't in the tree
unknown_at : (tree : Tree) (at : ℕ) (payloads : List (List ℕ)) (hashes : List Hash32) (n : ℕ) (hash : Hash32) (place : Place) → slice_get hashes n ≡ Some hash → slice_get (places_of at payloads) n ≡ Some place
    → list_all (is_in tree) (take n hashes) ≡ true → is_in tree hash ≡ false → each_passes body_file (knows tree) (stored_at at payloads hashes) ≡ Err (record { file = body_file; at = place.at })
unfolding stored_at
unknown_at tree at [] hashes n hash place here there all none = absurd cc
unknown_at tree at (payload ∷ payloads) [] n hash place here there all none = absurd cc
unknown_at tree at (payload ∷ payloads) (first ∷ hashes) zero hash place here there all none =
    let same = same_value first hash here in
    let is = same_value (record { at = at; len = length payload }) place there in
    first_fails body_file (knows tree) (at, record { hash = first; payload = payload }) (stored_at (at + (5 + length payload)) payloads hashes) (ap (is_in tree) same ∙ none)
    ∙ ap (λ (p : Place). Err (record { file = body_file; at = p.at })) is
unknown_at tree at (payload ∷ payloads) (first ∷ hashes) (suc n) hash place here there all none =
    let parts = both_true (is_in tree first) (list_all (is_in tree) (take n hashes)) all in
    later_fails body_file (knows tree) (at, record { hash = first; payload = payload }) (stored_at (at + (5 + length payload)) payloads hashes) (record { file = body_file; at = place.at }) parts.0
    (unknown_at tree (at + (5 + length payload)) payloads hashes n hash place here there parts.1 none)

module _ (tree : Tree) (store : OpenStore) (payloads : List (List ℕ)) (has : HasBodies store payloads) where
  pub bodies_known : list_all (is_in tree) store.hashes ≡ true → (bodies : List StoredBody) × (bodies_in tree payloads ≡ Ok bodies) × (map hash_of_body bodies ≡ store.hashes)
  bodies_known all =
      let stored = stored_at 0 payloads store.hashes in (
        said stored,
        goes_on (each_of body_file stored_body (gated 0 payloads)) _ stored (each_stored 0 payloads store.hashes has.hashes) ∙ goes_on (each_passes body_file (knows tree) stored) _ stored (all_known tree 0 payloads store.hashes all),
        hashes_stored 0 payloads store.hashes has.hashes,
      )

  pub body_unknown : (n : ℕ) (hash : Hash32) (place : Place) → slice_get store.hashes n ≡ Some hash → slice_get store.bodies.places n ≡ Some place → list_all (is_in tree) (take n store.hashes) ≡ true → is_in tree hash ≡ false
      → bodies_in tree payloads ≡ Err (record { file = body_file; at = place.at })
  body_unknown n hash place here there all none =
      let stored = stored_at 0 payloads store.hashes in
      goes_on (each_of body_file stored_body (gated 0 payloads)) _ stored (each_stored 0 payloads store.hashes has.hashes)
      ∙ stops (each_passes body_file (knows tree) stored) _ (record { file = body_file; at = place.at })
      (unknown_at tree 0 payloads store.hashes n hash place here (ap (λ (l : List Place). slice_get l n) (sym has.places) ∙ there) all none)

-- ---- as the code goes through them

seen_is : (r : Option (Bor Header)) → is_some (option_copied r) ≡ is_some r
seen_is None = refl
seen_is (Some header) = refl

pub in_tree : (tree : Tree) (hash : Hash32) (r : Option (Bor Header)) (b : Bool) → option_copied r ≡ get tree.headers hash → is_some r ≡ b → is_in tree hash ≡ b
in_tree tree hash r b e is = ap is_some (sym e) ∙ seen_is r ∙ is

pub place_there : (o : Option Place) (at : ℕ) → option_map (λ (p : Place). p.at) o ≡ Some at → (place : Place) × (o ≡ Some place) × (place.at ≡ at)
place_there None at e = absurd cc
place_there (Some place) at e = (place, refl, same_value place.at at e)
