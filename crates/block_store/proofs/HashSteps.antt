-- Reading the hash that each body carries.
use Rattle.std.proofs.Common.{◌≡◌, ◌+◌, ◌≤◌, ◌<◌, ℕ, zero, suc, Bool, true, List, [], ◌∷◌, ◌++◌, length, take, get_or, map, Option, Some, None, Result, Ok, Err, cond, refl, sym, ap, subst, ◌∙◌, arith}
use Rattle.std.specs.Prelude.{All, slice_get, nat_le, IfErr}
use Rattle.std.proofs.lemmas.Bool.Decides.{nat_tests}
use Rattle.std.proofs.lemmas.List.{take_more, take_all, map-append}
use Rattle.std.proofs.lemmas.Option.{get_or_from_slice_get, slice_get_within, slice_get-get_or}
use Rattle.std.proofs.lemmas.List.Elements.{All-get_or}
use Rattle.base_types.specs.declared.hash.Hash32.{Hash32}
use Rattle.base_types.specs.declared.fault.StoreFault.{StoreFault}
use Rattle.base_types.specs.declared.fault.StoreFault.TheVariants.{DiskFailed}
use Rattle.batch_log.specs.OpenLog.{places_of}
use Rattle.batch_log.specs.declared.places.Place.{Place}
use Rattle.block_store.specs.Bodies.{body_hash}
use Rattle.block_store.specs.Reading.{NoDamage}

pub as_many : (at : ℕ) (payloads : List (List ℕ)) → length (places_of at payloads) ≡ length payloads
as_many at [] = refl
as_many at (p ∷ payloads) = omega (arith, as_many (at + (5 + length p)) payloads)

-- the payload that lies at a place
pub record At (places : List Place) (payloads : List (List ℕ)) (i : ℕ) (place : Place) : Type 0 where
  pub payload : List ℕ
  pub there : slice_get places i ≡ Some place
  pub here : slice_get payloads i ≡ Some payload
  pub long : place.len ≡ length payload

at_place : (at : ℕ) (payloads : List (List ℕ)) (i : ℕ) (place : Place) → slice_get (places_of at payloads) i ≡ Some place → At (places_of at payloads) payloads i place
at_place at [] i place e = absurd cc
at_place at (p ∷ payloads) zero place e =
    let same : record { at = at; len = length p } ≡ place = cc in
    record { payload = p; there = e; here = refl; long = sym (ap (λ (q : Place). q.len) same) }
at_place at (p ∷ payloads) (suc i) place e =
    let r = at_place (at + (5 + length p)) payloads i place e in
    record { payload = r.payload; there = e; here = r.here; long = r.long }

pub found_at : (places : List Place) (payloads : List (List ℕ)) (i : ℕ) (place : Place) → places ≡ places_of 0 payloads → slice_get places i ≡ Some place → At places payloads i place
found_at places payloads i place is e =
    let r = at_place 0 payloads i place (ap (λ (l : List Place). slice_get l i) (sym is) ∙ e) in
    record { payload = r.payload; there = e; here = r.here; long = r.long }

same_payload : (a b : List ℕ) → Some a ≡ Some b → a ≡ b
same_payload a b e = cc

-- a place has the length of the payload that lies there
pub length_here : (places : List Place) (payloads : List (List ℕ)) (i : ℕ) (place : Place) (payload : List ℕ) → places ≡ places_of 0 payloads → slice_get places i ≡ Some place → slice_get payloads i ≡ Some payload
    → place.len ≡ length payload
length_here places payloads i place payload is there here =
    let a = found_at places payloads i place is there in
    a.long ∙ ap length (same_payload a.payload payload (sym a.here ∙ here))

pub place_at : (seen places : List Place) (payloads : List (List ℕ)) (i : ℕ) (d : Place) → seen ≡ places → places ≡ places_of 0 payloads → i < length seen → At places payloads i (get_or seen i d)
place_at seen places payloads i d same is within = found_at places payloads i (get_or seen i d) is (ap (λ (l : List Place). slice_get l i) (sym same) ∙ slice_get-get_or seen i d within)

-- what holds of each place holds of this one
pub of_each : (P : Place → Type 0) (places : List Place) (i : ℕ) (place : Place) → All P places → slice_get places i ≡ Some place → P place
of_each P places i place all there = subst P (get_or_from_slice_get places i place place there) (All-get_or P places i place (slice_get_within places i place there) all)

hash_is : (payload : List ℕ) → 32 ≤ length payload → body_hash payload ≡ Some (record { bytes = take 32 payload })
hash_is payload long =
    let enough : nat_le 32 (length payload) ≡ true = grind (arith, nat_tests) in
    ap (λ (b : Bool). cond b (Some (record { bytes = take 32 payload })) None) enough

abbrev pub carried : Hash32 → Option Hash32
carried hash = Some hash

-- one more hash is read
pub one_more : (payloads : List (List ℕ)) (i : ℕ) (payload bytes : List ℕ) (old new : List Hash32) → slice_get payloads i ≡ Some payload → 32 ≤ length payload → bytes ≡ take 32 payload
    → new ≡ old ++ record { bytes = bytes } ∷ [] → map body_hash (take i payloads) ≡ map carried old → map body_hash (take (i + 1) payloads) ≡ map carried new
one_more payloads i payload bytes old new here long is more so_far =
    let within : i < length payloads = slice_get_within payloads i payload here in
    let hash : Hash32 = record { bytes = bytes } in
    let one : body_hash payload ≡ Some hash = hash_is payload long ∙ ap (λ (b : List ℕ). Some (record { bytes = b })) (sym is) in
    ap (map body_hash) (take_more payloads i payload within ∙ ap (λ (p : List ℕ). take i payloads ++ p ∷ []) (get_or_from_slice_get payloads i payload payload here))
    ∙ map-append body_hash (take i payloads) (payload ∷ [])
    ∙ ap (λ (o : Option Hash32). map body_hash (take i payloads) ++ o ∷ []) one
    ∙ ap (λ (l : List (Option Hash32)). l ++ Some hash ∷ []) so_far
    ∙ sym (map-append carried old (hash ∷ []))
    ∙ ap (map carried) (sym more)

-- all of them were read
pub all_read : (payloads : List (List ℕ)) (i : ℕ) (hashes : List Hash32) → length payloads ≤ i → map body_hash (take i payloads) ≡ map carried hashes → map body_hash payloads ≡ map carried hashes
all_read payloads i hashes within so_far = ap (map body_hash) (sym (take_all i payloads within)) ∙ so_far

-- a failure of the disk is no damage
pub only_failed : (fault : StoreFault) → fault ≡ DiskFailed → NoDamage fault
only_failed fault is = subst NoDamage (sym is) tt

pub failed_of : {T : Type 0} (r : Result T StoreFault) → IfErr r (λ e. e ≡ DiskFailed) → IfErr r NoDamage
failed_of (Ok x) h = tt
failed_of (Err e) h = only_failed e h
