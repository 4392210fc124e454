-- One payload more.
use Rattle.std.proofs.Common.{◌≡◌, ℕ, ◌+◌, ◌-◌, ◌≤◌, List, [], ◌∷◌, ◌++◌, length, take, drop, set, suc, refl, ◌∙◌, ap, sym, arith, length-append}
use Rattle.std.proofs.lemmas.List.{length-take, length-drop, length-set, take_all}
use Rattle.std.proofs.lemmas.Grind.{take-set_at}
use Rattle.std.specs.Prelude.{Result, IsOk, is_ok, if◌then◌else◌, Bool}
use Rattle.std.proofs.Common.{cond}
use Rattle.batch_log.specs.Records.{body, records, payload_in}
use Rattle.batch_log.specs.OpenLog.{places_of}
use Rattle.batch_log.specs.declared.places.Place.{Place}

pub length-record : (payload : List ℕ) → length (1 ∷ body payload) ≡ 5 + length payload
length-record payload = omega arith

pub length-records-push : (payloads : List (List ℕ)) (payload : List ℕ) → length (records (payloads ++ payload ∷ [])) ≡ length (records payloads) + (5 + length payload)
length-records-push [] payload = omega (arith, length-append (1 ∷ body payload) [])
length-records-push (p ∷ payloads) payload = omega (arith, length-append (1 ∷ body p) (records (payloads ++ payload ∷ [])), length-append (1 ∷ body p) (records payloads), length-records-push payloads payload)

pub places-push : (at : ℕ) (payloads : List (List ℕ)) (payload : List ℕ) → places_of at (payloads ++ payload ∷ []) ≡ places_of at payloads ++ record { at = at + length (records payloads); len = length payload } ∷ []
places-push at [] payload = ap (λ (k : ℕ). record { at = k; len = length payload } ∷ []) (the_same at)
  where
    the_same : (k : ℕ) → k ≡ k + 0
    the_same k = omega arith
places-push at (p ∷ payloads) payload =
    let first : Place = record { at = at; len = length p } in
    let long : at + (5 + length p) + length (records payloads) ≡ at + length ((1 ∷ body p) ++ records payloads) = omega (arith, length-append (1 ∷ body p) (records payloads)) in
    ap (λ (l : List Place). first ∷ l) (places-push (at + (5 + length p)) payloads payload)
    ∙ ap (λ (k : ℕ). first ∷ (places_of (at + (5 + length p)) payloads ++ record { at = k; len = length payload } ∷ [])) long

pub ok_arm : {A T E : Type 0} (r : Result T E) (a b : A) → IsOk r → (if is_ok r then a else b) ≡ a
ok_arm r a b ok = ap (λ (t : Bool). cond t a b) ok

-- the list of places with one more
pub one_listed : (payloads : List (List ℕ)) (payload : List ℕ) (end : ℕ) (old : List Place) → end ≡ length (records payloads) → old ≡ places_of 0 payloads
    → old ++ record { at = end; len = length payload } ∷ [] ≡ places_of 0 (payloads ++ payload ∷ [])
one_listed payloads payload end old ends all =
    let place = λ (k : ℕ). let p : Place = record { at = k; len = length payload } in p in
    let at_end : end ≡ 0 + length (records payloads) = omega arith in
    ap (λ (l : List Place). l ++ place end ∷ []) all
    ∙ ap (λ (k : ℕ). places_of 0 payloads ++ place k ∷ []) at_end
    ∙ sym (places-push 0 payloads payload)

pub payload_size : (framed : List ℕ) → 5 ≤ length framed → length framed - 5 ≡ length (payload_in framed)
payload_size framed long = omega (arith, length-take (length framed - 5) (drop 4 framed), length-drop 4 framed)

last_set : (xs : List ℕ) (n : ℕ) → length xs ≡ n + 1 → set xs n 0 ≡ take n xs ++ 0 ∷ []
last_set xs n long = sym (take_all (n + 1) (set xs n 0) (omega (arith, length-set xs n 0))) ∙ take-set_at xs n (n + 1) 0 refl (omega arith)

-- four bytes of a length put before a payload, and the closed gate behind it
pub framed_is : (a b c d : ℕ) (framed : List ℕ) → 5 ≤ length framed → set (a ∷ b ∷ c ∷ d ∷ drop 4 framed) (length framed - 1) 0 ≡ a ∷ b ∷ c ∷ d ∷ (payload_in framed ++ 0 ∷ [])
framed_is a b c d framed room =
    let four : length framed - 1 ≡ suc (suc (suc (suc (length framed - 5)))) = omega arith in
    last_set (a ∷ b ∷ c ∷ d ∷ drop 4 framed) (length framed - 1) (omega (arith, length-drop 4 framed))
    ∙ ap (λ (n : ℕ). take n (a ∷ b ∷ c ∷ d ∷ drop 4 framed) ++ 0 ∷ []) four
