-- One gate after the other.
use Rattle.std.proofs.Common.{◌≡◌, ◌≢◌, ℕ, ◌+◌, ◌<◌, ◌≤◌, ◌^◌, List, [], ◌∷◌, ◌++◌, length, take, drop, refl, sym, ◌∙◌, ap, arith, append_assoc, take-append-drop}
use Rattle.std.proofs.lemmas.List.{take_at, length-take, length-drop}
use Rattle.std.specs.Prelude.{Err}
use Rattle.std.specs.Int.{to_le_bytes, w32}
use Rattle.batch_log.specs.Records.{body, records, log, length_at}
use Rattle.std.specs.Prelude.{Option, ◌*◌}
use Rattle.std.proofs.Common.{subst, length-append}
use Rattle.std.proofs.lemmas.List.Elements.{All-push}
use Rattle.batch_log.specs.Records.{StartsWith}
use Rattle.batch_log.specs.OpenLog.{AllBefore}
use Rattle.batch_log.specs.Reading.{ReadAtMost}
use Rattle.batch_log.proofs.ReadLaws.{read_then, read_wider}
use Rattle.batch_log.specs.Opening.{IsReadTo, IsWholly}
use Rattle.batch_log.specs.OpenLog.{places_of}
use Rattle.batch_log.specs.declared.places.Place.{Place}
use Rattle.batch_log.proofs.GateWrites.{records-push, AllFit-push}
use Rattle.batch_log.proofs.OneMore.{length-records-push, places-push}
use Rattle.batch_log.proofs.RecordLaws.{log_damaged}

pub starts_none : (bytes : List ℕ) → 0 < length bytes → IsReadTo bytes [] 0
starts_none bytes more = record { payloads = []; fit = tt; places = refl; at = refl; front = refl; within = more }

module _ (bytes : List ℕ) (places : List Place) (at : ℕ) (r : IsReadTo bytes places at) where
  whole : (rest : List ℕ) → drop at bytes ≡ rest → bytes ≡ records r.payloads ++ rest
  whole rest e = sym (take-append-drop at bytes) ∙ ap (λ (l : List ℕ). l ++ drop at bytes) r.front ∙ ap (λ (l : List ℕ). records r.payloads ++ l) e

  pub found_closed : (gate : ℕ) (rest : List ℕ) → gate ≢ 1 → drop at bytes ≡ gate ∷ rest → IsWholly bytes places at
  found_closed gate rest shut e = record {
    payloads = r.payloads;
    closed = record { fit = r.fit; gate = gate; rest = rest; closed = shut; is = whole (gate ∷ rest) e };
    places = r.places;
    end = r.at;
  }

  pub found_damage : (rest : List ℕ) → drop at bytes ≡ 1 ∷ rest → 1 < length bytes → length rest ≤ 4 + length_at rest → log bytes ≡ Err at
  found_damage rest e long short = log_damaged r.payloads bytes rest r.fit (whole (1 ∷ rest) e) long short ∙ ap Err (sym r.at)

  pub found_open : (rest : List ℕ) (n : ℕ) (new : List Place) → drop at bytes ≡ 1 ∷ rest → to_le_bytes w32 n ≡ take 4 rest → n < 2 ^ 32 → 4 + n < length rest
      → new ≡ places ++ record { at = at; len = n } ∷ [] → IsReadTo bytes new (at + (5 + n))
  found_open rest n new e spelled fits more is =
      let payload = take n (drop 4 rest) in
      let long : length (take n (drop 4 rest)) ≡ n = omega (arith, length-take n (drop 4 rest), length-drop 4 rest) in
      let tail = drop n (drop 4 rest) in
      let size : length rest + 1 + at ≡ length bytes = omega (arith, ap length e, length-drop at bytes, r.within) in
      let split : rest ≡ body (take n (drop 4 rest)) ++ drop n (drop 4 rest) =
      sym (take-append-drop 4 rest)
      ∙ ap (λ (l : List ℕ). l ++ drop 4 rest) (sym spelled ∙ ap (to_le_bytes w32) (sym long))
      ∙ ap (λ (l : List ℕ). to_le_bytes w32 (length (take n (drop 4 rest))) ++ l) (sym (take-append-drop n (drop 4 rest)))
      ∙ sym (append_assoc (to_le_bytes w32 (length (take n (drop 4 rest)))) (take n (drop 4 rest)) (drop n (drop 4 rest))) in
      let all : bytes ≡ records (r.payloads ++ take n (drop 4 rest) ∷ []) ++ drop n (drop 4 rest) =
      whole (1 ∷ rest) e
      ∙ ap (λ (l : List ℕ). records r.payloads ++ 1 ∷ l) split
      ∙ sym (records-push r.payloads (take n (drop 4 rest)) (drop n (drop 4 rest))) in
      let start = r.at in
      let to : at + (5 + n) ≡ length (records (r.payloads ++ take n (drop 4 rest) ∷ [])) = omega (arith, length-records-push r.payloads (take n (drop 4 rest))) in
      let place = λ (k j : ℕ). let p : Place = record { at = k; len = j } in p in
      let zero_at : at ≡ 0 + length (records r.payloads) = omega arith in
      record {
        payloads = r.payloads ++ take n (drop 4 rest) ∷ [];
        fit = AllFit-push r.payloads (take n (drop 4 rest)) r.fit (omega arith);
        places = is
            ∙ ap (λ (l : List Place). l ++ place at n ∷ []) r.places
            ∙ ap (λ (k : ℕ). places_of 0 r.payloads ++ place k n ∷ []) zero_at
            ∙ ap (λ (k : ℕ). places_of 0 r.payloads ++ place (0 + length (records r.payloads)) k ∷ []) (sym long)
            ∙ sym (places-push 0 r.payloads (take n (drop 4 rest)));
        at = to;
        front = ap (take (at + (5 + n))) all ∙ take_at (records (r.payloads ++ take n (drop 4 rest) ∷ [])) (drop n (drop 4 rest)) (at + (5 + n)) (sym to);
        within = omega arith;
      }

as_many : (at : ℕ) (payloads : List (List ℕ)) → length (places_of at payloads) ≡ length payloads
as_many at [] = refl
as_many at (p ∷ payloads) = omega (arith, as_many (at + (5 + length p)) payloads)

-- what was read where opening ends at this gate
pub read_up_to : (bytes : List ℕ) (places : List Place) (at : ℕ) → IsReadTo bytes places at → (file : ℕ) (old mid new : Option (ℕ → ℕ))
    → ReadAtMost file (5 * length places) old mid → ReadAtMost file 5 mid new
    → (payloads : List (List ℕ)) × StartsWith payloads bytes × ReadAtMost file (5 * length payloads + 5) old new
read_up_to bytes places at r file old mid new first second =
    let many : length places ≡ length r.payloads = ap length r.places ∙ as_many 0 r.payloads in
    let is : bytes ≡ records r.payloads ++ drop at bytes = sym (take-append-drop at bytes) ∙ ap (λ (l : List ℕ). l ++ drop at bytes) r.front in (
      r.payloads,
      record { rest = drop at bytes; is = is },
      read_wider file (5 * length places + 5) (5 * length r.payloads + 5) old new (omega arith) (read_then file (5 * length places) 5 old mid new first second),
    )

-- what was read once one more place is known
pub read_one_more : (file : ℕ) (places new_places : List Place) (place : Place) (old mid new : Option (ℕ → ℕ)) → new_places ≡ places ++ place ∷ []
    → ReadAtMost file (5 * length places) old mid → ReadAtMost file 5 mid new → ReadAtMost file (5 * length new_places) old new
read_one_more file places new_places place old mid new is first second =
    let size : length new_places ≡ length places + 1 = ap length is ∙ length-append places (place ∷ []) in
    read_wider file (5 * length places + 5) (5 * length new_places) old new (omega arith) (read_then file (5 * length places) 5 old mid new first second)

wider : (end more : ℕ) → end ≤ more → (places : List Place) → AllBefore end places → AllBefore more places
wider end more le places all = λ k d below. omega (arith, all k d below)

-- one more record at the end
pub before_push : (end n : ℕ) (places new : List Place) → new ≡ places ++ record { at = end; len = n } ∷ [] → AllBefore end places → AllBefore (end + (5 + n)) new
before_push end n places new is all =
    let place : Place = record { at = end; len = n } in
    subst (AllBefore (end + (5 + n))) (sym is) (All-push (λ (p : Place). p.at + (5 + p.len) ≤ end + (5 + n)) places place (wider end (end + (5 + n)) (omega arith) places all) (omega arith))
